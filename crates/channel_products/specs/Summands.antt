-- What is summed for a value of a layer, and of the leaves.
-- Source: docs/REDUCTIONS.md, "Products of flushes".
use Rattle.cube_laws.specs.Form.{Form, variable, times, moved}
use Rattle.layer_laws.specs.LeafForm.{leaf_form}
use Rattle.channel_products.specs.declared.halves.Halves.{Halves}
use Rattle.channel_products.specs.declared.leaf_term.LeafTerm.{LeafTerm}

-- eq times the product of both halves
abbrev pub halves_form : Halves → Form
halves_form halves = times (variable 0) (moved (times (variable 0) (variable 1)))

-- eq times the leaf
abbrev pub leaf_term_form : LeafTerm → Form
leaf_term_form t = times (variable 0) (moved (leaf_form t.alpha t.gamma t.width))
