-- The product of two tables.
-- Source: docs/REDUCTIONS.md, "Provers".
use Rattle.cube_laws.specs.Form.{Form, variable, times}
use Rattle.sumcheck.specs.declared.summand.Pair.{Pair}

abbrev pub pair_form : Pair → Form
pair_form pair = times (variable 0) (variable 1)
