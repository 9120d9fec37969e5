-- The sum of the products of tables, two and two.
-- Source: docs/REDUCTIONS.md, "Provers".
use Rattle.std.specs.Prelude.{ℕ, zero, suc}
use Rattle.cube_laws.specs.Form.{Form, constant, variable, plus, times, moved}

-- of n pairs
abbrev pub pairs_form : ℕ → Form
pairs_form zero = constant 0
pairs_form (suc n) = plus (times (variable 0) (variable 1)) (moved (moved (pairs_form n)))
