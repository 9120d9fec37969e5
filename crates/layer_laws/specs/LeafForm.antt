-- The factor of a row as a form of the step, the selector and the row's tuple.
-- Source: docs/LAWS.md, "layer_laws: layers of products and their leaves".
use Rattle.std.specs.Prelude.{ℕ, zero, suc}
use Rattle.cube_laws.specs.Form.{Form, constant, variable, plus, times}

-- the sum of a ^ j times variable k + j, for j below w
abbrev pub collapse_form : ℕ → ℕ → ℕ → Form
collapse_form a k zero = constant 0
collapse_form a k (suc w) = plus (variable k) (times (constant a) (collapse_form a (suc k) w))

-- variable 0 is the step, 1 below the number of rows and 0 above, variable 1 the selector, and the w after them are the tuple
abbrev pub leaf_form : ℕ → ℕ → ℕ → Form
leaf_form a g w = plus (times (times (variable 0) (variable 1)) (plus (plus (constant g) (collapse_form a 2 w)) (constant 1))) (constant 1)
