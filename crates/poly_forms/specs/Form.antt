-- The form with two operands for each sum and product that a form of the program stands for.
-- Source: docs/LAWS.md, "cube_laws: tables over cubes".
use Rattle.std.specs.Prelude.{ℕ, ◌<◌, List, [], ◌∷◌}
use Rattle.cube_laws.specs.Form.{Form, constant, variable, plus, times}
use Rattle.poly_forms.specs.declared.form.Form.{Form as Tree}
use Rattle.poly_forms.specs.declared.form.Form.TheOpen.{Form-F}
use Rattle.poly_forms.specs.declared.form.Form.TheFolds.{fold-Form}

abbrev pub sum_of : List Form → Form
sum_of [] = constant 0
sum_of (part ∷ parts) = plus part (sum_of parts)

abbrev pub product_of : List Form → Form
product_of [] = constant 1
product_of (part ∷ parts) = times part (product_of parts)

abbrev pub form_step : Form-F Form → Form
form_step (Form-F.Constant c) = constant c
form_step (Form-F.Variable k) = variable k
form_step (Form-F.Sum parts) = sum_of parts
form_step (Form-F.Product parts) = product_of parts

abbrev pub form_of : Tree → Form
form_of = fold-Form Form form_step

-- each variable's number is below n
abbrev pub VariablesBelow : ℕ → Form → Type 0
VariablesBelow n (constant c) = Unit {0}
VariablesBelow n (variable k) = k < n
VariablesBelow n (plus f g) = VariablesBelow n f × VariablesBelow n g
VariablesBelow n (times f g) = VariablesBelow n f × VariablesBelow n g
