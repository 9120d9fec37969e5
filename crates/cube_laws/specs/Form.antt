-- Forms over numbered variables.
-- Source: docs/LAWS.md, "cube_laws: tables over cubes".
use Rattle.std.specs.Prelude.{ℕ, suc, ◌+◌, max, List, bit_xor, slice_index}
use Rattle.tower_laws.specs.Tower.{mul}

pub data Form : Type 0 where
  constant : ℕ → Form
  variable : ℕ → Form
  plus : Form → Form → Form
  times : Form → Form → Form

-- the form's value, its variables being the numbers of a list
abbrev pub value : Form → List ℕ → ℕ
value (constant c) xs = c
value (variable k) xs = slice_index xs k
value (plus f g) xs = bit_xor (value f xs) (value g xs)
value (times f g) xs = mul (value f xs) (value g xs)

-- the greatest number of variables that are multiplied
abbrev pub degree : Form → ℕ
degree (constant c) = 0
degree (variable k) = 1
degree (plus f g) = max (degree f) (degree g)
degree (times f g) = degree f + degree g

-- the same form with each variable's number one higher
abbrev pub moved : Form → Form
moved (constant c) = constant c
moved (variable k) = variable (suc k)
moved (plus f g) = plus (moved f) (moved g)
moved (times f g) = times (moved f) (moved g)
