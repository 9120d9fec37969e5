-- The values of virtual columns: each form's value at a position, by the columns of its table.
-- Source: docs/LANGUAGE.md, "Virtual columns".
use Rattle.std.specs.Prelude.{ℕ, ◌+◌, ◌*◌, ◌^◌, max, List, map, get_or, slice_get, Some, None, bit_xor}
use Rattle.tower_laws.specs.Tower.{mul, level}
use Rattle.tower_laws.specs.Lists.{sum_all}
use Rattle.cube_laws.specs.Sums.{sum_to}
use Rattle.shift_laws.specs.Shifts.{shl, shr, rol, shifted_value}
use Rattle.table_shape.specs.Value.{greatest}
use Rattle.table_shape.specs.declared.shape.ShapeTerm.{ShapeTerm}
use Rattle.table_shape.specs.declared.shape.ShapeForm.{ShapeForm}
use Rattle.table_shape.specs.declared.shape.ShapeForm.TheVariants as form
use Rattle.table_shape.specs.declared.shape.ColumnShape.{ColumnShape}

-- the level of a column, and 0 where there is no such column
abbrev pub level_at : List ColumnShape → ℕ → ℕ
level_at columns c = elim (slice_get columns c) [ Some column ↦ column.level | None ↦ 0 ]

-- the value at position p, where values c is the list of column c. A block begins at a multiple of its length in a row, and so among positions
abbrev pub form_value : List ColumnShape → (ℕ → List ℕ) → ShapeForm → ℕ → ℕ
form_value columns values (form.Shl c b o) p = shifted_value shl b o (values c) p
form_value columns values (form.Shr c b o) p = shifted_value shr b o (values c) p
form_value columns values (form.Rol c b o) p = shifted_value rol b o (values c) p
form_value columns values (form.Pack c k) p = sum_to (2 ^ k) (λ u. mul (2 ^ (u * 2 ^ level_at columns c)) (get_or (values c) (p * 2 ^ k + u) 0))
form_value columns values (form.Project c k j) p = get_or (values c) (p * 2 ^ k + j) 0
form_value columns values (form.Linear k0 terms) p = bit_xor k0 (sum_all (map (λ (t : ShapeTerm). mul t.coefficient (get_or (values t.column) p 0)) terms))

-- the greatest level of a constant, of coefficients and of the columns that they multiply
abbrev pub linear_level : List ColumnShape → ℕ → List ShapeTerm → ℕ
linear_level columns k0 terms = max (level k0) (greatest (map (λ (t : ShapeTerm). max (level t.coefficient) (level_at columns t.column)) terms))
