-- The form of a virtual column, from its table and its kind.
use Rattle.std.proofs.Common.{◌≡◌, ◌∙◌, ℕ, List, length, Option, Some, option_and_then, slice_get, refl, ap}
use Rattle.cube_mle.specs.declared.shift.ShiftKind.TheVariants as kind
use Rattle.sumcheck.specs.declared.column_claim.ColumnClaim.{ColumnClaim}
use Rattle.table_shape.specs.declared.shape.ShapeTerm.{ShapeTerm}
use Rattle.table_shape.specs.declared.shape.ShapeForm.TheVariants as form
use Rattle.table_shape.specs.declared.shape.ColumnKind.TheVariants.{Virtual}
use Rattle.table_shape.specs.declared.shape.ColumnShape.{ColumnShape}
use Rattle.table_shape.specs.declared.shape.TableShape.{TableShape}
use Rattle.table_shape.specs.Forms.{level_at}
use Rattle.eval_reduce.specs.declared.packing.Packing.{Packing}
use Rattle.eval_reduce.specs.declared.projection.Projection.{Projection}
use Rattle.eval_reduce.specs.declared.shifting.Shifting.{Shifting}
use Rattle.eval_reduce.specs.Linear.{Combination, combination, combination_of}
use Rattle.eval_reduce.specs.Pack.{packing, packing_of}
use Rattle.eval_reduce.specs.Project.{projection, projection_of}
use Rattle.eval_reduce.specs.Shift.{shifting, shifting_of}
use Rattle.eval_reduce.specs.Virtual.{IsOn, column_of, vars_on}

column_is : (tables : List TableShape) (t c : ℕ) (table : TableShape) (of : ColumnShape) → slice_get tables t ≡ Some table → slice_get table.columns c ≡ Some of → column_of tables t c ≡ Some of
column_is tables t c table of here there = ap (option_and_then (λ (x : TableShape). slice_get x.columns c)) here ∙ there

pub linear_on : (tables : List TableShape) (rows : ℕ) (claim : ColumnClaim) (table : TableShape) (of : ColumnShape) (constant : ℕ) (terms : List ShapeTerm)
    → slice_get tables claim.table ≡ Some table → slice_get table.columns claim.column ≡ Some of → length claim.point ≡ vars_on rows of → of.kind ≡ Virtual (form.Linear constant terms)
    → (f : Combination) × (_ : combination_of tables rows claim.table claim.column ≡ Some f) × IsOn f.table f.column f.vars claim
linear_on tables rows claim table of constant terms here there long is =
    let t = claim.table in
    let c = claim.column in (
      record { table = t; column = c; vars = vars_on rows of; constant = constant; terms = terms },
      ap (option_and_then (λ (x : ColumnShape). combination t c (vars_on rows x) x.kind)) (column_is tables t c table of here there) ∙ ap (combination t c (vars_on rows of)) is,
      record { table_is = refl; column_is = refl; long = long },
    )

pub packed_on : (tables : List TableShape) (rows : ℕ) (claim : ColumnClaim) (table : TableShape) (of : ColumnShape) (source log : ℕ)
    → slice_get tables claim.table ≡ Some table → slice_get table.columns claim.column ≡ Some of → length claim.point ≡ vars_on rows of → of.kind ≡ Virtual (form.Pack source log)
    → (f : Packing) × (_ : packing_of tables rows claim.table claim.column ≡ Some f) × IsOn f.table f.column f.vars claim
packed_on tables rows claim table of source log here there long is =
    let t = claim.table in
    let c = claim.column in (
      record { table = t; column = c; vars = vars_on rows of; source = source; level = level_at table.columns source; log = log },
      ap (option_and_then (λ (x : TableShape). option_and_then (λ (y : ColumnShape). packing x.columns t c (vars_on rows y) y.kind) (slice_get x.columns c))) here
          ∙ ap (option_and_then (λ (y : ColumnShape). packing table.columns t c (vars_on rows y) y.kind)) there ∙ ap (packing table.columns t c (vars_on rows of)) is,
      record { table_is = refl; column_is = refl; long = long },
    )

pub projected_on : (tables : List TableShape) (rows : ℕ) (claim : ColumnClaim) (table : TableShape) (of : ColumnShape) (source log index : ℕ)
    → slice_get tables claim.table ≡ Some table → slice_get table.columns claim.column ≡ Some of → length claim.point ≡ vars_on rows of → of.kind ≡ Virtual (form.Project source log index)
    → (f : Projection) × (_ : projection_of tables rows claim.table claim.column ≡ Some f) × IsOn f.table f.column f.vars claim
projected_on tables rows claim table of source log index here there long is =
    let t = claim.table in
    let c = claim.column in (
      record { table = t; column = c; vars = vars_on rows of; source = source; log = log; index = index },
      ap (option_and_then (λ (x : ColumnShape). projection t c (vars_on rows x) x.kind)) (column_is tables t c table of here there) ∙ ap (projection t c (vars_on rows of)) is,
      record { table_is = refl; column_is = refl; long = long },
    )

shifting_at : (tables : List TableShape) (rows : ℕ) (claim : ColumnClaim) (table : TableShape) (of : ColumnShape) (f : Shifting)
    → slice_get tables claim.table ≡ Some table → slice_get table.columns claim.column ≡ Some of → shifting claim.table claim.column (vars_on rows of) of.kind ≡ Some f
    → shifting_of tables rows claim.table claim.column ≡ Some f
shifting_at tables rows claim table of f here there is =
    ap (option_and_then (λ (x : ColumnShape). shifting claim.table claim.column (vars_on rows x) x.kind)) (column_is tables claim.table claim.column table of here there) ∙ is

pub shl_on : (tables : List TableShape) (rows : ℕ) (claim : ColumnClaim) (table : TableShape) (of : ColumnShape) (source block offset : ℕ)
    → slice_get tables claim.table ≡ Some table → slice_get table.columns claim.column ≡ Some of → length claim.point ≡ vars_on rows of → of.kind ≡ Virtual (form.Shl source block offset)
    → (f : Shifting) × (_ : shifting_of tables rows claim.table claim.column ≡ Some f) × IsOn f.table f.column f.vars claim
shl_on tables rows claim table of source block offset here there long is =
    let f : Shifting = record { table = claim.table; column = claim.column; vars = vars_on rows of; source = source; kind = kind.Shl; block = block; offset = offset } in
    (f, shifting_at tables rows claim table of f here there (ap (shifting claim.table claim.column (vars_on rows of)) is), record { table_is = refl; column_is = refl; long = long })

pub shr_on : (tables : List TableShape) (rows : ℕ) (claim : ColumnClaim) (table : TableShape) (of : ColumnShape) (source block offset : ℕ)
    → slice_get tables claim.table ≡ Some table → slice_get table.columns claim.column ≡ Some of → length claim.point ≡ vars_on rows of → of.kind ≡ Virtual (form.Shr source block offset)
    → (f : Shifting) × (_ : shifting_of tables rows claim.table claim.column ≡ Some f) × IsOn f.table f.column f.vars claim
shr_on tables rows claim table of source block offset here there long is =
    let f : Shifting = record { table = claim.table; column = claim.column; vars = vars_on rows of; source = source; kind = kind.Shr; block = block; offset = offset } in
    (f, shifting_at tables rows claim table of f here there (ap (shifting claim.table claim.column (vars_on rows of)) is), record { table_is = refl; column_is = refl; long = long })

pub rol_on : (tables : List TableShape) (rows : ℕ) (claim : ColumnClaim) (table : TableShape) (of : ColumnShape) (source block offset : ℕ)
    → slice_get tables claim.table ≡ Some table → slice_get table.columns claim.column ≡ Some of → length claim.point ≡ vars_on rows of → of.kind ≡ Virtual (form.Rol source block offset)
    → (f : Shifting) × (_ : shifting_of tables rows claim.table claim.column ≡ Some f) × IsOn f.table f.column f.vars claim
rol_on tables rows claim table of source block offset here there long is =
    let f : Shifting = record { table = claim.table; column = claim.column; vars = vars_on rows of; source = source; kind = kind.Rol; block = block; offset = offset } in
    (f, shifting_at tables rows claim table of f here there (ap (shifting claim.table claim.column (vars_on rows of)) is), record { table_is = refl; column_is = refl; long = long })
