-- The lists that the prover of a virtual column is given.
-- Source: docs/REDUCTIONS.md, "Virtual columns".
use Rattle.std.specs.Prelude.{ℕ, ◌+◌, ◌^◌, List}
use Rattle.sumcheck.specs.declared.column_tables.ColumnTable.{ColumnTable}
use Rattle.table_shape.specs.declared.shape.ShapeForm.{ShapeForm}
use Rattle.table_shape.specs.declared.shape.ShapeForm.TheVariants as form
use Rattle.eval_reduce.specs.Provers.{TermsAreThere}
use Rattle.eval_reduce.specs.Virtual.{IsThere}

-- those of the columns that a virtual column of 2 ^ n values is made of are there
abbrev pub FormIsThere : List ColumnTable → ℕ → ℕ → ShapeForm → Type 0
FormIsThere tables t n (form.Shl c block offset) = IsThere tables t c (2 ^ n)
FormIsThere tables t n (form.Shr c block offset) = IsThere tables t c (2 ^ n)
FormIsThere tables t n (form.Rol c block offset) = IsThere tables t c (2 ^ n)
FormIsThere tables t n (form.Pack c log) = IsThere tables t c (2 ^ (log + n))
FormIsThere tables t n (form.Project c log index) = IsThere tables t c (2 ^ (log + n))
FormIsThere tables t n (form.Linear constant terms) = TermsAreThere tables t (2 ^ n) terms
