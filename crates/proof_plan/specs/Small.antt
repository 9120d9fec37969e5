-- The numbers of a table that a plan is computed from, within their limits.
-- Source: docs/LANGUAGE.md, "What a file means"; docs/FORMATS.md, "Limits".
use Rattle.std.specs.Prelude.{◌≤◌, length}
use Rattle.std.specs.List.{AllByRecursion}
use Rattle.table_text.specs.Limits.{max_log_values}
use Rattle.table_shape.specs.Limits.{max_channel_width, max_columns, max_constraints, max_degree, max_flushes, max_terms}
use Rattle.table_shape.specs.declared.shape.ColumnKind.{ColumnKind}
use Rattle.table_shape.specs.declared.shape.ColumnKind.TheVariants.{Committed, Virtual}
use Rattle.table_shape.specs.declared.shape.ColumnShape.{ColumnShape}
use Rattle.table_shape.specs.declared.shape.ConstraintShape.{ConstraintShape}
use Rattle.table_shape.specs.declared.shape.FlushShape.{FlushShape}
use Rattle.table_shape.specs.declared.shape.ShapeForm.{ShapeForm}
use Rattle.table_shape.specs.declared.shape.ShapeForm.TheVariants as form
use Rattle.table_shape.specs.declared.shape.TableShape.{TableShape}

abbrev pub FormIsSmall : ShapeForm → Type 0
FormIsSmall (form.Shl c block offset) = block ≤ max_log_values
FormIsSmall (form.Shr c block offset) = block ≤ max_log_values
FormIsSmall (form.Rol c block offset) = block ≤ max_log_values
FormIsSmall (form.Pack c log) = log ≤ max_log_values
FormIsSmall (form.Project c log index) = Unit {0}
FormIsSmall (form.Linear constant terms) = length terms ≤ max_terms

abbrev pub KindIsSmall : ColumnKind → Type 0
KindIsSmall Committed = Unit {0}
KindIsSmall (Virtual f) = FormIsSmall f

pub record ColumnIsSmall (column : ColumnShape) : Type 0 where
  pub log_values : column.log_values ≤ max_log_values
  pub kind : KindIsSmall column.kind

pub record ConstraintIsSmall (constraint : ConstraintShape) : Type 0 where
  pub degree : constraint.degree ≤ max_degree

pub record FlushIsSmall (flush : FlushShape) : Type 0 where
  pub narrow : length flush.columns ≤ max_channel_width

pub record TableIsSmall (table : TableShape) : Type 0 where
  pub few_columns : length table.columns ≤ max_columns
  pub few_constraints : length table.constraints ≤ max_constraints
  pub few_flushes : length table.flushes ≤ max_flushes
  pub columns : AllByRecursion ColumnIsSmall table.columns
  pub constraints : AllByRecursion ConstraintIsSmall table.constraints
  pub flushes : AllByRecursion FlushIsSmall table.flushes
