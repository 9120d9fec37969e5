-- Tables and channels at two challenges: constraints that are 0 on all rows, and one product for each side of a channel.
-- Source: docs/LOWERING.md, "The lowered statement"; docs/LAWS.md, "multiset_laws: products that tell multisets apart".
use Rattle.std.specs.Prelude.{◌≡◌, ◌<◌, ℕ, ◌+◌, ◌^◌, ltb, List, [], ◌∷◌, slice_get, slice_index, Option, None, Some}
use Rattle.std.specs.List.{filter}
use Rattle.tower_laws.specs.Tower.{mul}
use Rattle.tower_laws.specs.Lists.{product_all}
use Rattle.counting_laws.specs.Multiset.{product_by}
use Rattle.cube_laws.specs.Sums.{tabulate}
use Rattle.shift_laws.specs.Shifts.{flag}
use Rattle.multiset_laws.specs.Fingerprint.{fingerprint, leaf}
use Rattle.list_laws.specs.CeilLog.{ceil_log}
use Rattle.table_text.specs.declared.decl.Side.{Side}
use Rattle.table_text.specs.declared.decl.Side.TheVariants.{Push, Pull}
use Rattle.table_shape.specs.declared.shape.BoundaryShape.{BoundaryShape}
use Rattle.table_shape.specs.declared.shape.ChannelShape.{ChannelShape}
use Rattle.table_shape.specs.declared.shape.ConstraintShape.{ConstraintShape}
use Rattle.table_shape.specs.declared.shape.FlushShape.{FlushShape}
use Rattle.table_shape.specs.declared.shape.TableShape.{TableShape}
use Rattle.table_shape.specs.Parts.{ShapeParts}
use Rattle.table_shape.specs.Filling.{Filling, values_of}
use Rattle.table_shape.specs.Satisfies.{value_at}
use Rattle.table_shape.specs.Channels.{tuple_at, is_flush_of, is_boundary_of}

-- S: 1 at each of m rows, 0 at those that fill them up to a power of two
abbrev pub step : ℕ → ℕ → ℕ
step m row = flag (ltb row m)

-- the selector's value at a row, and 1 where there is no selector
abbrev pub selector_at : (ℕ → List ℕ) → Option ℕ → ℕ → ℕ
selector_at values None row = 1
selector_at values (Some s) row = slice_index (values s) row

-- the leaf of a flush at a row, for alpha a and gamma g: the tuple's fingerprint where the row is taken, and 1 elsewhere
abbrev pub leaf_at : ℕ → ℕ → (ℕ → List ℕ) → ℕ → FlushShape → ℕ → ℕ
leaf_at a g values m flush row = leaf (step m row) (selector_at values flush.selector row) (fingerprint a g (tuple_at values flush row))

-- the leaves of a flush on all rows of the filled-up table
abbrev pub leaves : ℕ → ℕ → (ℕ → List ℕ) → ℕ → FlushShape → List ℕ
leaves a g values m flush = tabulate (2 ^ ceil_log m) (leaf_at a g values m flush)

abbrev pub flush_product : ℕ → ℕ → (ℕ → List ℕ) → ℕ → FlushShape → ℕ
flush_product a g values m flush = product_all (leaves a g values m flush)

-- the product of the flushes of one side of a channel, in the tables numbered from t on
abbrev pub tables_product : Side → ℕ → ℕ → ℕ → Filling → List ℕ → ℕ → List TableShape → ℕ
tables_product side channel a g filling rows t [] = 1
tables_product side channel a g filling rows t (table ∷ tables) =
    mul (product_by (flush_product a g (values_of filling t) (slice_index rows t)) (filter (is_flush_of side channel) table.flushes)) (tables_product side channel a g filling rows (t + 1) tables)

abbrev pub boundaries_product : Side → ℕ → ℕ → ℕ → List BoundaryShape → ℕ
boundaries_product side channel a g boundaries = product_by (λ (b : BoundaryShape). fingerprint a g b.values) (filter (is_boundary_of side channel) boundaries)

-- the product of one side of a channel
abbrev pub side_product : Side → ShapeParts → List ℕ → Filling → ℕ → ℕ → ℕ → ℕ
side_product side shape rows filling a g channel = mul (tables_product side channel a g filling rows 0 shape.tables) (boundaries_product side channel a g shape.boundaries)

-- S · C is 0 at each index of each row of the filled-up table
abbrev pub IsZeroThroughout : Filling → ℕ → ConstraintShape → ℕ → Type 0
IsZeroThroughout filling t constraint m = (row index : ℕ) → row < 2 ^ ceil_log m → index < 2 ^ constraint.log_values → mul (step m row) (value_at filling t constraint row index) ≡ 0

-- the lowered statement at alpha a and gamma g
pub record LoweredHolds (shape : ShapeParts) (rows : List ℕ) (filling : Filling) (a g : ℕ) : Type 0 where
  pub zero : (t : ℕ) (table : TableShape) (z : ℕ) (constraint : ConstraintShape) → slice_get shape.tables t ≡ Some table → slice_get table.constraints z ≡ Some constraint → IsZeroThroughout filling t constraint (slice_index rows t)
  pub products : (channel : ℕ) (c : ChannelShape) → slice_get shape.channels channel ≡ Some c → side_product Push shape rows filling a g channel ≡ side_product Pull shape rows filling a g channel
