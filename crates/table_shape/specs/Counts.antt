-- How many challenges may hide that a channel is out of balance, or that a constraint isn't 0.
-- Source: docs/LAWS.md, "multiset_laws: products that tell multisets apart" and "batch_laws: parts of tables, and many as one".
use Rattle.std.specs.Prelude.{ℕ, ◌+◌, ◌-◌, ◌*◌, ◌==◌, max, List, [], ◌∷◌, length, slice_index}
use Rattle.std.specs.List.{filter}
use Rattle.table_text.specs.declared.decl.Side.{Side}
use Rattle.table_text.specs.declared.decl.Side.TheVariants.{Push, Pull}
use Rattle.table_shape.specs.declared.shape.ChannelShape.{ChannelShape}
use Rattle.table_shape.specs.declared.shape.ConstraintShape.{ConstraintShape}
use Rattle.table_shape.specs.declared.shape.TableShape.{TableShape}
use Rattle.table_shape.specs.Parts.{ShapeParts}
use Rattle.table_shape.specs.Value.{greatest}
use Rattle.table_shape.specs.Channels.{is_flush_of, is_boundary_of}

-- the rows of all flushes of one side of a channel, taken or not, in the tables numbered from t on
abbrev pub flush_rows : Side → ℕ → List ℕ → ℕ → List TableShape → ℕ
flush_rows side channel rows t [] = 0
flush_rows side channel rows t (table ∷ tables) = length (filter (is_flush_of side channel) table.flushes) * slice_index rows t + flush_rows side channel rows (t + 1) tables

-- with its boundaries, as many tuples as there may be
abbrev pub most_tuples : Side → ShapeParts → List ℕ → ℕ → ℕ
most_tuples side shape rows channel = flush_rows side channel rows 0 shape.tables + length (filter (is_boundary_of side channel) shape.boundaries)

-- of channels numbered from c on: (the width less 1) for each tuple
abbrev pub alpha_counts : ShapeParts → List ℕ → ℕ → List ChannelShape → List ℕ
alpha_counts shape rows c [] = []
alpha_counts shape rows c (channel ∷ channels) = (most_tuples Push shape rows c + most_tuples Pull shape rows c) * (channel.width - 1) ∷ alpha_counts shape rows (c + 1) channels

-- the most alphas that may hide that some channel is out of balance
abbrev pub alpha_count : ShapeParts → List ℕ → ℕ
alpha_count shape rows = greatest (alpha_counts shape rows 0 shape.channels)

-- of channels numbered from c on: the tuples of the side that has more
abbrev pub gamma_counts : ShapeParts → List ℕ → ℕ → List ChannelShape → List ℕ
gamma_counts shape rows c [] = []
gamma_counts shape rows c (channel ∷ channels) = max (most_tuples Push shape rows c) (most_tuples Pull shape rows c) ∷ gamma_counts shape rows (c + 1) channels

-- the most gammas that may hide that the sums of some channel differ
abbrev pub gamma_count : ShapeParts → List ℕ → ℕ
gamma_count shape rows = greatest (gamma_counts shape rows 0 shape.channels)

-- a group: the constraints of a table of 2 ^ v values per row
abbrev pub group : ℕ → TableShape → List ConstraintShape
group v table = filter (λ (z : ConstraintShape). z.log_values == v) table.constraints

-- the most betas that may hide that a constraint of a group isn't 0
abbrev pub batch_count : ℕ → TableShape → ℕ
batch_count v table = length (group v table) - 1
