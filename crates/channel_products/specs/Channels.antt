-- The channels of a shape on some rows, and what goes into them and comes out of them.
-- Source: docs/REDUCTIONS.md, "Channels".
use Rattle.std.specs.Prelude.{◌≤◌, ◌<◌, ◌+◌, ◌-◌, ◌*◌, max, ℕ, List, [], ◌∷◌, ◌++◌, length, map, slice_index}
use Rattle.std.specs.List.{AllByRecursion, filter, flat_map}
use Rattle.multiset_laws.specs.Balance.{Balance, IsWide}
use Rattle.sumcheck.specs.Machine.{Filling}
use Rattle.table_text.specs.declared.decl.Side.{Side}
use Rattle.table_text.specs.declared.decl.Side.TheVariants.{Push, Pull}
use Rattle.table_shape.specs.declared.shape.ChannelShape.{ChannelShape}
use Rattle.table_shape.specs.declared.shape.FlushShape.{FlushShape}
use Rattle.table_shape.specs.declared.shape.TableShape.{TableShape}
use Rattle.table_shape.specs.Parts.{ShapeParts}
use Rattle.table_shape.specs.Channels.{flush_tuples, boundary_tuples, is_flush_of}
use Rattle.table_shape.specs.Counts.{alpha_count, gamma_count}
use Rattle.table_shape.specs.Lowering.{flush_product, leaves, selector_at}
use Rattle.channel_products.specs.declared.flushed.Flushed.{Flushed}
use Rattle.channel_products.specs.declared.channels.Channels.{Channels}

-- ---- from a shape
-- the flushes of table t on a number of rows, numbered from f on
abbrev pub flushes_of : ℕ → ℕ → ℕ → List FlushShape → List Flushed
flushes_of t rows f [] = []
flushes_of t rows f (flush ∷ flushes) = record { table = t; number = f; rows = rows; shape = flush } ∷ flushes_of t rows (f + 1) flushes

-- those of the tables numbered from t on, in order of declaration
abbrev pub flushes_from : List ℕ → ℕ → List TableShape → List Flushed
flushes_from rows t [] = []
flushes_from rows t (table ∷ tables) = flushes_of t (slice_index rows t) 0 table.flushes ++ flushes_from rows (t + 1) tables

-- the channels of a shape, and the most alphas and gammas that may hide that one is out of balance
abbrev pub channels_of : ShapeParts → List ℕ → Channels
channels_of shape rows = record {
  widths = map (λ (c : ChannelShape). c.width) shape.channels;
  flushes = flushes_from rows 0 shape.tables;
  boundaries = shape.boundaries;
  alphas = alpha_count shape rows;
  gammas = gamma_count shape rows;
}

-- ---- of a filling
-- the tuples of one side of channel c
abbrev pub tuples_of : Filling → Side → ℕ → Channels → List (List ℕ)
tuples_of F side c ch = flat_map (λ (f : Flushed). flush_tuples (F f.table) f.rows f.shape) (filter (λ (f : Flushed). is_flush_of side c f.shape) ch.flushes) ++ boundary_tuples side c ch.boundaries

-- what is pushed into channel c and what is pulled out of it
abbrev pub balance_in : Filling → Channels → ℕ → ℕ → Balance
balance_in F ch c width = record { width = width; pushed = tuples_of F Push c ch; pulled = tuples_of F Pull c ch }

-- the same of channels of these widths, numbered from c on
abbrev pub balances_from : Filling → Channels → ℕ → List ℕ → List Balance
balances_from F ch c [] = []
balances_from F ch c (w ∷ ws) = balance_in F ch c w ∷ balances_from F ch (c + 1) ws

abbrev pub balances : Filling → Channels → List Balance
balances F ch = balances_from F ch 0 ch.widths

-- the leaves of a flush on all rows of the filled-up table, for alpha a and gamma g, and their product
abbrev pub leaves_of : Filling → ℕ → ℕ → Flushed → List ℕ
leaves_of F a g f = leaves a g (F f.table) f.rows f.shape

abbrev pub product_of : Filling → ℕ → ℕ → Flushed → ℕ
product_of F a g f = flush_product a g (F f.table) f.rows f.shape

-- selectors are 0 or 1 on the rows of their table
abbrev pub HasBits : Filling → Flushed → Type 0
HasBits F f = (row : ℕ) → row < f.rows → selector_at (F f.table) f.shape.selector row < 2

-- tuples have the widths of their channels, and there are no more than the counts say
pub record ChannelsFit (F : Filling) (ch : Channels) : Type 0 where
  pub wide : AllByRecursion IsWide (balances F ch)
  pub alphas : AllByRecursion (λ (b : Balance). (length b.pushed + length b.pulled) * (b.width - 1) ≤ ch.alphas) (balances F ch)
  pub gammas : AllByRecursion (λ (b : Balance). max (length b.pushed) (length b.pulled) ≤ ch.gammas) (balances F ch)
  pub bits : AllByRecursion (HasBits F) ch.flushes
