-- A prover of channels goes along with their walk, whatever is refused.
-- Source: docs/REDUCTIONS.md, "Channels".
use Rattle.std.specs.Prelude.{◌≡◌, ℕ, List, [], map}
use Rattle.std.specs.List.{AllByRecursion}
use Rattle.sumcheck.specs.declared.column_tables.ColumnTable.{ColumnTable}
use Rattle.sumcheck.specs.Machine.{Filling}
use Rattle.channel_products.specs.declared.balance_prover.BalanceProver.{BalanceProver}
use Rattle.channel_products.specs.declared.balance_walk.Stage.{Stage}
use Rattle.channel_products.specs.declared.balance_walk.Stage.TheVariants.{Waiting, Stated, Collapsing, Multiplying}
use Rattle.channel_products.specs.declared.channels.Channels.{Channels}
use Rattle.channel_products.specs.declared.flushed.Flushed.{Flushed}
use Rattle.channel_products.specs.Balancing.{Balancing, waiting, stated, collapsing, multiplying, told}
use Rattle.channel_products.specs.Channels.{product_of}
use Rattle.channel_products.specs.Given.{AreThere, named_columns, table_of}

-- a prover for channels, before the claim is stated
pub record IsNew (p : BalanceProver) (ch : Channels) (given : List ColumnTable) : Type 0 where
  pub stage : p.stage ≡ Waiting
  pub channels : p.channels ≡ ch
  pub tables : p.tables.now ≡ given
  pub there : AreThere given ch.flushes
  -- where there is no channel there is no flush
  pub none : ch.widths ≡ [] → ch.flushes ≡ []
  pub alpha : p.alpha ≡ 0
  pub gamma : p.gamma ≡ 0
  pub untold : p.values.items ≡ []

-- the filling has the lists that are given for the columns that a flush names
abbrev pub IsGiven : Filling → List ColumnTable → Flushed → Type 0
IsGiven F tables f = AllByRecursion (λ c. F f.table c ≡ table_of tables f.table c) (named_columns f.shape)

abbrev pub AreGiven : Filling → List ColumnTable → List Flushed → Type 0
AreGiven F tables flushes = AllByRecursion (IsGiven F tables) flushes

-- in a stage before its message a prover has the channels, and the lists of the filling
pub record Holds (p : BalanceProver) (F : Filling) (due : Stage) (ch : Channels) : Type 0 where
  pub stage : p.stage ≡ due
  pub channels : p.channels ≡ ch
  pub there : AreThere p.tables.now ch.flushes
  pub given : AreGiven F p.tables.now ch.flushes

-- after it, the challenges and the products that are claimed, which are true
pub record Tells (p : BalanceProver) (F : Filling) (ch : Channels) (a g : ℕ) (v : List ℕ) : Type 0 where
  pub alpha : p.alpha ≡ a
  pub gamma : p.gamma ≡ g
  pub values : p.values.items ≡ v
  pub hold : v ≡ map (product_of F a g) ch.flushes

abbrev pub FollowsBalance : BalanceProver → Filling → Balancing → Type 0
FollowsBalance p F (waiting ch) = ⊥
FollowsBalance p F (stated ch) = Holds p F Stated ch
FollowsBalance p F (collapsing ch a) = (p.alpha ≡ a) × Holds p F Collapsing ch
FollowsBalance p F (multiplying ch a g) = (p.alpha ≡ a) × (p.gamma ≡ g) × Holds p F Multiplying ch
FollowsBalance p F (told ch a g v) = Tells p F ch a g v
