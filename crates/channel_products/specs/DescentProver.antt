-- A prover of a flush's product goes along with its walk, whatever is refused.
-- Source: docs/REDUCTIONS.md, "Products of flushes".
use Rattle.std.specs.Prelude.{◌≡◌, ℕ, zero, suc, ◌+◌, List, [], length}
use Rattle.std.specs.List.{AllByRecursion}
use Rattle.sumcheck.specs.declared.column_claim.ColumnClaim.{ColumnClaim}
use Rattle.sumcheck.specs.declared.column_tables.ColumnTable.{ColumnTable}
use Rattle.sumcheck.specs.Column.{ColumnHolds}
use Rattle.sumcheck.specs.Ending.{Ending, untold}
use Rattle.sumcheck.specs.Machine.{Filling}
use Rattle.sumcheck.specs.Proving.{Proving, Goes}
use Rattle.sumcheck.specs.Rounds.{Rounds, sum_claim, with_claim, bound, variables}
use Rattle.sumcheck.specs.Summing.{Summed, adding, closed}
use Rattle.channel_products.specs.declared.flushed.Flushed.{Flushed}
use Rattle.channel_products.specs.declared.leaf_term.LeafTerm.{LeafTerm}
use Rattle.channel_products.specs.declared.halves.Halves.{Halves}
use Rattle.channel_products.specs.declared.product_prover.ProductProver.{ProductProver}
use Rattle.channel_products.specs.declared.product_prover.Standing.{Standing}
use Rattle.channel_products.specs.declared.product_prover.Standing.TheVariants.{Unmade, Layer, Leaves}
use Rattle.channel_products.specs.Channels.{leaves_of}
use Rattle.channel_products.specs.Descent.{Descent, Layered, Paired, Pointed, layered_sum, layers, leaf_columns, leaves, leaves_sum, row_vars, waiting}
use Rattle.channel_products.specs.Following.{IsGiven}
use Rattle.channel_products.specs.Given.{FlushIsThere}
use Rattle.channel_products.specs.Stacked.{stacked}
use Rattle.channel_products.specs.Summands.{halves_form, leaf_term_form}

-- ---- what is held
-- the flush, alpha and gamma and a point, the lists, and no claims yet
pub record Has (p : ProductProver) (t : Pointed) : Type 0 where
  pub at : p.at ≡ t
  pub there : FlushIsThere p.tables.now t.flushed
  pub ending : p.ending ≡ untold t.flushed.table (leaf_columns t.flushed) (row_vars t.flushed) []

-- a prover for a flush, before the claim is stated
pub record IsNewFor (p : ProductProver) (f : Flushed) (given : List ColumnTable) : Type 0 where
  pub has : Has p (record { flushed = f; alpha = 0; gamma = 0; point = [] })
  pub tables : p.tables.now ≡ given
  pub first : p.layer ≡ 0
  pub unmade : p.sum ≡ Unmade

-- the layers below layer k, which for layer 0 are made with its first message
abbrev pub AreStacked : List (List ℕ) → List ℕ → ℕ → ℕ → Type 0
AreStacked kept table zero d = Unit {0}
AreStacked kept table (suc k) d = kept ≡ stacked table (suc k) d

-- ---- before the tables of a sum are made
-- the prover is at a point of its layer, with d layers down to the leaves
pub record Descends (p : ProductProver) (F : Filling) (t : Pointed) (d : ℕ) : Type 0 where
  pub has : Has p t
  pub given : IsGiven F p.tables.now t.flushed
  pub point : length t.point ≡ p.layer
  pub vars : row_vars t.flushed ≡ p.layer + d
  pub kept : AreStacked p.layers.items (leaves_of F t.alpha t.gamma t.flushed) p.layer d

-- no round has passed
abbrev pub IsFirst : ℕ → ℕ → Rounds → Type 0
IsFirst degree n r = with_claim 0 r ≡ sum_claim degree n [] 0

-- ---- from the first message of a layer's sum on
-- the draws are held in place of the point, and the layers below the next are kept
pub record HoldsDraws (p : ProductProver) (F : Filling) (t : Layered) (draws : List ℕ) : Type 0 where
  pub has : Has p (record t.at { point = draws })
  pub given : IsGiven F p.tables.now t.at.flushed
  pub layer : p.layer ≡ t.layer
  pub vars : row_vars t.at.flushed ≡ t.layer + suc t.below
  pub kept : p.layers.items ≡ stacked (leaves_of F t.at.alpha t.at.gamma t.at.flushed) (suc t.layer) t.below

-- rounds of the sum
pub record AddsLayer (p : ProductProver) (q : Proving Halves) (F : Filling) (t : Layered) (r : Rounds) : Type 0 where
  pub goes : Goes halves_form q (layered_sum.sum F t) r
  pub all : variables r ≡ t.layer
  pub holds : HoldsDraws p F t (bound r)

-- the draw that joins two values
pub record Joins (p : ProductProver) (q : Proving Halves) (F : Filling) (t : Paired) : Type 0 where
  pub done : q.left ≡ 0
  pub all : length t.point ≡ t.layered.layer
  pub holds : HoldsDraws p F t.layered t.point

abbrev pub FollowsLayer : ProductProver → Proving Halves → Filling → Summed Layered Paired → Type 0
FollowsLayer p q F (adding t r) = AddsLayer p q F t r
FollowsLayer p q F (closed t) = Joins p q F t

-- ---- from the first message of the leaves' sum on
pub record AddsLeaves (q : Proving LeafTerm) (e : Ending) (F : Filling) (t : Pointed) (r : Rounds) : Type 0 where
  pub goes : Goes leaf_term_form q (leaves_sum.sum F t) r
  pub ending : e ≡ untold t.flushed.table (leaf_columns t.flushed) (row_vars t.flushed) (bound r)
  pub all : variables r ≡ row_vars t.flushed

-- the prover has exactly these claims, and they are true
pub record TellsColumns (e : Ending) (F : Filling) (claims : List ColumnClaim) : Type 0 where
  pub told : e.claims ≡ claims
  pub hold : AllByRecursion (ColumnHolds F) claims

abbrev pub FollowsLeaves : Proving LeafTerm → Ending → Filling → Summed Pointed (List ColumnClaim) → Type 0
FollowsLeaves q e F (adding t r) = AddsLeaves q e F t r
FollowsLeaves q e F (closed claims) = TellsColumns e F claims

-- ---- throughout
abbrev pub FollowsSum : ProductProver → Standing → Filling → Descent → Type 0
FollowsSum p s F (waiting f) = ⊥
FollowsSum p Unmade F (layers (adding t r)) = (IsFirst 3 t.layer r) × (p.layer ≡ t.layer) × Descends p F t.at (suc t.below)
FollowsSum p Unmade F (layers (closed t)) = ⊥
FollowsSum p Unmade F (leaves (adding t r)) = IsFirst 4 (row_vars t.flushed) r × Descends p F t 0
FollowsSum p Unmade F (leaves (closed claims)) = ⊥
FollowsSum p (Layer q) F (layers s) = FollowsLayer p q F s
FollowsSum p (Layer q) F (leaves s) = ⊥
FollowsSum p (Leaves q) F (layers s) = ⊥
FollowsSum p (Leaves q) F (leaves (adding t r)) = (p.at ≡ t) × AddsLeaves q p.ending F t r
FollowsSum p (Leaves q) F (leaves (closed claims)) = TellsColumns p.ending F claims

abbrev pub FollowsProduct : ProductProver → Filling → Descent → Type 0
FollowsProduct p F s = FollowsSum p p.sum F s

-- the tables of the sum are made
abbrev pub IsMade : Standing → Type 0
IsMade Unmade = ⊥
IsMade (Layer q) = Unit {0}
IsMade (Leaves q) = Unit {0}
