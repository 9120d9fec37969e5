-- The product of a flush's leaves: as a claim, and its reduction to claims on columns, layer by layer.
-- Source: docs/REDUCTIONS.md, "Products of flushes".
use Rattle.std.specs.Prelude.{◌≡◌, ℕ, zero, suc, ◌+◌, ◌^◌, List, [], ◌∷◌, ◌++◌, length, map, slice_index, drop, Option, None, Some, bit_xor}
use Rattle.std.specs.List.{AllByRecursion}
use Rattle.tower_laws.specs.Tower.{mul}
use Rattle.cube_laws.specs.Sums.{tabulate}
use Rattle.cube_laws.specs.Extension.{eq_points, extension}
use Rattle.cube_laws.specs.SumClaim.{Sum, AllLong}
use Rattle.batch_laws.specs.Batch.{eq_sum}
use Rattle.shift_laws.specs.Shifts.{step_down}
use Rattle.multiset_laws.specs.Fingerprint.{fingerprint, leaf}
use Rattle.layer_laws.specs.Layers.{layer, layer_sum}
use Rattle.layer_laws.specs.LeafForm.{leaf_form}
use Rattle.list_laws.specs.CeilLog.{ceil_log}
use Rattle.poly_forms.specs.declared.check_kind.CheckKind.TheVariants.{LayerFinal, LeafFinal}
use Rattle.poly_forms.specs.declared.draw_kind.DrawKind.TheVariants.{LayerRound, LayerJoin, LeafRound}
use Rattle.sumcheck.specs.declared.column_claim.ColumnClaim.{ColumnClaim}
use Rattle.sumcheck.specs.declared.entry.Entry.{Entry}
use Rattle.sumcheck.specs.declared.entry.Entry.TheVariants.{Message, Draw}
use Rattle.sumcheck.specs.declared.refused.Refused.{Refused}
use Rattle.sumcheck.specs.Claim.{Claim, column_value, layer_pair, layer_terms, leaf_terms}
use Rattle.sumcheck.specs.Column.{ColumnFits, ColumnHolds, column_claims}
use Rattle.sumcheck.specs.Machine.{Filling, Machine}
use Rattle.sumcheck.specs.Rounds.{sum_claim, rounds}
use Rattle.sumcheck.specs.Summing.{Summing, Summed, adding, closed, summed_entries, summed_refusal, summed_message, summed_draw, summed_pending, summed_round, SummedFits, SummedHolds, summed_honest}
use Rattle.table_shape.specs.Lowering.{step}
use Rattle.channel_products.specs.declared.flushed.Flushed.{Flushed}
use Rattle.channel_products.specs.Channels.{leaves_of, product_of}
use Rattle.channel_products.specs.Given.{named_columns}

-- ---- a flush
-- how many variables its rows have, filled up to a power of two
abbrev pub row_vars : Flushed → ℕ
row_vars f = ceil_log f.rows

-- the columns that its leaves are made from: the selector where there is one, and the tuple
abbrev pub leaf_columns : Flushed → List ℕ
leaf_columns f = named_columns f.shape

-- the columns have a value for each row
abbrev pub HasRows : Filling → Flushed → Type 0
HasRows F f = AllLong (2 ^ row_vars f) (map (F f.table) (leaf_columns f))

-- a flush, alpha and gamma, and the point of a claim
pub record Pointed : Type 0 where
  pub flushed : Flushed
  pub alpha : ℕ
  pub gamma : ℕ
  pub point : List ℕ

-- ---- layers
-- the claim on layer k at a point, with d more layers below the next
pub record Layered : Type 0 where
  pub at : Pointed
  pub layer : ℕ
  pub below : ℕ

-- two values of the layer below, at a point with 0 and with 1 as its last coordinate
pub record Paired : Type 0 where
  pub layered : Layered
  pub point : List ℕ
  pub low : ℕ
  pub high : ℕ

abbrev pub next_layer : Filling → Layered → List ℕ
next_layer F t = layer (suc t.layer) t.below (leaves_of F t.at.alpha t.at.gamma t.at.flushed)

-- the columns are there, and so are the layers down to the leaves
pub record LayeredFits (F : Filling) (t : Layered) (n : ℕ) : Type 0 where
  pub layer_is : t.layer ≡ n
  pub point : length t.at.point ≡ n
  pub vars : row_vars t.at.flushed ≡ t.layer + suc t.below
  pub rows : HasRows F t.at.flushed

-- ---- leaves
-- S: 1 at the rows, 0 at those that fill them up
abbrev pub row_steps : Flushed → List ℕ
row_steps f = tabulate (2 ^ row_vars f) (step f.rows)

-- the selector's list, and 1 throughout where there is none
abbrev pub selector_list : (ℕ → List ℕ) → ℕ → Option ℕ → List ℕ
selector_list values n None = tabulate (2 ^ n) (λ _. 1)
selector_list values n (Some s) = values s

abbrev pub leaf_lists : Filling → Flushed → List (List ℕ)
leaf_lists F f = row_steps f ∷ selector_list (F f.table) (row_vars f) f.shape.selector ∷ map (F f.table) f.shape.columns

-- the leaf of a message's values, where S is s
abbrev pub leaf_value : ℕ → ℕ → ℕ → Option ℕ → List ℕ → ℕ
leaf_value a g s None v = leaf s 1 (fingerprint a g v)
leaf_value a g s (Some c) v = leaf s (slice_index v 0) (fingerprint a g (drop 1 v))

-- the sum over x of eq(z, x) · leaf(x)
abbrev pub sum_of_leaves : Filling → Pointed → Sum
sum_of_leaves F t = eq_sum t.point (leaf_form t.alpha t.gamma (length t.flushed.shape.columns)) (leaf_lists F t.flushed)

pub record LeavesFit (F : Filling) (t : Pointed) (n : ℕ) : Type 0 where
  pub vars : row_vars t.flushed ≡ n
  pub point : length t.point ≡ n
  pub rows : HasRows F t.flushed

abbrev pub leaves_sum : Summing Pointed (List ColumnClaim)
leaves_sum = record {
  kind = LeafRound;
  check = LeafFinal;
  count = λ t. length (leaf_columns t.flushed);
  terms = λ t. leaf_terms t.flushed.table t.flushed.number t.alpha t.gamma t.point;
  sum = sum_of_leaves;
  fits = LeavesFit;
  left = λ t z v. mul (eq_points t.point z) (leaf_value t.alpha t.gamma (step_down t.flushed.rows z) t.flushed.shape.selector v);
  finals = λ F t z. map (λ list. extension list z) (map (F t.flushed.table) (leaf_columns t.flushed));
  closed = λ t z v. column_claims t.flushed.table z (leaf_columns t.flushed) v;
  closed_fits = λ F claims. AllByRecursion (ColumnFits F) claims;
  closed_holds = λ F claims. AllByRecursion (ColumnHolds F) claims;
  closed_pending = λ claims. map column_value claims;
  rest = λ t. [];
  afterwards = λ claims. [];
}

-- ---- what is due
abbrev pub leaf_entries : Flushed → List Entry
leaf_entries f = rounds LeafRound 4 (row_vars f) ++ Message LeafFinal (length (leaf_columns f)) ∷ []

-- from layer k on, d layers down to the leaves
abbrev pub layer_entries : Flushed → ℕ → ℕ → List Entry
layer_entries f k zero = leaf_entries f
layer_entries f k (suc d) = rounds LayerRound 3 k ++ Message LayerFinal 2 ∷ Draw LayerJoin 1 ∷ layer_entries f (suc k) d

abbrev pub join_entries : Layered → List Entry
join_entries t = Draw LayerJoin 1 ∷ layer_entries t.at.flushed (suc t.layer) t.below

-- the sum over x of eq(z, x) · L(x, 0) · L(x, 1), L the layer below
abbrev pub layered_sum : Summing Layered Paired
layered_sum = record {
  kind = LayerRound;
  check = LayerFinal;
  count = λ t. 2;
  terms = λ t. layer_terms t.at.flushed.table t.at.flushed.number t.at.alpha t.at.gamma t.layer t.at.point;
  sum = λ F t. layer_sum t.layer t.at.point (next_layer F t);
  fits = LayeredFits;
  left = λ t z v. mul (eq_points t.at.point z) (mul (slice_index v 0) (slice_index v 1));
  finals = λ F t z. extension (next_layer F t) (z ++ 0 ∷ []) ∷ extension (next_layer F t) (z ++ 1 ∷ []) ∷ [];
  closed = λ t z v. record { layered = t; point = z; low = slice_index v 0; high = slice_index v 1 };
  closed_fits = λ F p. LayeredFits F p.layered (length p.point);
  closed_holds = λ F p. (extension (next_layer F p.layered) (p.point ++ 0 ∷ []) ≡ p.low) × (extension (next_layer F p.layered) (p.point ++ 1 ∷ []) ≡ p.high);
  closed_pending = λ p. layer_pair p.layered.at.flushed.table p.layered.at.flushed.number p.layered.at.alpha p.layered.at.gamma p.layered.layer p.point p.low p.high ∷ [];
  rest = join_entries;
  afterwards = λ p. join_entries p.layered;
}

-- ---- the walk's states
pub data Descent : Type 0 where
  -- before the claim is stated
  waiting : Flushed → Descent
  -- a value of a layer as a sum, and then two values of the next
  layers : Summed Layered Paired → Descent
  -- a value of the leaves as a sum, and then a claim for each column
  leaves : Summed Pointed (List ColumnClaim) → Descent

-- layer k, with d layers down to the leaves, has the value at the point
abbrev pub descending : Flushed → (alpha gamma : ℕ) → (layer below : ℕ) → (point : List ℕ) → (value : ℕ) → Descent
descending f a g k zero z c = leaves (adding (record { flushed = f; alpha = a; gamma = g; point = z }) (sum_claim 4 (row_vars f) [] c))
descending f a g k (suc d) z c = layers (adding (record { at = record { flushed = f; alpha = a; gamma = g; point = z }; layer = k; below = d }) (sum_claim 3 k [] c))

-- the value at c of the line through the two values
abbrev pub joined : Paired → ℕ → Descent
joined p c =
    descending p.layered.at.flushed p.layered.at.alpha p.layered.at.gamma (suc p.layered.layer) p.layered.below (p.point ++ c ∷ []) (bit_xor (mul p.low (bit_xor 1 c)) (mul p.high c))

-- the product of the leaves is the value of layer 0
abbrev pub state_product : ℕ → ℕ → ℕ → Descent → Descent
state_product a g product (waiting f) = descending f a g 0 (row_vars f) [] product
state_product a g product (layers s) = layers s
state_product a g product (leaves s) = leaves s

-- ---- the machine
abbrev pub descent_entries : Descent → List Entry
descent_entries (waiting f) = []
descent_entries (layers s) = summed_entries layered_sum s
descent_entries (leaves s) = summed_entries leaves_sum s

abbrev pub descent_refusal : Descent → List ℕ → Option Refused
descent_refusal (waiting f) v = None
descent_refusal (layers s) v = summed_refusal layered_sum s v
descent_refusal (leaves s) v = summed_refusal leaves_sum s v

abbrev pub descent_message : Descent → List ℕ → Descent
descent_message (waiting f) v = waiting f
descent_message (layers s) v = layers (summed_message layered_sum s v)
descent_message (leaves s) v = leaves (summed_message leaves_sum s v)

abbrev pub descent_draw : Descent → ℕ → Descent
descent_draw (waiting f) c = waiting f
descent_draw (layers (adding t r)) c = layers (summed_draw (adding t r) c)
descent_draw (layers (closed p)) c = joined p c
descent_draw (leaves s) c = leaves (summed_draw s c)

abbrev pub descent_pending : Descent → List Claim
descent_pending (waiting f) = []
descent_pending (layers s) = summed_pending layered_sum s
descent_pending (leaves s) = summed_pending leaves_sum s

abbrev pub descent_round : Descent → Option ℕ
descent_round (waiting f) = None
descent_round (layers s) = summed_round layered_sum s
descent_round (leaves s) = summed_round leaves_sum s

abbrev pub DescentFits : Filling → Descent → Type 0
DescentFits F (waiting f) = Unit {0}
DescentFits F (layers s) = SummedFits layered_sum F s
DescentFits F (leaves s) = SummedFits leaves_sum F s

abbrev pub DescentHolds : Filling → Descent → Type 0
DescentHolds F (waiting f) = Unit {0}
DescentHolds F (layers s) = SummedHolds layered_sum F s
DescentHolds F (leaves s) = SummedHolds leaves_sum F s

abbrev pub descent_honest : Filling → Descent → List ℕ
descent_honest F (waiting f) = []
descent_honest F (layers s) = summed_honest layered_sum F s
descent_honest F (leaves s) = summed_honest leaves_sum F s

abbrev pub descent : Machine Descent
descent = record {
  entries = descent_entries;
  refusal = descent_refusal;
  after_message = descent_message;
  after_draw = descent_draw;
  pending = descent_pending;
  round_claim = descent_round;
  fits = DescentFits;
  holds = DescentHolds;
  honest = descent_honest;
}

-- ---- what is stated
abbrev pub IsWaiting : Descent → Type 0
IsWaiting (waiting f) = Unit {0}
IsWaiting (layers s) = ⊥
IsWaiting (leaves s) = ⊥

-- the walk has come to its end
abbrev pub DescentIsDone : Descent → Type 0
DescentIsDone (waiting f) = ⊥
DescentIsDone (layers s) = ⊥
DescentIsDone (leaves (adding t r)) = ⊥
DescentIsDone (leaves (closed claims)) = Unit {0}

-- what is stated fits a filling that has the flush's columns, and is true exactly where the product of the leaves is the value
pub record IsFirst (F : Filling) (f : Flushed) (a g product : ℕ) : Type 0 where
  pub fits : DescentFits F (state_product a g product (waiting f))
  pub told : DescentHolds F (state_product a g product (waiting f)) → product_of F a g f ≡ product
  pub holds : product_of F a g f ≡ product → DescentHolds F (state_product a g product (waiting f))

abbrev pub ProductsAreMeant : Type 0
ProductsAreMeant = (F : Filling) (f : Flushed) (a g product : ℕ) → HasRows F f → IsFirst F f a g product
