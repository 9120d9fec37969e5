-- Steps of the sums for values of layers and leaves.
use Rattle.std.proofs.Common.{◌≡◌, ◌∙◌, ℕ, ◌+◌, ◌^◌, List, [], ◌∷◌, map, take, drop, length, refl, sym, ap, subst, arith, length-take, length-drop}
use Rattle.std.specs.List.{AllByRecursion}
use Rattle.cube_laws.specs.Extension.{weights}
use Rattle.cube_laws.specs.SumClaim.{AllLong}
use Rattle.cube_laws.proofs.Folding.{length-weights}
use Rattle.batch_laws.specs.Batch.{eq_sum}
use Rattle.layer_laws.specs.Layers.{layer_sum}
use Rattle.layer_laws.specs.LeafForm.{leaf_form}
use Rattle.sumcheck.specs.declared.column_tables.ColumnTable.{ColumnTable}
use Rattle.sumcheck.specs.Proving.{Proving, Goes}
use Rattle.sumcheck.specs.Rounds.{sum_claim}
use Rattle.sumcheck.proofs.Following.{goes_first}
use Rattle.channel_products.specs.declared.flushed.Flushed.{Flushed}
use Rattle.channel_products.specs.declared.halves.Halves.{Halves}
use Rattle.channel_products.specs.declared.leaf_term.LeafTerm.{LeafTerm}
use Rattle.channel_products.specs.Descent.{HasRows, leaf_lists, row_vars}
use Rattle.channel_products.specs.Given.{FlushIsThere, IsThere, named_columns, table_of}
use Rattle.channel_products.specs.Summands.{halves_form, leaf_term_form}
use Rattle.channel_products.proofs.DescentLaws.{lists_long}
use Rattle.channel_products.proofs.ProverSteps.{there_long}

-- ---- a layer's sum
pub layer_long : (k : ℕ) (z below : List ℕ) → length z ≡ k → length below ≡ 2 ^ k + 2 ^ k → AllLong (2 ^ k) (weights z ∷ take (2 ^ k) below ∷ drop (2 ^ k) below ∷ [])
layer_long k z below l b = (length-weights z ∙ ap (λ n. 2 ^ n) l, ((let t = length-take (2 ^ k) below in omega arith), ((let d = length-drop (2 ^ k) below in omega arith), tt)))

pub layer_goes : (p : Proving Halves) (h : Halves) (k : ℕ) (z below : List ℕ) (tables : List (List ℕ)) → length z ≡ k → length below ≡ 2 ^ k + 2 ^ k → tables ≡ weights z ∷ take (2 ^ k) below ∷ drop (2 ^ k) below ∷ []
    → p ≡ record { summand = h; degree = 3; left = k; lists = tables } → (c : ℕ) → Goes halves_form p (layer_sum k z below) (sum_claim 3 k [] c)
layer_goes p h k z below tables l b t e c =
    goes_first halves_form p (layer_sum k z below) 3 k c refl (ap (λ (q : Proving Halves). q.degree) e) (ap (λ (q : Proving Halves). q.left) e) (ap (λ (q : Proving Halves). q.lists) e ∙ t) (layer_long k z below l b)

-- ---- the leaves' sum
given_long : (tables : List ColumnTable) (t n : ℕ) (cs : List ℕ) → AllByRecursion (IsThere tables t n) cs → AllLong n (map (table_of tables t) cs)
given_long tables t n [] h = tt
given_long tables t n (c ∷ cs) h = (there_long tables t n c h.0, given_long tables t n cs h.1)

pub has_rows : (tables : List ColumnTable) (f : Flushed) → FlushIsThere tables f → HasRows (table_of tables) f
has_rows tables f h = given_long tables f.table (2 ^ row_vars f) (named_columns f.shape) h

pub leaf_long : (tables : List ColumnTable) (f : Flushed) (n : ℕ) (z : List ℕ) → n ≡ row_vars f → length z ≡ n → FlushIsThere tables f → AllLong (2 ^ n) (weights z ∷ leaf_lists (table_of tables) f)
leaf_long tables f n z v l h = (length-weights z ∙ ap (λ n. 2 ^ n) l, subst (λ m. AllLong (2 ^ m) (leaf_lists (table_of tables) f)) (sym v) (lists_long (table_of tables) f (has_rows tables f h)))

pub leaf_goes : (p : Proving LeafTerm) (t : LeafTerm) (tables : List ColumnTable) (f : Flushed) (a g n : ℕ) (z : List ℕ) (lists : List (List ℕ)) → t ≡ record { alpha = a; gamma = g; width = length f.shape.columns } → n ≡ row_vars f → length z ≡ n → FlushIsThere tables f
    → lists ≡ weights z ∷ leaf_lists (table_of tables) f → p ≡ record { summand = t; degree = 4; left = n; lists = lists } → (c : ℕ) → Goes leaf_term_form p (eq_sum z (leaf_form a g (length f.shape.columns)) (leaf_lists (table_of tables) f)) (sum_claim 4 n [] c)
leaf_goes p t tables f a g n z lists u v l h s e c =
    goes_first leaf_term_form p (eq_sum z (leaf_form a g (length f.shape.columns)) (leaf_lists (table_of tables) f)) 4 n c (ap (λ (q : Proving LeafTerm). leaf_term_form q.summand) e ∙ ap leaf_term_form u) (ap (λ (q : Proving LeafTerm). q.degree) e) (ap (λ (q : Proving LeafTerm). q.left) e)
    (ap (λ (q : Proving LeafTerm). q.lists) e ∙ s) (leaf_long tables f n z v l h)
