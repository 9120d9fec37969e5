-- What a reduction can be entered with is what its walk asks for: claims of such sizes are those that it takes.
use Rattle.std.proofs.Common.{◌≡◌, ◌∙◌, ◌≤◌, ◌==◌, ℕ, Bool, true, false, cond, List, [], ◌∷◌, length, map, Option, Some, is_some, refl, sym, ap, subst}
use Rattle.std.proofs.lemmas.List.{length-map}
use Rattle.std.proofs.lemmas.Bool.{and_parts, eqb-true}
use Rattle.std.specs.List.{AllByRecursion, filter}
use Rattle.sumcheck.specs.declared.column_claim.ColumnClaim.{ColumnClaim}
use Rattle.table_shape.specs.Placement.{Block}
use Rattle.channel_products.specs.Descent as descent
use Rattle.channel_products.specs.Descent.{Descent}
use Rattle.eval_reduce.specs.Merge as merge
use Rattle.eval_reduce.specs.Merge.{AllOn}
use Rattle.eval_reduce.specs.Virtual.{IsOn}
use Rattle.bit_claim.specs.Batching as batch
use Rattle.bit_claim.specs.Batching.{BitValue}
use Rattle.bit_claim.specs.Bits.{IsPlaced}
use Rattle.ring_switch.specs.Switching as switch
use Rattle.ring_switch.specs.Switching.{Switching}
use Rattle.claim_lists.specs.ByColumn.{by_column}
use Rattle.claim_lists.specs.OnColumn.{is_on, on_column, first_on}
use Rattle.m3_walk.specs.declared.product.Product.{Product}
use Rattle.m3_walk.specs.Linking.{AllOfVars, HasBlock, IsFor, IsOne, Place, TakesBits, TakesMerge, TakesWords, has_block, has_no_block, is_place, place_of}
use Rattle.m3_walk.proofs.Entering.{filtered, length-by_column}
use Rattle.m3_walk.proofs.Parts.{all_ordered}

-- ---- the product of a flush
-- the first product is that of the flush
pub record FirstProduct (d : Descent) (ps : List Product) : Type 0 where
  pub first : Product
  pub others : List Product
  pub products_are : ps ≡ first ∷ others
  pub walk_is : d ≡ descent.waiting first.flushed

pub first_product : (d : Descent) (ps : List Product) → IsFor d (map (λ (p : Product). p.flushed) ps) → FirstProduct d ps
first_product (descent.waiting f) [] h = absurd h
first_product (descent.waiting f) (p ∷ ps) h = record { first = p; others = ps; products_are = refl; walk_is = ap descent.waiting h }
first_product (descent.layers s) ps h = absurd h
first_product (descent.leaves s) ps h = absurd h

-- ---- a value of the table of bits
-- the first value is at a point of as many coordinates as the ring switch has
pub record FirstValue (s : Switching) (bs : List BitValue) : Type 0 where
  pub first : BitValue
  pub others : List BitValue
  pub values_are : bs ≡ first ∷ others
  pub walk_is : s ≡ switch.waiting (length first.point)

pub first_value : (s : Switching) (bs : List BitValue) → TakesWords s (map (λ (b : BitValue). length b.point) bs) → FirstValue s bs
first_value (switch.waiting n) [] h = absurd h
first_value (switch.waiting n) (b ∷ bs) h = record { first = b; others = bs; values_are = refl; walk_is = ap switch.waiting (sym h) }
first_value (switch.valued z x) bs h = absurd h
first_value (switch.rowed y p rows n) bs h = absurd h
first_value (switch.summed x) bs h = absurd h

-- ---- one claim on a column
pub record OneClaim (t c n : ℕ) (cs : List ColumnClaim) : Type 0 where
  pub claim : ColumnClaim
  pub found : first_on t c cs ≡ Some claim
  pub on : IsOn t c n claim

first_found : (t c : ℕ) (cs : List ColumnClaim) (d : ColumnClaim) (ds : List ColumnClaim) → on_column t c cs ≡ d ∷ ds → first_on t c cs ≡ Some d
first_found t c [] d ds e = absurd cc
first_found t c (x ∷ xs) d ds e =
    elim (is_on t c x) as (λ b. cond b (x ∷ on_column t c xs) (on_column t c xs) ≡ d ∷ ds → cond b (Some x) (first_on t c xs) ≡ Some d) [
      | true ↦ λ h. head_is x (on_column t c xs) h
      | false ↦ λ h. first_found t c xs d ds h
    ] e
  where
    head_is : (x : ColumnClaim) (xs : List ColumnClaim) → x ∷ xs ≡ d ∷ ds → Some x ≡ Some d
    head_is x xs h = cc

pub one_claim : (t c n : ℕ) (cs : List ColumnClaim) → IsOne t c n (map place_of cs) → OneClaim t c n cs
one_claim t c n cs h = among (on_column t c cs) refl (filtered place_of (is_place t c) cs ∙ h)
  where
    among : (ds : List ColumnClaim) → on_column t c cs ≡ ds → map place_of ds ≡ record { table = t; column = c; vars = n } ∷ [] → OneClaim t c n cs
    among [] e p = absurd cc
    among (d ∷ ds) e p =
        let same : place_of d ≡ record { table = t; column = c; vars = n } = cc in
        record { claim = d; found = first_found t c cs d ds e; on = record { table_is = ap (λ (q : Place). q.table) same; column_is = ap (λ (q : Place). q.column) same; long = ap (λ (q : Place). q.vars) same } }

-- ---- the claims of a merge
pub record MergeClaims (t c n m : ℕ) (cs : List ColumnClaim) : Type 0 where
  pub several : 2 ≤ length (on_column t c cs)
  pub few : length (on_column t c cs) ≤ m
  pub on : AllOn t c n (on_column t c cs)

pass_the_test : {X : Type 0} (p : X → Bool) (xs : List X) → AllByRecursion (λ x. p x ≡ true) (filter p xs)
pass_the_test p [] = tt
pass_the_test p (x ∷ xs) =
    elim (p x) as (λ t. p x ≡ t → AllByRecursion (λ x. p x ≡ true) (cond t (x ∷ filter p xs) (filter p xs))) [
      | true ↦ λ e. (e, pass_the_test p xs)
      | false ↦ λ e. pass_the_test p xs
    ] refl

all_on : (t c n : ℕ) (ds : List ColumnClaim) → AllByRecursion (λ d. is_on t c d ≡ true) ds → AllOfVars n (map place_of ds) → AllOn t c n ds
all_on t c n [] h k = tt
all_on t c n (d ∷ ds) h k =
    let both = and_parts (d.table == t) (d.column == c) h.0 in
    ((eqb-true d.table t both.0, (eqb-true d.column c both.1, k.0)), all_on t c n ds h.1 k.1)

pub merge_claims : (t c n m : ℕ) (cs : List ColumnClaim) → TakesMerge t c (merge.waiting n m) (map place_of cs) → MergeClaims t c n m cs
merge_claims t c n m cs h =
    let same = filtered place_of (is_place t c) cs in
    let count : length (filter (is_place t c) (map place_of cs)) ≡ length (on_column t c cs) = sym (ap length same) ∙ length-map (on_column t c cs) place_of in
    record {
      several = subst (λ k. 2 ≤ k) count h.0;
      few = subst (λ k. k ≤ m) count h.1.0;
      on = all_on t c n (on_column t c cs) (pass_the_test (is_on t c) cs) (subst (AllOfVars n) (sym same) h.1.1);
    }

-- ---- the claims on committed columns
pub record BitClaims (bs : List Block) (m : ℕ) (cs : List ColumnClaim) : Type 0 where
  pub all_taken : filter (has_block bs) cs ≡ cs
  pub none_stay : filter (has_no_block bs) cs ≡ []
  pub few : length (by_column cs) ≤ m
  pub placed : AllByRecursion (IsPlaced bs) (by_column cs)

all_pass : {X : Type 0} (p : X → Bool) (xs : List X) → AllByRecursion (λ x. p x ≡ true) xs → (filter p xs ≡ xs) × (filter (λ x. cond (p x) false true) xs ≡ [])
all_pass p [] h = (refl, refl)
all_pass p (x ∷ xs) h =
    let more = all_pass p xs h.1 in (
      ap (λ t. cond t (x ∷ filter p xs) (filter p xs)) h.0 ∙ ap (λ l. x ∷ l) more.0,
      ap (λ t. cond (cond t false true) (x ∷ filter (λ x. cond (p x) false true) xs) (filter (λ x. cond (p x) false true) xs)) h.0 ∙ more.1,
    )

all_placed : (bs : List Block) (cs : List ColumnClaim) → AllByRecursion (HasBlock bs) (map place_of cs) → AllByRecursion (IsPlaced bs) cs × AllByRecursion (λ c. has_block bs c ≡ true) cs
all_placed bs [] h = (tt, tt)
all_placed bs (c ∷ cs) h = let more = all_placed bs cs h.1 in ((h.0, more.0), (ap (λ (o : Option Block). is_some o) h.0.1, more.1))

pub bit_claims : (bs : List Block) (m : ℕ) (cs : List ColumnClaim) → TakesBits (batch.waiting bs m) (map place_of cs) → BitClaims bs m cs
bit_claims bs m cs h =
    let here = all_placed bs cs h.1 in
    let parts = all_pass (has_block bs) cs here.1 in
    record {
      all_taken = parts.0;
      none_stay = parts.1;
      few = subst (λ k. k ≤ m) (length-map cs place_of ∙ sym (length-by_column cs)) h.0;
      placed = all_ordered (IsPlaced bs) cs here.0;
    }
