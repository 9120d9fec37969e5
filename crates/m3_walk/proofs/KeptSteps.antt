-- How many claims wait after some are taken, and what walks ask of those that they are given.
use Rattle.std.proofs.Common.{◌≡◌, ◌∙◌, ◌+◌, ◌-◌, ◌^◌, ◌<◌, ◌≤◌, ℕ, zero, suc, Bool, true, false, cond, List, [], ◌∷◌, ◌++◌, drop, length, remove, slice_get, slice_index, Some, refl, sym, ap, arith}
use Rattle.std.proofs.lemmas.List.{append_assoc, length-append}
use Rattle.std.specs.List.{AllByRecursion, filter}
use Rattle.claim_lists.specs.ByColumn.{by_column}
use Rattle.claim_lists.specs.OnColumn.{but_first_on, is_on}
use Rattle.sumcheck.specs.declared.column_claim.ColumnClaim.{ColumnClaim}
use Rattle.channel_products.specs.declared.flushed.Flushed.{Flushed}
use Rattle.eval_reduce.specs.Merge as merge
use Rattle.eval_reduce.specs.Merge.{Merge}
use Rattle.bit_claim.specs.Batching as batch
use Rattle.bit_claim.specs.Batching.{Batching}
use Rattle.bit_claim.specs.Bits.{IsPlaced}
use Rattle.m3_walk.specs.declared.product.Product.{Product}
use Rattle.m3_walk.specs.Linking.{products_with}
use Rattle.m3_walk.specs.Taking.{BatchTakes, MergeTakes}
use Rattle.m3_walk.proofs.Entering.{length-by_column}
use Rattle.m3_walk.proofs.Parts.{all_ordered}

-- ---- fewer
pub length-but_first : (t c : ℕ) (cs : List ColumnClaim) → length (but_first_on t c cs) ≤ length cs
length-but_first t c [] = omega arith
length-but_first t c (d ∷ ds) =
    elim (is_on t c d) as (λ b. length (cond b ds (d ∷ but_first_on t c ds)) ≤ suc (length ds)) [ true ↦ omega arith | false ↦ let h = length-but_first t c ds in omega (arith, h) ]

pub length-filtered : {X : Type 0} (p : X → Bool) (xs : List X) → length (filter p xs) ≤ length xs
length-filtered p [] = omega arith
length-filtered p (x ∷ xs) =
    elim (p x) as (λ b. length (cond b (x ∷ filter p xs) (filter p xs)) ≤ suc (length xs)) [ true ↦ let h = length-filtered p xs in omega (arith, h) | false ↦ let h = length-filtered p xs in omega (arith, h) ]

-- ---- a merge and a batch
pub merge_takes : (t c : ℕ) (cs : List ColumnClaim) (w : Merge) → MergeTakes t c cs w → length cs < 2 ^ 30 → merge.Takes t c cs w
merge_takes t c cs (merge.waiting n m) h l = ((h.0, l), h.1.1)
merge_takes t c cs (merge.opening t' c' n ds) h l = absurd h
merge_takes t c cs (merge.summed s) h l = absurd h

pub batch_takes : (cs : List ColumnClaim) (w : Batching) → BatchTakes cs w → length cs < 2 ^ 30 → batch.Takes (by_column cs) w
batch_takes cs (batch.waiting bs m) h l = (let e = length-by_column cs in omega (arith, e), all_ordered (IsPlaced bs) cs h.1)
batch_takes cs (batch.opening bs ds) h l = absurd h
batch_takes cs (batch.summed s) h l = absurd h

pub batch_room : (cs : List ColumnClaim) (w : Batching) → BatchTakes cs w → length (by_column cs) ≤ batch.room_of w
batch_room cs (batch.waiting bs m) h = let e = length-by_column cs in let k = h.0 in omega (arith, e, k)
batch_room cs (batch.opening bs ds) h = absurd h
batch_room cs (batch.summed s) h = absurd h

-- ---- products of flushes
pub length-products_with : (a g : ℕ) (fs : List Flushed) (v : List ℕ) → length v ≤ length fs → length (products_with a g fs v) ≡ length v
length-products_with a g [] [] l = refl
length-products_with a g [] (x ∷ v) l = absurd (omega arith)
length-products_with a g (f ∷ fs) [] l = refl
length-products_with a g (f ∷ fs) (x ∷ v) l = ap suc (length-products_with a g fs v (omega arith))

next_value : (i : ℕ) (v : List ℕ) → i < length v → drop i v ≡ slice_index v i ∷ drop (i + 1) v
next_value i [] l = absurd (omega arith)
next_value zero (x ∷ v) l = refl
next_value (suc i) (x ∷ v) l = next_value i v (omega arith) ∙ ap (λ k. slice_index v i ∷ drop k (x ∷ v)) (let e : suc (i + 1) ≡ suc i + 1 = omega arith in e)

pub next_product : (a g i : ℕ) (fs : List Flushed) (f : Flushed) (v : List ℕ) (ps : List Product) → slice_get fs 0 ≡ Some f → i < length v
    → (ps ++ record { flushed = f; alpha = a; gamma = g; value = slice_index v i } ∷ []) ++ products_with a g (remove fs 0) (drop (i + 1) v) ≡ ps ++ products_with a g fs (drop i v)
next_product a g i [] f v ps e l = absurd cc
next_product a g i (f' ∷ fs) f v ps e l =
    let same : f' ≡ f = cc in
    append_assoc ps (record { flushed = f; alpha = a; gamma = g; value = slice_index v i } ∷ []) (products_with a g fs (drop (i + 1) v))
    ∙ ap (λ h. ps ++ record { flushed = h; alpha = a; gamma = g; value = slice_index v i } ∷ products_with a g fs (drop (i + 1) v)) (sym same)
    ∙ ap (λ w. ps ++ products_with a g (f' ∷ fs) w) (sym (next_value i v l))

pub no_values : (a g : ℕ) (fs : List Flushed) → products_with a g fs [] ≡ []
no_values a g [] = refl
no_values a g (f ∷ fs) = refl
