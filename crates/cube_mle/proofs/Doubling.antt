-- A table doubled in place, by index.
use Rattle.std.proofs.Common.{⊎_elim, ◌⊎◌, inl, inr, ltb, true, false, ◌-◌, ◌≡◌, ◌≢◌, ℕ, zero, suc, ◌+◌, ◌^◌, ◌<◌, ◌≤◌, List, [], ◌∷◌, ◌++◌, map, take, length, get_or, set, bit_xor, refl, sym, ◌∙◌, ap, arith, length-append, get_or-set_other, get_or-set_same, below_more}
use Rattle.std.proofs.lemmas.Bool.{ltb-true, ltb-false}
use Rattle.std.proofs.Math.ListN.{length-set}
use Rattle.std.proofs.lemmas.List.{get_or_append_left, get_or-append-add, get_or_push, length-map, take_more, append-nil}
use Rattle.tower_laws.specs.Tower.{mul}
use Rattle.tower_laws.proofs.Levels.{field_one}
use Rattle.tower_laws.proofs.Field.{identity, field_terms}
use Rattle.cube_laws.specs.Sums.{tabulate}
use Rattle.cube_laws.specs.Extension.{eq, weights}
use Rattle.cube_laws.proofs.Folding.{length-weights}
use Rattle.cube_laws.proofs.Weights.{weights_at}
use Rattle.cube_laws.proofs.Kron.{weights-joined}
use Rattle.cube_laws.proofs.Tabulate.{entries}
use Rattle.cube_mle.proofs.Folds.{same_entries}

abbrev pub low_of : ℕ → ℕ → ℕ
low_of x t = mul t (bit_xor 1 x)

abbrev pub high_of : ℕ → ℕ → ℕ
high_of x t = mul t x

-- the first i values are doubled
pub record Doubled (x i : ℕ) (old new : List ℕ) : Type 0 where
  pub long : length new ≡ length old + i
  pub low : (k : ℕ) → k < i → get_or new k 0 ≡ low_of x (get_or old k 0)
  pub left : (k : ℕ) → i ≤ k → k < length old → get_or new k 0 ≡ get_or old k 0
  pub high : (k : ℕ) → k < i → get_or new (length old + k) 0 ≡ high_of x (get_or old k 0)

low_is : (t x : ℕ) → bit_xor t (mul t x) ≡ mul t (bit_xor 1 x)
low_is t x = identity (t ∷ x ∷ []) (search field_terms depth 60 fits 20000) refl

module _ (x i v low high : ℕ) (old now next : List ℕ) (within : i < length old) (so_far : Doubled x i old now) (v_is : v ≡ get_or now i 0)
    (high_is : high ≡ mul v x) (low_sum : low ≡ bit_xor v high) (next_is : next ≡ set now i low ++ high ∷ []) where
  long_set : length (set now i low) ≡ length old + i
  long_set = length-set now i low ∙ so_far.long

  old_value : v ≡ get_or old i 0
  old_value = v_is ∙ so_far.left i (omega arith) within

  in_set : (k : ℕ) → k < length old + i → get_or next k 0 ≡ get_or (set now i low) k 0
  in_set k l = ap (λ n. get_or n k 0) next_is ∙ get_or_append_left (set now i low) (high ∷ []) 0 k (let e = long_set in omega arith)

  pub double_more : Doubled x (i + 1) old next
  double_more = record {
    long = ap length next_is ∙ length-append (set now i low) (high ∷ []) ∙ (let e = long_set in omega arith);
    low = below_more (λ k. get_or next k 0 ≡ low_of x (get_or old k 0)) i
        (λ k m. in_set k (omega arith) ∙ (let ne : k ≢ i = omega arith in rw get_or-set_other (so_far.low k m)))
        (in_set i (omega arith) ∙ (let lt : i < length now = (let e = so_far.long in omega arith) in rw get_or-set_same (low_sum ∙ ap (bit_xor v) high_is ∙ low_is v x ∙ ap (low_of x) old_value)));
    left = λ k m l. in_set k (omega arith) ∙ (let ne : k ≢ i = omega arith in rw get_or-set_other (so_far.left k (omega arith) l));
    high = below_more (λ k. get_or next (length old + k) 0 ≡ high_of x (get_or old k 0)) i
        (λ k m. in_set (length old + k) (omega arith) ∙ (let ne : length old + k ≢ i = omega arith in rw get_or-set_other (so_far.high k m)))
        (ap (λ n. get_or n (length old + i) 0) next_is ∙ get_or_push (set now i low) high 0 (length old + i) long_set ∙ high_is ∙ ap (high_of x) old_value);
  }

pub order : (a b : ℕ) → (a < b) ⊎ (b ≤ a)
order a b = elim (ltb a b) as (λ t. ltb a b ≡ t → (a < b) ⊎ (b ≤ a)) [ true ↦ λ h. inl (ltb-true a b h) | false ↦ λ h. inr (ltb-false a b h) ] refl

get_or-map : (f : ℕ → ℕ) (xs : List ℕ) (k : ℕ) → k < length xs → get_or (map f xs) k 0 ≡ f (get_or xs k 0)
get_or-map f [] k l = absurd (omega arith)
get_or-map f (x ∷ xs) zero l = refl
get_or-map f (x ∷ xs) (suc k) l = get_or-map f xs k (omega arith)

pub double_end : (x i : ℕ) (old new : List ℕ) → length old ≤ i → i ≤ length old → Doubled x i old new → new ≡ map (low_of x) old ++ map (high_of x) old
double_end x i old new past within h =
    let a = length-map old (low_of x) in
    let b = length-map old (high_of x) in
    let c = length-append (map (low_of x) old) (map (high_of x) old) in
    let n = h.long in
    same_entries new (map (low_of x) old ++ map (high_of x) old) (omega arith) go
  where
    at_high : (k : ℕ) → k < length old → get_or (map (low_of x) old ++ map (high_of x) old) (length old + k) 0 ≡ high_of x (get_or old k 0)
    at_high k l =
        ap (λ n. get_or (map (low_of x) old ++ map (high_of x) old) (n + k) 0) (sym (length-map old (low_of x)))
        ∙ get_or-append-add (map (low_of x) old) (map (high_of x) old) k 0 ∙ get_or-map (high_of x) old k l

    go : (k : ℕ) → k < length new → get_or new k 0 ≡ get_or (map (low_of x) old ++ map (high_of x) old) k 0
    go k l = ⊎_elim
        (λ m. h.low k (omega arith) ∙ sym (get_or_append_left (map (low_of x) old) (map (high_of x) old) 0 k (let a = length-map old (low_of x) in omega arith) ∙ get_or-map (low_of x) old k m))
        (λ m.
        let e : length old + (k - length old) ≡ k = omega arith in
        let n = h.long in
        ap (λ j. get_or new j 0) (sym e) ∙ h.high (k - length old) (omega arith) ∙ sym (at_high (k - length old) (omega arith)) ∙ ap (λ j. get_or (map (low_of x) old ++ map (high_of x) old) j 0) e)
        (order k (length old))

-- ---- eq of a point
pub weights_more : (point : List ℕ) (i x : ℕ) (old new : List ℕ) → x ≡ get_or point i x → i < length point → old ≡ weights (take i point) → new ≡ map (low_of x) old ++ map (high_of x) old → new ≡ weights (take (i + 1) point)
weights_more point i x old new x_is l so_far h =
    let t : take (i + 1) point ≡ take i point ++ x ∷ [] = take_more point i x l ∙ ap (λ y. take i point ++ y ∷ []) (sym x_is) in
    let ws = weights (take i point) in
    h ∙ ap (λ ts. map (low_of x) ts ++ map (high_of x) ts) so_far
    ∙ sym (ap weights t ∙ weights-joined (take i point) (x ∷ [])
    ∙ ap (λ a. map (λ t. mul t a) ws ++ (map (λ t. mul t (mul 1 x)) ws ++ [])) (field_one (bit_xor 1 x))
    ∙ ap (λ a. map (λ t. mul t (bit_xor 1 x)) ws ++ (map (λ t. mul t a) ws ++ [])) (field_one x)
    ∙ ap (λ r. map (low_of x) ws ++ r) (append-nil (map (high_of x) ws)))

pub weights_are : (point : List ℕ) → weights point ≡ tabulate (2 ^ length point) (eq point)
weights_are point = entries (2 ^ length point) (eq point) (weights point) (length-weights point) (λ p l. weights_at point p l)
