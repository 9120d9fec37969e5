-- The polynomial through values at 0, 1, 2, ..
use Rattle.std.proofs.Common.{◌≡◌, ◌≢◌, ℕ, zero, suc, ◌+◌, ◌≤◌, ◌<◌, true, false, eqb, List, [], ◌∷◌, length, slice_index, bit_xor, refl, ◌∙◌, ap, arith}
use Rattle.std.proofs.lemmas.Bool.{eqb-true, eqb-false}
use Rattle.tower_laws.specs.Tower.{mul}
use Rattle.tower_laws.specs.Inverse.{inverse}
use Rattle.std.specs.List.{AllByRecursion}
use Rattle.counting_laws.specs.Counting.{Distinct}
use Rattle.tower_laws.proofs.Rules.{equal_from}
use Rattle.tower_laws.proofs.Field.{identity, field_terms}
use Rattle.tower_laws.proofs.Inverses.{times_inverse}
use Rattle.poly_laws.specs.Interpolation.{basis, interpolated, at}
use Rattle.poly_laws.specs.Polynomial.{Polynomial}
use Rattle.poly_laws.proofs.Polynomials.{constant_poly, line_poly, sum_poly, product_poly, higher_poly, same_poly, same_polys}

pub basis-same : (i j x : ℕ) → eqb i j ≡ true → basis (suc j) i x ≡ basis j i x
unfolding basis
basis-same i j x h = rw (h, basis) refl

pub basis-other : (i j x : ℕ) → eqb i j ≡ false → basis (suc j) i x ≡ mul (mul (bit_xor x j) (inverse (bit_xor i j))) (basis j i x)
unfolding basis
basis-other i j x h = rw (h, basis) refl

pub basis-zero : (i x : ℕ) → basis zero i x ≡ 1
unfolding basis
basis-zero i x = refl

not_eqb : (i j : ℕ) → eqb i j ≡ false → i ≢ j
not_eqb i j h e = eqb-false i j h e

-- ---- degrees
factor : (x j v : ℕ) → mul (bit_xor x j) v ≡ bit_xor (mul j v) (mul v x)
factor x j v = identity (x ∷ j ∷ v ∷ []) (search field_terms depth 60 fits 20000) refl

factor_poly : (j v : ℕ) → Polynomial 1 (λ x. mul (bit_xor x j) v)
factor_poly j v = same_poly 1 (λ x. factor x j v) (line_poly (mul j v) v)

all_poly : (n i : ℕ) → Polynomial n (basis n i)
all_poly zero i = same_poly 0 (basis-zero i) (constant_poly 0 1)
all_poly (suc j) i =
    let h = all_poly j i in
    elim (eqb i j) as (λ b. eqb i j ≡ b → Polynomial (suc j) (basis (suc j) i)) [
      | true ↦ λ e. higher_poly j (suc j) (omega arith) (same_poly j (λ x. basis-same i j x e) h)
      | false ↦ λ e. higher_poly (1 + j) (suc j) (omega arith) (same_poly (1 + j) (λ x. basis-other i j x e) (product_poly 1 j (factor_poly j (inverse (bit_xor i j))) h))
    ] refl

basis_poly : (n i : ℕ) → i < suc n → Polynomial n (basis (suc n) i)
basis_poly zero i l = same_poly 0 (λ x. basis-same i 0 x (let e : i ≡ 0 = omega arith in rw e refl) ∙ basis-zero i x) (constant_poly 0 1)
basis_poly (suc j) i l =
    elim (eqb i (suc j)) as (λ b. eqb i (suc j) ≡ b → Polynomial (suc j) (basis (suc (suc j)) i)) [
      | true ↦ λ e. same_poly (suc j) (λ x. basis-same i (suc j) x e) (all_poly (suc j) i)
      | false ↦ λ e. let ne = not_eqb i (suc j) e in
          higher_poly (1 + j) (suc j) (omega arith) (same_poly (1 + j) (λ x. basis-other i (suc j) x e) (product_poly 1 j (factor_poly (suc j) (inverse (bit_xor i (suc j)))) (basis_poly j i (omega arith))))
    ] refl

interpolated_poly : (n i : ℕ) (vs : List ℕ) → i + length vs ≤ suc n → Polynomial n (interpolated (suc n) i vs)
unfolding interpolated
interpolated_poly n i [] h = constant_poly n 0
interpolated_poly n i (v ∷ vs) h =
    sum_poly n (higher_poly (0 + n) n (omega arith) (product_poly 0 n (constant_poly 0 v) (basis_poly n i (omega arith)))) (interpolated_poly n (suc i) vs (omega arith))

pub at_poly : (d : ℕ) (values : List ℕ) → length values ≡ suc d → Polynomial d (at values)
unfolding at
at_poly d values h = same_poly d (λ x. ap (λ n. interpolated n 0 values x) h) (interpolated_poly d 0 values (omega arith))

-- ---- values
one_step : (a v b : ℕ) → mul a v ≡ 1 → b ≡ 1 → mul (mul a v) b ≡ 1
one_step a v b h k = rw (h, k) (identity [] (search field_terms depth 60 fits 20000) refl)

differ : (i j : ℕ) → i ≢ j → bit_xor i j ≢ 0
differ i j ne e = ne (equal_from i j e)

basis_here : (n i : ℕ) → basis n i i ≡ 1
basis_here zero i = basis-zero i i
basis_here (suc j) i =
    let h = basis_here j i in
    elim (eqb i j) as (λ b. eqb i j ≡ b → basis (suc j) i i ≡ 1) [
      | true ↦ λ e. basis-same i j i e ∙ h
      | false ↦ λ e. basis-other i j i e ∙ one_step (bit_xor i j) (inverse (bit_xor i j)) (basis j i i) (times_inverse (bit_xor i j) (differ i j (not_eqb i j e))) h
    ] refl

zero_here : (k v b : ℕ) → mul (mul (bit_xor k k) v) b ≡ 0
zero_here k v b = identity (k ∷ v ∷ b ∷ []) (search field_terms depth 60 fits 20000) refl

zero_there : (a b : ℕ) → b ≡ 0 → mul a b ≡ 0
zero_there a b h = rw h (identity (a ∷ []) (search field_terms depth 60 fits 20000) refl)

basis_else : (n i k : ℕ) → k < n → k ≢ i → basis n i k ≡ 0
basis_else zero i k l ne = absurd (omega arith)
basis_else (suc j) i k l ne =
    let rest : k < j → basis j i k ≡ 0 = λ b. basis_else j i k b ne in
    elim (eqb i j) as (λ b. eqb i j ≡ b → basis (suc j) i k ≡ 0) [
      | true ↦ λ h. let p = eqb-true i j h in basis-same i j k h ∙ rest (omega arith)
      | false ↦ λ h. basis-other i j k h ∙ elim (eqb k j) as (λ c. eqb k j ≡ c → mul (mul (bit_xor k j) (inverse (bit_xor i j))) (basis j i k) ≡ 0) [
        | true ↦ λ e. let p = eqb-true k j e in rw p (zero_here j (inverse (bit_xor i j)) (basis j i j))
        | false ↦ λ e. let q = not_eqb k j e in zero_there (mul (bit_xor k j) (inverse (bit_xor i j))) (basis j i k) (rest (omega arith))
      ] refl
    ] refl

skip_step : (v b r : ℕ) → b ≡ 0 → bit_xor (mul v b) r ≡ r
skip_step v b r h = rw h (identity (v ∷ r ∷ []) (search field_terms depth 60 fits 20000) refl)

take_step : (v b r : ℕ) → b ≡ 1 → r ≡ 0 → bit_xor (mul v b) r ≡ v
take_step v b r h k = rw (h, k) (identity (v ∷ []) (search field_terms depth 60 fits 20000) refl)

before_all : (n i k : ℕ) (vs : List ℕ) → k < n → k < i → interpolated n i vs k ≡ 0
unfolding interpolated
before_all n i k [] l h = refl
before_all n i k (v ∷ vs) l h = skip_step v (basis n i k) _ (basis_else n i k l (λ (e : k ≡ i). absurd (omega arith))) ∙ before_all n (suc i) k vs l (omega arith)

interpolated_point : (n i m k : ℕ) (vs : List ℕ) → k ≡ i + m → k < n → interpolated n i vs k ≡ slice_index vs m
unfolding interpolated
interpolated_point n i m k [] e l = refl
interpolated_point n i zero k (v ∷ vs) e l =
    let p : k ≡ i = omega arith in
    take_step v (basis n i k) _ (rw p (basis_here n i)) (before_all n (suc i) k vs l (omega arith))
interpolated_point n i (suc m) k (v ∷ vs) e l =
    skip_step v (basis n i k) _ (basis_else n i k l (λ (p : k ≡ i). absurd (omega arith))) ∙ interpolated_point n (suc i) m k vs (omega arith) l

pub at_point : (values : List ℕ) (k : ℕ) → k < length values → at values k ≡ slice_index values k
unfolding at
at_point values k l = interpolated_point (length values) 0 k k values (omega arith) l

-- ---- a polynomial is the one through its values
abbrev pub count_from : ℕ → ℕ → List ℕ
count_from i zero = []
count_from i (suc n) = i ∷ count_from (suc i) n

above : (i j n : ℕ) → i < j → AllByRecursion (λ y. y ≢ i) (count_from j n)
above i j zero h = tt
above i j (suc n) h = (λ (e : j ≡ i). absurd (omega arith), above i (suc j) n (omega arith))

distinct_count : (i n : ℕ) → Distinct (count_from i n)
distinct_count i zero = tt
distinct_count i (suc n) = (above i (suc i) n (omega arith), distinct_count (suc i) n)

length-count : (i n : ℕ) → length (count_from i n) ≡ n
length-count i zero = refl
length-count i (suc n) = ap suc (length-count (suc i) n)

each_count : (P : ℕ → Type 0) (i n : ℕ) → ((k : ℕ) → k < i + n → P k) → AllByRecursion P (count_from i n)
each_count P i zero h = tt
each_count P i (suc n) h = (h i (omega arith), each_count P (suc i) n (λ k l. h k (omega arith)))

pub through_values : {f : ℕ → ℕ} (d : ℕ) → Polynomial d f → (values : List ℕ) → length values ≡ suc d → ((k : ℕ) → k < suc d → slice_index values k ≡ f k) → (x : ℕ) → at values x ≡ f x
through_values {f} d p values l h =
    same_polys d (at_poly d values l) p (count_from 0 (suc d)) (distinct_count 0 (suc d))
    (each_count (λ r. at values r ≡ f r) 0 (suc d) (λ k b. at_point values k (omega arith) ∙ h k (omega arith)))
    (let e = length-count 0 (suc d) in omega arith)
