-- The degree of a polynomial, and that it has at most as many roots.
use Rattle.std.proofs.Common.{◌≡◌, ◌≢◌, ℕ, zero, suc, ◌≤◌, ◌<◌, ◌⊎◌, inl, inr, List, [], ◌∷◌, length, slice_index, bit_xor, refl, sym, ◌∙◌, ap, arith}
use Rattle.std.specs.List.{AllByRecursion}
use Rattle.tower_laws.specs.Tower.{mul}
use Rattle.counting_laws.specs.Counting.{AtMost}
use Rattle.counting_laws.proofs.Bounds.{at_most_from, at_most_weaker}
use Rattle.poly_laws.specs.Polynomial.{horner}
use Rattle.poly_laws.proofs.RootBound.{horner_zero, zero_by_roots}
use Rattle.poly_forms.specs.Roots.{IsDegree, IsNonzero}

-- the coefficients up to that at d
abbrev leading : ℕ → List ℕ → List ℕ
leading d [] = []
leading zero (c ∷ cs) = c ∷ []
leading (suc d) (c ∷ cs) = c ∷ leading d cs

length-leading : (d : ℕ) (cs : List ℕ) → length (leading d cs) ≤ suc d
length-leading d [] = omega arith
length-leading zero (c ∷ cs) = omega arith
length-leading (suc d) (c ∷ cs) = let h = length-leading d cs in omega arith

all_zero : (cs : List ℕ) → ((k : ℕ) → slice_index cs k ≡ 0) → AllByRecursion (λ c. c ≡ 0) cs
all_zero [] h = tt
all_zero (c ∷ cs) h = (h 0, all_zero cs (λ k. h (suc k)))

each_zero : (cs : List ℕ) → AllByRecursion (λ c. c ≡ 0) cs → (k : ℕ) → slice_index cs k ≡ 0
each_zero [] h k = refl
each_zero (c ∷ cs) h zero = h.0
each_zero (c ∷ cs) h (suc k) = each_zero cs h.1 k

-- the degree of all coefficients but the lowest
lower : (c : ℕ) (cs : List ℕ) (d : ℕ) → IsDegree (c ∷ cs) (suc d) → IsDegree cs d
lower c cs d h = (h.0, λ k l. h.1 (suc k) (omega arith))

horner-leading : (d : ℕ) (cs : List ℕ) (x : ℕ) → IsDegree cs d → horner (leading d cs) x ≡ horner cs x
horner-leading d [] x h = refl
horner-leading zero (c ∷ cs) x h =
    let z : 0 ≡ horner cs x = sym (horner_zero cs x (all_zero cs (λ k. h.1 (suc k) (omega arith)))) in
    ap (λ w. bit_xor c (mul x w)) z
horner-leading (suc d) (c ∷ cs) x h = ap (λ w. bit_xor c (mul x w)) (horner-leading d cs x (lower c cs d h))

leading_nonzero : (d : ℕ) (cs : List ℕ) → IsDegree cs d → IsNonzero (leading d cs)
leading_nonzero d [] h z = h.0 refl
leading_nonzero zero (c ∷ cs) h z = h.0 z.0
leading_nonzero (suc d) (c ∷ cs) h z = leading_nonzero d cs (lower c cs d h) z.1

-- a polynomial of degree d has at most d roots
pub roots_by_degree : (cs : List ℕ) (d : ℕ) → IsDegree cs d → AtMost d (λ x. horner cs x ≡ 0)
roots_by_degree cs d h =
    at_most_weaker (λ x. horner cs x ≡ 0) (λ x. horner (leading d cs) x ≡ 0) d d (λ x e. horner-leading d cs x h ∙ e) (omega arith)
    (at_most_from (λ x. horner (leading d cs) x ≡ 0) d (λ xs apart roots more.
    leading_nonzero d cs h (zero_by_roots xs (leading d cs) apart roots (let e = length-leading d cs in omega arith))))

higher : (c : ℕ) (cs : List ℕ) (d : ℕ) → IsDegree cs d → IsDegree (c ∷ cs) (suc d)
higher c cs d h = (h.0, go)
  where
    go : (k : ℕ) → suc d < k → slice_index (c ∷ cs) k ≡ 0
    go zero l = absurd (omega arith)
    go (suc k) l = h.1 k (omega arith)

only_lowest : (n : ℕ) (cs : List ℕ) → AllByRecursion (λ c. c ≡ 0) cs → IsDegree (suc n ∷ cs) 0
only_lowest n cs z = ((λ e. absurd (omega arith)), go)
  where
    go : (k : ℕ) → 0 < k → slice_index (suc n ∷ cs) k ≡ 0
    go zero l = absurd (omega arith)
    go (suc k) l = each_zero cs z k

zero_or_degree : (cs : List ℕ) → AllByRecursion (λ c. c ≡ 0) cs ⊎ ((d : ℕ) × IsDegree cs d)
zero_or_degree [] = inl tt
zero_or_degree (c ∷ cs) = go c (zero_or_degree cs)
  where
    go : (c : ℕ) → AllByRecursion (λ c. c ≡ 0) cs ⊎ ((d : ℕ) × IsDegree cs d) → AllByRecursion (λ c. c ≡ 0) (c ∷ cs) ⊎ ((d : ℕ) × IsDegree (c ∷ cs) d)
    go c (inr h) = inr (suc h.0, higher c cs h.0 h.1)
    go zero (inl z) = inl (refl, z)
    go (suc n) (inl z) = inr (0, only_lowest n cs z)

pub has_degree : (cs : List ℕ) → IsNonzero cs → (d : ℕ) × IsDegree cs d
has_degree cs h = go (zero_or_degree cs)
  where
    go : AllByRecursion (λ c. c ≡ 0) cs ⊎ ((d : ℕ) × IsDegree cs d) → (d : ℕ) × IsDegree cs d
    go (inl z) = absurd (h z)
    go (inr d) = d

within : (d : ℕ) (cs : List ℕ) → slice_index cs d ≢ 0 → d < length cs
within d [] h = absurd (h refl)
within zero (c ∷ cs) h = omega arith
within (suc d) (c ∷ cs) h = let l = within d cs h in omega arith

-- the degree is below the number of coefficients
pub degree_below : (cs : List ℕ) (d : ℕ) → IsDegree cs d → d < length cs
degree_below cs d h = within d cs h.0
