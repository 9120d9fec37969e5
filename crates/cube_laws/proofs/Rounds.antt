-- Counted soundness of a round.
use Rattle.std.proofs.Common.{◌≡◌, ℕ, zero, suc, ◌+◌, ◌≤◌, ◌<◌, List, [], ◌∷◌, ◌++◌, length, slice_index, bit_xor, refl, sym, ◌∙◌, ap, arith, append_assoc, inl, inr, ◌⊎◌, ◌-◌, ◌≢◌, subst, Bool, false, not, eqb, get_or}
use Rattle.std.proofs.lemmas.Bool.{cases_lt, eqb-true, not-false}
use Rattle.std.proofs.lemmas.List.{get_or_default}
use Rattle.std.specs.List.{AllByRecursion}
use Rattle.counting_laws.specs.Counting.{Distinct}
use Rattle.cube_laws.specs.Form.{degree}
use Rattle.poly_laws.specs.Interpolation.{at}
use Rattle.counting_laws.specs.Counting.{AtMost}
use Rattle.cube_laws.specs.SumClaim.{cube_sum, Sum, summand, sum_at, round_at, IsRound}
use Rattle.poly_laws.proofs.Polynomials.{same_polys}
use Rattle.poly_laws.proofs.Interpolating.{at_poly, at_point, through_values}
use Rattle.cube_laws.proofs.Degrees.{round_poly}

pub cube_sum-same : (n : ℕ) (f g : List ℕ → ℕ) → ((x : List ℕ) → f x ≡ g x) → cube_sum n f ≡ cube_sum n g
unfolding cube_sum
cube_sum-same zero f g h = h []
cube_sum-same (suc n) f g h =
    let p = cube_sum-same n (λ x. f (0 ∷ x)) (λ x. g (0 ∷ x)) (λ x. h (0 ∷ x)) in
    let q = cube_sum-same n (λ x. f (1 ∷ x)) (λ x. g (1 ∷ x)) (λ x. h (1 ∷ x)) in cc

-- the sum is that of the round polynomial's values at 0 and 1
pub sum_at-suc : (s : Sum) (prefix : List ℕ) (left : ℕ) → sum_at s prefix (suc left) ≡ bit_xor (round_at s prefix left 0) (round_at s prefix left 1)
unfolding cube_sum
sum_at-suc s prefix left = refl

-- setting the open variable
pub sum_at-bound : (s : Sum) (prefix : List ℕ) (left r : ℕ) → sum_at s (prefix ++ r ∷ []) left ≡ round_at s prefix left r
sum_at-bound s prefix left r = cube_sum-same left _ _ (λ x. ap (summand s) (append_assoc prefix (r ∷ []) x))

-- of a list of numbers with a property no more than n, where more would give a contradiction
pub at_most_by : (n : ℕ) (P : ℕ → Type 0) → ((rs : List ℕ) → Distinct rs → AllByRecursion P rs → n < length rs → ⊥) → AtMost n P
at_most_by n P h rs u e = elim (cases_lt n (length rs)) [ inl l ↦ absurd (h rs u e l) | inr l ↦ l ]

-- a round message that passes and tells the true polynomial was about a true claim
pub round_tells : (s : Sum) (prefix : List ℕ) (left claim : ℕ) (values : List ℕ) → 1 < length values
    → bit_xor (slice_index values 0) (slice_index values 1) ≡ claim → IsRound s prefix left values → sum_at s prefix (suc left) ≡ claim
round_tells s prefix left claim values l e h =
    let a = h 0 in let b = h 1 in let p = at_point values 0 (omega arith) in let q = at_point values 1 l in
    let z = sum_at-suc s prefix left in cc

-- more than d draws after which the claim is true show the message's polynomial to be the round polynomial
pub draws_tell : (s : Sum) (prefix : List ℕ) (left d : ℕ) (values : List ℕ) → degree s.form ≤ d → length values ≡ suc d
    → (rs : List ℕ) → Distinct rs → AllByRecursion (λ r. sum_at s (prefix ++ r ∷ []) left ≡ at values r) rs → d < length rs → IsRound s prefix left values
draws_tell s prefix left d values h l rs u e b =
    same_polys d (at_poly d values l) (round_poly s prefix left d h) rs u (agree rs e) b
  where
    agree : (rs : List ℕ) → AllByRecursion (λ r. sum_at s (prefix ++ r ∷ []) left ≡ at values r) rs → AllByRecursion (λ r. at values r ≡ round_at s prefix left r) rs
    agree [] t = tt
    agree (r ∷ rs) t = (sym t.0 ∙ sum_at-bound s prefix left r, agree rs t.1)

pub draws_counted : (s : Sum) (prefix : List ℕ) (left d : ℕ) (values : List ℕ) → degree s.form ≤ d → length values ≡ suc d
    → ¬ IsRound s prefix left values → AtMost d (λ r. sum_at s (prefix ++ r ∷ []) left ≡ at values r)
draws_counted s prefix left d values h l wrong = at_most_by d _ (λ rs u e b. wrong (draws_tell s prefix left d values h l rs u e b))

-- ---- in the terms of a walk
pub round_tells_at : (s : Sum) (prefix : List ℕ) (left claim : ℕ) (values : List ℕ) → 0 < left → 1 < length values
    → bit_xor (slice_index values 0) (slice_index values 1) ≡ claim → IsRound s prefix (left - 1) values → sum_at s prefix left ≡ claim
round_tells_at s prefix left claim values b l e h =
    let p : suc (left - 1) ≡ left = omega arith in subst (λ n. sum_at s prefix n ≡ claim) p (round_tells s prefix (left - 1) claim values l e h)

pub one_of : (d : ℕ) (values : List ℕ) → values ≢ [] → (values ≡ []) ⊎ (length values ≡ d + 1) → length values ≡ suc d
one_of d values ne (inl e) = absurd (ne e)
one_of d values ne (inr e) = omega arith

pub same_by_test : (a b : ℕ) (t : Bool) → t ≡ not (eqb a b) → t ≡ false → a ≡ b
same_by_test a b t h k = eqb-true a b (not-false (eqb a b) (sym h ∙ k))

pub index_value : (v i : ℕ) (values : List ℕ) → v ≡ get_or values i v → i < length values → v ≡ slice_index values i
index_value v i values h l = h ∙ get_or_default values i v 0 l

-- ---- honest rounds
-- the values of the round polynomial at 0 .. d are a round that tells it, and the other way round
pub round_by_values : (s : Sum) (prefix : List ℕ) (left d : ℕ) (values : List ℕ) → degree s.form ≤ d → length values ≡ suc d
    → ((k : ℕ) → k < suc d → slice_index values k ≡ round_at s prefix left k) → IsRound s prefix left values
round_by_values s prefix left d values h l e = through_values d (round_poly s prefix left d h) values l e

pub values_of_round : (s : Sum) (prefix : List ℕ) (left k : ℕ) (values : List ℕ) → k < length values → IsRound s prefix left values → slice_index values k ≡ round_at s prefix left k
values_of_round s prefix left k values l h = sym (at_point values k l) ∙ h k

-- an honest round of a true claim passes
pub honest_passes : (s : Sum) (prefix : List ℕ) (left claim : ℕ) (values : List ℕ) → 1 < length values → IsRound s prefix left values → sum_at s prefix (suc left) ≡ claim
    → bit_xor (slice_index values 0) (slice_index values 1) ≡ claim
honest_passes s prefix left claim values l h e =
    let a = values_of_round s prefix left 0 values (omega arith) h in let b = values_of_round s prefix left 1 values l h in
    let z = sum_at-suc s prefix left in cc

-- and after any draw its claim is true
pub honest_draw : (s : Sum) (prefix : List ℕ) (left r : ℕ) (values : List ℕ) → IsRound s prefix left values → sum_at s (prefix ++ r ∷ []) left ≡ at values r
honest_draw s prefix left r values h = sum_at-bound s prefix left r ∙ sym (h r)
