-- Steps of the code of rounds.
use Rattle.std.proofs.Common.{◌≡◌, ℕ, zero, suc, ◌-◌, ◌<◌, List, [], ◌∷◌, ◌++◌, length, refl, sym, ◌∙◌, ap, arith}
use Rattle.poly_laws.specs.Interpolation.{at}
use Rattle.sumcheck.specs.Rounds.{round_claim, rounds_of, rounds_message, rounds_draw, RoundIsDue, DrawIsDue}

-- what is known where a round is due
pub record Open (m d n : ℕ) (p : List ℕ) : Type 0 where
  pub none : p ≡ []
  pub more : 0 < n
  pub whole : m ≡ suc d

pub open_where_due : (m d n : ℕ) (z : List ℕ) (c : ℕ) (p : List ℕ) → RoundIsDue m (rounds_of d n z c p) → Open m d n p
open_where_due m d zero z c [] h = absurd h
open_where_due m d (suc n) z c [] h = record { none = refl; more = omega arith; whole = h }
open_where_due m d n z c (p ∷ ps) h = absurd h

pub round_step : (d n l : ℕ) (z : List ℕ) (c : ℕ) (p v : List ℕ) → Open (length v) d n p → l ≡ n - 1 → rounds_of d l z c (p ++ v) ≡ rounds_message (rounds_of d n z c p) v
round_step d zero l z c p v h e = let m = h.more in absurd (omega arith)
round_step d (suc n) l z c p [] h e = let w = h.whole in absurd (omega arith)
round_step d (suc n) l z c p (x ∷ v) h e =
    let q : l ≡ n = omega arith in
    ap (λ p. rounds_of d l z c (p ++ x ∷ v)) h.none ∙ ap (λ l. round_claim d l z (x ∷ v)) q ∙ ap (λ p. rounds_message (rounds_of d (suc n) z c p) (x ∷ v)) (sym h.none)

pub draw_step : (d n : ℕ) (z : List ℕ) (c : ℕ) (p : List ℕ) (r : ℕ) → DrawIsDue (rounds_of d n z c p) → rounds_of d n (z ++ r ∷ []) (at p r) [] ≡ rounds_draw (rounds_of d n z c p) r
draw_step d n z c [] r h = absurd h
draw_step d n z c (p ∷ ps) r h = refl
