-- Columns made of numbers of a level.
use Rattle.std.proofs.Common.{◌≡◌, ℕ, suc, ◌+◌, ◌*◌, ◌^◌, ◌<◌, ◌≤◌, List, [], ◌∷◌, get_or, arith}
use Rattle.std.specs.List.{AllByRecursion}
use Rattle.std.proofs.lemmas.Nat.{pow-add, pow_below, pow_pos}
use Rattle.tower_laws.specs.Tower.{mul}
use Rattle.tower_laws.specs.Lists.{AllFit}
use Rattle.tower_laws.proofs.Levels.{mul_lt, size_mono}
use Rattle.tower_laws.proofs.Lists.{xor_fits, get_or_fits}
use Rattle.cube_laws.specs.SumClaim.{row}
use Rattle.batch_laws.proofs.Fits.{all_fit-tabulate}
use Rattle.word_laws.proofs.Fits.{sum_to_fits}
use Rattle.column_laws.specs.Columns.{linear_value, linear, projected, packed}

linear_value_fits : (i k0 : ℕ) (ks vs : List ℕ) → k0 < 2 ^ (2 ^ i) → AllFit i ks → AllFit i vs → linear_value k0 ks vs < 2 ^ (2 ^ i)
linear_value_fits i k0 [] vs h k v = h
linear_value_fits i k0 (k ∷ ks) [] h l v = h
linear_value_fits i k0 (k ∷ ks) (v ∷ vs) h l m = xor_fits i (mul k v) (linear_value k0 ks vs) (mul_lt i k v l.0 m.0) (linear_value_fits i k0 ks vs h l.1 m.1)

row_fits : (i p : ℕ) (cs : List (List ℕ)) → AllByRecursion (AllFit i) cs → AllFit i (row cs p)
row_fits i p [] h = tt
row_fits i p (c ∷ cs) h = (get_or_fits i p c h.0, row_fits i p cs h.1)

pub linear_fits : (i n k0 : ℕ) (ks : List ℕ) (cs : List (List ℕ)) → k0 < 2 ^ (2 ^ i) → AllFit i ks → AllByRecursion (AllFit i) cs → AllFit i (linear n k0 ks cs)
linear_fits i n k0 ks cs h k c = all_fit-tabulate i n (λ p. linear_value k0 ks (row cs p)) (λ p. linear_value_fits i k0 ks (row cs p) h k (row_fits i p cs c))

pub projected_fits : (i k j n : ℕ) (column : List ℕ) → AllFit i column → AllFit i (projected k j n column)
projected_fits i k j n column h = all_fit-tabulate i n (λ x. get_or column (x * 2 ^ k + j) 0) (λ x. get_or_fits i (x * 2 ^ k + j) column h)

-- place u of 2 ^ k lies below the size of level i + k
place_fits : (i k u : ℕ) → u < 2 ^ k → 2 ^ (u * 2 ^ i) < 2 ^ (2 ^ (i + k))
place_fits i k u h =
    let p : 2 ^ (i + k) ≡ 2 ^ i * 2 ^ k = pow-add 2 i k in
    let a : suc u * 2 ^ i ≤ 2 ^ k * 2 ^ i = more (suc u) (2 ^ k) (2 ^ i) h in
    let b : suc u * 2 ^ i ≡ u * 2 ^ i + 2 ^ i = grind arith in
    let c : 2 ^ k * 2 ^ i ≡ 2 ^ i * 2 ^ k = grind arith in
    let z = pow_pos i in
    pow_below (u * 2 ^ i) (2 ^ (i + k)) (omega arith)
  where
    more : (m n c : ℕ) → m ≤ n → m * c ≤ n * c
    more m n c l = grind arith

pub packed_fits : (i k n : ℕ) (column : List ℕ) → AllFit i column → AllFit (i + k) (packed i k n column)
packed_fits i k n column h =
    all_fit-tabulate (i + k) n _
    (λ x. sum_to_fits (i + k) (2 ^ k) (λ u. mul (2 ^ (u * 2 ^ i)) (get_or column (x * 2 ^ k + u) 0))
    (λ u l. mul_lt (i + k) (2 ^ (u * 2 ^ i)) (get_or column (x * 2 ^ k + u) 0) (place_fits i k u l) (size_mono i (i + k) (get_or column (x * 2 ^ k + u) 0) (omega arith) (get_or_fits i (x * 2 ^ k + u) column h))))
