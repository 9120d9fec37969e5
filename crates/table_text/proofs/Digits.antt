-- A number grows with each digit.
use Rattle.std.proofs.Common.{◌≡◌, ℕ, ◌+◌, ◌*◌, ◌≤◌, ◌<◌, List, [], ◌∷◌, length, drop, get_or, sym, ◌∙◌, ap, arith, drop-cons, add-one}
use Rattle.std.specs.Prelude.{fold, nat_lt, if◌then◌else◌, Option, Some, None}
use Rattle.std.proofs.Math.Nat.{mul-le-mul_left}
use Rattle.std.proofs.lemmas.Grind.{common_steps}
use Rattle.std.proofs.lemmas.List.{drop_all}
use Rattle.table_text.specs.Bytes.{digit_value}

abbrev pub number_on : ℕ → ℕ → List ℕ → ℕ
number_on base n digits = fold (λ n b. n * base + digit_value b) n digits

-- the number of digits, if it is below a bound
abbrev pub below : ℕ → ℕ → Option ℕ
below bound n = if nat_lt n bound then Some n else None

grows : (base n d : ℕ) → 1 ≤ base → n ≤ n * base + d
grows base n d h = omega (arith, mul-le-mul_left n h)

pub number_on-grows : (base n : ℕ) (digits : List ℕ) → 1 ≤ base → n ≤ number_on base n digits
number_on-grows base n [] h = omega arith
number_on-grows base n (d ∷ ds) h = let g : n ≤ n * base + digit_value d = grows base n (digit_value d) h in let r : n * base + digit_value d ≤ number_on base (n * base + digit_value d) ds = number_on-grows base (n * base + digit_value d) ds h in omega arith

pub below-none : (bound n : ℕ) → bound ≤ n → None ≡ below bound n
below-none bound n h = grind (arith, common_steps)

pub below-some : (bound n : ℕ) → n < bound → Some n ≡ below bound n
below-some bound n h = grind (arith, common_steps)

-- the digit that makes a number too wide
pub too_wide : (bound base n i all : ℕ) (digits : List ℕ) → 1 ≤ base → i < length digits → number_on base n (drop i digits) ≡ all → ((n * base + digit_value (get_or digits i 0) < bound) → ⊥) → None ≡ below bound all
too_wide bound base n i all digits h within made wide =
    let step : number_on base n (drop i digits) ≡ number_on base (n * base + digit_value (get_or digits i 0)) (drop (i + 1) digits) = ap (number_on base n) (drop-cons digits i 0 within) ∙ ap (λ k. number_on base (n * base + digit_value (get_or digits i 0)) (drop k digits)) (sym (add-one i)) in
    let above : n * base + digit_value (get_or digits i 0) ≤ number_on base (n * base + digit_value (get_or digits i 0)) (drop (i + 1) digits) = number_on-grows base (n * base + digit_value (get_or digits i 0)) (drop (i + 1) digits) h in
    let whole : number_on base (n * base + digit_value (get_or digits i 0)) (drop (i + 1) digits) ≡ all = sym step ∙ made in
    below-none bound all (omega arith)

pub finished : (bound base n i all : ℕ) (digits : List ℕ) → length digits ≤ i → number_on base n (drop i digits) ≡ all → n < bound → Some n ≡ below bound all
finished bound base n i all digits end made h =
    let e : n ≡ all = sym (ap (number_on base n) (drop_all i digits end)) ∙ made in
    ap Some e ∙ below-some bound all (omega arith)
