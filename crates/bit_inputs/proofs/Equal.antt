-- Lists that are the same, number by number.
use Rattle.std.proofs.Common.{◌≡◌, ℕ, zero, suc, ◌+◌, ◌<◌, ◌≤◌, List, [], ◌∷◌, length, take, slice_index, refl, sym, ap, ◌∙◌, arith}

next : (i : ℕ) (xs ys : List ℕ) → i < length xs → i < length ys → take i xs ≡ take i ys → slice_index xs i ≡ slice_index ys i → take (suc i) xs ≡ take (suc i) ys
next i [] ys l m e h = absurd (omega arith)
next i (x ∷ xs) [] l m e h = absurd (omega arith)
next zero (x ∷ xs) (y ∷ ys) l m e h = ap (λ a. a ∷ []) h
next (suc i) (x ∷ xs) (y ∷ ys) l m e h =
    let first : x ≡ y = cc in
    let rest : take i xs ≡ take i ys = cc in
    (λ t. first t ∷ next i xs ys (omega arith) (omega arith) rest h t)

pub next_taken : (i : ℕ) (xs ys : List ℕ) → i < length xs → i < length ys → take i xs ≡ take i ys → slice_index xs i ≡ slice_index ys i → take (i + 1) xs ≡ take (i + 1) ys
next_taken i xs ys l m e h =
    let one : i + 1 ≡ suc i = omega arith in
    ap (λ k. take k xs) one ∙ next i xs ys l m e h ∙ ap (λ k. take k ys) (sym one)

pub all_taken : (i : ℕ) (xs ys : List ℕ) → length xs ≤ i → length xs ≡ length ys → take i xs ≡ take i ys → xs ≡ ys
all_taken i [] [] l m e = refl
all_taken i [] (y ∷ ys) l m e = absurd (omega arith)
all_taken i (x ∷ xs) [] l m e = absurd (omega arith)
all_taken zero (x ∷ xs) (y ∷ ys) l m e = absurd (omega arith)
all_taken (suc i) (x ∷ xs) (y ∷ ys) l m e =
    let first : x ≡ y = cc in
    let rest : take i xs ≡ take i ys = cc in
    (λ t. first t ∷ all_taken i xs ys (omega arith) (omega arith) rest t)
