-- Steps through blocks of positions.
use Rattle.std.proofs.Common.{◌≡◌, ℕ, ◌+◌, ◌-◌, ◌*◌, ◌^◌, ◌<◌, ◌≤◌, ◌⊎◌, inl, inr, List, [], ◌∷◌, get_or, sym, ◌∙◌, subst, arith}
use Rattle.std.proofs.lemmas.Bool.{cases_lt}
use Rattle.m3_judge.specs.Blocks.{HasNumbers}

-- a block with these numbers, all of which are 0
pub all_zero : {E : Type 0} (number : E → ℕ) (block : List E) (of : ℕ → ℕ) → HasNumbers number block of → ((i : ℕ) (d : E) → i < 16 → number (get_or block i d) ≡ 0) → (i : ℕ) → i < 16 → of i ≡ 0
all_zero number [] of has zero i below = absurd (omega (arith, has.0))
all_zero number (d ∷ block) of has zero i below = sym (has.1 i d below) ∙ zero i d below

-- what is 0 on the first blocks, and on the next one
pub blocks_more : (f : ℕ → ℕ) (first k : ℕ) → ((p : ℕ) → p < 16 * k → f (first + p) ≡ 0) → ((i : ℕ) → i < 16 → f (first + k * 16 + i) ≡ 0) → (p : ℕ) → p < 16 * (k + 1) → f (first + p) ≡ 0
blocks_more f first k before here p below = go (cases_lt p (16 * k))
  where
    go : (p < 16 * k) ⊎ (16 * k ≤ p) → f (first + p) ≡ 0
    go (inl earlier) = before p earlier
    go (inr later) =
        let e : first + k * 16 + (p - 16 * k) ≡ first + p = omega arith in
        subst (λ n. f n ≡ 0) e (here (p - 16 * k) (omega arith))

-- blocks of 16 positions, as many as a row has indices, are 16 rows
pub rows_done : (f : ℕ → ℕ) (row log count first k r index : ℕ) → count ≡ 2 ^ log → first ≡ row * count → count ≤ k → ((p : ℕ) → p < 16 * k → f (first + p) ≡ 0)
    → row ≤ r → r < row + 16 → index < 2 ^ log → f (r * 2 ^ log + index) ≡ 0
rows_done f row log count first k r index ec ef past zero from before at =
    let s : ℕ = r - row in
    let p : ℕ = s * count + index in
    let size : s * count + count ≤ 16 * count = one_below s 16 count (omega arith) in
    let place : row * count + s * count ≡ r * count = joined row s count r (omega arith) in
    let here : first + p ≡ r * 2 ^ log + index = (let e : first + p ≡ r * count + index = omega arith in e) ∙ (λ t. r * ec t + index) in
    subst (λ n. f n ≡ 0) here (zero p (omega arith))
  where
    more : (a b c : ℕ) → a ≤ b → a * c ≤ b * c
    more a b c h = grind arith

    one_below : (a b c : ℕ) → a < b → a * c + c ≤ b * c
    one_below a b c h = let g = more (a + 1) b c (omega arith) in let s : (a + 1) * c ≡ a * c + c = grind arith in omega arith

    joined : (a b c r : ℕ) → a + b ≡ r → a * c + b * c ≡ r * c
    joined a b c r e = let g : a * c + b * c ≡ (a + b) * c = grind arith in subst (λ r. a * c + b * c ≡ r * c) e g
