-- The least level that holds a number, by what is below it and what isn't.
use Rattle.std.proofs.Common.{◌≡◌, ℕ, zero, suc, ◌^◌, ◌<◌, ◌≤◌, ltb, true, false, refl, subst, inl, inr, arith}
use Rattle.std.proofs.lemmas.Bool.{ltb-false, cases_lt}
use Rattle.std.proofs.Math.Nat.{pow-le-pow_right}
use Rattle.tower_laws.specs.Tower.{level_from, level}
use Rattle.tower_laws.proofs.Levels.{level_lt}

size_mono : (i j : ℕ) → i ≤ j → 2 ^ (2 ^ i) ≤ 2 ^ (2 ^ j)
size_mono i j h = pow-le-pow_right {n = 2} (omega arith) {i = 2 ^ i} {j = 2 ^ j} (pow-le-pow_right {n = 2} (omega arith) {i = i} {j = j} h)

-- each level from e on and below the one that is found doesn't hold n
from_least : (d e n j : ℕ) → e ≤ j → j < level_from d e n → 2 ^ (2 ^ j) ≤ n
unfolding level_from
from_least zero e n j h k = absurd (omega arith)
from_least (suc d) e n j h k =
    elim (ltb n (2 ^ (2 ^ e))) as (λ b. ltb n (2 ^ (2 ^ e)) ≡ b → j < elim b as (λ _. ℕ) [ true ↦ e | false ↦ level_from d (suc e) n ] → 2 ^ (2 ^ j) ≤ n) [
      | true ↦ λ t l. absurd (omega arith)
      | false ↦ λ t l. elim (cases_lt e j) [
        | inl lt ↦ from_least d (suc e) n j (omega arith) l
        | inr le ↦ let same : e ≡ j = omega arith in let P : ℕ → Type 0 = λ i. 2 ^ (2 ^ i) ≤ n in subst P same (ltb-false n (2 ^ (2 ^ e)) t)
      ]
    ] refl k

pub level_is_least : (n j : ℕ) → j < level n → 2 ^ (2 ^ j) ≤ n
unfolding level
level_is_least n j h = from_least n 0 n j (omega arith) h

-- the level that holds n where none below does
at_least : (n i : ℕ) → ((j : ℕ) → j < i → 2 ^ (2 ^ j) ≤ n) → i ≤ level n
at_least n i below =
    elim (cases_lt (level n) i) [
      | inl lt ↦ absurd (omega (arith, below (level n) lt, level_lt n))
      | inr le ↦ le
    ]

at_most : (n i : ℕ) → n < 2 ^ (2 ^ i) → level n ≤ i
at_most n i h =
    elim (cases_lt i (level n)) [
      | inl lt ↦ absurd (omega (arith, level_is_least n i lt))
      | inr le ↦ le
    ]

pub level_bound : (n : ℕ) → n < 2 ^ 128 → level n ≤ 7
level_bound n h = at_most n 7 h

pub level_is_0 : (n : ℕ) → n < 2 → level n ≡ 0
level_is_0 n h = let e = at_most n 0 h in omega arith

-- level i + 1 holds n, and level i doesn't
pub level_is_suc : (n i : ℕ) → 2 ^ (2 ^ i) ≤ n → n < 2 ^ (2 ^ suc i) → level n ≡ suc i
level_is_suc n i low high =
    let l = at_least n (suc i) (λ j h. omega (arith, size_mono j i (omega arith))) in
    let m = at_most n (suc i) high in
    omega arith
