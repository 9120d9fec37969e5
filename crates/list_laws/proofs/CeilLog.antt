-- The least exponent, and what the search for it finds.
use Rattle.std.proofs.Common.{◌≡◌, ℕ, zero, suc, ◌+◌, ◌-◌, ◌*◌, ◌^◌, ◌<◌, ◌≤◌, leb, true, false, refl, ◌∙◌, subst, inl, inr, arith}
use Rattle.std.proofs.Math.Nat.{pow-le-pow_right, pow-suc, mul_comm}
use Rattle.std.proofs.lemmas.Nat.{pow_pos, pow-add}
use Rattle.std.proofs.lemmas.Bool.{leb-true, leb-false, cases_lt}
use Rattle.list_laws.specs.CeilLog.{ceil_log_from, ceil_log}

pub record IsLeast (e x l : ℕ) : Type 0 where
  pub enough : x ≤ 2 ^ l
  pub least : (d : ℕ) → e ≤ d → d < l → 2 ^ d < x

later : (e x l : ℕ) → 2 ^ e < x → IsLeast (suc e) x l → IsLeast e x l
later e x l h r = record {
  enough = r.enough;
  least = λ d p q. elim (cases_lt e d) [
    | inl lt ↦ r.least d (omega arith) q
    | inr le ↦ let P : ℕ → Type 0 = λ n. 2 ^ n < x in let same : e ≡ d = omega arith in subst P same h
  ];
}

found_from : (d e x : ℕ) → x ≤ 2 ^ (e + d) → IsLeast e x (ceil_log_from d e x)
unfolding ceil_log_from
found_from zero e x h =
    let P : ℕ → Type 0 = λ n. x ≤ 2 ^ n in
    let same : e + 0 ≡ e = omega arith in
    record { enough = subst P same h; least = λ d p q. absurd (omega arith) }
found_from (suc d) e x h =
    let P : ℕ → Type 0 = λ n. x ≤ 2 ^ n in
    let same : e + suc d ≡ suc e + d = omega arith in
    let rest = found_from d (suc e) x (subst P same h) in
    elim (leb x (2 ^ e)) as (λ b. leb x (2 ^ e) ≡ b → IsLeast e x (elim b [ true ↦ e | false ↦ ceil_log_from d (suc e) x ])) [
      | true ↦ λ t. record { enough = leb-true x (2 ^ e) t; least = λ k p q. absurd (omega arith) }
      | false ↦ λ t. later e x (ceil_log_from d (suc e) x) (leb-false x (2 ^ e) t) rest
    ] refl

below_power : (x : ℕ) → x ≤ 2 ^ x
below_power zero = omega arith
below_power (suc x) = let h = below_power x in omega (arith, h, pow-suc 2 x, pow_pos x)

pub is_least : (x : ℕ) → IsLeast 0 x (ceil_log x)
unfolding ceil_log
is_least x =
    let P : ℕ → Type 0 = λ n. x ≤ 2 ^ n in
    let same : x ≡ 0 + x = omega arith in
    found_from x 0 x (subst P same (below_power x))

-- what has both properties is the one that is found
pub found : (x e : ℕ) → x ≤ 2 ^ e → ((d : ℕ) → d < e → 2 ^ d < x) → e ≡ ceil_log x
found x e enough least =
    let r = is_least x in
    elim (cases_lt e (ceil_log x)) [
      | inl lt ↦ absurd (omega (arith, r.least e (omega arith) lt))
      | inr le ↦ elim (cases_lt (ceil_log x) e) [
        | inl lt ↦ absurd (omega (arith, least (ceil_log x) lt, r.enough))
        | inr ge ↦ omega arith
      ]
    ]

pub at_most : (x e : ℕ) → x ≤ 2 ^ e → ceil_log x ≤ e
at_most x e h =
    elim (cases_lt e (ceil_log x)) [
      | inl lt ↦ absurd (omega (arith, (is_least x).least e (omega arith) lt))
      | inr le ↦ le
    ]

-- as a logarithm rounded down gives it
pub from_floor : (x l : ℕ) → 1 < x → 2 ^ l ≤ x - 1 → x - 1 < 2 * 2 ^ l → l + 1 ≡ ceil_log x
from_floor x l big low high =
    let k : 2 ^ (l + 1) ≡ 2 * 2 ^ l = pow-add 2 l 1 ∙ mul_comm (2 ^ l) 2 in
    found x (l + 1) (omega arith) (λ d lt. omega (arith, pow-le-pow_right {n = 2} (omega arith) {i = d} {j = l} (omega arith)))

pub from_one : (x : ℕ) → x ≤ 1 → 0 ≡ ceil_log x
from_one x h = found x 0 (omega arith) (λ d lt. absurd (omega arith))
