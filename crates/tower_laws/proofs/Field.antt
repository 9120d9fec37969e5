-- Identities of the field of all numbers under bit_xor and mul.
use Rattle.std.proofs.Common.{◌≡◌, ℕ, List, [], ◌∷◌, refl, sym, ◌∙◌, ap}
use Rattle.std.specs.Int.Bits.{bit_xor}
use Rattle.tower_laws.specs.Tower.{mul}
use Rattle.tower_laws.proofs.Ring.{Read, Sides, reads, read_times, normal, lookup, same_normal}
use Rattle.tower_laws.proofs.Levels.{field_laws, field_one}

abbrev pub read_mul : (v : List ℕ) (x y : ℕ) → Read mul v x → Read mul v y → Read mul v (mul x y)
read_mul v x y r s = read_times mul v x y r s

pub ruleset field_terms = (read_mul, reads)

-- an identity over the numbers v
pub identity : (v : List ℕ) {x y : ℕ} → (s : Sides mul v x y) → normal s.left.expr ≡ normal s.right.expr → x ≡ y
identity v s e = sym s.left.is ∙ same_normal mul field_laws (lookup v) (λ k. field_one (lookup v k)) s.left.expr s.right.expr e ∙ s.right.is

-- x and y are equal where their difference is c times that of two equal numbers
pub from_one : (c : ℕ) {l r x y : ℕ} → l ≡ r → bit_xor x y ≡ mul c (bit_xor l r) → x ≡ y
from_one c {l} {r} {x} {y} h e =
    let z : mul c (bit_xor l r) ≡ 0 = rw h (identity (c ∷ r ∷ []) (search field_terms depth 60 fits 20000) refl) in
    let p : x ≡ bit_xor (bit_xor x y) y = identity (x ∷ y ∷ []) (search field_terms depth 60 fits 20000) refl in
    p ∙ ap (λ w. bit_xor w y) (e ∙ z)

pub from_two : (c d : ℕ) {l r m n x y : ℕ} → l ≡ r → m ≡ n → bit_xor x y ≡ bit_xor (mul c (bit_xor l r)) (mul d (bit_xor m n)) → x ≡ y
from_two c d {l} {r} {m} {n} {x} {y} h k e =
    let z : bit_xor (mul c (bit_xor l r)) (mul d (bit_xor m n)) ≡ 0 = rw (h, k) (identity (c ∷ r ∷ d ∷ n ∷ []) (search field_terms depth 60 fits 20000) refl) in
    let p : x ≡ bit_xor (bit_xor x y) y = identity (x ∷ y ∷ []) (search field_terms depth 60 fits 20000) refl in
    p ∙ ap (λ w. bit_xor w y) (e ∙ z)
