-- A polynomial that is not 0 has fewer roots than coefficients.
use Rattle.std.proofs.Common.{◌≡◌, ◌≢◌, ℕ, ◌≤◌, List, [], ◌∷◌, length, bit_xor, refl, sym, ◌∙◌, arith}
use Rattle.tower_laws.specs.Tower.{mul}
use Rattle.poly_laws.specs.Polynomial.{horner}
use Rattle.std.specs.List.{AllByRecursion}
use Rattle.counting_laws.specs.Counting.{Distinct}
use Rattle.tower_laws.proofs.Field.{identity, from_one, from_two, field_terms}
use Rattle.tower_laws.proofs.Inverses.{zero_product}

abbrev pub quotient : ℕ → List ℕ → List ℕ
quotient r [] = []
quotient r (c ∷ cs) = horner (c ∷ cs) r ∷ quotient r cs

quotient_step : (x r c hx hr q : ℕ) → bit_xor (mul x hx) (mul r hr) ≡ mul (bit_xor x r) q
    → bit_xor (mul x (bit_xor c (mul x hx))) (mul r (bit_xor c (mul r hr))) ≡ mul (bit_xor x r) (bit_xor (bit_xor c (mul r hr)) (mul x q))
quotient_step x r c hx hr q h = from_one x h (identity (x ∷ r ∷ c ∷ hx ∷ hr ∷ q ∷ []) (search field_terms depth 60 fits 20000) refl)

divided : (x r : ℕ) (cs : List ℕ) → bit_xor (mul x (horner cs x)) (mul r (horner cs r)) ≡ mul (bit_xor x r) (horner (quotient r cs) x)
divided x r [] = identity (x ∷ r ∷ []) (search field_terms depth 60 fits 20000) refl
divided x r (c ∷ cs) = quotient_step x r c (horner cs x) (horner cs r) (horner (quotient r cs) x) (divided x r cs)

length-quotient : (r : ℕ) (cs : List ℕ) → length (quotient r cs) ≡ length cs
length-quotient r [] = refl
length-quotient r (c ∷ cs) = let h = length-quotient r cs in omega arith

pub horner_zero : (cs : List ℕ) (x : ℕ) → AllByRecursion (λ c. c ≡ 0) cs → horner cs x ≡ 0
horner_zero [] x h = refl
horner_zero (c ∷ cs) x h = rw (h.0, horner_zero cs x h.1) (identity (x ∷ []) (search field_terms depth 60 fits 20000) refl)

last_zero : (c r h : ℕ) → bit_xor c (mul r h) ≡ 0 → h ≡ 0 → c ≡ 0
last_zero c r h p q = from_two 1 r p q (identity (c ∷ r ∷ h ∷ []) (search field_terms depth 60 fits 20000) refl)

zero_quotient : (r : ℕ) (cs : List ℕ) → AllByRecursion (λ c. c ≡ 0) (quotient r cs) → AllByRecursion (λ c. c ≡ 0) cs
zero_quotient r [] h = tt
zero_quotient r (c ∷ cs) h = let t = zero_quotient r cs h.1 in (last_zero c r (horner cs r) h.0 (horner_zero cs r t), t)

other_root : (x r c hx hr q : ℕ) → bit_xor (mul x hx) (mul r hr) ≡ mul (bit_xor x r) q → bit_xor c (mul x hx) ≡ 0 → bit_xor c (mul r hr) ≡ 0 → mul (bit_xor x r) q ≡ 0
other_root x r c hx hr q e p s = sym e ∙ from_two 1 1 p s (identity (x ∷ r ∷ c ∷ hx ∷ hr ∷ []) (search field_terms depth 60 fits 20000) refl)

differ : (x r : ℕ) → x ≢ r → bit_xor x r ≢ 0
differ x r ne e = ne (from_one 1 e (identity (x ∷ r ∷ []) (search field_terms depth 60 fits 20000) refl))

rest_roots : (c r : ℕ) (cs rs : List ℕ) → horner (c ∷ cs) r ≡ 0 → AllByRecursion (λ y. y ≢ r) rs → AllByRecursion (λ x. horner (c ∷ cs) x ≡ 0) rs → AllByRecursion (λ x. horner (quotient r cs) x ≡ 0) rs
rest_roots c r cs [] e d h = tt
rest_roots c r cs (x ∷ rs) e d h = (
  zero_product (bit_xor x r) (horner (quotient r cs) x) (other_root x r c (horner cs x) (horner cs r) (horner (quotient r cs) x) (divided x r cs) h.0 e) (differ x r d.0),
  rest_roots c r cs rs e d.1 h.1,
)

-- a polynomial with as many distinct roots as coefficients is 0
pub zero_by_roots : (rs cs : List ℕ) → Distinct rs → AllByRecursion (λ x. horner cs x ≡ 0) rs → length cs ≤ length rs → AllByRecursion (λ c. c ≡ 0) cs
zero_by_roots rs [] d h le = tt
zero_by_roots [] (c ∷ cs) d h le = absurd (omega arith)
zero_by_roots (r ∷ rs) (c ∷ cs) d h le =
    let q = zero_by_roots rs (quotient r cs) d.1 (rest_roots c r cs rs h.0 d.0 h.1) (let e = length-quotient r cs in omega arith) in
    let t = zero_quotient r cs q in
    (last_zero c r (horner cs r) h.0 (horner_zero cs r t), t)
