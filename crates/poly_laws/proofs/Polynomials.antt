-- Functions that are polynomials of a degree.
use Rattle.std.proofs.Common.{◌≡◌, ℕ, zero, suc, ◌+◌, ◌≤◌, ◌<◌, List, [], ◌∷◌, length, bit_xor, refl, sym, ◌∙◌, ap, arith}
use Rattle.tower_laws.specs.Tower.{mul}
use Rattle.tower_laws.specs.Lists.{sums}
use Rattle.poly_laws.specs.Polynomial.{horner, Polynomial}
use Rattle.std.specs.List.{AllByRecursion}
use Rattle.counting_laws.specs.Counting.{Distinct}
use Rattle.tower_laws.proofs.Rules.{equal_from, zero_from}
use Rattle.tower_laws.proofs.Field.{identity, from_one, from_two, field_terms}
use Rattle.poly_laws.proofs.RootBound.{zero_by_roots, horner_zero}

abbrev pub add_lists : List ℕ → List ℕ → List ℕ
add_lists xs ys = sums xs ys

abbrev pub scale_list : ℕ → List ℕ → List ℕ
scale_list a [] = []
scale_list a (x ∷ xs) = mul a x ∷ scale_list a xs

abbrev pub mul_lists : List ℕ → List ℕ → List ℕ
mul_lists [] ys = []
mul_lists (x ∷ xs) ys = add_lists (scale_list x ys) (0 ∷ mul_lists xs ys)

add_step : (a b x p q r : ℕ) → r ≡ bit_xor p q → bit_xor (bit_xor a b) (mul x r) ≡ bit_xor (bit_xor a (mul x p)) (bit_xor b (mul x q))
add_step a b x p q r h = from_one x h (identity (a ∷ b ∷ x ∷ p ∷ q ∷ r ∷ []) (search field_terms depth 60 fits 20000) refl)

zero_left : (a : ℕ) → a ≡ bit_xor 0 a
zero_left a = identity (a ∷ []) (search field_terms depth 60 fits 20000) refl

zero_right : (a : ℕ) → a ≡ bit_xor a 0
zero_right a = identity (a ∷ []) (search field_terms depth 60 fits 20000) refl

pub horner-add : (xs ys : List ℕ) (x : ℕ) → horner (add_lists xs ys) x ≡ bit_xor (horner xs x) (horner ys x)
horner-add [] ys x = zero_left (horner ys x)
horner-add (a ∷ xs) [] x = zero_right (horner (a ∷ xs) x)
horner-add (a ∷ xs) (b ∷ ys) x = add_step a b x (horner xs x) (horner ys x) _ (horner-add xs ys x)

scale_step : (a c x p r : ℕ) → r ≡ mul a p → bit_xor (mul a c) (mul x r) ≡ mul a (bit_xor c (mul x p))
scale_step a c x p r h = from_one x h (identity (a ∷ c ∷ x ∷ p ∷ r ∷ []) (search field_terms depth 60 fits 20000) refl)

scale_none : (a : ℕ) → 0 ≡ mul a 0
scale_none a = identity (a ∷ []) (search field_terms depth 60 fits 20000) refl

pub horner-scale : (a : ℕ) (xs : List ℕ) (x : ℕ) → horner (scale_list a xs) x ≡ mul a (horner xs x)
horner-scale a [] x = scale_none a
horner-scale a (c ∷ xs) x = scale_step a c x (horner xs x) _ (horner-scale a xs x)

mul_none : (a : ℕ) → 0 ≡ mul 0 a
mul_none a = identity (a ∷ []) (search field_terms depth 60 fits 20000) refl

mul_step : (a x p q l s t : ℕ) → s ≡ mul a q → t ≡ mul p q → l ≡ bit_xor s (bit_xor 0 (mul x t)) → l ≡ mul (bit_xor a (mul x p)) q
mul_step a x p q l s t h k e = e ∙ from_two 1 x h k (identity (a ∷ x ∷ p ∷ q ∷ s ∷ t ∷ []) (search field_terms depth 60 fits 20000) refl)

pub horner-mul : (xs ys : List ℕ) (x : ℕ) → horner (mul_lists xs ys) x ≡ mul (horner xs x) (horner ys x)
horner-mul [] ys x = mul_none (horner ys x)
horner-mul (a ∷ xs) ys x = mul_step a x (horner xs x) (horner ys x) _ _ _ (horner-scale a ys x) (horner-mul xs ys x) (horner-add (scale_list a ys) (0 ∷ mul_lists xs ys) x)

length-add : (xs ys : List ℕ) (n : ℕ) → length xs ≤ n → length ys ≤ n → length (add_lists xs ys) ≤ n
length-add [] ys n h k = k
length-add (x ∷ xs) [] n h k = h
length-add (x ∷ xs) (y ∷ ys) zero h k = absurd (omega arith)
length-add (x ∷ xs) (y ∷ ys) (suc n) h k = let r = length-add xs ys n (omega arith) (omega arith) in omega arith

length-scale : (a : ℕ) (xs : List ℕ) → length (scale_list a xs) ≡ length xs
length-scale a [] = refl
length-scale a (x ∷ xs) = let h = length-scale a xs in omega arith

length-mul : (xs ys : List ℕ) (n e : ℕ) → length xs ≤ n → length ys ≤ suc e → length (mul_lists xs ys) ≤ n + e
length-mul [] ys n e h k = omega arith
length-mul (x ∷ xs) ys zero e h k = absurd (omega arith)
length-mul (x ∷ xs) ys (suc n) e h k =
    let r = length-mul xs ys n e (omega arith) k in
    length-add (scale_list x ys) (0 ∷ mul_lists xs ys) (suc n + e) (let s = length-scale x ys in omega arith) (omega arith)

-- ---- what is a polynomial
pub constant_poly : (d c : ℕ) → Polynomial d (λ x. c)
constant_poly d c = record {
  coefficients = c ∷ [];
  short = omega arith;
  is = λ x. identity (c ∷ x ∷ []) (search field_terms depth 60 fits 20000) refl;
}

pub line_poly : (a b : ℕ) → Polynomial 1 (λ x. bit_xor a (mul b x))
line_poly a b = record {
  coefficients = a ∷ b ∷ [];
  short = omega arith;
  is = λ x. identity (a ∷ b ∷ x ∷ []) (search field_terms depth 60 fits 20000) refl;
}

pub sum_poly : {f g : ℕ → ℕ} (d : ℕ) → Polynomial d f → Polynomial d g → Polynomial d (λ x. bit_xor (f x) (g x))
sum_poly {f} {g} d p q = record {
  coefficients = add_lists p.coefficients q.coefficients;
  short = length-add p.coefficients q.coefficients (suc d) p.short q.short;
  is = λ x. ap (λ w. bit_xor w (g x)) (p.is x) ∙ ap (λ w. bit_xor (horner p.coefficients x) w) (q.is x) ∙ sym (horner-add p.coefficients q.coefficients x);
}

pub product_poly : {f g : ℕ → ℕ} (d e : ℕ) → Polynomial d f → Polynomial e g → Polynomial (d + e) (λ x. mul (f x) (g x))
product_poly {f} {g} d e p q = record {
  coefficients = mul_lists p.coefficients q.coefficients;
  short = let h = length-mul p.coefficients q.coefficients (suc d) e p.short q.short in omega arith;
  is = λ x. ap (λ w. mul w (g x)) (p.is x) ∙ ap (λ w. mul (horner p.coefficients x) w) (q.is x) ∙ sym (horner-mul p.coefficients q.coefficients x);
}

pub higher_poly : {f : ℕ → ℕ} (d e : ℕ) → d ≤ e → Polynomial d f → Polynomial e f
higher_poly d e h p = record { coefficients = p.coefficients; short = let s = p.short in omega arith; is = p.is }

pub same_poly : {f g : ℕ → ℕ} (d : ℕ) → ((x : ℕ) → g x ≡ f x) → Polynomial d f → Polynomial d g
same_poly d h p = record { coefficients = p.coefficients; short = p.short; is = λ x. h x ∙ p.is x }

-- ---- two polynomials that agree at more places than their degree are the same
difference : {f g : ℕ → ℕ} {d : ℕ} (p : Polynomial d f) (q : Polynomial d g) (x : ℕ) → horner (add_lists p.coefficients q.coefficients) x ≡ bit_xor (f x) (g x)
difference {f} {g} p q x = horner-add p.coefficients q.coefficients x ∙ sym (ap (λ w. bit_xor w (g x)) (p.is x) ∙ ap (λ w. bit_xor (horner p.coefficients x) w) (q.is x))

roots : {f g : ℕ → ℕ} {d : ℕ} (p : Polynomial d f) (q : Polynomial d g) (rs : List ℕ) → AllByRecursion (λ r. f r ≡ g r) rs → AllByRecursion (λ r. horner (add_lists p.coefficients q.coefficients) r ≡ 0) rs
roots p q [] h = tt
roots {f} {g} p q (r ∷ rs) h = (difference p q r ∙ zero_from (f r) (g r) h.0, roots p q rs h.1)

pub same_polys : {f g : ℕ → ℕ} (d : ℕ) → Polynomial d f → Polynomial d g → (rs : List ℕ) → Distinct rs → AllByRecursion (λ r. f r ≡ g r) rs → d < length rs → (x : ℕ) → f x ≡ g x
same_polys {f} {g} d p q rs u h l x =
    let s = length-add p.coefficients q.coefficients (suc d) p.short q.short in
    let z = zero_by_roots rs (add_lists p.coefficients q.coefficients) u (roots p q rs h) (omega arith) in
    equal_from (f x) (g x) (sym (difference p q x) ∙ horner_zero (add_lists p.coefficients q.coefficients) x z)
