-- A sum's summand is a polynomial in each variable.
use Rattle.std.proofs.Common.{◌≡◌, ℕ, zero, suc, ◌≤◌, max, List, [], ◌∷◌, ◌++◌, map, slice_index, bit_xor, refl, sym, ◌∙◌, ap, arith}
use Rattle.tower_laws.specs.Tower.{mul}
use Rattle.cube_laws.specs.Extension.{dot, spread, weights, extension}
use Rattle.tower_laws.proofs.Field.{identity, from_one, field_terms}
use Rattle.cube_laws.proofs.Weights.{by_weights_is}
use Rattle.cube_laws.specs.Form.{Form, constant, variable, plus, times, value, degree}
use Rattle.cube_laws.specs.SumClaim.{cube_sum, Sum, summand, round_at}
use Rattle.poly_laws.specs.Polynomial.{Polynomial}
use Rattle.poly_laws.proofs.Polynomials.{constant_poly, line_poly, sum_poly, product_poly, higher_poly, same_poly}

-- lists that are lines in a number, place by place
abbrev pub line : List ℕ → List ℕ → ℕ → List ℕ
line [] bs x = []
line (a ∷ ss) [] x = []
line (a ∷ ss) (b ∷ bs) x = bit_xor a (mul b x) ∷ line ss bs x

record Lines (f : ℕ → List ℕ) : Type 0 where
  starts : List ℕ
  slopes : List ℕ
  is : (x : ℕ) → f x ≡ line starts slopes x

-- the weights at (x, rest), ss x varies
low_starts : List ℕ → List ℕ
low_starts ts = spread 0 ts

slopes_of : List ℕ → List ℕ
slopes_of [] = []
slopes_of (t ∷ ts) = t ∷ t ∷ slopes_of ts

first_cell : (t x : ℕ) → mul t (bit_xor 1 x) ≡ bit_xor (mul t (bit_xor 1 0)) (mul t x)
first_cell t x = identity (t ∷ x ∷ []) (search field_terms depth 60 fits 20000) refl

second_cell : (t x : ℕ) → mul t x ≡ bit_xor (mul t 0) (mul t x)
second_cell t x = identity (t ∷ x ∷ []) (search field_terms depth 60 fits 20000) refl

open_line : (ts : List ℕ) (x : ℕ) → spread x ts ≡ line (low_starts ts) (slopes_of ts) x
unfolding low_starts slopes_of
open_line [] x = refl
open_line (t ∷ ts) x = ap (λ w. w ∷ mul t x ∷ spread x ts) (first_cell t x) ∙ ap (λ w. bit_xor (mul t (bit_xor 1 0)) (mul t x) ∷ w ∷ spread x ts) (second_cell t x)
    ∙ ap (λ w. bit_xor (mul t (bit_xor 1 0)) (mul t x) ∷ bit_xor (mul t 0) (mul t x) ∷ w) (open_line ts x)

-- a line of lists stays one when it is spread by a fixed number
spread_first : (a b x y : ℕ) → mul (bit_xor a (mul b x)) (bit_xor 1 y) ≡ bit_xor (mul a (bit_xor 1 y)) (mul (mul b (bit_xor 1 y)) x)
spread_first a b x y = identity (a ∷ b ∷ x ∷ y ∷ []) (search field_terms depth 60 fits 20000) refl

spread_second : (a b x y : ℕ) → mul (bit_xor a (mul b x)) y ≡ bit_xor (mul a y) (mul (mul b y) x)
spread_second a b x y = identity (a ∷ b ∷ x ∷ y ∷ []) (search field_terms depth 60 fits 20000) refl

spread_line : (ss bs : List ℕ) (y x : ℕ) → spread y (line ss bs x) ≡ line (spread y ss) (spread y bs) x
spread_line [] bs y x = refl
spread_line (a ∷ ss) [] y x = refl
spread_line (a ∷ ss) (b ∷ bs) y x = let p = spread_first a b x y in let q = spread_second a b x y in let r = spread_line ss bs y x in cc

weights_lines : (prefix rest : List ℕ) → Lines (λ x. weights (prefix ++ x ∷ rest))
weights_lines [] rest = record { starts = low_starts (weights rest); slopes = slopes_of (weights rest); is = open_line (weights rest) }
weights_lines (y ∷ prefix) rest =
    let h = weights_lines prefix rest in
    record { starts = spread y h.starts; slopes = spread y h.slopes; is = λ x. ap (spread y) (h.is x) ∙ spread_line h.starts h.slopes y x }

dot_cell : (t a b x p q r : ℕ) → r ≡ bit_xor p (mul q x) → bit_xor (mul t (bit_xor a (mul b x))) r ≡ bit_xor (bit_xor (mul t a) p) (mul (bit_xor (mul t b) q) x)
dot_cell t a b x p q r h = from_one 1 h (identity (t ∷ a ∷ b ∷ x ∷ p ∷ q ∷ r ∷ []) (search field_terms depth 60 fits 20000) refl)

-- the same with its lines cut to the shorter of the two
record Ends (ts ss bs : List ℕ) : Type 0 where
  start : ℕ
  slope : ℕ
  is : (x : ℕ) → dot ts (line ss bs x) ≡ bit_xor start (mul slope x)

none_at : (x : ℕ) → 0 ≡ bit_xor 0 (mul 0 x)
none_at x = identity (x ∷ []) (search field_terms depth 60 fits 20000) refl

dot_line : (ts ss bs : List ℕ) → Ends ts ss bs
dot_line [] ss bs = record { start = 0; slope = 0; is = none_at }
dot_line (t ∷ ts) [] bs = record { start = 0; slope = 0; is = none_at }
dot_line (t ∷ ts) (a ∷ ss) [] = record { start = 0; slope = 0; is = none_at }
dot_line (t ∷ ts) (a ∷ ss) (b ∷ bs) =
    let h = dot_line ts ss bs in
    record { start = bit_xor (mul t a) h.start; slope = bit_xor (mul t b) h.slope; is = λ x. dot_cell t a b x h.start h.slope _ (h.is x) }

-- an extension is a polynomial of degree 1 in each variable
pub extension_poly : (table prefix rest : List ℕ) → Polynomial 1 (λ x. extension table (prefix ++ x ∷ rest))
extension_poly table prefix rest =
    let h = weights_lines prefix rest in
    let e = dot_line table h.starts h.slopes in
    same_poly 1 (λ x. sym (by_weights_is table (prefix ++ x ∷ rest)) ∙ ap (dot table) (h.is x) ∙ e.is x) (line_poly e.start e.slope)

index_poly : (lists : List (List ℕ)) (k : ℕ) (prefix rest : List ℕ) → Polynomial 1 (λ x. slice_index (map (λ f. extension f (prefix ++ x ∷ rest)) lists) k)
index_poly [] k prefix rest = constant_poly 1 0
index_poly (f ∷ lists) zero prefix rest = extension_poly f prefix rest
index_poly (f ∷ lists) (suc k) prefix rest = index_poly lists k prefix rest

value_poly : (form : Form) (lists : List (List ℕ)) (prefix rest : List ℕ) → Polynomial (degree form) (λ x. value form (map (λ f. extension f (prefix ++ x ∷ rest)) lists))
value_poly (constant c) lists prefix rest = constant_poly 0 c
value_poly (variable k) lists prefix rest = index_poly lists k prefix rest
value_poly (plus f g) lists prefix rest =
    sum_poly (max (degree f) (degree g)) (higher_poly (degree f) (max (degree f) (degree g)) (omega arith) (value_poly f lists prefix rest)) (higher_poly (degree g) (max (degree f) (degree g)) (omega arith) (value_poly g lists prefix rest))
value_poly (times f g) lists prefix rest = product_poly (degree f) (degree g) (value_poly f lists prefix rest) (value_poly g lists prefix rest)

pub cube_sum_poly : (d n : ℕ) (f : ℕ → List ℕ → ℕ) → ((z : List ℕ) → Polynomial d (λ x. f x z)) → Polynomial d (λ x. cube_sum n (f x))
unfolding cube_sum
cube_sum_poly d zero f h = h []
cube_sum_poly d (suc n) f h = sum_poly d (cube_sum_poly d n (λ x z. f x (0 ∷ z)) (λ z. h (0 ∷ z))) (cube_sum_poly d n (λ x z. f x (1 ∷ z)) (λ z. h (1 ∷ z)))

-- the round polynomial has at most the degree of the form
pub round_poly : (s : Sum) (prefix : List ℕ) (left d : ℕ) → degree s.form ≤ d → Polynomial d (round_at s prefix left)
round_poly s prefix left d h = higher_poly (degree s.form) d h (cube_sum_poly (degree s.form) left (λ x z. summand s (prefix ++ x ∷ z)) (λ z. value_poly s.form s.lists prefix z))
