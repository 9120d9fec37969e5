-- The polynomial with given roots, and polynomials that agree at many places.
use Rattle.std.proofs.Common.{◌≡◌, ℕ, suc, ◌≤◌, max, List, [], ◌∷◌, length, bit_xor, refl, sym, ◌∙◌, ap, arith}
use Rattle.tower_laws.specs.Tower.{mul}
use Rattle.poly_laws.specs.Polynomial.{horner}
use Rattle.tower_laws.proofs.Rules.{equal_from, zero_from}
use Rattle.tower_laws.proofs.Field.{identity, from_one, field_terms}
use Rattle.poly_laws.proofs.RootBound.{zero_by_roots, horner_zero}
use Rattle.poly_laws.proofs.Polynomials.{add_lists, horner-add}
use Rattle.std.specs.List.{AllByRecursion}
use Rattle.counting_laws.specs.Counting.{Distinct}
use Rattle.counting_laws.specs.Multiset.{product_by}

pub length-plus : (xs ys : List ℕ) → length (add_lists xs ys) ≡ max (length xs) (length ys)
length-plus [] ys = omega arith
length-plus (x ∷ xs) [] = omega arith
length-plus (x ∷ xs) (y ∷ ys) = let h = length-plus xs ys in omega arith

-- p + (a + X) times a polynomial
abbrev pub times_root : ℕ → ℕ → List ℕ → List ℕ
times_root a p [] = p ∷ []
times_root a p (c ∷ cs) = bit_xor p (mul a c) ∷ times_root a c cs

pub length-times_root : (a p : ℕ) (cs : List ℕ) → length (times_root a p cs) ≡ suc (length cs)
length-times_root a p [] = refl
length-times_root a p (c ∷ cs) = ap suc (length-times_root a c cs)

root_nil : (a p x : ℕ) → bit_xor p (mul x 0) ≡ bit_xor p (mul (bit_xor x a) 0)
root_nil a p x = identity (a ∷ p ∷ x ∷ []) (search field_terms depth 60 fits 20000) refl

root_step : (a p x c h r : ℕ) → r ≡ bit_xor c (mul (bit_xor x a) h) → bit_xor (bit_xor p (mul a c)) (mul x r) ≡ bit_xor p (mul (bit_xor x a) (bit_xor c (mul x h)))
root_step a p x c h r e = from_one x e (identity (a ∷ p ∷ x ∷ c ∷ h ∷ r ∷ []) (search field_terms depth 60 fits 20000) refl)

pub horner-times_root : (a p : ℕ) (cs : List ℕ) (x : ℕ) → horner (times_root a p cs) x ≡ bit_xor p (mul (bit_xor x a) (horner cs x))
horner-times_root a p [] x = root_nil a p x
horner-times_root a p (c ∷ cs) x = root_step a p x c (horner cs x) (horner (times_root a c cs) x) (horner-times_root a c cs x)

-- the product of X + a over a list
abbrev pub monic : List ℕ → List ℕ
monic [] = 1 ∷ []
monic (a ∷ ls) = times_root a 0 (monic ls)

pub length-monic : (ls : List ℕ) → length (monic ls) ≡ suc (length ls)
length-monic [] = refl
length-monic (a ∷ ls) = length-times_root a 0 (monic ls) ∙ ap suc (length-monic ls)

one_at : (x : ℕ) → bit_xor 1 (mul x 0) ≡ 1
one_at x = identity (x ∷ []) (search field_terms depth 60 fits 20000) refl

pub horner-monic : (ls : List ℕ) (x : ℕ) → horner (monic ls) x ≡ product_by (bit_xor x) ls
horner-monic [] x = one_at x
horner-monic (a ∷ ls) x = horner-times_root a 0 (monic ls) x ∙ ap (λ w. bit_xor 0 (mul (bit_xor x a) w)) (horner-monic ls x)

roots_add_lists : (ls bs gs : List ℕ) → AllByRecursion (λ g. horner ls g ≡ horner bs g) gs → AllByRecursion (λ g. horner (add_lists ls bs) g ≡ 0) gs
roots_add_lists ls bs [] h = tt
roots_add_lists ls bs (g ∷ gs) h = (horner-add ls bs g ∙ zero_from (horner ls g) (horner bs g) h.0, roots_add_lists ls bs gs h.1)

-- coefficients that agree at more places than there are coefficients have a difference of zeros
pub zero_difference : (ls bs gs : List ℕ) → Distinct gs → AllByRecursion (λ g. horner ls g ≡ horner bs g) gs → max (length ls) (length bs) ≤ length gs
    → AllByRecursion (λ c. c ≡ 0) (add_lists ls bs)
zero_difference ls bs gs d h le = zero_by_roots gs (add_lists ls bs) d (roots_add_lists ls bs gs h) (let e = length-plus ls bs in omega arith)

-- and so they agree everywhere
pub agree_everywhere : (ls bs gs : List ℕ) → Distinct gs → AllByRecursion (λ g. horner ls g ≡ horner bs g) gs → max (length ls) (length bs) ≤ length gs
    → (x : ℕ) → horner ls x ≡ horner bs x
agree_everywhere ls bs gs d h le x =
    equal_from (horner ls x) (horner bs x) (sym (horner-add ls bs x) ∙ horner_zero (add_lists ls bs) x (zero_difference ls bs gs d h le))

-- and of one length they are equal
pub equal_coefficients : (ls bs : List ℕ) → length ls ≡ length bs → AllByRecursion (λ c. c ≡ 0) (add_lists ls bs) → ls ≡ bs
equal_coefficients [] [] e h = refl
equal_coefficients [] (b ∷ bs) e h = absurd (omega arith)
equal_coefficients (a ∷ ls) [] e h = absurd (omega arith)
equal_coefficients (a ∷ ls) (b ∷ bs) e h = let p = equal_from a b h.0 in let q = equal_coefficients ls bs (omega arith) h.1 in cc
