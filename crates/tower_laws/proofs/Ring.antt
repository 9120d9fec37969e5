-- Identities of a commutative ring of numbers whose sum is bit_xor, decided by normal forms.
use Rattle.std.proofs.Common.{◌≡◌, ℕ, zero, suc, Bool, true, false, eqb, ltb, List, [], ◌∷◌, refl, sym, ◌∙◌, ap}
use Rattle.std.proofs.lemmas.Bool.{eqb-true}
use Rattle.std.proofs.lemmas.Nat.{xor_comm}
use Rattle.std.specs.Int.Bits.{bit_xor, xor_assoc, xor_self, xor_zero_r}

-- an expression over numbered variables
pub data Expr : Type 0 where
  var : ℕ → Expr
  nil : Expr
  one : Expr
  plus : Expr → Expr → Expr
  times : Expr → Expr → Expr

pub data Order : Type 0 where
  before : Order
  same : Order
  after : Order

-- a monomial is its variables in order, a polynomial its monomials in order
abbrev pub compare_monos : List ℕ → List ℕ → Order
compare_monos [] [] = same
compare_monos [] (y ∷ n) = before
compare_monos (x ∷ m) [] = after
compare_monos (x ∷ m) (y ∷ n) = elim (eqb x y) [ true ↦ compare_monos m n | false ↦ elim (ltb x y) [ true ↦ before | false ↦ after ] ]

abbrev pub insert_var : ℕ → List ℕ → List ℕ
insert_var k [] = k ∷ []
insert_var k (x ∷ m) = elim (ltb x k) [ true ↦ x ∷ insert_var k m | false ↦ k ∷ x ∷ m ]

abbrev pub times_mono : List ℕ → List ℕ → List ℕ
times_mono [] n = n
times_mono (x ∷ m) n = insert_var x (times_mono m n)

-- a monomial that is there already goes out
abbrev pub plus_mono : List ℕ → List (List ℕ) → List (List ℕ)
plus_mono m [] = m ∷ []
plus_mono m (n ∷ p) = elim (compare_monos m n) [ before ↦ m ∷ n ∷ p | same ↦ p | after ↦ n ∷ plus_mono m p ]

abbrev pub plus_poly : List (List ℕ) → List (List ℕ) → List (List ℕ)
plus_poly [] q = q
plus_poly (m ∷ p) q = plus_mono m (plus_poly p q)

abbrev pub scale_poly : List ℕ → List (List ℕ) → List (List ℕ)
scale_poly m [] = []
scale_poly m (n ∷ p) = plus_mono (times_mono m n) (scale_poly m p)

abbrev pub times_poly : List (List ℕ) → List (List ℕ) → List (List ℕ)
times_poly [] q = []
times_poly (m ∷ p) q = plus_poly (scale_poly m q) (times_poly p q)

abbrev pub normal : Expr → List (List ℕ)
normal (var k) = (k ∷ []) ∷ []
normal nil = []
normal one = [] ∷ []
normal (plus e f) = plus_poly (normal e) (normal f)
normal (times e f) = times_poly (normal e) (normal f)

abbrev pub lookup : List ℕ → ℕ → ℕ
lookup [] k = 0
lookup (x ∷ xs) zero = x
lookup (x ∷ xs) (suc k) = lookup xs k

same_vars : (x y : ℕ) (m n : List ℕ) → (compare_monos m n ≡ same → m ≡ n) → compare_monos (x ∷ m) (y ∷ n) ≡ same → x ∷ m ≡ y ∷ n
same_vars x y m n ih e = go (eqb x y) refl e
  where
    other : (b : Bool) → elim b as (λ _. Order) [ true ↦ before | false ↦ after ] ≡ same → x ∷ m ≡ y ∷ n
    other true d = cc
    other false d = cc

    go : (b : Bool) → eqb x y ≡ b → elim b as (λ _. Order) [ true ↦ compare_monos m n | false ↦ elim (ltb x y) [ true ↦ before | false ↦ after ] ] ≡ same → x ∷ m ≡ y ∷ n
    go true q d = let e1 = eqb-true x y q in let e2 = ih d in cc
    go false q d = other (ltb x y) d

same_monos : (m n : List ℕ) → compare_monos m n ≡ same → m ≡ n
same_monos [] [] e = refl
same_monos [] (y ∷ n) e = cc
same_monos (x ∷ m) [] e = cc
same_monos (x ∷ m) (y ∷ n) e = same_vars x y m n (same_monos m n) e

xor_left : (a b c : ℕ) → bit_xor a (bit_xor b c) ≡ bit_xor b (bit_xor a c)
xor_left a b c = cc (xor_assoc a b c, xor_assoc b a c, xor_comm a b)

xor_twice : (a b : ℕ) → bit_xor a (bit_xor a b) ≡ b
xor_twice a b = sym (xor_assoc a a b) ∙ ap (λ w. bit_xor w b) (xor_self a)

-- what is asked of a product
pub record Laws (mul : ℕ → ℕ → ℕ) : Type 0 where
  pub mul_comm : (a b : ℕ) → mul a b ≡ mul b a
  pub mul_assoc : (a b c : ℕ) → mul (mul a b) c ≡ mul a (mul b c)
  pub mul_zero : (a : ℕ) → mul 0 a ≡ 0
  pub mul_xor : (a b c : ℕ) → mul (bit_xor a b) c ≡ bit_xor (mul a c) (mul b c)
  pub one_one : mul 1 1 ≡ 1

module _ (mul : ℕ → ℕ → ℕ) where
  abbrev pub eval : (ℕ → ℕ) → Expr → ℕ
  eval v (var k) = v k
  eval v nil = 0
  eval v one = 1
  eval v (plus e f) = bit_xor (eval v e) (eval v f)
  eval v (times e f) = mul (eval v e) (eval v f)

  abbrev eval_mono : (ℕ → ℕ) → List ℕ → ℕ
  eval_mono v [] = 1
  eval_mono v (x ∷ m) = mul (v x) (eval_mono v m)

  abbrev eval_poly : (ℕ → ℕ) → List (List ℕ) → ℕ
  eval_poly v [] = 0
  eval_poly v (m ∷ p) = bit_xor (eval_mono v m) (eval_poly v p)

-- 1 need be a unit only for what the variables stand for
module _ (mul : ℕ → ℕ → ℕ) (laws : Laws mul) (v : ℕ → ℕ) (unit : (k : ℕ) → mul 1 (v k) ≡ v k) where
  abbrev mono : List ℕ → ℕ
  mono = eval_mono mul v

  abbrev poly : List (List ℕ) → ℕ
  poly = eval_poly mul v

  mul_left : (a b c : ℕ) → mul a (mul b c) ≡ mul b (mul a c)
  mul_left a b c = cc (laws.mul_assoc a b c, laws.mul_assoc b a c, laws.mul_comm a b)

  unit_mono : (m : List ℕ) → mul 1 (mono m) ≡ mono m
  unit_mono [] = laws.one_one
  unit_mono (x ∷ m) = cc (laws.mul_assoc 1 (v x) (mono m), unit x)

  mono-insert_var : (k : ℕ) (m : List ℕ) → mono (insert_var k m) ≡ mul (v k) (mono m)
  mono-insert_var k [] = refl
  mono-insert_var k (x ∷ m) =
      elim (ltb x k) as (λ b. mono (elim b as (λ _. List ℕ) [ true ↦ x ∷ insert_var k m | false ↦ k ∷ x ∷ m ]) ≡ mul (v k) (mul (v x) (mono m)))
      [ true ↦ ap (mul (v x)) (mono-insert_var k m) ∙ mul_left (v x) (v k) (mono m) | false ↦ refl ]

  mono-times_mono : (m n : List ℕ) → mono (times_mono m n) ≡ mul (mono m) (mono n)
  mono-times_mono [] n = sym (unit_mono n)
  mono-times_mono (x ∷ m) n = mono-insert_var x (times_mono m n) ∙ ap (mul (v x)) (mono-times_mono m n) ∙ sym (laws.mul_assoc (v x) (mono m) (mono n))

  poly-plus_mono : (m : List ℕ) (p : List (List ℕ)) → poly (plus_mono m p) ≡ bit_xor (mono m) (poly p)
  poly-plus_mono m [] = refl
  poly-plus_mono m (n ∷ p) = go (compare_monos m n) refl (poly-plus_mono m p)
    where
      go : (o : Order) → compare_monos m n ≡ o → poly (plus_mono m p) ≡ bit_xor (mono m) (poly p)
          → poly (elim o as (λ _. List (List ℕ)) [ before ↦ m ∷ n ∷ p | same ↦ p | after ↦ n ∷ plus_mono m p ]) ≡ bit_xor (mono m) (bit_xor (mono n) (poly p))
      go before e ih = refl
      go same e ih = sym (ap (λ w. bit_xor (mono w) (bit_xor (mono n) (poly p))) (same_monos m n e) ∙ xor_twice (mono n) (poly p))
      go after e ih = ap (bit_xor (mono n)) ih ∙ xor_left (mono n) (mono m) (poly p)

  poly-plus_poly : (p q : List (List ℕ)) → poly (plus_poly p q) ≡ bit_xor (poly p) (poly q)
  poly-plus_poly [] q = refl
  poly-plus_poly (m ∷ p) q = poly-plus_mono m (plus_poly p q) ∙ ap (bit_xor (mono m)) (poly-plus_poly p q) ∙ sym (xor_assoc (mono m) (poly p) (poly q))

  mul_xor_r : (a b c : ℕ) → mul a (bit_xor b c) ≡ bit_xor (mul a b) (mul a c)
  mul_xor_r a b c = cc (laws.mul_comm a (bit_xor b c), laws.mul_xor b c a, laws.mul_comm b a, laws.mul_comm c a)

  poly-scale_poly : (m : List ℕ) (p : List (List ℕ)) → poly (scale_poly m p) ≡ mul (mono m) (poly p)
  poly-scale_poly m [] = sym (laws.mul_comm (mono m) 0 ∙ laws.mul_zero (mono m))
  poly-scale_poly m (n ∷ p) =
      cc (poly-plus_mono (times_mono m n) (scale_poly m p), mono-times_mono m n, poly-scale_poly m p, mul_xor_r (mono m) (mono n) (poly p))

  poly-times_poly : (p q : List (List ℕ)) → poly (times_poly p q) ≡ mul (poly p) (poly q)
  poly-times_poly [] q = sym (laws.mul_zero (poly q))
  poly-times_poly (m ∷ p) q =
      cc (poly-plus_poly (scale_poly m q) (times_poly p q), poly-scale_poly m q, poly-times_poly p q, laws.mul_xor (mono m) (poly p) (poly q))

  poly-normal : (e : Expr) → poly (normal e) ≡ eval mul v e
  poly-normal (var k) = xor_zero_r (mul (v k) 1) ∙ laws.mul_comm (v k) 1 ∙ unit k
  poly-normal nil = refl
  poly-normal one = refl
  poly-normal (plus e f) = cc (poly-plus_poly (normal e) (normal f), poly-normal e, poly-normal f)
  poly-normal (times e f) = cc (poly-times_poly (normal e) (normal f), poly-normal e, poly-normal f)

  pub same_normal : (e f : Expr) → normal e ≡ normal f → eval mul v e ≡ eval mul v f
  same_normal e f h = sym (poly-normal e) ∙ ap poly h ∙ poly-normal f

-- ---- an expression for a number, found by search: a lemma on `mul x y` is added for each product
pub record Read (mul : ℕ → ℕ → ℕ) (v : List ℕ) (x : ℕ) : Type 0 where
  pub expr : Expr
  pub is : eval mul (lookup v) expr ≡ x

pub record At (v : List ℕ) (x : ℕ) : Type 0 where
  pub place : ℕ
  pub is : lookup v place ≡ x

abbrev pub at_head : (v : List ℕ) (x : ℕ) → At (x ∷ v) x
at_head v x = record { place = 0; is = refl }

abbrev pub at_next : (v : List ℕ) (x y : ℕ) → At v x → At (y ∷ v) x
at_next v x y r = record { place = suc r.place; is = r.is }

abbrev pub read_at : (mul : ℕ → ℕ → ℕ) (v : List ℕ) (x : ℕ) → At v x → Read mul v x
read_at mul v x r = record { expr = var r.place; is = r.is }

abbrev pub read_xor : (mul : ℕ → ℕ → ℕ) (v : List ℕ) (x y : ℕ) → Read mul v x → Read mul v y → Read mul v (bit_xor x y)
read_xor mul v x y r s = record { expr = plus r.expr s.expr; is = λ i. bit_xor (r.is i) (s.is i) }

abbrev pub read_times : (mul : ℕ → ℕ → ℕ) (v : List ℕ) (x y : ℕ) → Read mul v x → Read mul v y → Read mul v (mul x y)
read_times mul v x y r s = record { expr = times r.expr s.expr; is = λ i. mul (r.is i) (s.is i) }

abbrev pub read_0 : (mul : ℕ → ℕ → ℕ) (v : List ℕ) → Read mul v 0
read_0 mul v = record { expr = nil; is = refl }

abbrev pub read_1 : (mul : ℕ → ℕ → ℕ) (v : List ℕ) → Read mul v 1
read_1 mul v = record { expr = one; is = refl }

-- expressions for the two sides
pub record Sides (mul : ℕ → ℕ → ℕ) (v : List ℕ) (x y : ℕ) : Type 0 where
  pub left : Read mul v x
  pub right : Read mul v y

abbrev pub sides : (mul : ℕ → ℕ → ℕ) (v : List ℕ) (x y : ℕ) → Read mul v x → Read mul v y → Sides mul v x y
sides mul v x y r s = record { left = r; right = s }

pub ruleset reads = (sides, read_xor, read_0, read_1, read_at, at_head, at_next)

-- 1 is a unit for each number of v
abbrev pub Units : (mul : ℕ → ℕ → ℕ) → List ℕ → Type 0
Units mul [] = Unit {0}
Units mul (x ∷ v) = (mul 1 x ≡ x) × Units mul v

units_at : (mul : ℕ → ℕ → ℕ) (laws : Laws mul) (v : List ℕ) → Units mul v → (k : ℕ) → mul 1 (lookup v k) ≡ lookup v k
units_at mul laws [] h k = laws.mul_comm 1 0 ∙ laws.mul_zero 1
units_at mul laws (x ∷ v) h zero = h.0
units_at mul laws (x ∷ v) h (suc k) = units_at mul laws v h.1 k

pub ring : (mul : ℕ → ℕ → ℕ) (laws : Laws mul) (v : List ℕ) → Units mul v → {x y : ℕ} → (s : Sides mul v x y) → normal s.left.expr ≡ normal s.right.expr → x ≡ y
ring mul laws v h s e = sym s.left.is ∙ same_normal mul laws (lookup v) (units_at mul laws v h) s.left.expr s.right.expr e ∙ s.right.is
