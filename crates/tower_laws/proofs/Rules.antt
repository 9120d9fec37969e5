-- Rules for `simp`, and equality by a sum of 0.
use Rattle.std.proofs.Common.{◌≡◌, ℕ, [], ◌∷◌, refl, sym}
use Rattle.std.specs.Int.Bits.{bit_xor, xor_assoc, xor_self, xor_zero_r}
use Rattle.std.proofs.lemmas.Nat.{xor_comm}
use Rattle.tower_laws.specs.Tower.{mul}
use Rattle.tower_laws.proofs.Levels.{field_laws, field_one, field_comm, field_assoc, field_add, field_zero}
use Rattle.tower_laws.proofs.Field.{field_terms, from_one, identity}

pub field_add_r : (a b c : ℕ) → mul a (bit_xor b c) ≡ bit_xor (mul a b) (mul a c)
field_add_r a b c = identity (a ∷ b ∷ c ∷ []) (search field_terms depth 60 fits 20000) refl

pub field_left : (a b c : ℕ) → mul a (mul b c) ≡ mul b (mul a c)
field_left a b c = identity (a ∷ b ∷ c ∷ []) (search field_terms depth 60 fits 20000) refl

pub xor_left : (a b c : ℕ) → bit_xor a (bit_xor b c) ≡ bit_xor b (bit_xor a c)
xor_left a b c = identity (a ∷ b ∷ c ∷ []) (search field_terms depth 60 fits 20000) refl

pub xor_cancel : (a b : ℕ) → bit_xor a (bit_xor a b) ≡ b
xor_cancel a b = identity (a ∷ b ∷ []) (search field_terms depth 60 fits 20000) refl

-- no product and one factor
pub zero_times : (a : ℕ) → 0 ≡ mul 0 a
zero_times a = sym (field_zero a)

pub times_zero : (a : ℕ) → 0 ≡ mul a 0
times_zero a = identity (a ∷ []) (search field_terms depth 60 fits 20000) refl

pub times_one : (a : ℕ) → mul a 1 ≡ a
times_one a = identity (a ∷ []) (search field_terms depth 60 fits 20000) refl

pub plus_zero : (a : ℕ) → bit_xor a 0 ≡ a
plus_zero a = identity (a ∷ []) (search field_terms depth 60 fits 20000) refl

-- turns of three factors, `field_left` being one more
pub last_first : (a b c : ℕ) → mul (mul a b) c ≡ mul c (mul a b)
last_first a b c = field_comm (mul a b) c

pub last_swapped : (a b c : ℕ) → mul (mul a b) c ≡ mul (mul a c) b
last_swapped a b c = identity (a ∷ b ∷ c ∷ []) (search field_terms depth 60 fits 20000) refl

pub middle_swapped : (a b c d : ℕ) → mul (mul a b) (mul c d) ≡ mul (mul a c) (mul b d)
middle_swapped a b c d = identity (a ∷ b ∷ c ∷ d ∷ []) (search field_terms depth 60 fits 20000) refl

-- a step of a sum of products, of which each has a factor more
pub more_scaled : (c x y d e : ℕ) → d ≡ mul c e → bit_xor (mul (mul c x) y) d ≡ mul c (bit_xor (mul x y) e)
more_scaled c x y d e h = from_one 1 h (identity (c ∷ x ∷ y ∷ d ∷ e ∷ []) (search field_terms depth 60 fits 20000) refl)

-- a step of a sum of products, of which each has a sum as its first factor
pub more_summed : (a b y d e s : ℕ) → s ≡ bit_xor d e → bit_xor (mul (bit_xor a b) y) s ≡ bit_xor (bit_xor (mul a y) d) (bit_xor (mul b y) e)
more_summed a b y d e s h = from_one 1 h (identity (a ∷ b ∷ y ∷ d ∷ e ∷ s ∷ []) (search field_terms depth 60 fits 20000) refl)

-- a choice between two numbers by 1 + x and x, as a line
pub choice_line : (x a b : ℕ) → bit_xor (mul (bit_xor 1 x) a) (mul x b) ≡ bit_xor a (mul x (bit_xor a b))
choice_line x a b = identity (x ∷ a ∷ b ∷ []) (search field_terms depth 60 fits 20000) refl

pub line_at_zero : (a b : ℕ) → bit_xor a (mul 0 (bit_xor a b)) ≡ a
line_at_zero a b = identity (a ∷ b ∷ []) (search field_terms depth 60 fits 20000) refl

pub line_at_one : (a b : ℕ) → bit_xor a (mul 1 (bit_xor a b)) ≡ b
line_at_one a b = identity (a ∷ b ∷ []) (search field_terms depth 60 fits 20000) refl

pub ruleset field_rules = (field_add, field_zero, field_one, field_add_r, field_assoc, field_comm, field_left, xor_assoc, xor_self, xor_cancel, xor_zero_r, xor_comm, xor_left)

-- numbers are equal exactly where their sum is 0
pub equal_from : (a b : ℕ) → bit_xor a b ≡ 0 → a ≡ b
equal_from a b e = from_one 1 e (identity (a ∷ b ∷ []) (search field_terms depth 60 fits 20000) refl)

pub zero_from : (a b : ℕ) → a ≡ b → bit_xor a b ≡ 0
zero_from a b e = from_one 1 e (identity (a ∷ b ∷ []) (search field_terms depth 60 fits 20000) refl)
