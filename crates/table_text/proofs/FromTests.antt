-- What tests that were passed say of tokens and values.
use Rattle.std.proofs.Common.{◌≡◌, ℕ, ◌⊎◌, inl, inr, Bool, true, false, cond, ◌&&◌, List, Option, Some, None, refl, sym, ap}
use Rattle.std.proofs.lemmas.Option.{cond_some, none-some, same_Some}
use Rattle.std.proofs.lemmas.Bool.{eqb-true}
use Rattle.std.proofs.lemmas.Slice.Eq.{bytes_eq-Decides}
use Rattle.std.specs.Prelude.{◌==◌, option_map, option_and_then}
use Rattle.table_text.specs.Lexing.{Token, name, reserved, number, mark, wrong}
use Rattle.table_text.specs.Faults.{is_mark_of}
use Rattle.table_text.specs.TokenClasses.{name_of, is_word, number_in}

pub marked : {X : Type 0} (c : ℕ) (x y : X) (t : Token) → cond (is_mark_of c t) (Some x) None ≡ Some y → (t ≡ mark c) × (x ≡ y)
marked c x y (name w) e = absurd (none-some y e)
marked c x y (reserved w) e = absurd (none-some y e)
marked c x y (number n) e = absurd (none-some y e)
marked c x y (mark b) e = let p : ((c == b) ≡ true) × (x ≡ y) = cond_some _ x y e in (ap mark (sym (eqb-true c b p.0)), p.1)
marked c x y (wrong kind) e = absurd (none-some y e)

pub mark_from : (c : ℕ) (t : Token) → is_mark_of c t ≡ true → t ≡ mark c
mark_from c (name w) e = cc
mark_from c (reserved w) e = cc
mark_from c (number n) e = cc
mark_from c (mark b) e = ap mark (sym (eqb-true c b e))
mark_from c (wrong kind) e = cc

pub name_from : (t : Token) (w : List ℕ) → name_of t ≡ Some w → t ≡ name w
name_from (name v) w e = ap name (same_Some v w e)
name_from (reserved v) w e = absurd (none-some w e)
name_from (number n) w e = absurd (none-some w e)
name_from (mark b) w e = absurd (none-some w e)
name_from (wrong kind) w e = absurd (none-some w e)

pub number_from : (t : Token) (n : ℕ) → number_in t ≡ Some n → t ≡ number n
number_from (name w) n e = absurd (none-some n e)
number_from (reserved v) n e = absurd (none-some n e)
number_from (number k) n e = ap number (same_Some k n e)
number_from (mark b) n e = absurd (none-some n e)
number_from (wrong kind) n e = absurd (none-some n e)

pub word_from : (w : List ℕ) (t : Token) → is_word w t ≡ true → t ≡ reserved w
word_from w (name v) e = cc
word_from w (reserved v) e = ap reserved ((bytes_eq-Decides v w).0 e)
word_from w (number n) e = cc
word_from w (mark b) e = cc
word_from w (wrong kind) e = cc

-- a name among tokens
pub record Named {X : Type 0} (f : List ℕ → Option X) (t : Token) (y : X) : Type 0 where
  pub word : List ℕ
  pub token : t ≡ name word
  pub is : f word ≡ Some y

pub named : {X : Type 0} (f : List ℕ → Option X) (t : Token) (y : X) → option_and_then f (name_of t) ≡ Some y → Named f t y
named f (name w) y e = record { word = w; token = refl; is = e }
named f (reserved w) y e = absurd (none-some y e)
named f (number n) y e = absurd (none-some y e)
named f (mark b) y e = absurd (none-some y e)
named f (wrong kind) y e = absurd (none-some y e)

-- a number among tokens
pub record Numbered {X : Type 0} (f : ℕ → Option X) (t : Token) (y : X) : Type 0 where
  pub count : ℕ
  pub token : t ≡ number count
  pub is : f count ≡ Some y

pub numbered : {X : Type 0} (f : ℕ → Option X) (t : Token) (y : X) → option_and_then f (number_in t) ≡ Some y → Numbered f t y
numbered f (name w) y e = absurd (none-some y e)
numbered f (reserved w) y e = absurd (none-some y e)
numbered f (number n) y e = record { count = n; token = refl; is = e }
numbered f (mark b) y e = absurd (none-some y e)
numbered f (wrong kind) y e = absurd (none-some y e)

pub record Mapped {X Y : Type 0} (f : X → Y) (o : Option X) (y : Y) : Type 0 where
  pub value : X
  pub from : o ≡ Some value
  pub is : f value ≡ y

pub mapped : {X Y : Type 0} (f : X → Y) (o : Option X) (y : Y) → option_map f o ≡ Some y → Mapped f o y
mapped f None y e = absurd (none-some y e)
mapped f (Some x) y e = record { value = x; from = refl; is = same_Some _ _ e }

pub chosen : {X : Type 0} (b : Bool) (x y z : X) → cond b x y ≡ z → ((b ≡ true) × (x ≡ z)) ⊎ ((b ≡ false) × (y ≡ z))
chosen true x y z e = inl (refl, e)
chosen false x y z e = inr (refl, e)

pub both : (a b : Bool) → (a && b) ≡ true → (a ≡ true) × (b ≡ true)
both true true e = (refl, refl)
both true false e = cc
both false b e = cc
