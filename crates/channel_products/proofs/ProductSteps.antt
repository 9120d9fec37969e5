-- Steps of loops that multiply.
use Rattle.std.proofs.Common.{◌≡◌, ℕ, zero, suc, ◌+◌, ◌-◌, ◌<◌, ◌≤◌, Bool, true, false, cond, List, [], ◌∷◌, length, drop, get_or, Option, None, Some, sym, ap, ◌∙◌, refl, arith, not, eqb, eqb-true}
use Rattle.std.specs.List.{filter}
use Rattle.std.proofs.lemmas.List.{drop_all}
use Rattle.tower_laws.specs.Tower.{mul}
use Rattle.tower_laws.proofs.Field.{identity, field_terms}
use Rattle.tower_laws.proofs.Rules.{times_one}
use Rattle.counting_laws.specs.Multiset.{product_by}
use Rattle.list_laws.proofs.Lists.{drop_here}
use Rattle.poly_forms.specs.declared.check_kind.CheckKind.TheVariants.{Products}
use Rattle.sumcheck.specs.declared.refused.Refused.{Refused}
use Rattle.sumcheck.specs.Rounds.{checked}
use Rattle.sumcheck.proofs.Lawful.{equal_checks}
use Rattle.table_text.specs.declared.decl.Side.{Side}
use Rattle.table_text.specs.declared.decl.Side.TheVariants.{Push, Pull}
use Rattle.table_shape.specs.Channels.{is_flush_of}
use Rattle.channel_products.specs.declared.channels.Channels.{Channels}
use Rattle.channel_products.specs.declared.flushed.Flushed.{Flushed}
use Rattle.channel_products.specs.Balancing.{first_unequal, flushed_value, or_then, side_value}

pub one_times : (x : ℕ) → mul 1 x ≡ x
one_times x = identity (x ∷ []) (search field_terms depth 60 fits 20000) refl

-- one factor more
pub multiplied : (product x rest new all : ℕ) → new ≡ mul product x → mul product (mul x rest) ≡ all → mul new rest ≡ all
multiplied product x rest new all is so_far = ap (λ n. mul n rest) is ∙ moved product x rest ∙ so_far
  where
    moved : (a b c : ℕ) → mul (mul a b) c ≡ mul a (mul b c)
    moved a b c = identity (a ∷ b ∷ c ∷ []) (search field_terms depth 60 fits 20000) refl

-- ---- the items that pass a test
module _ {X : Type 0} (f : X → ℕ) (p : X → Bool) where
  pub taken : (xs : List X) (k : ℕ) (x : X) (product new all : ℕ) → k < length xs → x ≡ get_or xs k x → p x ≡ true → new ≡ mul product (f x)
      → mul product (product_by f (filter p (drop k xs))) ≡ all → mul new (product_by f (filter p (drop (k + 1) xs))) ≡ all
  taken xs k x product new all below at passes is so_far =
      let more : filter p (drop k xs) ≡ x ∷ filter p (drop (k + 1) xs) = ap (filter p) (drop_here xs k x below at) ∙ ap (λ b. cond b (x ∷ filter p (drop (k + 1) xs)) (filter p (drop (k + 1) xs))) passes in
      multiplied product (f x) (product_by f (filter p (drop (k + 1) xs))) new all is (ap (λ ys. mul product (product_by f ys)) (sym more) ∙ so_far)

  pub passed_over : (xs : List X) (k : ℕ) (x : X) (product new all : ℕ) → k < length xs → x ≡ get_or xs k x → p x ≡ false → new ≡ product
      → mul product (product_by f (filter p (drop k xs))) ≡ all → mul new (product_by f (filter p (drop (k + 1) xs))) ≡ all
  passed_over xs k x product new all below at fails is so_far =
      let more : filter p (drop k xs) ≡ filter p (drop (k + 1) xs) = ap (filter p) (drop_here xs k x below at) ∙ ap (λ b. cond b (x ∷ filter p (drop (k + 1) xs)) (filter p (drop (k + 1) xs))) fails in
      (λ i. mul (is i) (product_by f (sym more i))) ∙ so_far

  pub all_taken : (xs : List X) (k product all : ℕ) → length xs ≤ k → mul product (product_by f (filter p (drop k xs))) ≡ all → product ≡ all
  all_taken xs k product all past so_far = sym (times_one product) ∙ ap (λ ys. mul product (product_by f (filter p ys))) (sym (drop_all k xs past)) ∙ so_far

-- ---- the values of flushes
value_there : (side : Side) (c : ℕ) (fs : List Flushed) (v : List ℕ) (k : ℕ) (f : Flushed) (x : ℕ) → k < length fs → f ≡ get_or fs k f → k < length v → x ≡ get_or v k x
    → flushed_value side c (drop k fs) (drop k v) ≡ mul (cond (is_flush_of side c f.shape) x 1) (flushed_value side c (drop (k + 1) fs) (drop (k + 1) v))
value_there side c fs v k f x below at within here = (λ i. flushed_value side c (drop_here fs k f below at i) (drop_here v k x within here i))

pub value_taken : (side : Side) (c : ℕ) (fs : List Flushed) (v : List ℕ) (k : ℕ) (f : Flushed) (x product new all : ℕ) → k < length fs → f ≡ get_or fs k f → k < length v → x ≡ get_or v k x
    → is_flush_of side c f.shape ≡ true → new ≡ mul product x → mul product (flushed_value side c (drop k fs) (drop k v)) ≡ all → mul new (flushed_value side c (drop (k + 1) fs) (drop (k + 1) v)) ≡ all
value_taken side c fs v k f x product new all below at within here passes is so_far =
    let rest = flushed_value side c (drop (k + 1) fs) (drop (k + 1) v) in
    multiplied product x rest new all is (ap (mul product) (sym (value_there side c fs v k f x below at within here ∙ ap (λ b. mul (cond b x 1) rest) passes)) ∙ so_far)

read_is : (v : List ℕ) (k d e : ℕ) → k < length v → get_or v k d ≡ get_or v k e
read_is [] k d e l = absurd (omega arith)
read_is (x ∷ v) zero d e l = refl
read_is (x ∷ v) (suc k) d e l = read_is v k d e (omega arith)

pub value_left : (side : Side) (c : ℕ) (fs : List Flushed) (v : List ℕ) (k : ℕ) (f : Flushed) (product new all : ℕ) → k < length fs → f ≡ get_or fs k f → k < length v → is_flush_of side c f.shape ≡ false → new ≡ product
    → mul product (flushed_value side c (drop k fs) (drop k v)) ≡ all → mul new (flushed_value side c (drop (k + 1) fs) (drop (k + 1) v)) ≡ all
value_left side c fs v k f product new all below at within fails is so_far =
    let x = get_or v k 0 in
    let rest = flushed_value side c (drop (k + 1) fs) (drop (k + 1) v) in
    ap (λ n. mul n rest) is ∙ ap (mul product) (sym (value_there side c fs v k f x below at within (read_is v k 0 x within) ∙ ap (λ b. mul (cond b x 1) rest) fails ∙ one_times rest)) ∙ so_far

pub values_taken : (side : Side) (c : ℕ) (fs : List Flushed) (v : List ℕ) (k product all : ℕ) → length fs ≤ k → mul product (flushed_value side c (drop k fs) (drop k v)) ≡ all → product ≡ all
values_taken side c fs v k product all past so_far = sym (times_one product) ∙ ap (λ (gs : List Flushed). mul product (flushed_value side c gs (drop k v))) (sym (drop_all k fs past)) ∙ so_far

-- ---- the channels
-- of n channels from c on
channel_first : (a g : ℕ) (ch : Channels) (v : List ℕ) (c n m : ℕ) → n ≡ suc m
    → first_unequal a g ch v c n ≡ or_then (checked Products (side_value Push c a g ch v) (side_value Pull c a g ch v)) (first_unequal a g ch v (c + 1) m)
channel_first a g ch v c n m e = ap (first_unequal a g ch v c) e

pub equal_sides : (left right x y : ℕ) (differ : Bool) → left ≡ x → right ≡ y → differ ≡ not (eqb left right) → differ ≡ false → checked Products x y ≡ None
equal_sides left right x y differ e d h k = equal_checks Products x y (sym e ∙ eqb-true left right (go (eqb left right) (sym h ∙ k)) ∙ d)
  where
    go : (b : Bool) → not b ≡ false → b ≡ true
    go true n = refl
    go false n = absurd cc

pub channel_equal : (a g : ℕ) (ch : Channels) (v : List ℕ) (c n : ℕ) (all : Option Refused) → c < n → checked Products (side_value Push c a g ch v) (side_value Pull c a g ch v) ≡ None
    → first_unequal a g ch v c (n - c) ≡ all → first_unequal a g ch v (c + 1) (n - (c + 1)) ≡ all
channel_equal a g ch v c n all below equal so_far =
    ap (λ o. or_then o (first_unequal a g ch v (c + 1) (n - (c + 1)))) (sym equal) ∙ sym (channel_first a g ch v c (n - c) (n - (c + 1)) (omega arith)) ∙ so_far

pub channel_unequal : (a g : ℕ) (ch : Channels) (v : List ℕ) (c n : ℕ) (all : Option Refused) (e : Refused) → c < n → checked Products (side_value Push c a g ch v) (side_value Pull c a g ch v) ≡ Some e
    → first_unequal a g ch v c (n - c) ≡ all → Some e ≡ all
channel_unequal a g ch v c n all e below unequal so_far =
    ap (λ o. or_then o (first_unequal a g ch v (c + 1) (n - (c + 1)))) (sym unequal) ∙ sym (channel_first a g ch v c (n - c) (n - (c + 1)) (omega arith)) ∙ so_far

pub channels_equal : (a g : ℕ) (ch : Channels) (v : List ℕ) (c n : ℕ) (all : Option Refused) → n ≤ c → first_unequal a g ch v c (n - c) ≡ all → None ≡ all
channels_equal a g ch v c n all past so_far = (let e : 0 ≡ n - c = omega arith in ap (first_unequal a g ch v c) e) ∙ so_far
