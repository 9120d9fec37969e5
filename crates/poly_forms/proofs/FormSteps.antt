-- Steps of the loops over the parts of a form.
use Rattle.std.proofs.Common.{◌≡◌, ℕ, ◌<◌, ◌≤◌, ◌+◌, List, ◌∷◌, length, drop, get_or, map, min, max, refl, sym, ◌∙◌, ap, subst, arith, drop-cons, add-one}
use Rattle.std.proofs.lemmas.List.{drop_all}
use Rattle.tower_laws.specs.Tower.{mul}
use Rattle.tower_laws.proofs.Levels.{field_one, field_comm, field_assoc}
use Rattle.cube_laws.specs.Form.{Form, value, degree}
use Rattle.poly_forms.specs.Form.{sum_of, product_of, VariablesBelow}

opened : {X : Type 0} (parts : List X) (i : ℕ) (part : X) → i < length parts → part ≡ get_or parts i part → drop i parts ≡ part ∷ drop (i + 1) parts
opened parts i part below is = drop-cons parts i part below ∙ rw (← is, add-one) refl

-- ---- degrees
pub greatest_done : {X : Type 0} (f : X → Form) (parts : List X) (i g d m : ℕ) → length parts ≤ i → g ≤ m → min (max g (degree (sum_of (map f (drop i parts))))) m ≡ min d m → g ≡ min d m
greatest_done f parts i g d m past small so_far =
    let h = subst (λ ps. min (max g (degree (sum_of (map f ps)))) m ≡ min d m) (drop_all i parts past) so_far in omega arith

pub total_done : {X : Type 0} (f : X → Form) (parts : List X) (i t d m : ℕ) → length parts ≤ i → t ≤ m → min (t + degree (product_of (map f (drop i parts)))) m ≡ min d m → t ≡ min d m
total_done f parts i t d m past small so_far =
    let h = subst (λ ps. min (t + degree (product_of (map f ps))) m ≡ min d m) (drop_all i parts past) so_far in omega arith

-- ---- products
mul-one : (a : ℕ) → mul a 1 ≡ a
mul-one a = field_comm a 1 ∙ field_one a

pub product_next : {X : Type 0} (f : X → Form) (values : List ℕ) (parts : List X) (i : ℕ) (part : X) (product next all : ℕ)
    → i < length parts → part ≡ get_or parts i part → next ≡ mul product (value (f part) values) → mul product (value (product_of (map f (drop i parts))) values) ≡ all
    → mul next (value (product_of (map f (drop (i + 1) parts))) values) ≡ all
product_next f values parts i part product next all below is e so_far =
    let rest = value (product_of (map f (drop (i + 1) parts))) values in
    ap (λ n. mul n rest) e ∙ field_assoc product (value (f part) values) rest
    ∙ subst (λ ps. mul product (value (product_of (map f ps)) values) ≡ all) (opened parts i part below is) so_far

pub product_done : {X : Type 0} (f : X → Form) (values : List ℕ) (parts : List X) (i product all : ℕ) → length parts ≤ i → mul product (value (product_of (map f (drop i parts))) values) ≡ all → product ≡ all
product_done f values parts i product all past so_far =
    sym (mul-one product) ∙ subst (λ ps. mul product (value (product_of (map f ps)) values) ≡ all) (drop_all i parts past) so_far

-- ---- variables of the parts that are left
pub factor_below : {X : Type 0} (f : X → Form) (n : ℕ) (parts : List X) (i : ℕ) (part : X) → i < length parts → part ≡ get_or parts i part
    → VariablesBelow n (product_of (map f (drop i parts))) → VariablesBelow n (f part) × VariablesBelow n (product_of (map f (drop (i + 1) parts)))
factor_below f n parts i part below is h = subst (λ ps. VariablesBelow n (product_of (map f ps))) (opened parts i part below is) h
