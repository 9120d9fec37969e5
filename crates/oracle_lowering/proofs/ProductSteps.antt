-- Steps of loops that multiply.
use Rattle.std.proofs.Common.{◌≡◌, ℕ, zero, suc, ◌+◌, ◌<◌, ◌≤◌, Bool, true, false, cond, List, [], ◌∷◌, ◌++◌, length, map, drop, get_or, bit_xor, refl, sym, ap, ◌∙◌, arith}
use Rattle.std.specs.List.{filter, slice_index}
use Rattle.std.proofs.lemmas.List.{drop_all, drop_more}
use Rattle.tower_laws.specs.Tower.{mul}
use Rattle.tower_laws.specs.Lists.{product_all}
use Rattle.tower_laws.proofs.Field.{identity, field_terms}
use Rattle.tower_laws.proofs.Lists.{product_all-append}
use Rattle.tower_laws.proofs.Rules.{times_one}
use Rattle.counting_laws.specs.Multiset.{product_by}
use Rattle.poly_laws.specs.Polynomial.{horner}
use Rattle.cube_laws.specs.Sums.{tabulate}
use Rattle.cube_laws.proofs.Tabulate.{tabulate-suc}
use Rattle.list_laws.proofs.Lists.{drop_here}

pub one_times : (x : ℕ) → mul 1 x ≡ x
one_times x = identity (x ∷ []) (search field_terms depth 60 fits 20000) refl

-- one factor more
pub multiplied : (product x rest new all : ℕ) → new ≡ mul product x → mul product (mul x rest) ≡ all → mul new rest ≡ all
multiplied product x rest new all is so_far = ap (λ n. mul n rest) is ∙ moved product x rest ∙ so_far
  where
    moved : (a b c : ℕ) → mul (mul a b) c ≡ mul a (mul b c)
    moved a b c = identity (a ∷ b ∷ c ∷ []) (search field_terms depth 60 fits 20000) refl

-- ---- the items that pass a test

module _ {X : Type 0} (f : X → ℕ) (p : X → Bool) where
  pub taken : (xs : List X) (k : ℕ) (x : X) (product new all : ℕ) → k < length xs → x ≡ get_or xs k x → p x ≡ true → new ≡ mul product (f x)
      → mul product (product_by f (filter p (drop k xs))) ≡ all → mul new (product_by f (filter p (drop (k + 1) xs))) ≡ all
  taken xs k x product new all below at passes is so_far =
      let more : filter p (drop k xs) ≡ x ∷ filter p (drop (k + 1) xs) = ap (filter p) (drop_here xs k x below at) ∙ ap (λ b. cond b (x ∷ filter p (drop (k + 1) xs)) (filter p (drop (k + 1) xs))) passes in
      multiplied product (f x) (product_by f (filter p (drop (k + 1) xs))) new all is (ap (λ ys. mul product (product_by f ys)) (sym more) ∙ so_far)

  pub passed_over : (xs : List X) (k : ℕ) (x : X) (product new all : ℕ) → k < length xs → x ≡ get_or xs k x → p x ≡ false → new ≡ product
      → mul product (product_by f (filter p (drop k xs))) ≡ all → mul new (product_by f (filter p (drop (k + 1) xs))) ≡ all
  passed_over xs k x product new all below at fails is so_far =
      let more : filter p (drop k xs) ≡ filter p (drop (k + 1) xs) = ap (filter p) (drop_here xs k x below at) ∙ ap (λ b. cond b (x ∷ filter p (drop (k + 1) xs)) (filter p (drop (k + 1) xs))) fails in
      (λ i. mul (is i) (product_by f (sym more i))) ∙ so_far

  pub all_taken : (xs : List X) (k product all : ℕ) → length xs ≤ k → mul product (product_by f (filter p (drop k xs))) ≡ all → product ≡ all
  all_taken xs k product all past so_far = sym (times_one product) ∙ ap (λ ys. mul product (product_by f (filter p ys))) (sym (drop_all k xs past)) ∙ so_far

-- ---- all rows

pub rows_more : (n : ℕ) (f : ℕ → ℕ) (product new : ℕ) → new ≡ mul product (f n) → product ≡ product_all (tabulate n f) → new ≡ product_all (tabulate (n + 1) f)
rows_more n f product new is so_far =
    let next : suc n ≡ n + 1 = omega arith in
    is
    ∙ (λ i. mul (so_far i) (sym (times_one (f n)) i))
    ∙ sym (product_all-append (tabulate n f) (f n ∷ []))
    ∙ ap product_all (sym (tabulate-suc n f))
    ∙ ap (λ k. product_all (tabulate k f)) next

-- ---- the numbers of a tuple

abbrev pub number_at : (ℕ → List ℕ) → ℕ → ℕ → ℕ
number_at values row c = slice_index (values c) row

pub tuple_more : (sum power v rest a new_sum new_power all : ℕ) → new_sum ≡ bit_xor sum (mul power v) → new_power ≡ mul power a → bit_xor sum (mul power (bit_xor v (mul a rest))) ≡ all → bit_xor new_sum (mul new_power rest) ≡ all
tuple_more sum power v rest a new_sum new_power all sum_is power_is so_far = (λ i. bit_xor (sum_is i) (mul (power_is i) rest)) ∙ moved sum power v a rest ∙ so_far
  where
    moved : (s p v a r : ℕ) → bit_xor (bit_xor s (mul p v)) (mul (mul p a) r) ≡ bit_xor s (mul p (bit_xor v (mul a r)))
    moved s p v a r = identity (s ∷ p ∷ v ∷ a ∷ r ∷ []) (search field_terms depth 60 fits 20000) refl

pub tuple_next : (value : ℕ → ℕ) (columns : List ℕ) (k sum power a new_sum new_power all : ℕ) → k < length columns → new_sum ≡ bit_xor sum (mul power (value (get_or columns k 0))) → new_power ≡ mul power a
    → bit_xor sum (mul power (horner (map value (drop k columns)) a)) ≡ all → bit_xor new_sum (mul new_power (horner (map value (drop (k + 1) columns)) a)) ≡ all
tuple_next value columns k sum power a new_sum new_power all below sum_is power_is so_far =
    let more = drop_more columns k 0 below in
    tuple_more sum power (value (get_or columns k 0)) (horner (map value (drop (k + 1) columns)) a) a new_sum new_power all sum_is power_is (ap (λ cs. bit_xor sum (mul power (horner (map value cs) a))) (sym more) ∙ so_far)

pub tuple_done : (value : ℕ → ℕ) (columns : List ℕ) (k sum power a all : ℕ) → length columns ≤ k → bit_xor sum (mul power (horner (map value (drop k columns)) a)) ≡ all → sum ≡ all
tuple_done value columns k sum power a all past so_far = ended sum power ∙ ap (λ cs. bit_xor sum (mul power (horner (map value cs) a))) (sym (drop_all k columns past)) ∙ so_far
  where
    ended : (s p : ℕ) → s ≡ bit_xor s (mul p 0)
    ended s p = identity (s ∷ p ∷ []) (search field_terms depth 60 fits 20000) refl
