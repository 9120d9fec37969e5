-- Tuples compared number by number, and lists of tuples compared tuple by tuple.
use Rattle.std.proofs.Common.{◌≡◌, ◌≢◌, ℕ, suc, ◌+◌, ◌<◌, ◌≤◌, Bool, true, false, cond, eqb, ltb, List, [], ◌∷◌, length, map, drop, get_or, min, ◌-◌, ◌⊎◌, inl, inr, Some, None, refl, sym, ◌∙◌, ap, arith, drop-cons, add-one}
use Rattle.std.specs.List.{AllByRecursion}
use Rattle.std.specs.List.Sorted.{IsSortedBy, IsSortedByClosure}
use Rattle.std.specs.Fn.{Called}
use Rattle.std.specs.declared.cmp.Ordering.{Ordering}
use Rattle.std.proofs.lemmas.Fn.{always_returns_same}
use denote.Ref.{Bor}
use denote.Param.Members.{Mut}
use Rattle.std.specs.Cmp.{IsStrictWeakOrder}
use Rattle.std.specs.declared.cmp.Ordering.TheVariants.{Less, Equal, Greater}
use Rattle.std.specs.Ordering.{nat_cmp, is_lt, is_eq}
use Rattle.std.proofs.lemmas.Bool.Decides.{nat_tests}
use Rattle.std.proofs.lemmas.Bool.{cases_lt}
use Rattle.std.proofs.lemmas.List.{drop_all, length-drop, get_or_default}
use Rattle.std.proofs.lemmas.List.Sorted.{sorted_far}
use Rattle.counting_laws.specs.Multiset.{count, same_tuple}
use Rattle.table_shape.specs.Satisfies.{is_below}
use Rattle.m3_judge.specs.Order.{IsAscending, first_difference, tuple_order}
use Rattle.m3_judge.proofs.Order.{one_way, chain}

-- ---- what the order tells

pub order_below : (t u : List ℕ) → is_lt (tuple_order t u) ≡ is_below t u
order_below [] [] = refl
order_below [] (y ∷ u) = refl
order_below (x ∷ t) [] = refl
order_below (x ∷ t) (y ∷ u) = go (eqb x y) (ltb x y) refl refl (order_below t u)
  where
    go : (b c : Bool) → eqb x y ≡ b → ltb x y ≡ c → is_lt (tuple_order t u) ≡ is_below t u → is_lt (cond b (tuple_order t u) (cond c Less (cond b Equal Greater))) ≡ cond b (is_below t u) c
    go true c e f ih = ih
    go false true e f ih = refl
    go false false e f ih = refl

pub order_same : (t u : List ℕ) → is_eq (tuple_order t u) ≡ same_tuple t u
order_same [] [] = refl
order_same [] (y ∷ u) = refl
order_same (x ∷ t) [] = refl
order_same (x ∷ t) (y ∷ u) = go (eqb x y) (ltb x y) (order_same t u)
  where
    go : (b c : Bool) → is_eq (tuple_order t u) ≡ same_tuple t u → is_eq (cond b (tuple_order t u) (cond c Less (cond b Equal Greater))) ≡ cond b (same_tuple t u) false
    go true c ih = ih
    go false true ih = refl
    go false false ih = refl

pub ranks_by_order : {X : Type 0} (f : X → List ℕ) → IsStrictWeakOrder (λ x y. is_lt (tuple_order (f x) (f y)))
ranks_by_order f = record {
  one_way = λ x y h. order_below (f y) (f x) ∙ one_way (f x) (f y) (sym (order_below (f x) (f y)) ∙ h);
  chain = λ x y z h k. order_below (f x) (f z) ∙ chain (f x) (f y) (f z) (sym (order_below (f x) (f y)) ∙ h) (sym (order_below (f y) (f z)) ∙ k);
}

-- ---- two tuples, number by number

pub order_next : (t u : List ℕ) (k : ℕ) → k < length t → k < length u → get_or t k 0 ≡ get_or u k 0 → tuple_order (drop k t) (drop k u) ≡ tuple_order (drop (k + 1) t) (drop (k + 1) u)
order_next t u k a b same =
    let e : eqb (get_or t k 0) (get_or u k 0) ≡ true = grind (arith, nat_tests) in
    (λ i. tuple_order (drop-cons t k 0 a i) (drop-cons u k 0 b i)) ∙ ap (λ b. cond b (tuple_order (drop (suc k) t) (drop (suc k) u)) (nat_cmp (get_or t k 0) (get_or u k 0))) e ∙ ap (λ n. tuple_order (drop n t) (drop n u)) (sym (add-one k))

pub order_differs : (t u : List ℕ) (k : ℕ) → k < length t → k < length u → get_or t k 0 ≢ get_or u k 0 → tuple_order (drop k t) (drop k u) ≡ nat_cmp (get_or t k 0) (get_or u k 0)
order_differs t u k a b apart =
    let e : eqb (get_or t k 0) (get_or u k 0) ≡ false = grind (arith, nat_tests) in
    (λ i. tuple_order (drop-cons t k 0 a i) (drop-cons u k 0 b i)) ∙ ap (λ b. cond b (tuple_order (drop (suc k) t) (drop (suc k) u)) (nat_cmp (get_or t k 0) (get_or u k 0))) e

first_less : (n : ℕ) → nat_cmp 0 (suc n) ≡ Less
first_less n = let e : ltb 0 (suc n) ≡ true = grind (arith, nat_tests) in rw e refl

first_more : (n : ℕ) → nat_cmp (suc n) 0 ≡ Greater
first_more n =
    let e : ltb (suc n) 0 ≡ false = grind (arith, nat_tests) in
    let d : eqb (suc n) 0 ≡ false = grind (arith, nat_tests) in
    rw (e, d) refl

-- one of them is at its end
ended : (t u : List ℕ) → length t ≡ 0 ⊎ length u ≡ 0 → tuple_order t u ≡ nat_cmp (length t) (length u)
ended [] [] e = refl
ended [] (y ∷ u) e = sym (first_less (length u))
ended (x ∷ t) [] e = sym (first_more (length t))
ended (x ∷ t) (y ∷ u) (inl e) = absurd (omega arith)
ended (x ∷ t) (y ∷ u) (inr e) = absurd (omega arith)

less_both : (m n k : ℕ) → k ≤ m → k ≤ n → nat_cmp (m - k) (n - k) ≡ nat_cmp m n
less_both m n k a b =
    let below : ltb (m - k) (n - k) ≡ ltb m n = grind (arith, nat_tests) in
    let same : eqb (m - k) (n - k) ≡ eqb m n = grind (arith, nat_tests) in
    rw (below, same) refl

pub order_ends : (t u : List ℕ) (k : ℕ) → k ≡ min (length t) (length u) → tuple_order (drop k t) (drop k u) ≡ nat_cmp (length t) (length u)
order_ends t u k is =
    let p = length-drop k t in
    let q = length-drop k u in
    let over : length (drop k t) ≡ 0 ⊎ length (drop k u) ≡ 0 = elim (cases_lt (length t) (length u)) [ inl h ↦ inl (omega arith) | inr h ↦ inr (omega arith) ] in
    ended (drop k t) (drop k u) over ∙ (λ i. nat_cmp (p i) (q i)) ∙ less_both (length t) (length u) k (omega arith) (omega arith)

-- ---- two lists, tuple by tuple

pub head_at : {X : Type 0} (xs : List X) (k : ℕ) (x : X) → k < length xs → x ≡ get_or xs k x → drop k xs ≡ x ∷ drop (k + 1) xs
head_at xs k x below is = drop-cons xs k x below ∙ rw (← is, add-one) refl

module _ {X : Type 0} (f : X → List ℕ) where
  heads : (xs ys : List X) (k : ℕ) (x y : X) → k < length xs → k < length ys → x ≡ get_or xs k x → y ≡ get_or ys k y
      → first_difference (map f (drop k xs)) (map f (drop k ys)) ≡ cond (same_tuple (f x) (f y)) (first_difference (map f (drop (k + 1) xs)) (map f (drop (k + 1) ys))) (Some (cond (is_below (f x) (f y)) (f x) (f y)))
  heads xs ys k x y a b p q = λ i. first_difference (map f (head_at xs k x a p i)) (map f (head_at ys k y b q i))

  difference_next : (xs ys : List X) (k : ℕ) (x y : X) → k < length xs → k < length ys → x ≡ get_or xs k x → y ≡ get_or ys k y → tuple_order (f x) (f y) ≡ Equal
      → first_difference (map f (drop k xs)) (map f (drop k ys)) ≡ first_difference (map f (drop (k + 1) xs)) (map f (drop (k + 1) ys))
  difference_next xs ys k x y a b p q is =
      let same : same_tuple (f x) (f y) ≡ true = sym (order_same (f x) (f y)) ∙ ap is_eq is in
      heads xs ys k x y a b p q ∙ rw same refl

  difference_less : (xs ys : List X) (k : ℕ) (x y : X) → k < length xs → k < length ys → x ≡ get_or xs k x → y ≡ get_or ys k y → tuple_order (f x) (f y) ≡ Less → first_difference (map f (drop k xs)) (map f (drop k ys)) ≡ Some (f x)
  difference_less xs ys k x y a b p q is =
      let same : same_tuple (f x) (f y) ≡ false = sym (order_same (f x) (f y)) ∙ ap is_eq is in
      let below : is_below (f x) (f y) ≡ true = sym (order_below (f x) (f y)) ∙ ap is_lt is in
      heads xs ys k x y a b p q ∙ rw (same, below) refl

  difference_greater : (xs ys : List X) (k : ℕ) (x y : X) → k < length xs → k < length ys → x ≡ get_or xs k x → y ≡ get_or ys k y → tuple_order (f x) (f y) ≡ Greater → first_difference (map f (drop k xs)) (map f (drop k ys)) ≡ Some (f y)
  difference_greater xs ys k x y a b p q is =
      let same : same_tuple (f x) (f y) ≡ false = sym (order_same (f x) (f y)) ∙ ap is_eq is in
      let below : is_below (f x) (f y) ≡ false = sym (order_below (f x) (f y)) ∙ ap is_lt is in
      heads xs ys k x y a b p q ∙ rw (same, below) refl

  first_alone : (xs ys : List X) (k : ℕ) (x : X) → k < length xs → x ≡ get_or xs k x → length ys ≤ k → first_difference (map f (drop k xs)) (map f (drop k ys)) ≡ Some (f x)
  first_alone xs ys k x a p past = λ i. first_difference (map f (head_at xs k x a p i)) (map f (drop_all k ys past i))

  second_alone : (xs ys : List X) (k : ℕ) (y : X) → k < length ys → y ≡ get_or ys k y → length xs ≤ k → first_difference (map f (drop k xs)) (map f (drop k ys)) ≡ Some (f y)
  second_alone xs ys k y b q past = λ i. first_difference (map f (drop_all k xs past i)) (map f (head_at ys k y b q i))

  pub none_left : (xs ys : List X) (k : ℕ) → length xs ≤ k → length ys ≤ k → first_difference (map f (drop k xs)) (map f (drop k ys)) ≡ None
  none_left xs ys k a b = λ i. first_difference (map f (drop_all k xs a i)) (map f (drop_all k ys b i))

  same_read : (xs : List X) (k : ℕ) (d : X) → k < length xs → get_or xs k d ≡ get_or xs k (get_or xs k d)
  same_read xs k d below = get_or_default xs k d (get_or xs k d) below

  pub read_next : (xs ys : List X) (k : ℕ) (d e : X) → k < length xs → k < length ys → tuple_order (f (get_or xs k d)) (f (get_or ys k e)) ≡ Equal
      → first_difference (map f (drop k xs)) (map f (drop k ys)) ≡ first_difference (map f (drop (k + 1) xs)) (map f (drop (k + 1) ys))
  read_next xs ys k d e a b is = difference_next xs ys k (get_or xs k d) (get_or ys k e) a b (same_read xs k d a) (same_read ys k e b) is

  pub read_less : (xs ys : List X) (k : ℕ) (d e : X) → k < length xs → k < length ys → tuple_order (f (get_or xs k d)) (f (get_or ys k e)) ≡ Less → first_difference (map f (drop k xs)) (map f (drop k ys)) ≡ Some (f (get_or xs k d))
  read_less xs ys k d e a b is = difference_less xs ys k (get_or xs k d) (get_or ys k e) a b (same_read xs k d a) (same_read ys k e b) is

  pub read_greater : (xs ys : List X) (k : ℕ) (d e : X) → k < length xs → k < length ys → tuple_order (f (get_or xs k d)) (f (get_or ys k e)) ≡ Greater → first_difference (map f (drop k xs)) (map f (drop k ys)) ≡ Some (f (get_or ys k e))
  read_greater xs ys k d e a b is = difference_greater xs ys k (get_or xs k d) (get_or ys k e) a b (same_read xs k d a) (same_read ys k e b) is

  pub read_first : (xs ys : List X) (k : ℕ) (d : X) → k < length xs → length ys ≤ k → first_difference (map f (drop k xs)) (map f (drop k ys)) ≡ Some (f (get_or xs k d))
  read_first xs ys k d a past = first_alone xs ys k (get_or xs k d) a (same_read xs k d a) past

  pub read_second : (xs ys : List X) (k : ℕ) (d : X) → k < length ys → length xs ≤ k → first_difference (map f (drop k xs)) (map f (drop k ys)) ≡ Some (f (get_or ys k d))
  read_second xs ys k d b past = second_alone xs ys k (get_or ys k d) b (same_read ys k d b) past

  -- ---- lists in order

  all_from : (P : List ℕ → Type 0) (ys : List X) → ((j : ℕ) (d : X) → j < length ys → P (f (get_or ys j d))) → AllByRecursion P (map f ys)
  all_from P [] h = tt
  all_from P (y ∷ ys) h = (h 0 y (omega arith), all_from P ys (λ j d below. h (suc j) d (omega arith)))

  ascending_from : (xs : List X) → ((i j : ℕ) (d : X) → i ≤ j → j < length xs → is_below (f (get_or xs j d)) (f (get_or xs i d)) ≡ false) → IsAscending (map f xs)
  ascending_from [] h = tt
  ascending_from (x ∷ xs) h = (all_from (λ u. is_below u (f x) ≡ false) xs (λ j d below. h 0 (suc j) d (omega arith) (omega arith)), ascending_from xs (λ i j d le below. h (suc i) (suc j) d (omega arith) (omega arith)))

  pub ascending : (xs : List X) → IsSortedBy (λ x y. is_lt (tuple_order (f x) (f y))) xs → IsAscending (map f xs)
  ascending xs sorted = ascending_from xs (λ i j d le below. sym (order_below (f (get_or xs j d)) (f (get_or xs i d))) ∙ sorted_far (λ x y. is_lt (tuple_order (f x) (f y))) (ranks_by_order f) xs sorted i j d le below)

  -- a closure that answers by the order of tuples sorts by it
  pub compares : {F : Type 0} {g : Mut F (Bor X × (Bor X × Unit {0})) Ordering} {c : F} (xs : List X) → IsSortedByClosure g c xs → ((a : Bor X × (Bor X × Unit {0})) (r : Ordering) (c' : F) → Called g c a r c' → (r ≡ tuple_order (f a.0.now) (f a.1.0.now)) × (c' ≡ c)) → IsAscending (map f xs)
  compares {F} {g} {c} xs sorted said =
      ascending xs (sorted (λ x y. is_lt (tuple_order (f x) (f y))) (ranks_by_order f) (always_returns_same g (λ a r. is_lt r ≡ is_lt (tuple_order (f a.0.now) (f a.1.0.now))) c (λ a r c' k. let s = said a r c' k in (ap is_lt s.0, s.1))))

  -- ---- how often a tuple stands in a list

  pub count_next : (t : List ℕ) (xs : List X) (k : ℕ) (d : X) (b : Bool) → k < length xs → is_eq (tuple_order t (f (get_or xs k d))) ≡ b
      → count same_tuple t (map f (drop k xs)) ≡ cond b 1 0 + count same_tuple t (map f (drop (k + 1) xs))
  count_next t xs k d b below told =
      let rest = count same_tuple t (map f (drop (k + 1) xs)) in
      ap (λ ds. count same_tuple t (map f ds)) (head_at xs k (get_or xs k d) below (same_read xs k d below)) ∙ ap (λ b. cond b (suc rest) rest) (sym (order_same t (f (get_or xs k d))) ∙ told) ∙ counted b rest
    where
      counted : (b : Bool) (n : ℕ) → cond b (suc n) n ≡ cond b 1 0 + n
      counted true n = omega arith
      counted false n = omega arith

  pub count_done : (t : List ℕ) (xs : List X) (k : ℕ) → length xs ≤ k → count same_tuple t (map f (drop k xs)) ≡ 0
  count_done t xs k past = ap (λ ds. count same_tuple t (map f ds)) (drop_all k xs past)
