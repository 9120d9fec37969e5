-- Tuples collected one after another.
use Rattle.std.proofs.Common.{◌≡◌, ℕ, ◌+◌, ◌<◌, ◌≤◌, Bool, true, false, cond, List, [], ◌∷◌, ◌++◌, length, map, drop, get_or, sym, ◌∙◌, ap, append-nil, arith}
use Rattle.std.specs.List.{filter, flat_map}
use Rattle.std.proofs.lemmas.List.{append_assoc, drop_all, get_or_default, map-append}
use Rattle.cube_laws.proofs.Tabulate.{get_or-tabulate}
use Rattle.cube_laws.proofs.Weights.{length-tabulate}
use Rattle.table_shape.specs.Channels.{rows_below}
use Rattle.m3_judge.proofs.Comparing.{head_at}

module _ {X : Type 0} where
  -- what is left of those that pass a test, where the next one passes
  pub filter_next : (p : X → Bool) (xs : List X) (k : ℕ) (x : X) → k < length xs → x ≡ get_or xs k x → p x ≡ true → filter p (drop k xs) ≡ x ∷ filter p (drop (k + 1) xs)
  filter_next p xs k x below is passes = ap (filter p) (head_at xs k x below is) ∙ ap (λ b. cond b (x ∷ filter p (drop (k + 1) xs)) (filter p (drop (k + 1) xs))) passes

  -- and where it doesn't
  pub filter_skip : (p : X → Bool) (xs : List X) (k : ℕ) (x : X) → k < length xs → x ≡ get_or xs k x → p x ≡ false → filter p (drop k xs) ≡ filter p (drop (k + 1) xs)
  filter_skip p xs k x below is fails = ap (filter p) (head_at xs k x below is) ∙ ap (λ b. cond b (x ∷ filter p (drop (k + 1) xs)) (filter p (drop (k + 1) xs))) fails

  pub filter_done : (p : X → Bool) (xs : List X) (k : ℕ) → length xs ≤ k → filter p (drop k xs) ≡ []
  filter_done p xs k past = ap (filter p) (drop_all k xs past)

  -- one more at the end
  pub push_next : (done : List X) (x : X) (left all : List X) → done ++ x ∷ left ≡ all → (done ++ x ∷ []) ++ left ≡ all
  push_next done x left all h = append_assoc done (x ∷ []) left ∙ h

  -- several more at the end
  pub append_next : (done more left all : List X) → done ++ (more ++ left) ≡ all → (done ++ more) ++ left ≡ all
  append_next done more left all h = append_assoc done more left ∙ h

  -- nothing is left
  pub append_done : (done left all : List X) → left ≡ [] → done ++ left ≡ all → done ≡ all
  append_done done left all none h = sym (append-nil done) ∙ ap (λ xs. done ++ xs) (sym none) ∙ h

module _ {S X : Type 0} (f : S → List ℕ) where
  -- one tuple more, of the next item that passes a test
  pub pushed : (g : X → List ℕ) (p : X → Bool) (xs : List X) (k : ℕ) (x : X) (s : S) (old new : List S) (all : List (List ℕ)) → k < length xs → x ≡ get_or xs k x → p x ≡ true → f s ≡ g x → new ≡ old ++ s ∷ []
      → map f old ++ map g (filter p (drop k xs)) ≡ all → map f new ++ map g (filter p (drop (k + 1) xs)) ≡ all
  pushed g p xs k x s old new all below is passes same added so_far =
      let left = map g (filter p (drop (k + 1) xs)) in
      let mapped : map f new ≡ map f old ++ g x ∷ [] = ap (map f) added ∙ map-append f old (s ∷ []) ∙ ap (λ t. map f old ++ t ∷ []) same in
      ap (λ ts. ts ++ left) mapped ∙ push_next (map f old) (g x) left all (ap (λ ys. map f old ++ map g ys) (sym (filter_next p xs k x below is passes)) ∙ so_far)

  -- none, of the next item that doesn't
  pub skipped : (g : X → List ℕ) (p : X → Bool) (xs : List X) (k : ℕ) (x : X) (old new : List S) (all : List (List ℕ)) → k < length xs → x ≡ get_or xs k x → p x ≡ false → new ≡ old
      → map f old ++ map g (filter p (drop k xs)) ≡ all → map f new ++ map g (filter p (drop (k + 1) xs)) ≡ all
  skipped g p xs k x old new all below is fails same so_far =
      ap (λ ys. map f ys ++ map g (filter p (drop (k + 1) xs))) same ∙ ap (λ ys. map f old ++ map g ys) (sym (filter_skip p xs k x below is fails)) ∙ so_far

  pub pushed_all : (g : X → List ℕ) (p : X → Bool) (xs : List X) (k : ℕ) (done : List S) (all : List (List ℕ)) → length xs ≤ k → map f done ++ map g (filter p (drop k xs)) ≡ all → map f done ≡ all
  pushed_all g p xs k done all past so_far = append_done (map f done) (map g (filter p (drop k xs))) all (ap (map g) (filter_done p xs k past)) so_far

  -- several tuples more, of the next item that passes a test
  pub appended : (h : X → List (List ℕ)) (p : X → Bool) (xs : List X) (k : ℕ) (x : X) (old new : List S) (all : List (List ℕ)) → k < length xs → x ≡ get_or xs k x → p x ≡ true → map f new ≡ map f old ++ h x
      → map f old ++ flat_map h (filter p (drop k xs)) ≡ all → map f new ++ flat_map h (filter p (drop (k + 1) xs)) ≡ all
  appended h p xs k x old new all below is passes added so_far =
      let left = flat_map h (filter p (drop (k + 1) xs)) in
      ap (λ ts. ts ++ left) added ∙ append_next (map f old) (h x) left all (ap (λ ys. map f old ++ flat_map h ys) (sym (filter_next p xs k x below is passes)) ∙ so_far)

  pub passed_over : (h : X → List (List ℕ)) (p : X → Bool) (xs : List X) (k : ℕ) (x : X) (old new : List S) (all : List (List ℕ)) → k < length xs → x ≡ get_or xs k x → p x ≡ false → new ≡ old
      → map f old ++ flat_map h (filter p (drop k xs)) ≡ all → map f new ++ flat_map h (filter p (drop (k + 1) xs)) ≡ all
  passed_over h p xs k x old new all below is fails same so_far =
      ap (λ ys. map f ys ++ flat_map h (filter p (drop (k + 1) xs))) same ∙ ap (λ ys. map f old ++ flat_map h ys) (sym (filter_skip p xs k x below is fails)) ∙ so_far

  pub appended_all : (h : X → List (List ℕ)) (p : X → Bool) (xs : List X) (k : ℕ) (done : List S) (all : List (List ℕ)) → length xs ≤ k → map f done ++ flat_map h (filter p (drop k xs)) ≡ all → map f done ≡ all
  appended_all h p xs k done all past so_far = append_done (map f done) (flat_map h (filter p (drop k xs))) all (ap (flat_map h) (filter_done p xs k past)) so_far

-- the rows are their own numbers
pub row_at : (m k : ℕ) → k < m → k ≡ get_or (rows_below m) k k
row_at m k below = sym (get_or_default (rows_below m) k k 0 (let e = length-tabulate m (λ row. row) in omega arith) ∙ get_or-tabulate m k (λ row. row) below)

pub rows_count : (m : ℕ) → length (rows_below m) ≡ m
rows_count m = length-tabulate m (λ row. row)
