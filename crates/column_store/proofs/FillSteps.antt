-- The steps of filling the columns of a table one after the other.
use Rattle.std.proofs.Common.{◌≡◌, ℕ, zero, suc, ◌+◌, ◌^◌, ◌<◌, ◌≤◌, List, [], ◌∷◌, ◌++◌, length, take, drop, set, get_or, refl, sym, ap, subst, ◌∙◌, arith, add-zero}
use Rattle.std.proofs.lemmas.List.{drop_more, take_more, take_more_set, drop-set-lt, set_split, get_or-drop, map-append, length-map, take-map}
use Rattle.std.proofs.lemmas.Option.{slice_get_within}
use Rattle.std.proofs.Math.ListN.{length-set}
use Rattle.cube_laws.specs.Sums.{tabulate}
use Rattle.cube_laws.proofs.Weights.{tabulate-same}
use Rattle.table_shape.specs.declared.shape.ColumnKind.{ColumnKind}
use Rattle.table_shape.specs.declared.shape.ColumnKind.TheVariants.{Committed, Virtual}
use Rattle.table_shape.specs.declared.shape.ColumnShape.{ColumnShape}
use Rattle.table_shape.specs.declared.shape.ShapeForm.{ShapeForm}
use Rattle.table_shape.specs.Forms.{form_value}
use Rattle.table_shape.specs.Fits.{HasKind, IsFormOf}
use Rattle.list_laws.proofs.Lists.{item_here}
use Rattle.column_store.specs.Column.{ColumnValues, lists, list_of}
use Rattle.column_store.specs.Draft.{AreKept, IsGiven, IsKept, CanRead, count_of}
use Rattle.column_store.specs.Filled.{filled_column, filled_at, filled}
use Rattle.column_store.proofs.Pieces.{list_at}
use Rattle.column_store.proofs.FormFits.{ListsFit, can_read, form_fits}
use Rattle.column_store.proofs.FilledColumns.{ColumnsFit, AreGiven, column_at, filled-suc, lists_fit, same_before, sized_before}

-- a column that isn't virtual
pub committed_of : (kind : ColumnKind) → ((f : ShapeForm) → kind ≡ Virtual f → ⊥) → kind ≡ Committed
committed_of Committed h = refl
committed_of (Virtual f) h = absurd (h f refl)

pub given_of : (m : ℕ) (shapes : List ColumnShape) (columns : List ColumnValues) → AreKept m shapes columns → AreGiven m shapes (lists columns)
given_of m shapes columns kept c shape e =
    let within : c < length columns = (let a = slice_get_within shapes c shape e in let b = kept.counts in omega arith) in
    let none : ColumnValues = record { level = 0; values = [] } in
    let own : ColumnValues = get_or columns c none in
    let there : own ≡ get_or columns c own = reread columns c none within in
    let is = kept.each c shape own e (item_here columns c own within there) in
    subst (IsGiven m shape) (sym (list_at columns c own within there)) is.given
  where
    reread : {X : Type 0} (xs : List X) (i : ℕ) (d : X) → i < length xs → get_or xs i d ≡ get_or xs i (get_or xs i d)
    reread [] i d h = absurd (omega arith)
    reread (x ∷ xs) zero d h = refl
    reread (x ∷ xs) (suc i) d h = reread xs i d (omega arith)

-- what is done and what is left, before column c
pub record Until (m : ℕ) (shapes : List ColumnShape) (old now : List ColumnValues) (c : ℕ) : Type 0 where
  pub len : length now ≡ length old
  pub done : take c (lists now) ≡ filled m shapes (lists old) c
  pub left : drop c now ≡ drop c old

pub begun : (m : ℕ) (shapes : List ColumnShape) (old : List ColumnValues) → Until m shapes old old 0
unfolding filled
begun m shapes old = record { len = refl; done = refl; left = refl }

pub ended : (m : ℕ) (shapes : List ColumnShape) (old now : List ColumnValues) (c : ℕ) → AreKept m shapes old → length shapes ≡ c → Until m shapes old now c → lists now ≡ filled m shapes (lists old) (length shapes)
ended m shapes old now c kept h u =
    sym (take_all (lists now) c (let a = kept.counts in let b = u.len in let d = length-map now (λ (k : ColumnValues). k.values) in omega arith)) ∙ u.done ∙ ap (filled m shapes (lists old)) (sym h)
  where
    take_all : {X : Type 0} (xs : List X) (n : ℕ) → length xs ≤ n → take n xs ≡ xs
    take_all [] zero h = refl
    take_all [] (suc n) h = refl
    take_all (x ∷ xs) zero h = absurd (omega arith)
    take_all (x ∷ xs) (suc n) h = ap (λ ys. x ∷ ys) (take_all xs n (omega arith))

-- the column that is left first is as it was
pub own_kept : (m : ℕ) (shapes : List ColumnShape) (old now : List ColumnValues) (c : ℕ) (shape : ColumnShape) (own : ColumnValues) → AreKept m shapes old → c < length shapes → shape ≡ get_or shapes c shape → drop c now ≡ drop c old
    → own ≡ get_or (drop c now) 0 own → IsKept m shape own
own_kept m shapes old now c shape own kept h is left e =
    let there : own ≡ get_or old c own = e ∙ ap (λ xs. get_or xs 0 own) left ∙ get_or-drop c old 0 own ∙ ap (λ i. get_or old i own) (add-zero c) in
    kept.each c shape own (item_here shapes c shape h is) (item_here old c own (let k = kept.counts in omega arith) there)

front_is : (m : ℕ) (shapes : List ColumnShape) (old now front : List ColumnValues) (c : ℕ) → take c (lists now) ≡ filled m shapes (lists old) c → front ≡ take c now → lists front ≡ filled m shapes (lists old) c
front_is m shapes old now front c done is = ap lists is ∙ sym (take-map (λ (k : ColumnValues). k.values) c now) ∙ done

pub own_reads : (shapes : List ColumnShape) (c : ℕ) (shape : ColumnShape) (f : ShapeForm) → ColumnsFit shapes → c < length shapes → shape ≡ get_or shapes c shape → shape.kind ≡ Virtual f → CanRead (take c shapes) f × IsFormOf (take c shapes) shape f
own_reads shapes c shape f fit h is kind =
    let own = fit c shape (item_here shapes c shape h is) in
    let form : IsFormOf (take c shapes) shape f = subst (HasKind (take c shapes) shape) kind own.kind in
    (can_read (take c shapes) shape f (sized_before c shapes fit) own.level form, form)

pub own_fits : (m : ℕ) (shapes : List ColumnShape) (old now front : List ColumnValues) (c : ℕ) (shape : ColumnShape) (own at : ColumnValues) (f : ShapeForm) → ColumnsFit shapes → AreKept m shapes old → c < length shapes → shape ≡ get_or shapes c shape
    → shape.kind ≡ Virtual f → take c (lists now) ≡ filled m shapes (lists old) c → front ≡ take c now → IsKept m shape own → own ≡ at
    → (p : ℕ) → form_value (take c shapes) (list_of (lists front)) f p < 2 ^ (2 ^ at.level)
own_fits m shapes old now front c shape own at f fit kept h is kind done taken own_is same p =
    let form = (own_reads shapes c shape f fit h is kind).1 in
    let all = lists_fit m shapes (lists old) c fit (given_of m shapes old kept) in
    let before : ListsFit (take c shapes) (list_of (lists front)) = subst (λ ls. ListsFit (take c shapes) (list_of ls)) (sym (front_is m shapes old now front c done taken)) all in
    subst (λ l. form_value (take c shapes) (list_of (lists front)) f p < 2 ^ (2 ^ l)) (sym own_is.level_is ∙ ap (λ (k : ColumnValues). k.level) same) (form_fits (take c shapes) shape (list_of (lists front)) f p before form)

column_is : (m : ℕ) (shapes : List ColumnShape) (given : List (List ℕ)) (c : ℕ) (shape : ColumnShape) (kind : ColumnKind) → c < length shapes → shape ≡ get_or shapes c shape → shape.kind ≡ kind
    → column_at m shapes given c ≡ filled_column m shapes (filled m shapes given c) shape (list_of given c) kind
column_is m shapes given c shape kind h is k = ap (filled_at m shapes (filled m shapes given c) (list_of given c)) (item_here shapes c shape h is) ∙ ap (filled_column m shapes (filled m shapes given c) shape (list_of given c)) k

next_filled : (m : ℕ) (shapes : List ColumnShape) (given : List (List ℕ)) (c : ℕ) → filled m shapes given (c + 1) ≡ filled m shapes given c ++ column_at m shapes given c ∷ []
next_filled m shapes given c = let e : c + 1 ≡ suc c = omega arith in ap (filled m shapes given) e ∙ filled-suc m shapes given c

pub drop_next : {X : Type 0} (xs ys : List X) (c : ℕ) → drop c xs ≡ drop c ys → drop (c + 1) xs ≡ drop (c + 1) ys
drop_next xs ys c e = one xs c ∙ ap (drop 1) e ∙ sym (one ys c)
  where
    one : {X : Type 0} (xs : List X) (c : ℕ) → drop (c + 1) xs ≡ drop 1 (drop c xs)
    one xs zero = refl
    one [] (suc c) = let e : suc c + 1 ≡ suc (c + 1) = omega arith in ap (λ n. drop n []) e
    one (x ∷ xs) (suc c) = let e : suc c + 1 ≡ suc (c + 1) = omega arith in ap (λ n. drop n (x ∷ xs)) e ∙ one xs c

pub kept_step : (m : ℕ) (shapes : List ColumnShape) (old now after : List ColumnValues) (c : ℕ) (shape : ColumnShape) → AreKept m shapes old → c < length shapes → shape ≡ get_or shapes c shape → shape.kind ≡ Committed → after ≡ now
    → Until m shapes old now c → Until m shapes old after (c + 1)
kept_step m shapes old now after c shape kept h is kind same u = subst (λ xs. Until m shapes old xs (c + 1)) (sym same) (record {
  len = u.len;
  done =
      take_more (lists now) c [] (let a = kept.counts in let b = u.len in let d = length-map now (λ (k : ColumnValues). k.values) in omega arith)
      ∙ (λ i. u.done i ++ here i ∷ []) ∙ sym (next_filled m shapes (lists old) c);
  left = drop_next now old c u.left;
})
  where
    at_drop : (xs : List ColumnValues) (c : ℕ) → get_or (lists xs) c [] ≡ get_or (lists (drop c xs)) 0 []
    at_drop xs zero = refl
    at_drop [] (suc c) = refl
    at_drop (x ∷ xs) (suc c) = at_drop xs c

    here : get_or (lists now) c [] ≡ column_at m shapes (lists old) c
    here = at_drop now c ∙ ap (λ xs. get_or (lists xs) 0 []) u.left ∙ sym (at_drop old c) ∙ sym (column_is m shapes (lists old) c shape Committed h is kind)

pub filled_step : (m : ℕ) (shapes : List ColumnShape) (old now front back after : List ColumnValues) (c count level : ℕ) (shape : ColumnShape) (next : ColumnValues) (f : ShapeForm) → ColumnsFit shapes → AreKept m shapes old
    → c < length shapes → shape ≡ get_or shapes c shape → shape.kind ≡ Virtual f → front ≡ take c now → back ≡ drop c now → count ≡ count_of m shape
    → next.values ≡ tabulate count (form_value (take c shapes) (list_of (lists front)) f) → after ≡ front ++ set back 0 next → Until m shapes old now c → Until m shapes old after (c + 1)
filled_step m shapes old now front back after c count level shape next f fit kept h is kind taken left_over counted values made u =
    let within : c < length now = (let a = kept.counts in let b = u.len in omega arith) in
    let sets : after ≡ set now c next =
    made ∙ (λ i. taken i ++ set (left_over i) 0 next) ∙ ap (λ xs. take c now ++ set xs 0 next) (drop_more now c next within)
    ∙ ap (λ n. take c now ++ next ∷ drop n now) (let e : c + 1 ≡ suc c = omega arith in e) ∙ sym (set_split now c next within) in
    let g : ℕ → ℕ = form_value (take c shapes) (list_of (lists front)) f in
    let all = front_is m shapes old now front c u.done taken in
    let form = (own_reads shapes c shape f fit h is kind).1 in
    let low = (fit c shape (item_here shapes c shape h is)).level in
    let here : next.values ≡ column_at m shapes (lists old) c =
    values ∙ ap (λ n. tabulate n g) counted
    ∙ tabulate-same (count_of m shape) g (form_value shapes (list_of (filled m shapes (lists old) c)) f)
    (λ p less. ap (λ ls. form_value (take c shapes) (list_of ls) f p) all ∙ sym (same_before m shapes shape (lists old) c c p f fit (omega arith) low form))
    ∙ sym (column_is m shapes (lists old) c shape (Virtual f) h is kind) in
    subst (λ xs. Until m shapes old xs (c + 1)) (sym sets) (record {
      len = length-set now c next ∙ u.len;
      done =
          take-map (λ (k : ColumnValues). k.values) (c + 1) (set now c next) ∙ ap lists (take_more_set now c next within) ∙ map-append (λ (k : ColumnValues). k.values) (take c now) (next ∷ [])
          ∙ (λ i. (sym (take-map (λ (k : ColumnValues). k.values) c now) ∙ u.done) i ++ here i ∷ []) ∙ sym (next_filled m shapes (lists old) c);
      left = drop-set-lt (c + 1) now c next (omega arith) ∙ drop_next now old c u.left;
    })
