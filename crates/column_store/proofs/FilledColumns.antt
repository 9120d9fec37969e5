-- The values of all columns, where those that are given fit, fit the shape.
use Rattle.std.proofs.Common.{◌≡◌, ℕ, zero, suc, ◌^◌, ◌<◌, ◌≤◌, List, [], ◌∷◌, ◌++◌, length, take, get_or, Some, None, refl, sym, ap, subst, ◌∙◌, inl, inr, arith, length-append}
use Rattle.std.specs.List.{slice_get}
use Rattle.std.proofs.lemmas.Bool.{cases_lt}
use Rattle.std.proofs.lemmas.List.{get_or_append_left, get_or_past}
use Rattle.std.proofs.Math.Seq.{get_or-append_seam}
use Rattle.std.proofs.lemmas.Option.{slice_get_within}
use Rattle.tower_laws.proofs.Levels.{size_pos}
use Rattle.cube_laws.specs.Sums.{tabulate}
use Rattle.cube_laws.proofs.Tabulate.{get_or-tabulate}
use Rattle.cube_laws.proofs.Weights.{length-tabulate}
use Rattle.table_shape.specs.declared.shape.ColumnKind.{ColumnKind}
use Rattle.table_shape.specs.declared.shape.ColumnKind.TheVariants.{Committed, Virtual}
use Rattle.table_shape.specs.declared.shape.ColumnShape.{ColumnShape}
use Rattle.table_shape.specs.declared.shape.TableShape.{TableShape}
use Rattle.table_shape.specs.declared.shape.ShapeForm.{ShapeForm}
use Rattle.table_shape.specs.Forms.{form_value}
use Rattle.table_shape.specs.Fits.{AreSized, ColumnFits, HasKind, IsFormOf, TableFits}
use Rattle.table_shape.specs.Filling.{Filling, HasValues, IsColumn, IsFilling}
use Rattle.column_store.specs.Column.{list_of}
use Rattle.column_store.specs.Draft.{IsGiven, count_of}
use Rattle.column_store.specs.Filled.{filled_column, filled_at, filled, filled_tables}
use Rattle.column_store.proofs.FormFits.{ListsFit, can_read, same_form, form_fits}

-- ---- columns before others

pub slice_get-take : {X : Type 0} (n : ℕ) (xs : List X) (k : ℕ) → k < n → slice_get (take n xs) k ≡ slice_get xs k
slice_get-take zero xs k h = absurd (omega arith)
slice_get-take (suc n) [] k h = refl
slice_get-take (suc n) (x ∷ xs) zero h = refl
slice_get-take (suc n) (x ∷ xs) (suc k) h = slice_get-take n xs k (omega arith)

pub taken_length : {X : Type 0} (n : ℕ) (xs : List X) → length (take n xs) ≤ n
taken_length zero xs = omega arith
taken_length (suc n) [] = omega arith
taken_length (suc n) (x ∷ xs) = let h = taken_length n xs in omega arith

pub within_taken : {X : Type 0} (n : ℕ) (xs : List X) (k : ℕ) (x : X) → slice_get (take n xs) k ≡ Some x → (k < n) × (slice_get xs k ≡ Some x)
within_taken n xs k x e =
    let h : k < n = (let a = slice_get_within (take n xs) k x e in let b = taken_length n xs in omega arith) in
    (h, sym (slice_get-take n xs k h) ∙ e)

-- each column fits those before it
abbrev pub ColumnsFit : List ColumnShape → Type 0
ColumnsFit columns = (c : ℕ) (column : ColumnShape) → slice_get columns c ≡ Some column → ColumnFits (take c columns) column

pub sized_before : (n : ℕ) (columns : List ColumnShape) → ColumnsFit columns → AreSized (take n columns)
sized_before n columns fit k column e = let w = within_taken n columns k column e in let f = fit k column w.1 in (f.level, f.log_values)

-- ---- filled columns by number

pub length-filled : (m : ℕ) (columns : List ColumnShape) (given : List (List ℕ)) (n : ℕ) → length (filled m columns given n) ≡ n
unfolding filled
length-filled m columns given zero = refl
length-filled m columns given (suc n) =
    let x : List ℕ = filled_at m columns (filled m columns given n) (list_of given n) (slice_get columns n) in
    let h = length-filled m columns given n in let l = length-append (filled m columns given n) (x ∷ []) in omega arith

-- column c among the first columns
abbrev pub column_at : ℕ → List ColumnShape → List (List ℕ) → ℕ → List ℕ
column_at m columns given c = filled_at m columns (filled m columns given c) (list_of given c) (slice_get columns c)

pub filled-suc : (m : ℕ) (columns : List ColumnShape) (given : List (List ℕ)) (n : ℕ) → filled m columns given (suc n) ≡ filled m columns given n ++ column_at m columns given n ∷ []
unfolding filled
filled-suc m columns given n = refl

pub filled_is : (m : ℕ) (columns : List ColumnShape) (given : List (List ℕ)) (n c : ℕ) → c < n → list_of (filled m columns given n) c ≡ column_at m columns given c
filled_is m columns given zero c h = absurd (omega arith)
filled_is m columns given (suc n) c h =
    let len = length-filled m columns given n in
    ap (λ xs. list_of xs c) (filled-suc m columns given n) ∙ elim (cases_lt c n) [
      | inl lt ↦ get_or_append_left (filled m columns given n) (column_at m columns given n ∷ []) [] c (omega arith) ∙ filled_is m columns given n c lt
      | inr le ↦
          let e : c ≡ length (filled m columns given n) = omega arith in
          let f : n ≡ c = omega arith in
          ap (λ i. get_or (filled m columns given n ++ column_at m columns given n ∷ []) i []) e ∙ get_or-append_seam (filled m columns given n) (column_at m columns given n) [] [] ∙ ap (column_at m columns given) f
    ]

pub filled_same : (m : ℕ) (columns : List ColumnShape) (given : List (List ℕ)) (n k c : ℕ) → c < n → c < k → list_of (filled m columns given n) c ≡ list_of (filled m columns given k) c
filled_same m columns given n k c h l = filled_is m columns given n c h ∙ sym (filled_is m columns given k c l)

-- ---- a virtual column by the columns before it

pub same_before : (m : ℕ) (columns : List ColumnShape) (column : ColumnShape) (given : List (List ℕ)) (n c p : ℕ) (f : ShapeForm) → ColumnsFit columns → c ≤ n → column.level ≤ 7 → IsFormOf (take c columns) column f
    → form_value columns (list_of (filled m columns given n)) f p ≡ form_value (take c columns) (list_of (filled m columns given c)) f p
same_before m columns column given n c p f fit h l is =
    let few = taken_length c columns in
    same_form (take c columns) columns (list_of (filled m columns given n)) (list_of (filled m columns given c)) f p
    (λ k less. sym (slice_get-take c columns k (omega arith))) (λ k less. filled_same m columns given n c k (omega arith) (omega arith))
    (can_read (take c columns) column f (sized_before c columns fit) l is)

-- values that fit and have the right number for each column
abbrev pub AreGiven : ℕ → List ColumnShape → List (List ℕ) → Type 0
AreGiven m columns given = (c : ℕ) (column : ColumnShape) → slice_get columns c ≡ Some column → IsGiven m column (list_of given c)

column_of : (m : ℕ) (columns : List ColumnShape) (given : List (List ℕ)) (c : ℕ) (column : ColumnShape) → slice_get columns c ≡ Some column
    → column_at m columns given c ≡ filled_column m columns (filled m columns given c) column (list_of given c) column.kind
column_of m columns given c column e = ap (filled_at m columns (filled m columns given c) (list_of given c)) e

tabulated_fits : (n i p : ℕ) (f : ℕ → ℕ) → (f p < 2 ^ (2 ^ i)) → get_or (tabulate n f) p 0 < 2 ^ (2 ^ i)
tabulated_fits n i p f h = elim (cases_lt p n) [
  | inl lt ↦ subst (λ x. x < 2 ^ (2 ^ i)) (sym (get_or-tabulate n p f lt)) h
  | inr le ↦ let l = length-tabulate n f in subst (λ x. x < 2 ^ (2 ^ i)) (sym (get_or_past (tabulate n f) p 0 (omega arith))) (size_pos i)
]

kind_fits : (m : ℕ) (columns : List ColumnShape) (given : List (List ℕ)) (c p : ℕ) (column : ColumnShape) (kind : ColumnKind) → ColumnsFit columns → column.level ≤ 7 → HasKind (take c columns) column kind → IsGiven m column (list_of given c)
    → ListsFit (take c columns) (list_of (filled m columns given c)) → get_or (filled_column m columns (filled m columns given c) column (list_of given c) kind) p 0 < 2 ^ (2 ^ column.level)
kind_fits m columns given c p column Committed fit l has is before = is.fits p
kind_fits m columns given c p column (Virtual f) fit l has is before =
    tabulated_fits (count_of m column) column.level p (form_value columns (list_of (filled m columns given c)) f)
    (subst (λ x. x < 2 ^ (2 ^ column.level)) (sym (same_before m columns column given c c p f fit (omega arith) l has)) (form_fits (take c columns) column (list_of (filled m columns given c)) f p before has))

-- the first n columns fit
pub filled_fit : (m : ℕ) (columns : List ColumnShape) (given : List (List ℕ)) → ColumnsFit columns → AreGiven m columns given → (n c : ℕ) (column : ColumnShape) → c < n → slice_get columns c ≡ Some column → (p : ℕ)
    → get_or (column_at m columns given c) p 0 < 2 ^ (2 ^ column.level)
filled_fit m columns given fit are zero c column h e p = absurd (omega arith)
filled_fit m columns given fit are (suc n) c column h e p = elim (cases_lt c n) [
  | inl lt ↦ filled_fit m columns given fit are n c column lt e p
  | inr le ↦
      let before : ListsFit (take c columns) (list_of (filled m columns given c)) = λ k source s q.
      let w = within_taken c columns k source s in
      subst (λ xs. get_or xs q 0 < 2 ^ (2 ^ source.level)) (sym (filled_is m columns given c k w.0)) (filled_fit m columns given fit are n k source (let a = w.0 in omega arith) w.1 q) in
      let own = fit c column e in
      subst (λ xs. get_or xs p 0 < 2 ^ (2 ^ column.level)) (sym (column_of m columns given c column e)) (kind_fits m columns given c p column column.kind fit own.level own.kind (are c column e) before)
]

pub lists_fit : (m : ℕ) (columns : List ColumnShape) (given : List (List ℕ)) (c : ℕ) → ColumnsFit columns → AreGiven m columns given → ListsFit (take c columns) (list_of (filled m columns given c))
lists_fit m columns given c fit are k source s q =
    let w = within_taken c columns k source s in
    subst (λ xs. get_or xs q 0 < 2 ^ (2 ^ source.level)) (sym (filled_is m columns given c k w.0)) (filled_fit m columns given fit are (suc k) k source (omega arith) w.1 q)

kind_length : (m : ℕ) (columns : List ColumnShape) (before : List (List ℕ)) (column : ColumnShape) (list : List ℕ) (kind : ColumnKind) → IsGiven m column list → length (filled_column m columns before column list kind) ≡ count_of m column
kind_length m columns before column list Committed is = is.len
kind_length m columns before column list (Virtual f) is = length-tabulate (count_of m column) (form_value columns (list_of before) f)

kind_has : (m : ℕ) (columns : List ColumnShape) (given : List (List ℕ)) (n c : ℕ) (column : ColumnShape) (kind : ColumnKind) → ColumnsFit columns → c ≤ n → column.level ≤ 7 → HasKind (take c columns) column kind → IsGiven m column (list_of given c)
    → HasValues m columns (list_of (filled m columns given n)) column (filled_column m columns (filled m columns given c) column (list_of given c) kind) kind
kind_has m columns given n c column Committed fit h l has is = is.padded
kind_has m columns given n c column (Virtual f) fit h l has is = λ p less.
    get_or-tabulate (count_of m column) p (form_value columns (list_of (filled m columns given c)) f) less
    ∙ same_before m columns column given c c p f fit (omega arith) l has ∙ sym (same_before m columns column given n c p f fit h l has)

-- a column of a table that is filled
pub is_column : (m : ℕ) (columns : List ColumnShape) (given : List (List ℕ)) (c : ℕ) (column : ColumnShape) → ColumnsFit columns → AreGiven m columns given → slice_get columns c ≡ Some column
    → IsColumn m columns (list_of (filled m columns given (length columns))) c column
is_column m columns given c column fit are e =
    let n : ℕ = length columns in
    let within = slice_get_within columns c column e in
    let own = fit c column e in
    let list = filled_is m columns given n c within in
    let kinded = list ∙ column_of m columns given c column e in
    record {
      len = ap length kinded ∙ kind_length m columns (filled m columns given c) column (list_of given c) column.kind (are c column e);
      fits = λ p. subst (λ xs. get_or xs p 0 < 2 ^ (2 ^ column.level)) (sym list) (filled_fit m columns given fit are (suc c) c column (omega arith) e p);
      has = subst (λ xs. HasValues m columns (list_of (filled m columns given n)) column xs column.kind) (sym kinded) (kind_has m columns given n c column column.kind fit (omega arith) own.level own.kind (are c column e));
    }

-- ---- tables

pub table_is : (tables : List TableShape) (rows : List ℕ) (given : Filling) (t : ℕ) (table : TableShape) → length rows ≡ length tables → length given ≡ length tables → slice_get tables t ≡ Some table
    → get_or (filled_tables tables rows given) t [] ≡ filled (get_or rows t 0) table.columns (get_or given t []) (length table.columns)
table_is [] rows given t table h k e = absurd (none_some e)
  where
    none_some : {X : Type 0} {x : X} → None ≡ Some x → ⊥
    none_some e = cc
table_is (first ∷ tables) [] given t table h k e = absurd (omega arith)
table_is (first ∷ tables) (m ∷ rows) [] t table h k e = absurd (omega arith)
table_is (first ∷ tables) (m ∷ rows) (g ∷ given) zero table h k e = let same : first ≡ table = some_same e in ap (λ (s : TableShape). filled m s.columns g (length s.columns)) same
  where
    some_same : {X : Type 0} {x y : X} → Some x ≡ Some y → x ≡ y
    some_same e = cc
table_is (first ∷ tables) (m ∷ rows) (g ∷ given) (suc t) table h k e = table_is tables rows given t table (omega arith) (omega arith) e

pub length-filled_tables : (tables : List TableShape) (rows : List ℕ) (given : Filling) → length rows ≡ length tables → length given ≡ length tables → length (filled_tables tables rows given) ≡ length tables
length-filled_tables [] rows given h k = refl
length-filled_tables (table ∷ tables) [] given h k = absurd (omega arith)
length-filled_tables (table ∷ tables) (m ∷ rows) [] h k = absurd (omega arith)
length-filled_tables (table ∷ tables) (m ∷ rows) (g ∷ given) h k = ap suc (length-filled_tables tables rows given (omega arith) (omega arith))

abbrev pub TablesGiven : List TableShape → List ℕ → Filling → Type 0
TablesGiven tables rows given = (t : ℕ) (table : TableShape) → slice_get tables t ≡ Some table → AreGiven (get_or rows t 0) table.columns (get_or given t [])

pub is_filling : (tables : List TableShape) (rows : List ℕ) (given : Filling) → length rows ≡ length tables → length given ≡ length tables → ((t : ℕ) → get_or rows t 0 ≤ 1048576) → ((t : ℕ) (table : TableShape) → slice_get tables t ≡ Some table → TableFits table)
    → TablesGiven tables rows given → IsFilling tables rows (filled_tables tables rows given)
is_filling tables rows given h k few fit are = record {
  counts = h;
  few = few;
  columns = λ t c table column e f.
      subst (λ lists. IsColumn (get_or rows t 0) table.columns (list_of lists) c column) (sym (table_is tables rows given t table h k e))
      (is_column (get_or rows t 0) table.columns (get_or given t []) c column (fit t table e).columns (are t table e) f);
}
