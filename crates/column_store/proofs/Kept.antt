-- What a draft keeps, as it is made and changed.
use Rattle.std.proofs.Common.{◌≡◌, ℕ, zero, suc, ◌+◌, ◌*◌, ◌/◌, ◌%◌, ◌^◌, ◌<◌, ◌≤◌, List, [], ◌∷◌, ◌++◌, length, take, drop, append_assoc, add-zero, map, set, get_or, Option, Some, None, option_map, ◌⊎◌, refl, sym, ap, subst, ◌∙◌, inl, inr, arith}
use Rattle.std.specs.List.{slice_get}
use Rattle.std.proofs.lemmas.List.{take_more, map-append, get_or_past}
use Rattle.std.proofs.lemmas.Bool.{cases_lt}
use Rattle.std.proofs.lemmas.List.{get_or-map, length-map, map-set, get_or-drop, drop_more, take_more_set, drop-set-lt}
use Rattle.std.proofs.lemmas.Nat.{pow_pos, pow-add, mul-le, mod_below}
use Rattle.std.proofs.lemmas.Option.{slice_get-map, slice_get_within, slice_get-get_or, get_or_from_slice_get}
use Rattle.std.proofs.Math.ListN.{length-set}
use Rattle.std.proofs.Math.Nat.{pow-le-pow_right, mul_comm, mul_assoc}
use Rattle.tower_laws.specs.Digits.{digits}
use Rattle.tower_laws.proofs.Levels.{size_pos}
use Rattle.cube_laws.specs.Sums.{tabulate}
use Rattle.cube_laws.proofs.Tabulate.{get_or-tabulate}
use Rattle.cube_laws.proofs.Weights.{length-tabulate}
use Rattle.table_shape.specs.declared.shape.ColumnShape.{ColumnShape}
use Rattle.table_shape.specs.declared.shape.TableShape.{TableShape}
use Rattle.column_store.specs.Column.{ColumnValues, lists, list_of}
use Rattle.table_shape.specs.Parts.{ShapeParts}
use Rattle.list_laws.specs.CeilLog.{ceil_log}
use Rattle.table_shape.specs.Fits.{TableFits, ShapeFits}
use Rattle.table_shape.specs.Filling.{Filling, IsFilling}
use Rattle.list_laws.proofs.CeilLog.{is_least}
use Rattle.column_store.specs.Digits.{number_of_bytes}
use Rattle.column_store.specs.Spelled.{written_bits, column_values}
use Rattle.column_store.specs.Draft.{count_of, zero_column, zero_columns, zeros_of, IsGiven, IsKept, AreKept, AllKept, AreRows, IsDraft, IsStored, Drafted, with_values, columns_of}
use Rattle.table_shape.specs.Width.{log_values_at}
use Rattle.list_laws.proofs.Lists.{item_here, drop_here}
use Rattle.column_store.specs.Filled.{filled, filled_tables}
use Rattle.column_store.proofs.ByteDigits.{length-digits, digit_at, no_digit, powers}
use Rattle.column_store.proofs.FilledColumns.{TablesGiven, is_filling, table_is, length-filled, length-filled_tables}
use Rattle.column_store.proofs.FillSteps.{given_of}

pub zeros_more : (m : ℕ) (shapes : List ColumnShape) (i : ℕ) (shape : ColumnShape) (count : ℕ) (column : ColumnValues) (old new : List ColumnValues) → i < length shapes → shape ≡ get_or shapes i shape → count ≡ count_of m shape
    → column ≡ record { level = shape.level; values = tabulate count (λ _. 0) } → new ≡ old ++ column ∷ [] → old ≡ zero_columns m (take i shapes) → new ≡ zero_columns m (take (i + 1) shapes)
zeros_more m shapes i shape count column old new h is ec ek en eo =
    let here : column ≡ zero_column m shape = ek ∙ ap (made shape.level) ec in
    en ∙ (λ k. eo k ++ here k ∷ []) ∙ sym (map-append (zero_column m) (take i shapes) (shape ∷ []))
    ∙ ap (map (zero_column m)) (ap (λ s. take i shapes ++ s ∷ []) is ∙ sym (take_more shapes i shape h))
  where
    made : ℕ → ℕ → ColumnValues
    made level n = record { level = level; values = tabulate n (λ _. 0) }

-- ---- items that are replaced

pub slice_get-set_same : {X : Type 0} (xs : List X) (i : ℕ) (v : X) → i < length xs → slice_get (set xs i v) i ≡ Some v
slice_get-set_same [] i v h = absurd (omega arith)
slice_get-set_same (x ∷ xs) zero v h = refl
slice_get-set_same (x ∷ xs) (suc i) v h = slice_get-set_same xs i v (omega arith)

pub slice_get-set_other : {X : Type 0} (xs : List X) (i j : ℕ) (v : X) → (j ≡ i → ⊥) → slice_get (set xs i v) j ≡ slice_get xs j
slice_get-set_other [] i j v h = refl
slice_get-set_other (x ∷ xs) zero zero v h = absurd (h refl)
slice_get-set_other (x ∷ xs) zero (suc j) v h = refl
slice_get-set_other (x ∷ xs) (suc i) zero v h = refl
slice_get-set_other (x ∷ xs) (suc i) (suc j) v h = slice_get-set_other xs i j v (λ e. h (ap suc e))

some_is : {X : Type 0} {x y : X} → Some x ≡ Some y → x ≡ y
some_is e = cc

same_or_not : (i j : ℕ) → (i ≡ j) ⊎ (i ≡ j → ⊥)
same_or_not i j = elim (cases_lt i j) [
  | inl lt ↦ inr (λ e. absurd (omega arith))
  | inr ge ↦ elim (cases_lt j i) [ inl lt ↦ inr (λ e. absurd (omega arith)) | inr le ↦ inl (omega arith) ]
]

-- a fact of each pair of items, where one is replaced
each_set : {X Y : Type 0} (P : ℕ → X → Y → Type 0) (xs : List X) (ys : List Y) (i : ℕ) (x : X) (y : Y) → slice_get xs i ≡ Some x → P i x y → i < length ys
    → ((k : ℕ) (a : X) (b : Y) → slice_get xs k ≡ Some a → slice_get ys k ≡ Some b → P k a b) → (k : ℕ) (a : X) (b : Y) → slice_get xs k ≡ Some a → slice_get (set ys i y) k ≡ Some b → P k a b
each_set P xs ys i x y at here h each k a b e f = elim (same_or_not k i) [
  | inl same ↦
      let g : Some x ≡ Some a = sym at ∙ ap (slice_get xs) (sym same) ∙ e in
      let g' : Some y ≡ Some b = sym (slice_get-set_same ys i y h) ∙ ap (slice_get (set ys i y)) (sym same) ∙ f in
      let p : P k x y = subst (λ n. P n x y) (sym same) here in
      subst (λ c. P k c b) (some_is g) (subst (λ c. P k x c) (some_is g') p)
  | inr other ↦ each k a b e (sym (slice_get-set_other ys i k y other) ∙ f)
]

-- ---- the values that bytes spell

size_of : (n v i : ℕ) → (2 ^ (2 ^ i)) ^ (2 ^ (n + v)) ≡ 2 ^ (2 ^ (n + v + i))
size_of n v i = powers (2 ^ i) (2 ^ (n + v)) ∙ ap (λ x. 2 ^ x) (mul_comm (2 ^ i) (2 ^ (n + v)) ∙ sym (pow-add 2 (n + v) i))

-- the bits of the rows are among those of the rows filled up
bits_below : (m : ℕ) (column : ColumnShape) → 2 ^ written_bits m column ≤ (2 ^ (2 ^ column.level)) ^ (2 ^ (ceil_log m + column.log_values))
bits_below m column =
    let v = column.log_values in
    let i = column.level in
    let e : 2 ^ (ceil_log m + v + i) ≡ 2 ^ ceil_log m * 2 ^ (v + i) = ap (λ x. 2 ^ x) (omega arith) ∙ pow-add 2 (ceil_log m) (v + i) in
    let le = mul-le m (2 ^ (v + i)) (2 ^ ceil_log m) (2 ^ (v + i)) (is_least m).enough (omega arith) in
    let mono = pow-le-pow_right {n = 2} (omega arith) {i = written_bits m column} {j = 2 ^ (ceil_log m + v + i)} (omega arith) in
    omega (arith, mono, size_of (ceil_log m) v i)

pub value_at : (m : ℕ) (column : ColumnShape) (bytes : List ℕ) (p : ℕ) → number_of_bytes bytes < 2 ^ written_bits m column
    → get_or (column_values m column bytes) p 0 ≡ number_of_bytes bytes / (2 ^ (2 ^ column.level)) ^ p % 2 ^ (2 ^ column.level)
value_at m column bytes p h =
    let below = bits_below m column in
    digit_at (2 ^ (2 ^ column.level)) (2 ^ (ceil_log m + column.log_values)) (number_of_bytes bytes) p (pow_pos (2 ^ column.level)) (omega arith)

pub spelled_given : (m : ℕ) (column : ColumnShape) (bytes : List ℕ) → number_of_bytes bytes < 2 ^ written_bits m column → IsGiven m column (column_values m column bytes)
spelled_given m column bytes h =
    let w = 2 ^ column.level in
    let n = m * 2 ^ column.log_values in
    let k : w * n ≡ written_bits m column = mul_comm w n ∙ mul_assoc m (2 ^ column.log_values) w ∙ ap (λ x. m * x) (sym (pow-add 2 column.log_values column.level)) in
    let P : ℕ → Type 0 = λ x. number_of_bytes bytes < x in
    let below = subst P (sym (powers w n ∙ ap (λ x. 2 ^ x) k)) h in
    let Q : ℕ → Type 0 = λ x. x < 2 ^ w in
    record {
      len = length-digits (2 ^ w) (2 ^ (ceil_log m + column.log_values)) (number_of_bytes bytes);
      fits = λ p. subst Q (sym (value_at m column bytes p h)) (mod_below (number_of_bytes bytes / (2 ^ w) ^ p) (2 ^ w) (pow_pos w));
      padded = λ p le. value_at m column bytes p h ∙ no_digit (2 ^ w) n (number_of_bytes bytes) p (pow_pos w) below le;
    }

-- the values of a column that takes bytes
abbrev pub spelled : ColumnValues → List ℕ → ColumnValues
spelled column bytes = record column { values = digits (2 ^ (2 ^ column.level)) (length column.values) (number_of_bytes bytes) }

pub spelled_is : (m : ℕ) (shape : ColumnShape) (column : ColumnValues) (bytes : List ℕ) → IsKept m shape column → (spelled column bytes).values ≡ column_values m shape bytes
spelled_is m shape column bytes kept = λ i. digits (2 ^ (2 ^ kept.level_is i)) (kept.given.len i) (number_of_bytes bytes)

spelled_kept : (m : ℕ) (shape : ColumnShape) (column : ColumnValues) (bytes : List ℕ) → IsKept m shape column → number_of_bytes bytes < 2 ^ written_bits m shape → IsKept m shape (spelled column bytes)
spelled_kept m shape column bytes kept h = record { level_is = kept.level_is; given = subst (IsGiven m shape) (sym (spelled_is m shape column bytes kept)) (spelled_given m shape bytes h) }

-- ---- a column of a draft that takes bytes

-- the column of a table, and the table's columns
pub record IsHeld (tables : List TableShape) (rows : List ℕ) (stored : List (List ColumnValues)) (t c : ℕ) (table : TableShape) (shape : ColumnShape) : Type 0 where
  pub columns : List ColumnValues
  pub column : ColumnValues
  pub columns_are : slice_get stored t ≡ Some columns
  pub column_is : slice_get columns c ≡ Some column
  pub all_kept : AreKept (get_or rows t 0) table.columns columns
  pub kept : IsKept (get_or rows t 0) shape column

pub held : (tables : List TableShape) (rows : List ℕ) (stored : List (List ColumnValues)) (t c : ℕ) (table : TableShape) (shape : ColumnShape) → IsDraft tables rows stored → slice_get tables t ≡ Some table → slice_get table.columns c ≡ Some shape
    → IsHeld tables rows stored t c table shape
held tables rows stored t c table shape draft e f =
    let no_columns : List ColumnValues = [] in
    let no_column : ColumnValues = record { level = 0; values = [] } in
    let columns : List ColumnValues = get_or stored t no_columns in
    let there = slice_get-get_or stored t no_columns (let a = slice_get_within tables t table e in let b = draft.counts in omega arith) in
    let all = draft.each t table columns e there in
    let column : ColumnValues = get_or columns c no_column in
    let here = slice_get-get_or columns c no_column (let a = slice_get_within table.columns c shape f in let b = all.counts in omega arith) in
    record { columns = columns; column = column; columns_are = there; column_is = here; all_kept = all; kept = all.each c shape column f here }

pub put_draft : (tables : List TableShape) (rows : List ℕ) (stored : List (List ColumnValues)) (t c : ℕ) (table : TableShape) (shape : ColumnShape) (bytes : List ℕ) → IsDraft tables rows stored → (e : slice_get tables t ≡ Some table) → (f : slice_get table.columns c ≡ Some shape)
    → number_of_bytes bytes < 2 ^ written_bits (get_or rows t 0) shape → (h : IsHeld tables rows stored t c table shape) → IsDraft tables rows (set stored t (set h.columns c (spelled h.column bytes)))
put_draft tables rows stored t c table shape bytes draft e f no_padding h =
    let m : ℕ = get_or rows t 0 in
    let next : List ColumnValues = set h.columns c (spelled h.column bytes) in
    let kept : AreKept m table.columns next = record {
      counts = length-set h.columns c (spelled h.column bytes) ∙ h.all_kept.counts;
      each = each_set (λ k s column. IsKept m s column) table.columns h.columns c shape (spelled h.column bytes) f (spelled_kept m shape h.column bytes h.kept no_padding) (slice_get_within h.columns c h.column h.column_is) h.all_kept.each;
    } in
    record {
      rows_are = draft.rows_are;
      counts = length-set stored t next ∙ draft.counts;
      each = each_set (λ k s columns. AreKept (get_or rows k 0) s.columns columns) tables stored t table next e kept (slice_get_within stored t h.columns h.columns_are) draft.each;
    }

pub put_values : (tables : List TableShape) (rows : List ℕ) (stored : List (List ColumnValues)) (t c : ℕ) (table : TableShape) (shape : ColumnShape) (bytes : List ℕ) (h : IsHeld tables rows stored t c table shape)
    → map lists (set stored t (set h.columns c (spelled h.column bytes))) ≡ with_values (map lists stored) t c (column_values (get_or rows t 0) shape bytes)
put_values tables rows stored t c table shape bytes h =
    let old : lists h.columns ≡ get_or (map lists stored) t [] =
    ap lists (sym (get_or_from_slice_get stored t h.columns [] h.columns_are)) ∙ sym (get_or-map lists stored t [] [] (slice_get_within stored t h.columns h.columns_are)) in
    let values = spelled_is (get_or rows t 0) shape h.column bytes h.kept in
    map-set lists stored t (set h.columns c (spelled h.column bytes))
    ∙ ap (set (map lists stored) t) (map-set (λ (k : ColumnValues). k.values) h.columns c (spelled h.column bytes) ∙ (λ i. set (old i) c (values i)))

-- ---- zeros

zero_given : (m : ℕ) (shape : ColumnShape) → IsGiven m shape (zero_column m shape).values
zero_given m shape = record {
  len = length-tabulate (count_of m shape) (λ _. 0);
  fits = λ p. subst (λ x. x < 2 ^ (2 ^ shape.level)) (sym (zero_at (count_of m shape) p)) (size_pos shape.level);
  padded = λ p le. zero_at (count_of m shape) p;
}
  where
    zero_at : (n p : ℕ) → get_or (tabulate n (λ _. 0)) p 0 ≡ 0
    zero_at n p = elim (cases_lt p n) [
      | inl lt ↦ get_or-tabulate n p (λ _. 0) lt
      | inr le ↦ let l = length-tabulate n (λ _. 0) in get_or_past (tabulate n (λ _. 0)) p 0 (omega arith)
    ]

zeros_kept : (m : ℕ) (shapes : List ColumnShape) → AreKept m shapes (zero_columns m shapes)
zeros_kept m shapes = record {
  counts = length-map shapes (zero_column m);
  each = λ c shape column e f.
      let g : Some (zero_column m shape) ≡ Some column = sym (slice_get-map (zero_column m) shapes c ∙ ap (option_map (zero_column m)) e) ∙ f in
      subst (IsKept m shape) (some_is g) (record { level_is = refl; given = zero_given m shape });
}

length-zeros : (tables : List TableShape) (rows : List ℕ) → length rows ≡ length tables → length (zeros_of tables rows) ≡ length tables
length-zeros [] rows h = refl
length-zeros (table ∷ tables) [] h = absurd (omega arith)
length-zeros (table ∷ tables) (m ∷ rows) h = ap suc (length-zeros tables rows (omega arith))

none_some : {X : Type 0} {x : X} → None ≡ Some x → ⊥
none_some e = cc

all_zeros_kept : (tables : List TableShape) (rows : List ℕ) → length rows ≡ length tables → AllKept rows tables (zeros_of tables rows)
all_zeros_kept [] rows h t table columns e f = absurd (none_some e)
all_zeros_kept (first ∷ tables) [] h t table columns e f = absurd (omega arith)
all_zeros_kept (first ∷ tables) (m ∷ rows) h zero table columns e f =
    let a : first ≡ table = some_is e in
    let b : zero_columns m first.columns ≡ columns = some_is f in
    subst (λ (s : TableShape). AreKept m s.columns columns) a (subst (AreKept m first.columns) b (zeros_kept m first.columns))
all_zeros_kept (first ∷ tables) (m ∷ rows) h (suc t) table columns e f = all_zeros_kept tables rows (omega arith) t table columns e f

pub zero_draft : (tables : List TableShape) (rows : List ℕ) → AreRows tables rows → IsDraft tables rows (zeros_of tables rows)
zero_draft tables rows are = record { rows_are = are; counts = length-zeros tables rows are.counts; each = all_zeros_kept tables rows are.counts }

-- ---- a draft whose virtual columns have their values

pub tables_given : (tables : List TableShape) (rows : List ℕ) (stored : List (List ColumnValues)) → length stored ≡ length tables → AllKept rows tables stored → TablesGiven tables rows (map lists stored)
tables_given tables rows stored h kept t table e =
    let none : List ColumnValues = [] in
    let within : t < length stored = (let a = slice_get_within tables t table e in omega arith) in
    let columns : List ColumnValues = get_or stored t none in
    subst (λ ls. (c : ℕ) (column : ColumnShape) → slice_get table.columns c ≡ Some column → IsGiven (get_or rows t 0) column (list_of ls c)) (sym (get_or-map lists stored t none [] within))
    (given_of (get_or rows t 0) table.columns columns (kept t table columns e (slice_get-get_or stored t none within)))

pub filled_store : (shape : ShapeParts) (rows : List ℕ) (old new : List (List ColumnValues)) → IsDraft shape.tables rows old → ((t : ℕ) (table : TableShape) → slice_get shape.tables t ≡ Some table → TableFits table)
    → map lists new ≡ filled_tables shape.tables rows (map lists old) → IsStored shape rows new
filled_store shape rows old new draft fit is =
    let tables = shape.tables in
    let are = draft.rows_are in
    let given : length (map lists old) ≡ length tables = length-map old lists ∙ draft.counts in
    let fills : IsFilling tables rows (filled_tables tables rows (map lists old)) = is_filling tables rows (map lists old) are.counts given are.few fit (tables_given tables rows old draft.counts draft.each) in
    record {
      fills = subst (IsFilling tables rows) (sym is) fills;
      small = are.small;
      counts = sym (length-map new lists) ∙ ap length is ∙ length-filled_tables tables rows (map lists old) are.counts given;
      columns_count = λ t table columns e f.
          let own : lists columns ≡ get_or (map lists new) t [] =
          ap lists (sym (get_or_from_slice_get new t columns [] f)) ∙ sym (get_or-map lists new t [] [] (slice_get_within new t columns f)) in
          let whole = own ∙ ap (λ ls. get_or ls t []) is ∙ table_is tables rows (map lists old) t table are.counts given e in
          sym (length-map columns (λ (k : ColumnValues). k.values)) ∙ ap length whole ∙ length-filled (get_or rows t 0) table.columns (get_or (map lists old) t []) (length table.columns);
    }

zeros_next_suc : (tables : List TableShape) (rows : List ℕ) (t : ℕ) (table : TableShape) → t < length tables → length rows ≡ length tables → table ≡ get_or tables t table
    → zeros_of (take (suc t) tables) rows ≡ zeros_of (take t tables) rows ++ zero_columns (get_or rows t 0) table.columns ∷ []
zeros_next_suc [] rows t table h k e = absurd (omega arith)
zeros_next_suc (first ∷ tables) [] t table h k e = absurd (omega arith)
zeros_next_suc (first ∷ tables) (m ∷ rows) zero table h k e = ap (λ (s : TableShape). zero_columns m s.columns ∷ []) (sym e)
zeros_next_suc (first ∷ tables) (m ∷ rows) (suc t) table h k e = ap (λ xs. zero_columns m first.columns ∷ xs) (zeros_next_suc tables rows t table (omega arith) (omega arith) e)

pub zeros_next : (tables : List TableShape) (rows : List ℕ) (t : ℕ) (table : TableShape) (old new : List (List ColumnValues)) (made : List ColumnValues) → t < length tables → length rows ≡ length tables → table ≡ get_or tables t table
    → old ≡ zeros_of (take t tables) rows → made ≡ zero_columns (get_or rows t 0) table.columns → new ≡ old ++ made ∷ [] → new ≡ zeros_of (take (t + 1) tables) rows
zeros_next tables rows t table old new made h k e eo em en =
    let one : suc t ≡ t + 1 = omega arith in
    en ∙ (λ i. eo i ++ em i ∷ []) ∙ sym (zeros_next_suc tables rows t table h k e) ∙ ap (λ n. zeros_of (take n tables) rows) one

-- ---- columns of a store

pub columns_long : (shape : ShapeParts) (rows : List ℕ) (stored : List (List ColumnValues)) (t : ℕ) (table : TableShape) (columns : List ColumnValues) → IsStored shape rows stored → slice_get shape.tables t ≡ Some table
    → lists columns ≡ get_or (map lists stored) t [] → length columns ≡ length table.columns
columns_long shape rows stored t table columns h e is =
    let none : List ColumnValues = [] in
    let within : t < length stored = (let a = slice_get_within shape.tables t table e in let b = h.counts in omega arith) in
    let own : List ColumnValues = get_or stored t none in
    sym (length-map columns (λ (k : ColumnValues). k.values)) ∙ ap length (is ∙ get_or-map lists stored t none [] within) ∙ length-map own (λ (k : ColumnValues). k.values)
    ∙ h.columns_count t table own e (slice_get-get_or stored t none within)

abbrev pub drafted_as : ShapeParts → List ℕ → Filling → Drafted
drafted_as shape rows values = record { shape = shape; rows = rows; values = values }

pub same_draft : (shape : ShapeParts) (rows : List ℕ) (old new : Filling) → old ≡ new → drafted_as shape rows old ≡ drafted_as shape rows new
same_draft shape rows old new e = ap (drafted_as shape rows) e

-- ---- a column's shape

pub record IsShapeAt (shape : ShapeParts) (t c : ℕ) (table : TableShape) (column : ColumnShape) : Type 0 where
  pub table_is : slice_get shape.tables t ≡ Some table
  pub column_is : slice_get table.columns c ≡ Some column
  pub within : c < length table.columns
  pub log_values : column.log_values ≤ 7
  pub logs : column.log_values ≡ log_values_at (columns_of shape.tables t) c

pub shape_at : (shape : ShapeParts) (t c : ℕ) (table : TableShape) (column : ColumnShape) (tables : List TableShape) (columns : List ColumnShape) → ShapeFits shape → tables ≡ shape.tables → t < length shape.tables → c < length (columns_of shape.tables t)
    → table ≡ get_or tables t table → columns ≡ (get_or tables t table).columns → column ≡ get_or columns c column → IsShapeAt shape t c table column
shape_at shape t c table column tables columns fits all lt lc et ec is =
    let at : slice_get shape.tables t ≡ Some table = subst (λ ts. slice_get ts t ≡ Some table) all (item_here tables t table (let a = ap length all in omega arith) et) in
    let own : columns_of shape.tables t ≡ table.columns = ap (λ (o : Option TableShape). elim o [ Some table ↦ table.columns | None ↦ [] ]) at in
    let these : columns ≡ table.columns = ec ∙ ap (λ (s : TableShape). s.columns) (sym et) in
    let within : c < length table.columns = (let a = ap length own in omega arith) in
    let here : slice_get table.columns c ≡ Some column = subst (λ cs. slice_get cs c ≡ Some column) these (item_here columns c column (let a = ap length these in omega arith) is) in
    let log : log_values_at table.columns c ≡ column.log_values = ap (λ (o : Option ColumnShape). elim o [ Some column ↦ column.log_values | None ↦ 0 ]) here in
    record {
      table_is = at;
      column_is = here;
      within = within;
      log_values = ((fits.tables t table at).columns c column here).log_values;
      logs = sym log ∙ ap (λ cs. log_values_at cs c) (sym own);
    }

-- ---- tables filled one after the other

pub item_left : {X : Type 0} (old now : List X) (t : ℕ) (d item : X) → t < length old → drop t now ≡ drop t old → item ≡ get_or now t d → slice_get old t ≡ Some item
item_left old now t d item h left e =
    let there : item ≡ get_or old t d =
    e ∙ ap (λ i. get_or now i d) (sym (add-zero t)) ∙ sym (get_or-drop t now 0 d) ∙ ap (λ xs. get_or xs 0 d) left ∙ get_or-drop t old 0 d ∙ ap (λ i. get_or old i d) (add-zero t) in
    slice_get-get_or old t d h ∙ ap Some (sym there)

pub tables_step : (rows : List ℕ) (shapes : List TableShape) (now : List (List ColumnValues)) (t : ℕ) (table : TableShape) (d item next : List ColumnValues) (total : Filling) → length rows ≡ length shapes → length now ≡ length shapes → t < length shapes
    → table ≡ get_or shapes t table → item ≡ get_or now t d → lists next ≡ filled (get_or rows t 0) table.columns (lists item) (length table.columns)
    → map lists (take t now) ++ filled_tables (drop t shapes) (drop t rows) (map lists (drop t now)) ≡ total
    → map lists (take (t + 1) (set now t next)) ++ filled_tables (drop (t + 1) shapes) (drop (t + 1) rows) (map lists (drop (t + 1) (set now t next))) ≡ total
tables_step rows shapes now t table d item next total hr hn h et ei en so_far =
    let rest : Filling = filled_tables (drop (t + 1) shapes) (drop (t + 1) rows) (map lists (drop (t + 1) now)) in
    let front : Filling = map lists (take t now) in
    let m : ℕ = get_or rows t 0 in
    let made : Filling = filled m table.columns (lists item) (length table.columns) ∷ rest in
    let here : filled_tables (drop t shapes) (drop t rows) (map lists (drop t now)) ≡ made =
    (λ i. filled_tables (drop_here shapes t table h et i) (drop_more rows t 0 (omega arith) i) (map lists ((drop_more now t d (omega arith) ∙ ap (λ x. x ∷ drop (t + 1) now) (sym ei)) i))) in
    let first : map lists (take (t + 1) (set now t next)) ≡ front ++ lists next ∷ [] = ap (map lists) (take_more_set now t next (omega arith)) ∙ map-append lists (take t now) (next ∷ []) in
    let after : filled_tables (drop (t + 1) shapes) (drop (t + 1) rows) (map lists (drop (t + 1) (set now t next))) ≡ rest =
    ap (λ xs. filled_tables (drop (t + 1) shapes) (drop (t + 1) rows) (map lists xs)) (drop-set-lt (t + 1) now t next (omega arith)) in
    (λ i. first i ++ after i) ∙ append_assoc front (lists next ∷ []) rest ∙ ap (λ x. front ++ x ∷ rest) en ∙ ap (λ xs. front ++ xs) (sym here) ∙ so_far
