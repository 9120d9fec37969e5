-- The bytes of columns, put one after the other.
use Rattle.std.proofs.Common.{◌≡◌, ℕ, zero, suc, ◌+◌, ◌/◌, ◌%◌, ◌^◌, ◌<◌, ◌≤◌, true, false, List, [], ◌∷◌, ◌++◌, length, take, drop, set, get_or, Some, None, refl, sym, ap, subst, ◌∙◌, arith}
use Rattle.std.specs.List.{slice_get}
use Rattle.std.proofs.lemmas.List.{get_or-set_same, length-map}
use Rattle.std.proofs.lemmas.Option.{slice_get_within}
use Rattle.std.proofs.Math.Nat.{zero-div, zero-mod}
use Rattle.serde_json.specs.Data.{Members}
use Rattle.tower_laws.specs.Digits.{digits}
use Rattle.cube_laws.specs.Sums.{tabulate}
use Rattle.table_shape.specs.declared.shape.ColumnKind.{ColumnKind}
use Rattle.table_shape.specs.declared.shape.ColumnKind.TheVariants.{Committed, Virtual}
use Rattle.table_shape.specs.declared.shape.ColumnShape.{ColumnShape}
use Rattle.table_shape.specs.declared.shape.TableShape.{TableShape}
use Rattle.table_shape.specs.Filling.{Filling}
use Rattle.column_store.specs.Column.{ColumnValues, lists}
use Rattle.column_store.specs.Draft.{Drafted, count_of, zero_column, zero_columns, zero_tables, with_values}
use Rattle.column_store.specs.Digits.{number_of_bytes}
use Rattle.column_store.specs.Spelled.{written_bits, column_values, table_values, all_values}
use Rattle.witness_reader.specs.Witness.{is_committed}
use Rattle.witness_reader.specs.Putting.{IsSpelled, AreColumnsSpelled, AreTablesSpelled}
use Rattle.witness_reader.specs.WitnessMeaning.{GivesKind, GivesColumns, GivesTables}

-- ---- a list that takes the items of another one from the front

abbrev pub mixed : {X : Type 0} → ℕ → List X → List X → List X
mixed n new old = take n new ++ drop n old

pub mixed_end : {X : Type 0} (n : ℕ) (new old : List X) → length new ≡ length old → length new ≤ n → mixed n new old ≡ new
mixed_end zero [] [] h l = refl
mixed_end (suc n) [] [] h l = refl
mixed_end n [] (y ∷ old) h l = absurd (omega arith)
mixed_end n (x ∷ new) [] h l = absurd (omega arith)
mixed_end zero (x ∷ new) (y ∷ old) h l = absurd (omega arith)
mixed_end (suc n) (x ∷ new) (y ∷ old) h l = ap (λ xs. x ∷ xs) (mixed_end n new old (omega arith) (omega arith))

mixed_set_suc : {X : Type 0} (n : ℕ) (new old : List X) (d : X) → length new ≡ length old → n < length new → set (mixed n new old) n (get_or new n d) ≡ mixed (suc n) new old
mixed_set_suc n [] old d h l = absurd (omega arith)
mixed_set_suc n (x ∷ new) [] d h l = absurd (omega arith)
mixed_set_suc zero (x ∷ new) (y ∷ old) d h l = refl
mixed_set_suc (suc n) (x ∷ new) (y ∷ old) d h l = ap (λ xs. x ∷ xs) (mixed_set_suc n new old d (omega arith) (omega arith))

pub mixed_set : {X : Type 0} (n : ℕ) (new old : List X) (d : X) → length new ≡ length old → n < length new → set (mixed n new old) n (get_or new n d) ≡ mixed (n + 1) new old
mixed_set n new old d h l = let e : suc n ≡ n + 1 = omega arith in mixed_set_suc n new old d h l ∙ ap (λ k. mixed k new old) e

mixed_same_suc : {X : Type 0} (n : ℕ) (new old : List X) (d : X) → length new ≡ length old → n < length new → get_or new n d ≡ get_or old n d → mixed n new old ≡ mixed (suc n) new old
mixed_same_suc n [] old d h l e = absurd (omega arith)
mixed_same_suc n (x ∷ new) [] d h l e = absurd (omega arith)
mixed_same_suc zero (x ∷ new) (y ∷ old) d h l e = ap (λ z. z ∷ old) (sym e)
mixed_same_suc (suc n) (x ∷ new) (y ∷ old) d h l e = ap (λ xs. x ∷ xs) (mixed_same_suc n new old d (omega arith) (omega arith) e)

pub mixed_same : {X : Type 0} (n : ℕ) (new old : List X) (d : X) → length new ≡ length old → n < length new → get_or new n d ≡ get_or old n d → mixed n new old ≡ mixed (n + 1) new old
mixed_same n new old d h l s = let e : suc n ≡ n + 1 = omega arith in mixed_same_suc n new old d h l s ∙ ap (λ k. mixed k new old) e

pub mixed_at : {X : Type 0} (n : ℕ) (new old : List X) (d : X) → length new ≡ length old → get_or (mixed n new old) n d ≡ get_or old n d
mixed_at zero new old d h = refl
mixed_at (suc n) [] [] d h = refl
mixed_at (suc n) [] (y ∷ old) d h = absurd (omega arith)
mixed_at (suc n) (x ∷ new) [] d h = absurd (omega arith)
mixed_at (suc n) (x ∷ new) (y ∷ old) d h = mixed_at n new old d (omega arith)

pub length-mixed : {X : Type 0} (n : ℕ) (new old : List X) → length new ≡ length old → length (mixed n new old) ≡ length old
length-mixed zero new old h = refl
length-mixed (suc n) [] [] h = refl
length-mixed (suc n) [] (y ∷ old) h = absurd (omega arith)
length-mixed (suc n) (x ∷ new) [] h = absurd (omega arith)
length-mixed (suc n) (x ∷ new) (y ∷ old) h = ap suc (length-mixed n new old (omega arith))

set_twice : {X : Type 0} (xs : List X) (i : ℕ) (x y : X) → set (set xs i x) i y ≡ set xs i y
set_twice [] i x y = refl
set_twice (z ∷ xs) zero x y = refl
set_twice (z ∷ xs) (suc i) x y = ap (λ zs. z ∷ zs) (set_twice xs i x y)

-- ---- columns

pub length-values : (m : ℕ) (columns : List ColumnShape) (bytes : List (List ℕ)) → length bytes ≡ length columns → length (table_values m columns bytes) ≡ length columns
length-values m [] bytes h = refl
length-values m (column ∷ columns) [] h = absurd (omega arith)
length-values m (column ∷ columns) (b ∷ bytes) h = ap suc (length-values m columns bytes (omega arith))

pub value_is : (m : ℕ) (columns : List ColumnShape) (bytes : List (List ℕ)) (c : ℕ) (column : ColumnShape) (b : List ℕ) → slice_get columns c ≡ Some column → slice_get bytes c ≡ Some b → get_or (table_values m columns bytes) c [] ≡ column_values m column b
value_is m [] bytes c column b e f = absurd (none_some e)
  where
    none_some : {X : Type 0} {x : X} → None ≡ Some x → ⊥
    none_some e = cc
value_is m (first ∷ columns) [] c column b e f = absurd (none_some f)
  where
    none_some : {X : Type 0} {x : X} → None ≡ Some x → ⊥
    none_some e = cc
value_is m (first ∷ columns) (k ∷ bytes) zero column b e f = (λ i. column_values m (some_same e i) (some_same f i))
  where
    some_same : {X : Type 0} {x y : X} → Some x ≡ Some y → x ≡ y
    some_same e = cc
value_is m (first ∷ columns) (k ∷ bytes) (suc c) column b e f = value_is m columns bytes c column b e f

zero_digits : (b n : ℕ) → digits b n 0 ≡ tabulate n (λ _. 0)
zero_digits b zero = refl
zero_digits b (suc n) = (λ i. zero_rest i ∷ (ap (digits b n) zero_part ∙ zero_digits b n) i)
  where
    zero_rest : 0 % b ≡ 0
    zero_rest = zero-mod b

    zero_part : 0 / b ≡ 0
    zero_part = zero-div b

-- a virtual column has no bytes, and so its values are zeros
pub no_bytes_zero : (m : ℕ) (column : ColumnShape) (bytes : List ℕ) → bytes ≡ [] → column_values m column bytes ≡ (zero_column m column).values
no_bytes_zero m column bytes e = ap (column_values m column) e ∙ zero_digits (2 ^ (2 ^ column.level)) (count_of m column)

pub zero_is : (m : ℕ) (columns : List ColumnShape) (c : ℕ) (column : ColumnShape) → slice_get columns c ≡ Some column → get_or (lists (zero_columns m columns)) c [] ≡ (zero_column m column).values
zero_is m [] c column e = absurd (none_some e)
  where
    none_some : {X : Type 0} {x : X} → None ≡ Some x → ⊥
    none_some e = cc
zero_is m (first ∷ columns) zero column e = ap (λ (k : ColumnShape). (zero_column m k).values) (some_same e)
  where
    some_same : {X : Type 0} {x y : X} → Some x ≡ Some y → x ≡ y
    some_same e = cc
zero_is m (first ∷ columns) (suc c) column e = zero_is m columns c column e

length-zeros : (m : ℕ) (columns : List ColumnShape) → length (lists (zero_columns m columns)) ≡ length columns
length-zeros m columns = length-map (zero_columns m columns) (λ (k : ColumnValues). k.values) ∙ length-map columns (zero_column m)

abbrev pub drafted_as : Drafted → Filling → Drafted
drafted_as d values = record d { values = values }

-- the values of a draft whose first columns of a table have been put
abbrev pub columns_put : Drafted → ℕ → ℕ → List ColumnShape → List (List ℕ) → ℕ → Drafted
columns_put d t m columns bytes c = drafted_as d (set d.values t (mixed c (table_values m columns bytes) (lists (zero_columns m columns))))

pub columns_begun : (d : Drafted) (t m : ℕ) (columns : List ColumnShape) (bytes : List (List ℕ)) → get_or d.values t [] ≡ lists (zero_columns m columns) → d ≡ columns_put d t m columns bytes 0
columns_begun d t m columns bytes e = ap (drafted_as d) (sym (set_own d.values t []) ∙ ap (set d.values t) e)
  where
    set_own : {X : Type 0} (xs : List X) (i : ℕ) (x : X) → set xs i (get_or xs i x) ≡ xs
    set_own [] i x = refl
    set_own (y ∷ xs) zero x = refl
    set_own (y ∷ xs) (suc i) x = ap (λ ys. y ∷ ys) (set_own xs i x)

pub columns_ended : (d : Drafted) (t m : ℕ) (columns : List ColumnShape) (bytes : List (List ℕ)) (c : ℕ) → length bytes ≡ length columns → length columns ≤ c → columns_put d t m columns bytes c ≡ drafted_as d (set d.values t (table_values m columns bytes))
columns_ended d t m columns bytes c h l =
    let a = length-values m columns bytes h in
    ap (λ xs. drafted_as d (set d.values t xs)) (mixed_end c (table_values m columns bytes) (lists (zero_columns m columns)) (a ∙ sym (length-zeros m columns)) (omega arith))

-- a committed column takes its bytes
pub column_taken : (d now next : Drafted) (t m : ℕ) (columns : List ColumnShape) (bytes : List (List ℕ)) (c : ℕ) (column : ColumnShape) (b : List ℕ) → t < length d.values → length bytes ≡ length columns → slice_get columns c ≡ Some column → slice_get bytes c ≡ Some b
    → now ≡ columns_put d t m columns bytes c → next ≡ drafted_as now (with_values now.values t c (column_values m column b)) → next ≡ columns_put d t m columns bytes (c + 1)
column_taken d now next t m columns bytes c column b lt h e f is made =
    let new : List (List ℕ) = table_values m columns bytes in
    let old : List (List ℕ) = lists (zero_columns m columns) in
    let x : List ℕ = column_values m column b in
    let long : length new ≡ length old = length-values m columns bytes h ∙ sym (length-zeros m columns) in
    let within : c < length new = (let a = slice_get_within columns c column e in let k = length-values m columns bytes h in omega arith) in
    made ∙ ap (λ (n : Drafted). drafted_as n (with_values n.values t c x)) is
    ∙ ap (drafted_as d)
    (
    ap (λ row. set (set d.values t (mixed c new old)) t (set row c x)) (get_or-set_same d.values t (mixed c new old) [] lt)
    ∙ set_twice d.values t (mixed c new old) (set (mixed c new old) c x)
    ∙ ap (λ y. set d.values t (set (mixed c new old) c y)) (sym (value_is m columns bytes c column b e f))
    ∙ ap (set d.values t) (mixed_set c new old [] long within)
    )

-- a virtual column stays as it is
pub column_left : (d now next : Drafted) (t m : ℕ) (columns : List ColumnShape) (bytes : List (List ℕ)) (c : ℕ) (column : ColumnShape) (b : List ℕ) → length bytes ≡ length columns → slice_get columns c ≡ Some column → slice_get bytes c ≡ Some b → b ≡ []
    → now ≡ columns_put d t m columns bytes c → next ≡ now → next ≡ columns_put d t m columns bytes (c + 1)
column_left d now next t m columns bytes c column b h e f none is same =
    let new : List (List ℕ) = table_values m columns bytes in
    let old : List (List ℕ) = lists (zero_columns m columns) in
    let long : length new ≡ length old = length-values m columns bytes h ∙ sym (length-zeros m columns) in
    let within : c < length new = (let a = slice_get_within columns c column e in let k = length-values m columns bytes h in omega arith) in
    let here : get_or new c [] ≡ get_or old c [] = value_is m columns bytes c column b e f ∙ no_bytes_zero m column b none ∙ sym (zero_is m columns c column e) in
    same ∙ is ∙ ap (λ xs. drafted_as d (set d.values t xs)) (mixed_same c new old [] long within here)

-- ---- tables

pub length-all_values : (tables : List TableShape) (rows : List ℕ) (bytes : List (List (List ℕ))) → length rows ≡ length tables → length bytes ≡ length tables → length (all_values tables rows bytes) ≡ length tables
length-all_values [] rows bytes h k = refl
length-all_values (table ∷ tables) [] bytes h k = absurd (omega arith)
length-all_values (table ∷ tables) (m ∷ rows) [] h k = absurd (omega arith)
length-all_values (table ∷ tables) (m ∷ rows) (b ∷ bytes) h k = ap suc (length-all_values tables rows bytes (omega arith) (omega arith))

pub length-zero_tables : (tables : List TableShape) (rows : List ℕ) → length rows ≡ length tables → length (zero_tables tables rows) ≡ length tables
length-zero_tables [] rows h = refl
length-zero_tables (table ∷ tables) [] h = absurd (omega arith)
length-zero_tables (table ∷ tables) (m ∷ rows) h = ap suc (length-zero_tables tables rows (omega arith))

pub table_value_is : (tables : List TableShape) (rows : List ℕ) (bytes : List (List (List ℕ))) (t : ℕ) (table : TableShape) (b : List (List ℕ)) → length rows ≡ length tables → slice_get tables t ≡ Some table → slice_get bytes t ≡ Some b
    → get_or (all_values tables rows bytes) t [] ≡ table_values (get_or rows t 0) table.columns b
table_value_is [] rows bytes t table b h e f = absurd (none_some e)
  where
    none_some : {X : Type 0} {x : X} → None ≡ Some x → ⊥
    none_some e = cc
table_value_is (first ∷ tables) [] bytes t table b h e f = absurd (omega arith)
table_value_is (first ∷ tables) (m ∷ rows) [] t table b h e f = absurd (none_some f)
  where
    none_some : {X : Type 0} {x : X} → None ≡ Some x → ⊥
    none_some e = cc
table_value_is (first ∷ tables) (m ∷ rows) (k ∷ bytes) zero table b h e f = (λ i. table_values m (some_same e i).columns (some_same f i))
  where
    some_same : {X : Type 0} {x y : X} → Some x ≡ Some y → x ≡ y
    some_same e = cc
table_value_is (first ∷ tables) (m ∷ rows) (k ∷ bytes) (suc t) table b h e f = table_value_is tables rows bytes t table b (omega arith) e f

pub zero_table_is : (tables : List TableShape) (rows : List ℕ) (t : ℕ) (table : TableShape) → length rows ≡ length tables → slice_get tables t ≡ Some table → get_or (zero_tables tables rows) t [] ≡ lists (zero_columns (get_or rows t 0) table.columns)
zero_table_is [] rows t table h e = absurd (none_some e)
  where
    none_some : {X : Type 0} {x : X} → None ≡ Some x → ⊥
    none_some e = cc
zero_table_is (first ∷ tables) [] t table h e = absurd (omega arith)
zero_table_is (first ∷ tables) (m ∷ rows) zero table h e = ap (λ (k : TableShape). lists (zero_columns m k.columns)) (some_same e)
  where
    some_same : {X : Type 0} {x y : X} → Some x ≡ Some y → x ≡ y
    some_same e = cc
zero_table_is (first ∷ tables) (m ∷ rows) (suc t) table h e = zero_table_is tables rows t table (omega arith) e

-- the values of a draft whose first tables have been put
abbrev pub tables_put : Drafted → List TableShape → List (List (List ℕ)) → ℕ → Drafted
tables_put d tables bytes t = drafted_as d (mixed t (all_values tables d.rows bytes) (zero_tables tables d.rows))

pub table_taken : (d now next : Drafted) (tables : List TableShape) (bytes : List (List (List ℕ))) (t : ℕ) (table : TableShape) (b : List (List ℕ)) → length d.rows ≡ length tables → length bytes ≡ length tables → slice_get tables t ≡ Some table → slice_get bytes t ≡ Some b
    → now ≡ tables_put d tables bytes t → next ≡ drafted_as now (set now.values t (table_values (get_or now.rows t 0) table.columns b)) → next ≡ tables_put d tables bytes (t + 1)
table_taken d now next tables bytes t table b h k e f is made =
    let new : Filling = all_values tables d.rows bytes in
    let old : Filling = zero_tables tables d.rows in
    let long : length new ≡ length old = length-all_values tables d.rows bytes h k ∙ sym (length-zero_tables tables d.rows h) in
    let within : t < length new = (let a = slice_get_within tables t table e in let l = length-all_values tables d.rows bytes h k in omega arith) in
    made ∙ ap (λ (n : Drafted). drafted_as n (set n.values t (table_values (get_or n.rows t 0) table.columns b))) is
    ∙ ap (drafted_as d) (ap (set (mixed t new old) t) (sym (table_value_is tables d.rows bytes t table b h e f)) ∙ mixed_set t new old [] long within)

pub tables_ended : (d : Drafted) (tables : List TableShape) (bytes : List (List (List ℕ))) (t : ℕ) → length d.rows ≡ length tables → length bytes ≡ length tables → length tables ≤ t → tables_put d tables bytes t ≡ drafted_as d (all_values tables d.rows bytes)
tables_ended d tables bytes t h k l =
    let a = length-all_values tables d.rows bytes h k in
    ap (drafted_as d) (mixed_end t (all_values tables d.rows bytes) (zero_tables tables d.rows) (a ∙ sym (length-zero_tables tables d.rows h)) (omega arith))

-- ---- what a file gives is spelled

kind_spelled : (object : Members) (m : ℕ) (column : ColumnShape) (b : List ℕ) (kind : ColumnKind) → GivesKind object m column b kind → IsSpelled m column b kind
kind_spelled object m column b Committed g = (g.len, g.no_padding)
kind_spelled object m column b (Virtual form) g = g

columns_spelled : (object : Members) (m : ℕ) (columns : List ColumnShape) (bytes : List (List ℕ)) → GivesColumns object m columns bytes → AreColumnsSpelled m columns bytes
columns_spelled object m [] [] g = record { counts = refl; each = λ c column b e f. absurd (none_some e) }
  where
    none_some : {X : Type 0} {x : X} → None ≡ Some x → ⊥
    none_some e = cc
columns_spelled object m [] (b ∷ bytes) g = absurd g
columns_spelled object m (column ∷ columns) [] g = absurd g
columns_spelled object m (first ∷ columns) (k ∷ bytes) g =
    let others = columns_spelled object m columns bytes g.1 in
    record { counts = ap suc others.counts; each = at_place first columns k bytes (kind_spelled object m first k first.kind g.0) others.each }
  where
    some_same : {X : Type 0} {x y : X} → Some x ≡ Some y → x ≡ y
    some_same e = cc

    at_place : (first : ColumnShape) (columns : List ColumnShape) (k : List ℕ) (bytes : List (List ℕ)) → IsSpelled m first k first.kind
        → ((c : ℕ) (column : ColumnShape) (b : List ℕ) → slice_get columns c ≡ Some column → slice_get bytes c ≡ Some b → IsSpelled m column b column.kind)
        → (c : ℕ) (column : ColumnShape) (b : List ℕ) → slice_get (first ∷ columns) c ≡ Some column → slice_get (k ∷ bytes) c ≡ Some b → IsSpelled m column b column.kind
    at_place first columns k bytes h each zero column b e f = subst (λ (x : ColumnShape). IsSpelled m x b x.kind) (some_same e) (subst (λ y. IsSpelled m first y first.kind) (some_same f) h)
    at_place first columns k bytes h each (suc c) column b e f = each c column b e f

pub tables_spelled : (whole : Members) (tables : List TableShape) (rows : List ℕ) (bytes : List (List (List ℕ))) → GivesTables whole tables rows bytes → AreTablesSpelled tables rows bytes
tables_spelled whole [] [] [] g = record { rows_count = refl; counts = refl; each = λ t table b e f. absurd (none_some e) }
  where
    none_some : {X : Type 0} {x : X} → None ≡ Some x → ⊥
    none_some e = cc
tables_spelled whole [] [] (b ∷ bytes) g = absurd g
tables_spelled whole [] (m ∷ rows) bytes g = absurd g
tables_spelled whole (table ∷ tables) [] bytes g = absurd g
tables_spelled whole (table ∷ tables) (m ∷ rows) [] g = absurd g
tables_spelled whole (first ∷ tables) (m ∷ rows) (k ∷ bytes) g =
    let others = tables_spelled whole tables rows bytes g.1 in
    record {
      rows_count = ap suc others.rows_count;
      counts = ap suc others.counts;
      each = at_place first tables m rows k bytes (columns_spelled g.0.object m first.columns k g.0.columns) others.each;
    }
  where
    some_same : {X : Type 0} {x y : X} → Some x ≡ Some y → x ≡ y
    some_same e = cc

    at_place : (first : TableShape) (tables : List TableShape) (m : ℕ) (rows : List ℕ) (k : List (List ℕ)) (bytes : List (List (List ℕ))) → AreColumnsSpelled m first.columns k
        → ((t : ℕ) (table : TableShape) (b : List (List ℕ)) → slice_get tables t ≡ Some table → slice_get bytes t ≡ Some b → AreColumnsSpelled (get_or rows t 0) table.columns b)
        → (t : ℕ) (table : TableShape) (b : List (List ℕ)) → slice_get (first ∷ tables) t ≡ Some table → slice_get (k ∷ bytes) t ≡ Some b → AreColumnsSpelled (get_or (m ∷ rows) t 0) table.columns b
    at_place first tables m rows k bytes h each zero table b e f = subst (λ (x : TableShape). AreColumnsSpelled m x.columns b) (some_same e) (subst (λ y. AreColumnsSpelled m first.columns y) (some_same f) h)
    at_place first tables m rows k bytes h each (suc t) table b e f = each t table b e f

pub committed_bits : (m : ℕ) (column : ColumnShape) (b : List ℕ) (kind : ColumnKind) → IsSpelled m column b kind → is_committed kind ≡ true → (kind ≡ Committed) × ((length b ≡ (written_bits m column + 7) / 8) × (number_of_bytes b < 2 ^ written_bits m column))
committed_bits m column b Committed h e = (refl, h)
committed_bits m column b (Virtual form) h e = absurd (differ e)
  where
    differ : false ≡ true → ⊥
    differ e = cc

pub virtual_bits : (m : ℕ) (column : ColumnShape) (b : List ℕ) (kind : ColumnKind) → IsSpelled m column b kind → is_committed kind ≡ false → b ≡ []
virtual_bits m column b Committed h e = absurd (differ e)
  where
    differ : true ≡ false → ⊥
    differ e = cc
virtual_bits m column b (Virtual form) h e = h

-- a table whose turn it is still has zeros
pub table_waits : (d now : Drafted) (tables : List TableShape) (bytes : List (List (List ℕ))) (t : ℕ) (table : TableShape) → length d.rows ≡ length tables → length bytes ≡ length tables → slice_get tables t ≡ Some table → now ≡ tables_put d tables bytes t
    → (t < length now.values) × (get_or now.values t [] ≡ lists (zero_columns (get_or now.rows t 0) table.columns))
table_waits d now tables bytes t table h k e is =
    let new : Filling = all_values tables d.rows bytes in
    let old : Filling = zero_tables tables d.rows in
    let long : length new ≡ length old = length-all_values tables d.rows bytes h k ∙ sym (length-zero_tables tables d.rows h) in
    let P : Drafted → Type 0 = λ n. (t < length n.values) × (get_or n.values t [] ≡ lists (zero_columns (get_or n.rows t 0) table.columns)) in
    subst P (sym is) (
      (let a = length-mixed t new old long in let b = length-zero_tables tables d.rows h in let l = slice_get_within tables t table e in omega arith),
      mixed_at t new old [] long ∙ zero_table_is tables d.rows t table h e,
    )
