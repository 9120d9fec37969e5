-- Steps one after the other, as loops take them.
use Rattle.std.proofs.Common.{◌≡◌, ℕ, ◌+◌, ◌<◌, ◌≤◌, List, [], ◌∷◌, ◌++◌, length, drop, get_or, map, Result, Ok, Err, refl, sym, ap, ◌∙◌, append_assoc}
use Rattle.std.proofs.lemmas.List.{append-nil, drop_all}
use Rattle.serde_json.specs.Data.{Members}
use Rattle.table_shape.specs.declared.shape.ColumnShape.{ColumnShape}
use Rattle.table_shape.specs.declared.shape.TableShape.{TableShape}
use Rattle.witness_reader.specs.declared.fault.WitnessStop.{WitnessStop}
use Rattle.witness_reader.specs.declared.fault.WitnessStop.TheVariants.{Fault, TooLarge, NoMemory}
use Rattle.list_laws.specs.AndThen.{◌>>=◌}
use Rattle.witness_reader.specs.WitnessGives.{Stops}
use Rattle.witness_reader.specs.Witness.{object_of, objects_of, given_bytes, columns_bytes, table_bytes, tables_bytes}
use Rattle.list_laws.proofs.Steps.{bind_ok, bind_is}
use Rattle.list_laws.proofs.Lists.{drop_here}

-- a stop in the first step is one of both
pub stops_then : {A B : Type 0} (stop : WitnessStop) (r : Result A WitnessStop) (f : A → Result B WitnessStop) → Stops stop r → Stops stop (r >>= f)
stops_then (Fault x) r f h = rw h refl
stops_then (TooLarge l) r f h = rw h refl
stops_then NoMemory r f h = tt

pub stops_along : {A : Type 0} (stop : WitnessStop) (r s : Result A WitnessStop) → s ≡ r → Stops stop r → Stops stop s
stops_along (Fault x) r s e h = e ∙ h
stops_along (TooLarge l) r s e h = e ∙ h
stops_along NoMemory r s e h = tt

-- ---- a list made from the front

-- what was made before, and what is still made
abbrev pub with_front : {X : Type 0} → List X → Result (List X) WitnessStop → Result (List X) WitnessStop
with_front front given = given >>= (λ more. Ok (front ++ more))

regroup : {X : Type 0} (front : List X) (x : X) (given : Result (List X) WitnessStop) → with_front front (given >>= (λ more. Ok (x ∷ more))) ≡ with_front (front ++ x ∷ []) given
regroup front x (Ok more) = ap Ok (sym (append_assoc front (x ∷ []) more))
regroup front x (Err e) = refl

pub goes_on : {X : Type 0} (front : List X) (x : X) (now next total : Result (List X) WitnessStop) → now ≡ (next >>= (λ more. Ok (x ∷ more))) → with_front front now ≡ total → with_front (front ++ x ∷ []) next ≡ total
goes_on front x now next total e so_far = sym (regroup front x next) ∙ ap (with_front front) (sym e) ∙ so_far

pub ends : {X : Type 0} (stop : WitnessStop) (front : List X) (now total : Result (List X) WitnessStop) → Stops stop now → with_front front now ≡ total → Stops stop total
ends stop front now total h so_far = stops_along stop (with_front front now) total (sym so_far) (stops_then stop now (λ more. Ok (front ++ more)) h)

pub is_done : {X : Type 0} (front : List X) (now total : Result (List X) WitnessStop) → now ≡ Ok [] → with_front front now ≡ total → total ≡ Ok front
is_done front now total e so_far = sym so_far ∙ bind_is now [] (λ more. Ok (front ++ more)) e ∙ ap Ok (append-nil front)

whole : {X : Type 0} (given : Result (List X) WitnessStop) → with_front [] given ≡ given
whole (Ok xs) = refl
whole (Err e) = refl

pub begins : {X : Type 0} (given : Result (List X) WitnessStop) → with_front [] given ≡ given
begins given = whole given

-- ---- the columns of a table

pub columns_step : (t c rows : ℕ) (columns : List ColumnShape) (column : ColumnShape) (object : Members) → c < length columns → column ≡ get_or columns c column
    → columns_bytes t c rows (drop c columns) object ≡ (given_bytes t c rows column object column.kind >>= (λ bytes. columns_bytes t (c + 1) rows (drop (c + 1) columns) object >>= (λ more. Ok (bytes ∷ more))))
columns_step t c rows columns column object h e = ap (λ cs. columns_bytes t c rows cs object) (drop_here columns c column h e)

pub columns_end : (t c rows : ℕ) (columns : List ColumnShape) (object : Members) → length columns ≤ c → columns_bytes t c rows (drop c columns) object ≡ Ok []
columns_end t c rows columns object h = ap (λ cs. columns_bytes t c rows cs object) (drop_all c columns h)

pub columns_stop : (stop : WitnessStop) (t c rows : ℕ) (columns : List ColumnShape) (column : ColumnShape) (object : Members) → c < length columns → column ≡ get_or columns c column
    → Stops stop (given_bytes t c rows column object column.kind) → Stops stop (columns_bytes t c rows (drop c columns) object)
columns_stop stop t c rows columns column object h e s =
    let next = (λ (bytes : List ℕ). columns_bytes t (c + 1) rows (drop (c + 1) columns) object >>= (λ more. Ok (bytes ∷ more))) in
    stops_along stop (given_bytes t c rows column object column.kind >>= next) (columns_bytes t c rows (drop c columns) object) (columns_step t c rows columns column object h e) (stops_then stop (given_bytes t c rows column object column.kind) next s)

pub columns_go_on : (t c rows : ℕ) (columns : List ColumnShape) (column : ColumnShape) (object : Members) (bytes : List ℕ) → c < length columns → column ≡ get_or columns c column → given_bytes t c rows column object column.kind ≡ Ok bytes
    → columns_bytes t c rows (drop c columns) object ≡ (columns_bytes t (c + 1) rows (drop (c + 1) columns) object >>= (λ more. Ok (bytes ∷ more)))
columns_go_on t c rows columns column object bytes h e is =
    columns_step t c rows columns column object h e ∙ bind_is (given_bytes t c rows column object column.kind) bytes (λ bytes. columns_bytes t (c + 1) rows (drop (c + 1) columns) object >>= (λ more. Ok (bytes ∷ more))) is

-- ---- the rows of tables

abbrev pub rows_from : ℕ → List TableShape → Members → Result (List ℕ) WitnessStop
rows_from t tables whole = objects_of t tables whole >>= (λ objects. Ok (map (λ o. o.1) objects))

rows_after : (first : Result (Members × ℕ) WitnessStop) (others : Result (List (Members × ℕ)) WitnessStop)
    → ((first >>= (λ object. others >>= (λ objects. Ok (object ∷ objects)))) >>= (λ objects. Ok (map (λ o. o.1) objects)))
    ≡ (first >>= (λ object. (others >>= (λ objects. Ok (map (λ o. o.1) objects))) >>= (λ more. Ok (object.1 ∷ more))))
rows_after (Ok object) (Ok objects) = refl
rows_after (Ok object) (Err e) = refl
rows_after (Err e) others = refl

pub rows_step : (t : ℕ) (tables : List TableShape) (table : TableShape) (whole : Members) → t < length tables → table ≡ get_or tables t table
    → rows_from t (drop t tables) whole ≡ (object_of t table whole >>= (λ object. rows_from (t + 1) (drop (t + 1) tables) whole >>= (λ more. Ok (object.1 ∷ more))))
rows_step t tables table whole h e = ap (λ ts. rows_from t ts whole) (drop_here tables t table h e) ∙ rows_after (object_of t table whole) (objects_of (t + 1) (drop (t + 1) tables) whole)

pub rows_end : (t : ℕ) (tables : List TableShape) (whole : Members) → length tables ≤ t → rows_from t (drop t tables) whole ≡ Ok []
rows_end t tables whole h = ap (λ ts. rows_from t ts whole) (drop_all t tables h)

-- ---- the bytes of tables, with each table's object found anew

abbrev pub bytes_from : ℕ → List TableShape → Members → Result (List (List (List ℕ))) WitnessStop
bytes_from t [] whole = Ok []
bytes_from t (table ∷ tables) whole = object_of t table whole >>= (λ object. table_bytes t table object >>= (λ bytes. bytes_from (t + 1) tables whole >>= (λ more. Ok (bytes ∷ more))))

pub tables_step : (t : ℕ) (tables : List TableShape) (table : TableShape) (whole : Members) → t < length tables → table ≡ get_or tables t table
    → bytes_from t (drop t tables) whole ≡ (object_of t table whole >>= (λ object. table_bytes t table object >>= (λ bytes. bytes_from (t + 1) (drop (t + 1) tables) whole >>= (λ more. Ok (bytes ∷ more)))))
tables_step t tables table whole h e = ap (λ ts. bytes_from t ts whole) (drop_here tables t table h e)

pub tables_stop_at_object : (stop : WitnessStop) (t : ℕ) (tables : List TableShape) (table : TableShape) (whole : Members) → t < length tables → table ≡ get_or tables t table
    → Stops stop (object_of t table whole) → Stops stop (bytes_from t (drop t tables) whole)
tables_stop_at_object stop t tables table whole h e s =
    let next = (λ (object : Members × ℕ). table_bytes t table object >>= (λ bytes. bytes_from (t + 1) (drop (t + 1) tables) whole >>= (λ more. Ok (bytes ∷ more)))) in
    stops_along stop (object_of t table whole >>= next) (bytes_from t (drop t tables) whole) (tables_step t tables table whole h e) (stops_then stop (object_of t table whole) next s)

tables_with_object : (t : ℕ) (tables : List TableShape) (table : TableShape) (whole : Members) (object : Members × ℕ) → t < length tables → table ≡ get_or tables t table → object_of t table whole ≡ Ok object
    → bytes_from t (drop t tables) whole ≡ (table_bytes t table object >>= (λ bytes. bytes_from (t + 1) (drop (t + 1) tables) whole >>= (λ more. Ok (bytes ∷ more))))
tables_with_object t tables table whole object h e is =
    tables_step t tables table whole h e ∙ bind_is (object_of t table whole) object (λ object. table_bytes t table object >>= (λ bytes. bytes_from (t + 1) (drop (t + 1) tables) whole >>= (λ more. Ok (bytes ∷ more)))) is

pub tables_stop_at_bytes : (stop : WitnessStop) (t : ℕ) (tables : List TableShape) (table : TableShape) (whole : Members) (object : Members × ℕ) → t < length tables → table ≡ get_or tables t table → object_of t table whole ≡ Ok object
    → Stops stop (table_bytes t table object) → Stops stop (bytes_from t (drop t tables) whole)
tables_stop_at_bytes stop t tables table whole object h e is s =
    let next = (λ (bytes : List (List ℕ)). bytes_from (t + 1) (drop (t + 1) tables) whole >>= (λ more. Ok (bytes ∷ more))) in
    stops_along stop (table_bytes t table object >>= next) (bytes_from t (drop t tables) whole) (tables_with_object t tables table whole object h e is) (stops_then stop (table_bytes t table object) next s)

pub tables_go_on : (t : ℕ) (tables : List TableShape) (table : TableShape) (whole : Members) (object : Members × ℕ) (bytes : List (List ℕ)) → t < length tables → table ≡ get_or tables t table → object_of t table whole ≡ Ok object
    → table_bytes t table object ≡ Ok bytes → bytes_from t (drop t tables) whole ≡ (bytes_from (t + 1) (drop (t + 1) tables) whole >>= (λ more. Ok (bytes ∷ more)))
tables_go_on t tables table whole object bytes h e is are =
    tables_with_object t tables table whole object h e is ∙ bind_is (table_bytes t table object) bytes (λ bytes. bytes_from (t + 1) (drop (t + 1) tables) whole >>= (λ more. Ok (bytes ∷ more))) are

pub tables_end : (t : ℕ) (tables : List TableShape) (whole : Members) → length tables ≤ t → bytes_from t (drop t tables) whole ≡ Ok []
tables_end t tables whole h = ap (λ ts. bytes_from t ts whole) (drop_all t tables h)

pub same_bytes : (t : ℕ) (tables : List TableShape) (whole : Members) (objects : List (Members × ℕ)) → objects_of t tables whole ≡ Ok objects → bytes_from t tables whole ≡ tables_bytes t tables objects
same_bytes t [] whole objects e = refl
same_bytes t (table ∷ tables) whole objects e =
    let a = bind_ok (object_of t table whole) (λ object. objects_of (t + 1) tables whole >>= (λ more. Ok (object ∷ more))) objects e in
    let b = bind_ok (objects_of (t + 1) tables whole) (λ more. Ok (a.0 ∷ more)) objects a.2 in
    let made : List (Members × ℕ) = a.0 ∷ b.0 in
    let is : made ≡ objects = ok_is made objects b.2 in
    let later = same_bytes (t + 1) tables whole b.0 b.1 in
    rw (a.1, later) (ap (tables_bytes t (table ∷ tables)) is)
  where
    ok_is : (x y : List (Members × ℕ)) → ◌≡◌ {A = Result (List (Members × ℕ)) WitnessStop} (Ok x) (Ok y) → x ≡ y
    ok_is x y e = cc
