-- A witness is read exactly where the file gives it.
use Rattle.std.proofs.Common.{◌≡◌, ◌↔◌, ℕ, ◌+◌, ◌/◌, ◌^◌, ◌≤◌, ◌==◌, not, Bool, true, cond, ltb, List, [], ◌∷◌, length, map, Option, Some, Ok, Err, codes, refl, sym, ap, subst, ◌∙◌}
use Rattle.std.proofs.lemmas.Bool.{eqb-true, eq-eqb, ltb-true, lt-ltb, le-ltb, not-true}
use Rattle.serde_json.specs.Data.{Data, Members}
use Rattle.serde_json.specs.Find.{get_member, as_object, as_str}
use Rattle.table_shape.specs.declared.shape.ColumnKind.{ColumnKind}
use Rattle.table_shape.specs.declared.shape.ColumnKind.TheVariants.{Committed, Virtual}
use Rattle.table_shape.specs.declared.shape.ColumnShape.{ColumnShape}
use Rattle.table_shape.specs.declared.shape.TableShape.{TableShape}
use Rattle.witness_reader.specs.declared.fault.WitnessPlace.{WitnessPlace}
use Rattle.witness_reader.specs.declared.fault.WitnessPlace.TheVariants.{Whole, Table, Column}
use Rattle.witness_reader.specs.declared.fault.WitnessKind.{WitnessKind}
use Rattle.witness_reader.specs.declared.fault.WitnessKind.TheVariants.{NotJson, NotAnObject, MissingTable, BadRows, MissingColumn, NotAText, BadHex, WrongLength, PaddingBits, ExtraColumn, ExtraTable}
use Rattle.witness_reader.specs.declared.fault.WitnessStop.TheVariants.{TooLarge}
use Rattle.list_laws.specs.AndThen.{◌>>=◌}
use Rattle.table_shape.specs.Size.{size_log}
use Rattle.table_shape.specs.Shape.{table_names}
use Rattle.column_store.specs.Digits.{number_of_bytes}
use Rattle.witness_reader.specs.Witness.{WitnessData, or_refuse, unless, json_of, rows_of, object_of, objects_of, hex_bytes, column_bytes, given_bytes, columns_bytes, committed_names, has_other, table_bytes, tables_bytes, within_size, witness_of_objects, witness_of}
use Rattle.column_store.specs.Spelled.{written_bits}
use Rattle.witness_reader.specs.WitnessMeaning.{GivesColumn, GivesKind, GivesColumns, GivesTable, GivesTables, GivesWitness}
use Rattle.list_laws.proofs.Steps.{bind_ok, bind_is}
use Rattle.witness_reader.proofs.KeptWitness.{along, was_there, passed, within, below_along}

there : {X : Type 0} (place : WitnessPlace) (kind : WitnessKind) (o : Option X) (x : X) → o ≡ Some x → or_refuse place kind o ≡ Ok x
there place kind o x e = ap (or_refuse place kind) e

passes : {X : Type 0} (test : Bool) (place : WitnessPlace) (kind : WitnessKind) (x : X) → test ≡ true → unless test place kind x ≡ Ok x
passes test place kind x e = ap (λ b. unless b place kind x) e

-- ---- columns

column_given : (t c rows : ℕ) (column : ColumnShape) (object : Members) (bytes : List ℕ) → column_bytes t c rows column object ≡ Ok bytes → GivesColumn object rows column bytes
column_given t c rows column object bytes e =
    let place = Column t c in
    let last = λ (b : List ℕ). unless (ltb (number_of_bytes b) (2 ^ written_bits rows column)) place PaddingBits b in
    let fourth = λ (b : List ℕ). unless (length b == (written_bits rows column + 7) / 8) place WrongLength b >>= last in
    let third = λ (text : List ℕ). or_refuse place BadHex (hex_bytes text) >>= fourth in
    let second = λ (found : Data). or_refuse place NotAText (as_str found) >>= third in
    let a = bind_ok (or_refuse place MissingColumn (get_member column.name object)) second bytes e in
    let b = bind_ok (or_refuse place NotAText (as_str a.0)) third bytes a.2 in
    let d = bind_ok (or_refuse place BadHex (hex_bytes b.0)) fourth bytes b.2 in
    let f = bind_ok (unless (length d.0 == (written_bits rows column + 7) / 8) place WrongLength d.0) last bytes d.2 in
    let g = passed (length d.0 == (written_bits rows column + 7) / 8) place WrongLength d.0 f.0 f.1 in
    let h = passed (ltb (number_of_bytes f.0) (2 ^ written_bits rows column)) place PaddingBits f.0 bytes f.2 in
    let is : d.0 ≡ bytes = g.1 ∙ h.1 in
    record {
      found = a.0;
      text = b.0;
      is_there = was_there place MissingColumn (get_member column.name object) a.0 a.1;
      is_text = was_there place NotAText (as_str a.0) b.0 b.1;
      is_hex = was_there place BadHex (hex_bytes b.0) d.0 d.1 ∙ ap Some is;
      len = ap length (sym is) ∙ eqb-true (length d.0) ((written_bits rows column + 7) / 8) g.0;
      no_padding = below_along f.0 bytes (2 ^ written_bits rows column) h.1 (ltb-true (number_of_bytes f.0) (2 ^ written_bits rows column) h.0);
    }

column_read : (t c rows : ℕ) (column : ColumnShape) (object : Members) (bytes : List ℕ) → GivesColumn object rows column bytes → column_bytes t c rows column object ≡ Ok bytes
column_read t c rows column object bytes g =
    let place = Column t c in
    let last = λ (b : List ℕ). unless (ltb (number_of_bytes b) (2 ^ written_bits rows column)) place PaddingBits b in
    let fourth = λ (b : List ℕ). unless (length b == (written_bits rows column + 7) / 8) place WrongLength b >>= last in
    let third = λ (text : List ℕ). or_refuse place BadHex (hex_bytes text) >>= fourth in
    let second = λ (found : Data). or_refuse place NotAText (as_str found) >>= third in
    bind_is (or_refuse place MissingColumn (get_member column.name object)) g.found second (there place MissingColumn (get_member column.name object) g.found g.is_there)
    ∙ bind_is (or_refuse place NotAText (as_str g.found)) g.text third (there place NotAText (as_str g.found) g.text g.is_text)
    ∙ bind_is (or_refuse place BadHex (hex_bytes g.text)) bytes fourth (there place BadHex (hex_bytes g.text) bytes g.is_hex)
    ∙ bind_is (unless (length bytes == (written_bits rows column + 7) / 8) place WrongLength bytes) bytes last
    (passes (length bytes == (written_bits rows column + 7) / 8) place WrongLength bytes (eq-eqb (length bytes) ((written_bits rows column + 7) / 8) g.len))
    ∙ passes (ltb (number_of_bytes bytes) (2 ^ written_bits rows column)) place PaddingBits bytes (lt-ltb (number_of_bytes bytes) (2 ^ written_bits rows column) g.no_padding)

kind_given : (t c rows : ℕ) (column : ColumnShape) (object : Members) (bytes : List ℕ) (kind : ColumnKind) → given_bytes t c rows column object kind ≡ Ok bytes → GivesKind object rows column bytes kind
kind_given t c rows column object bytes Committed e = column_given t c rows column object bytes e
kind_given t c rows column object bytes (Virtual form) e = let nil : List ℕ = [] in along (λ (b : List ℕ). b ≡ []) nil bytes e refl

kind_read : (t c rows : ℕ) (column : ColumnShape) (object : Members) (bytes : List ℕ) (kind : ColumnKind) → GivesKind object rows column bytes kind → given_bytes t c rows column object kind ≡ Ok bytes
kind_read t c rows column object bytes Committed g = column_read t c rows column object bytes g
kind_read t c rows column object bytes (Virtual form) g = ap Ok (sym g)

columns_given : (t c rows : ℕ) (columns : List ColumnShape) (object : Members) (bytes : List (List ℕ)) → columns_bytes t c rows columns object ≡ Ok bytes → GivesColumns object rows columns bytes
columns_given t c rows [] object bytes e = let nil : List (List ℕ) = [] in along (λ (bs : List (List ℕ)). GivesColumns object rows [] bs) nil bytes e tt
columns_given t c rows (first ∷ columns) object bytes e =
    let a = bind_ok (given_bytes t c rows first object first.kind) (λ b. columns_bytes t (c + 1) rows columns object >>= (λ more. Ok (b ∷ more))) bytes e in
    let b = bind_ok (columns_bytes t (c + 1) rows columns object) (λ more. Ok (a.0 ∷ more)) bytes a.2 in
    let made : List (List ℕ) = a.0 ∷ b.0 in
    along (λ (bs : List (List ℕ)). GivesColumns object rows (first ∷ columns) bs) made bytes b.2
    (kind_given t c rows first object a.0 first.kind a.1, columns_given t (c + 1) rows columns object b.0 b.1)

columns_read : (t c rows : ℕ) (columns : List ColumnShape) (object : Members) (bytes : List (List ℕ)) → GivesColumns object rows columns bytes → columns_bytes t c rows columns object ≡ Ok bytes
columns_read t c rows [] object [] g = refl
columns_read t c rows [] object (b ∷ bytes) g = absurd g
columns_read t c rows (first ∷ columns) object [] g = absurd g
columns_read t c rows (first ∷ columns) object (b ∷ bytes) g =
    bind_is (given_bytes t c rows first object first.kind) b (λ b. columns_bytes t (c + 1) rows columns object >>= (λ more. Ok (b ∷ more))) (kind_read t c rows first object b first.kind g.0)
    ∙ bind_is (columns_bytes t (c + 1) rows columns object) bytes (λ more. Ok (b ∷ more)) (columns_read t (c + 1) rows columns object bytes g.1)

-- ---- tables

table_given : (t : ℕ) (table : TableShape) (whole : Members) (object : Members × ℕ) (bytes : List (List ℕ)) → object_of t table whole ≡ Ok object → table_bytes t table object ≡ Ok bytes → GivesTable whole table object.1 bytes
table_given t table whole object bytes e h =
    let a = bind_ok (or_refuse (Table t) MissingTable (get_member table.name whole)) (λ found. or_refuse (Table t) NotAnObject (as_object found) >>= (λ members. or_refuse (Table t) BadRows (rows_of members) >>= (λ rows. Ok (members, rows)))) object e in
    let b = bind_ok (or_refuse (Table t) NotAnObject (as_object a.0)) (λ members. or_refuse (Table t) BadRows (rows_of members) >>= (λ rows. Ok (members, rows))) object a.2 in
    let d = bind_ok (or_refuse (Table t) BadRows (rows_of b.0)) (λ rows. Ok (b.0, rows)) object b.2 in
    let made : Members × ℕ = (b.0, d.0) in
    let P : Members × ℕ → Type 0 = λ o. table_bytes t table o ≡ Ok bytes → GivesTable whole table o.1 bytes in
    along P made object d.2 (λ k.
    let others = not (has_other (codes "rows" ∷ committed_names table.columns) b.0) in
    let rest = λ (bs : List (List ℕ)). unless others (Table t) ExtraColumn bs in
    let f = bind_ok (columns_bytes t 0 d.0 table.columns b.0) rest bytes k in
    let g = passed others (Table t) ExtraColumn f.0 bytes f.2 in
    record {
      found = a.0;
      object = b.0;
      is_there = was_there (Table t) MissingTable (get_member table.name whole) a.0 a.1;
      is_object = was_there (Table t) NotAnObject (as_object a.0) b.0 b.1;
      is_number = was_there (Table t) BadRows (rows_of b.0) d.0 d.1;
      columns = subst (λ (bs : List (List ℕ)). GivesColumns b.0 d.0 table.columns bs) g.1 (columns_given t 0 d.0 table.columns b.0 f.0 f.1);
      no_other = not-true (has_other (codes "rows" ∷ committed_names table.columns) b.0) g.0;
    }) h

object_read : (t : ℕ) (table : TableShape) (whole : Members) (rows : ℕ) (bytes : List (List ℕ)) (g : GivesTable whole table rows bytes) → object_of t table whole ≡ Ok (g.object, rows)
object_read t table whole rows bytes g =
    bind_is (or_refuse (Table t) MissingTable (get_member table.name whole)) g.found (λ found. or_refuse (Table t) NotAnObject (as_object found) >>= (λ members. or_refuse (Table t) BadRows (rows_of members) >>= (λ rows. Ok (members, rows))))
    (there (Table t) MissingTable (get_member table.name whole) g.found g.is_there)
    ∙ bind_is (or_refuse (Table t) NotAnObject (as_object g.found)) g.object (λ members. or_refuse (Table t) BadRows (rows_of members) >>= (λ rows. Ok (members, rows)))
    (there (Table t) NotAnObject (as_object g.found) g.object g.is_object)
    ∙ bind_is (or_refuse (Table t) BadRows (rows_of g.object)) rows (λ rows. Ok (g.object, rows)) (there (Table t) BadRows (rows_of g.object) rows g.is_number)

table_read : (t : ℕ) (table : TableShape) (whole : Members) (rows : ℕ) (bytes : List (List ℕ)) (g : GivesTable whole table rows bytes) → table_bytes t table (g.object, rows) ≡ Ok bytes
table_read t table whole rows bytes g =
    let others = not (has_other (codes "rows" ∷ committed_names table.columns) g.object) in
    bind_is (columns_bytes t 0 rows table.columns g.object) bytes (λ (bs : List (List ℕ)). unless others (Table t) ExtraColumn bs) (columns_read t 0 rows table.columns g.object bytes g.columns)
    ∙ passes others (Table t) ExtraColumn bytes (ap not g.no_other)

tables_given : (t : ℕ) (tables : List TableShape) (whole : Members) (objects : List (Members × ℕ)) (bytes : List (List (List ℕ))) → objects_of t tables whole ≡ Ok objects → tables_bytes t tables objects ≡ Ok bytes
    → GivesTables whole tables (map (λ o. o.1) objects) bytes
tables_given t [] whole objects bytes e h =
    let none : List (Members × ℕ) = [] in
    let nil : List (List (List ℕ)) = [] in
    along (λ (os : List (Members × ℕ)). GivesTables whole [] (map (λ o. o.1) os) bytes) none objects e (along (λ (bs : List (List (List ℕ))). GivesTables whole [] [] bs) nil bytes h tt)
tables_given t (table ∷ tables) whole objects bytes e h =
    let a = bind_ok (object_of t table whole) (λ object. objects_of (t + 1) tables whole >>= (λ more. Ok (object ∷ more))) objects e in
    let b = bind_ok (objects_of (t + 1) tables whole) (λ more. Ok (a.0 ∷ more)) objects a.2 in
    let made : List (Members × ℕ) = a.0 ∷ b.0 in
    let P : List (Members × ℕ) → Type 0 = λ os. tables_bytes t (table ∷ tables) os ≡ Ok bytes → GivesTables whole (table ∷ tables) (map (λ o. o.1) os) bytes in
    along P made objects b.2 (λ k.
    let d = bind_ok (table_bytes t table a.0) (λ b1. tables_bytes (t + 1) tables b.0 >>= (λ more. Ok (b1 ∷ more))) bytes k in
    let f = bind_ok (tables_bytes (t + 1) tables b.0) (λ more. Ok (d.0 ∷ more)) bytes d.2 in
    let found : List (List (List ℕ)) = d.0 ∷ f.0 in
    along (λ (bs : List (List (List ℕ))). GivesTables whole (table ∷ tables) (a.0.1 ∷ map (λ o. o.1) b.0) bs) found bytes f.2
    (table_given t table whole a.0 d.0 a.1 d.1, tables_given (t + 1) tables whole b.0 f.0 b.1 f.1)) h

-- the objects of tables, of which a file gives the rows and the bytes
record AreRead (t : ℕ) (tables : List TableShape) (whole : Members) (rows : List ℕ) (bytes : List (List (List ℕ))) : Type 0 where
  objects : List (Members × ℕ)
  are : objects_of t tables whole ≡ Ok objects
  rows_are : map (λ o. o.1) objects ≡ rows
  bytes_are : tables_bytes t tables objects ≡ Ok bytes

tables_read : (t : ℕ) (tables : List TableShape) (whole : Members) (rows : List ℕ) (bytes : List (List (List ℕ))) → GivesTables whole tables rows bytes → AreRead t tables whole rows bytes
tables_read t [] whole [] [] g = record { objects = []; are = refl; rows_are = refl; bytes_are = refl }
tables_read t [] whole [] (b ∷ bytes) g = absurd g
tables_read t [] whole (m ∷ rows) bytes g = absurd g
tables_read t (table ∷ tables) whole [] bytes g = absurd g
tables_read t (table ∷ tables) whole (m ∷ rows) [] g = absurd g
tables_read t (table ∷ tables) whole (m ∷ rows) (b ∷ bytes) g =
    let first = g.0 in
    let object : Members × ℕ = (first.object, m) in
    let r = tables_read (t + 1) tables whole rows bytes g.1 in
    record {
      objects = object ∷ r.objects;
      are =
          bind_is (object_of t table whole) object (λ object. objects_of (t + 1) tables whole >>= (λ more. Ok (object ∷ more))) (object_read t table whole m b first)
          ∙ bind_is (objects_of (t + 1) tables whole) r.objects (λ more. Ok (object ∷ more)) r.are;
      rows_are = ap (λ rs. m ∷ rs) r.rows_are;
      bytes_are =
          bind_is (table_bytes t table object) b (λ b1. tables_bytes (t + 1) tables r.objects >>= (λ more. Ok (b1 ∷ more))) (table_read t table whole m b first)
          ∙ bind_is (tables_bytes (t + 1) tables r.objects) bytes (λ more. Ok (b ∷ more)) r.bytes_are;
    }

-- ---- the whole

witness_given : (tables : List TableShape) (file : List ℕ) (w : WitnessData) → witness_of tables file ≡ Ok w → GivesWitness tables file w
witness_given tables file w e =
    let third = λ (whole : Members). objects_of 0 tables whole >>= witness_of_objects tables whole in
    let second = λ (json : Data). or_refuse Whole NotAnObject (as_object json) >>= third in
    let a = bind_ok (or_refuse Whole NotJson (json_of file)) second w e in
    let b = bind_ok (or_refuse Whole NotAnObject (as_object a.0)) third w a.2 in
    let d = bind_ok (objects_of 0 tables b.0) (witness_of_objects tables b.0) w b.2 in
    let rs = map (λ (o : Members × ℕ). o.1) d.0 in
    let others = not (has_other (table_names tables) b.0) in
    let last = λ (rows : List ℕ). λ (bytes : List (List (List ℕ))). unless others Whole ExtraTable (record { rows = rows; bytes = bytes }) in
    let f = bind_ok (within_size tables rs) (λ rows. tables_bytes 0 tables d.0 >>= last rows) w d.2 in
    let g = bind_ok (tables_bytes 0 tables d.0) (last f.0) w f.2 in
    let made : WitnessData = record { rows = f.0; bytes = g.0 } in
    let h = passed others Whole ExtraTable made w g.2 in
    let s = within tables rs f.0 f.1 in
    let found : WitnessData = record { rows = rs; bytes = g.0 } in
    let given : GivesWitness tables file found = record {
      json = a.0;
      whole = b.0;
      is_json = was_there Whole NotJson (json_of file) a.0 a.1;
      is_object = was_there Whole NotAnObject (as_object a.0) b.0 b.1;
      each = tables_given 0 tables b.0 d.0 g.0 d.1 g.1;
      small = s.0;
      no_other = not-true (has_other (table_names tables) b.0) h.0;
    } in
    subst (GivesWitness tables file) h.1 (subst (λ (r : List ℕ). GivesWitness tables file (record { rows = r; bytes = g.0 })) s.1 given)

within_read : (tables : List TableShape) (rows : List ℕ) → size_log tables rows ≤ 24 → within_size tables rows ≡ Ok rows
within_read tables rows h = ap (λ b. cond b (Err (TooLarge (size_log tables rows))) (Ok rows)) (le-ltb 24 (size_log tables rows) h)

witness_read : (tables : List TableShape) (file : List ℕ) (w : WitnessData) → GivesWitness tables file w → witness_of tables file ≡ Ok w
witness_read tables file w g =
    let third = λ (whole : Members). objects_of 0 tables whole >>= witness_of_objects tables whole in
    let second = λ (json : Data). or_refuse Whole NotAnObject (as_object json) >>= third in
    let r = tables_read 0 tables g.whole w.rows w.bytes g.each in
    let others = not (has_other (table_names tables) g.whole) in
    let last = λ (rows : List ℕ). λ (bytes : List (List (List ℕ))). unless others Whole ExtraTable (record { rows = rows; bytes = bytes }) in
    bind_is (or_refuse Whole NotJson (json_of file)) g.json second (there Whole NotJson (json_of file) g.json g.is_json)
    ∙ bind_is (or_refuse Whole NotAnObject (as_object g.json)) g.whole third (there Whole NotAnObject (as_object g.json) g.whole g.is_object)
    ∙ bind_is (objects_of 0 tables g.whole) r.objects (witness_of_objects tables g.whole) r.are
    ∙ bind_is (within_size tables (map (λ o. o.1) r.objects)) w.rows (λ rows. tables_bytes 0 tables r.objects >>= last rows) (ap (within_size tables) r.rows_are ∙ within_read tables w.rows g.small)
    ∙ bind_is (tables_bytes 0 tables r.objects) w.bytes (last w.rows) r.bytes_are
    ∙ passes others Whole ExtraTable w (ap not g.no_other)

pub read_where_given : (tables : List TableShape) (file : List ℕ) (w : WitnessData) → (witness_of tables file ≡ Ok w) ↔ GivesWitness tables file w
read_where_given tables file w = (witness_given tables file w, witness_read tables file w)
