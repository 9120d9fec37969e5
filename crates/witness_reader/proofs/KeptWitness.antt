-- What a witness without fault keeps.
use Rattle.std.proofs.Common.{◌≡◌, ℕ, zero, suc, ◌+◌, ◌<◌, ◌≤◌, Bool, true, false, cond, leb, ltb, List, [], ◌∷◌, length, get_or, map, Option, Some, None, option_and_then, Result, Ok, Err, codes, refl, ap, subst, arith}
use Rattle.std.proofs.lemmas.Bool.{leb-true, ltb-false}
use Rattle.std.proofs.lemmas.Option.{cond_some}
use Rattle.serde_json.specs.Data.{Members}
use Rattle.serde_json.specs.Find.{get_member, as_object, as_number, as_u64}
use Rattle.table_shape.specs.declared.shape.TableShape.{TableShape}
use Rattle.witness_reader.specs.declared.fault.WitnessPlace.{WitnessPlace}
use Rattle.witness_reader.specs.declared.fault.WitnessPlace.TheVariants.{Table}
use Rattle.witness_reader.specs.declared.fault.WitnessKind.{WitnessKind}
use Rattle.witness_reader.specs.declared.fault.WitnessKind.TheVariants.{NotAnObject, MissingTable, BadRows}
use Rattle.witness_reader.specs.declared.fault.WitnessStop.{WitnessStop}
use Rattle.witness_reader.specs.declared.fault.WitnessStop.TheVariants.{TooLarge}
use Rattle.list_laws.specs.AndThen.{◌>>=◌}
use Rattle.table_shape.specs.Size.{size_log}
use Rattle.column_store.specs.Digits.{number_of_bytes}
use Rattle.witness_reader.specs.Witness.{or_refuse, unless, rows_of, object_of, objects_of, rows_of_tables, within_size}
use Rattle.list_laws.proofs.Steps.{bind_ok}

abbrev pub Got : {X : Type 0} → Result X WitnessStop → X → Type 0
Got r x = r ≡ Ok x

pub same : {X : Type 0} (x y : X) → Got (Ok x) y → x ≡ y
same x y e = cc

-- what holds of the value that was made holds of the value that was found
pub along : {X : Type 0} (P : X → Type 0) (x y : X) → Got (Ok x) y → P x → P y
along P x y e h = subst P (same x y e) h

pub was_there : {X : Type 0} (place : WitnessPlace) (kind : WitnessKind) (o : Option X) (x : X) → or_refuse place kind o ≡ Ok x → o ≡ Some x
was_there place kind None x e = absurd cc
was_there place kind (Some y) x e = ap Some (same y x e)

pub passed : {X : Type 0} (test : Bool) (place : WitnessPlace) (kind : WitnessKind) (x y : X) → unless test place kind x ≡ Ok y → (test ≡ true) × (x ≡ y)
passed true place kind x y e = (refl, same x y e)
passed false place kind x y e = absurd cc

-- ---- rows

rows_small : (o : Option ℕ) (m : ℕ) → option_and_then (λ n. cond (leb n 1048576) (Some n) None) o ≡ Some m → m ≤ 1048576
rows_small None m e = absurd cc
rows_small (Some n) m e = let p = cond_some (leb n 1048576) n m e in omega (arith, leb-true n 1048576 p.0, p.1)

object_few : (t : ℕ) (table : TableShape) (whole : Members) (object : Members × ℕ) → object_of t table whole ≡ Ok object → object.1 ≤ 1048576
object_few t table whole object e =
    let a = bind_ok (or_refuse (Table t) MissingTable (get_member table.name whole)) (λ found. or_refuse (Table t) NotAnObject (as_object found) >>= (λ members. or_refuse (Table t) BadRows (rows_of members) >>= (λ rows. Ok (members, rows)))) object e in
    let b = bind_ok (or_refuse (Table t) NotAnObject (as_object a.0)) (λ members. or_refuse (Table t) BadRows (rows_of members) >>= (λ rows. Ok (members, rows))) object a.2 in
    let d = bind_ok (or_refuse (Table t) BadRows (rows_of b.0)) (λ rows. Ok (b.0, rows)) object b.2 in
    let made : Members × ℕ = (b.0, d.0) in
    let few = rows_small (option_and_then as_u64 (option_and_then as_number (get_member (codes "rows") b.0))) d.0 (was_there (Table t) BadRows (rows_of b.0) d.0 d.1) in
    let P : Members × ℕ → Type 0 = λ o. o.1 ≤ 1048576 in
    along P made object d.2 few

pub record AreRows (tables : List TableShape) (rows : List ℕ) : Type 0 where
  pub counts : length rows ≡ length tables
  pub few : (t : ℕ) → get_or rows t 0 ≤ 1048576

few_more : (m : ℕ) (rows : List ℕ) → m ≤ 1048576 → ((t : ℕ) → get_or rows t 0 ≤ 1048576) → (t : ℕ) → get_or (m ∷ rows) t 0 ≤ 1048576
few_more m rows h k zero = h
few_more m rows h k (suc t) = k t

pub objects_rows : (t : ℕ) (tables : List TableShape) (whole : Members) (objects : List (Members × ℕ)) → objects_of t tables whole ≡ Ok objects → AreRows tables (map (λ o. o.1) objects)
objects_rows t [] whole objects e =
    let nil : List (Members × ℕ) = [] in
    along (λ (os : List (Members × ℕ)). AreRows [] (map (λ o. o.1) os)) nil objects e (record { counts = refl; few = λ i. omega arith })
objects_rows t (table ∷ tables) whole objects e =
    let a = bind_ok (object_of t table whole) (λ object. objects_of (t + 1) tables whole >>= (λ more. Ok (object ∷ more))) objects e in
    let b = bind_ok (objects_of (t + 1) tables whole) (λ more. Ok (a.0 ∷ more)) objects a.2 in
    let made : List (Members × ℕ) = a.0 ∷ b.0 in
    let others = objects_rows (t + 1) tables whole b.0 b.1 in
    along (λ (os : List (Members × ℕ)). AreRows (table ∷ tables) (map (λ o. o.1) os)) made objects b.2
    (record { counts = ap suc others.counts; few = few_more a.0.1 (map (λ o. o.1) b.0) (object_few t table whole a.0 a.1) others.few })

pub rows_kept : (tables : List TableShape) (whole : Members) (rows : List ℕ) → rows_of_tables tables whole ≡ Ok rows → AreRows tables rows
rows_kept tables whole rows e =
    let a = bind_ok (objects_of 0 tables whole) (λ objects. Ok (map (λ o. o.1) objects)) rows e in
    along (AreRows tables) (map (λ o. o.1) a.0) rows a.2 (objects_rows 0 tables whole a.0 a.1)

-- ---- bytes

pub below_along : (x y : List ℕ) (n : ℕ) → x ≡ y → number_of_bytes x < n → number_of_bytes y < n
below_along x y n e h = let P : List ℕ → Type 0 = λ z. number_of_bytes z < n in subst P e h

-- ---- the whole

pub within : (tables : List TableShape) (rs rows : List ℕ) → within_size tables rs ≡ Ok rows → (size_log tables rs ≤ 24) × (rs ≡ rows)
within tables rs rows e = small (ltb 24 (size_log tables rs)) refl e
  where
    small : (b : Bool) → ltb 24 (size_log tables rs) ≡ b → cond b (Err (TooLarge (size_log tables rs))) (Ok rs) ≡ Ok rows → (size_log tables rs ≤ 24) × (rs ≡ rows)
    small true t h = absurd cc
    small false t h = (ltb-false 24 (size_log tables rs) t, same rs rows h)
