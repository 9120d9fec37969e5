-- Heads that are written and read.
use Rattle.std.proofs.Common.{◌≡◌, ◌∙◌, refl, sym, ap, subst, arith, ℕ, zero, suc, ◌+◌, ◌*◌, ◌<◌, ◌≤◌, cond, Bool, true, false, eqb, ltb, List, [], ◌∷◌, ◌++◌, length, take, drop, get_or, append_assoc, length-append, drop-cons, Option, None, Some}
use Rattle.std.proofs.lemmas.Bool.{le-ltb, ltb-false}
use Rattle.std.proofs.lemmas.Bool.Decides.{Decides-eqb}
use Rattle.std.proofs.lemmas.List.{take_at, drop_at, drop-drop, length-drop, length-take-le}
use Rattle.std.proofs.lemmas.Nat.{from_le_bytes-to_le_bytes_4, le_bytes_4}
use Rattle.std.proofs.lemmas.Option.{none-some}
use Rattle.std.proofs.lemmas.Slice.Eq.{bytes_eq-Decides}
use Rattle.std.proofs.Math.Seq.{take-add}
use Rattle.std.specs.Int.{from_le_bytes, to_le_bytes, w32}
use Rattle.std.specs.List.{AllByRecursion}
use Rattle.std.specs.Str.{bytes_eq}
use Rattle.cube_laws.specs.Sums.{tabulate}
use Rattle.cube_laws.proofs.Weights.{tabulate-same}
use Rattle.table_shape.specs.Limits.{max_rows}
use Rattle.proof_plan.specs.Sizes.{head_length}
use Rattle.proof_format.specs.declared.proof_fault.ProofFault.{ProofFault}
use Rattle.proof_format.specs.declared.proof_fault.ProofFault.TheVariants.{BadMagic, BadRows, BadVersion, OtherTables, Short}
use Rattle.proof_format.specs.Head.{bad_magic, bad_rows, bad_version, field, head, head_fault, head_rows, magic, or_then, other_tables, rows_bytes, rows_fault, rows_in, rows_place, short, version}
use Rattle.proof_format.proofs.ValueSteps.{all_drop, all_take}

-- ---- faults that aren't there
passed : (test : Bool) (fault : ProofFault) → cond test None (Some fault) ≡ None → test ≡ true
passed true fault h = refl
passed false fault h = absurd (none-some fault (sym h))

failed : (test : Bool) (fault : ProofFault) → cond test (Some fault) None ≡ None → test ≡ false
failed false fault h = refl
failed true fault h = absurd (none-some fault (sym h))

neither : (first next : Option ProofFault) → or_then first next ≡ None → (first ≡ None) × (next ≡ None)
neither None next h = (refl, h)
neither (Some fault) next h = absurd (none-some fault (sym h))

past : (first next : Option ProofFault) → first ≡ None → next ≡ None → or_then first next ≡ None
past first next h k = ap (λ f. or_then f next) h ∙ k

not_short : (n due : ℕ) (file : List ℕ) → due ≤ length file → short n due file ≡ None
not_short n due file l = ap (λ b. cond b (Some (Short (length file) (head_length n))) None) (le-ltb (length file) due l)

is_whole : (n due : ℕ) (file : List ℕ) → short n due file ≡ None → due ≤ length file
is_whole n due file h = ltb-false (length file) due (failed (ltb (length file) due) (Short (length file) (head_length n)) h)

not_many : (t : ℕ) (file : List ℕ) → rows_in file t ≤ max_rows → bad_rows t file ≡ None
not_many t file l = ap (λ b. cond b (Some (BadRows t (rows_in file t))) None) (le-ltb max_rows (rows_in file t) l)

are_few : (t : ℕ) (file : List ℕ) → bad_rows t file ≡ None → rows_in file t ≤ max_rows
are_few t file h = ltb-false max_rows (rows_in file t) (failed (ltb max_rows (rows_in file t)) (BadRows t (rows_in file t)) h)

-- ---- rows
-- of k tables from t on
abbrev rows_from : ℕ → ℕ → List ℕ → List ℕ
rows_from t k file = tabulate k (λ j. rows_in file (t + j))

rows_next : (t k : ℕ) (file : List ℕ) → rows_from t (suc k) file ≡ rows_in file t ∷ rows_from (suc t) k file
rows_next t k file =
    let here : t + 0 ≡ t = omega arith in
    let rest = tabulate-same k (λ j. rows_in file (t + suc j)) (λ j. rows_in file (suc t + j)) (λ j l. let e : t + suc j ≡ suc t + j = omega arith in ap (rows_in file) e) in
    (λ i. rows_in file (here i) ∷ rest i)

all_rows : (n : ℕ) (file : List ℕ) → rows_from 0 n file ≡ head_rows n file
all_rows n file = tabulate-same n (λ j. rows_in file (0 + j)) (rows_in file) (λ j l. let e : 0 + j ≡ j = omega arith in ap (rows_in file) e)

length-rows_bytes : (rows : List ℕ) → length (rows_bytes rows) ≡ 4 * length rows
length-rows_bytes [] = refl
length-rows_bytes (m ∷ ms) =
    let a = length-append (to_le_bytes w32 m) (rows_bytes ms) in
    let four : length (to_le_bytes w32 m) ≡ 4 = refl in
    let rest = length-rows_bytes ms in
    omega arith

-- ---- rows that were written, where those of table t stand and then those of the tables after it
row_again : (t m : ℕ) (ms rest file : List ℕ) → m ≤ max_rows → drop (rows_place t) file ≡ rows_bytes (m ∷ ms) ++ rest → rows_in file t ≡ m
row_again t m ms rest file few at =
    let bytes = append_assoc (to_le_bytes w32 m) (rows_bytes ms) rest in
    ap (λ bs. from_le_bytes w32 (take 4 bs)) (at ∙ bytes) ∙ ap (from_le_bytes w32) (take_at (to_le_bytes w32 m) (rows_bytes ms ++ rest) 4 refl) ∙ from_le_bytes-to_le_bytes_4 m (omega arith)

next_rows : (t m : ℕ) (ms rest file : List ℕ) → drop (rows_place t) file ≡ rows_bytes (m ∷ ms) ++ rest → drop (rows_place (suc t)) file ≡ rows_bytes ms ++ rest
next_rows t m ms rest file at =
    let place : rows_place (suc t) ≡ rows_place t + 4 = omega arith in
    ap (λ k. drop k file) place ∙ sym (drop-drop 4 (rows_place t) file) ∙ ap (drop 4) (at ∙ append_assoc (to_le_bytes w32 m) (rows_bytes ms) rest)
    ∙ drop_at (to_le_bytes w32 m) (rows_bytes ms ++ rest) 4 refl

rows_right : (n t : ℕ) (rows rest file : List ℕ) → drop (rows_place t) file ≡ rows_bytes rows ++ rest → rows_place t + 4 * length rows ≤ length file
    → AllByRecursion (λ m. m ≤ max_rows) rows → rows_fault n t (length rows) file ≡ None
rows_right n t [] rest file at l few = refl
rows_right n t (m ∷ ms) rest file at l few =
    let row = row_again t m ms rest file few.0 at in
    let low = few.0 in
    past (short n (rows_place (suc t)) file) (or_then (bad_rows t file) (rows_fault n (suc t) (length ms) file)) (not_short n (rows_place (suc t)) file (omega arith))
    (past (bad_rows t file) (rows_fault n (suc t) (length ms) file) (not_many t file (omega arith)) (rows_right n (suc t) ms rest file (next_rows t m ms rest file at) (omega arith) few.1))

rows_told : (t : ℕ) (rows rest file : List ℕ) → drop (rows_place t) file ≡ rows_bytes rows ++ rest → AllByRecursion (λ m. m ≤ max_rows) rows
    → rows_from t (length rows) file ≡ rows
rows_told t [] rest file at few = refl
rows_told t (m ∷ ms) rest file at few =
    let row = row_again t m ms rest file few.0 at in
    let more = rows_told (suc t) ms rest file (next_rows t m ms rest file at) few.1 in
    rows_next t (length ms) file ∙ (λ i. row i ∷ more i)

-- ---- a head that was written
pub head_again : (digest rows rest : List ℕ) → length digest ≡ 32 → AllByRecursion (λ m. m ≤ max_rows) rows
    → (head_fault digest (length rows) (head digest rows ++ rest) ≡ None) × (head_rows (length rows) (head digest rows ++ rest) ≡ rows)
head_again digest rows rest long few =
    let n = length rows in
    let file = head digest rows ++ rest in
    let body = append_assoc digest (rows_bytes rows) rest in
    let at : drop 41 file ≡ rows_bytes rows ++ rest = ap (drop 32) body ∙ drop_at digest (rows_bytes rows ++ rest) 32 long in
    let found : field 9 32 file ≡ digest = ap (take 32) body ∙ take_at digest (rows_bytes rows ++ rest) 32 long in
    let same : bytes_eq (field 9 32 file) digest ≡ true = (bytes_eq-Decides (field 9 32 file) digest).1 found in
    let tables : other_tables digest file ≡ None = ap (λ b. cond b None (Some (OtherTables digest (field 9 32 file)))) same in
    let whole : 41 + 4 * n ≤ length file =
    let a = length-append (digest ++ rows_bytes rows) rest in
    let b = length-append digest (rows_bytes rows) in
    let k = length-rows_bytes rows in
    omega arith in
    let after = past (short n 41 file) (or_then (other_tables digest file) (rows_fault n 0 n file)) (not_short n 41 file (omega arith))
    (past (other_tables digest file) (rows_fault n 0 n file) tables (rows_right n 0 rows rest file at whole few)) in
    let marked = past (short n 9 file) (or_then (bad_version file) (or_then (short n 41 file) (or_then (other_tables digest file) (rows_fault n 0 n file)))) (not_short n 9 file (omega arith)) after in (
      past (short n 8 file) (or_then (bad_magic file) (or_then (short n 9 file) (or_then (bad_version file) (or_then (short n 41 file) (or_then (other_tables digest file) (rows_fault n 0 n file))))))
          (not_short n 8 file (omega arith)) marked,
      sym (all_rows n file) ∙ rows_told 0 rows rest file at few,
    )

-- ---- bytes that were read
byte_low : (bytes : List ℕ) → AllByRecursion (λ b. b < 256) bytes → (i : ℕ) → get_or bytes i 0 < 256
byte_low [] h i = omega arith
byte_low (b ∷ bytes) h zero = h.0
byte_low (b ∷ bytes) h (suc i) = byte_low bytes h.1 i

row_spelled : (t : ℕ) (file : List ℕ) → AllByRecursion (λ b. b < 256) file → rows_place (suc t) ≤ length file → to_le_bytes w32 (rows_in file t) ≡ field (rows_place t) 4 file
row_spelled t file bytes l =
    let left = length-drop (rows_place t) file in
    let at = drop (rows_place t) file in
    le_bytes_4 (take 4 at) (rows_in file t) (length-take-le 4 at (omega arith)) (byte_low (take 4 at) (all_take (λ b. b < 256) 4 at (all_drop (λ b. b < 256) (rows_place t) file bytes))) refl

rows_found : (n t k : ℕ) (file : List ℕ) → AllByRecursion (λ b. b < 256) file → rows_place t ≤ length file → rows_fault n t k file ≡ None
    → (rows_place t + 4 * k ≤ length file) × (AllByRecursion (λ m. m ≤ max_rows) (rows_from t k file)) × (rows_bytes (rows_from t k file) ≡ take (4 * k) (drop (rows_place t) file))
rows_found n t zero file bytes l h = (omega arith, tt, refl)
rows_found n t (suc k) file bytes l h =
    let first = neither (short n (rows_place (suc t)) file) (or_then (bad_rows t file) (rows_fault n (suc t) k file)) h in
    let second = neither (bad_rows t file) (rows_fault n (suc t) k file) first.1 in
    let whole = is_whole n (rows_place (suc t)) file first.0 in
    let more = rows_found n (suc t) k file bytes whole second.1 in
    let next = rows_next t k file in
    let row = row_spelled t file bytes whole in
    let place : rows_place (suc t) ≡ rows_place t + 4 = omega arith in
    let after : drop (rows_place (suc t)) file ≡ drop 4 (drop (rows_place t) file) = ap (λ p. drop p file) place ∙ sym (drop-drop 4 (rows_place t) file) in
    let due : 4 + 4 * k ≡ 4 * suc k = omega arith in (
      let long = more.0 in omega arith,
      subst (AllByRecursion (λ m. m ≤ max_rows)) (sym next) (are_few t file second.0, more.1),
      ap rows_bytes next ∙ (λ i. row i ++ (more.2 ∙ ap (take (4 * k)) after) i) ∙ sym (take-add 4 (4 * k) (drop (rows_place t) file)) ∙ ap (λ d. take d (drop (rows_place t) file)) due,
    )

-- ---- a head that was read
-- the mark and the version
begins : (file : List ℕ) → 9 ≤ length file → bad_magic file ≡ None → bad_version file ≡ None → take 9 file ≡ magic ++ version ∷ []
begins file l mark number =
    let m : field 0 8 file ≡ magic = (bytes_eq-Decides (field 0 8 file) magic).0 (passed (bytes_eq (field 0 8 file) magic) (BadMagic (field 0 8 file)) mark) in
    let v : get_or file 8 0 ≡ version = (Decides-eqb (get_or file 8 0) version).0 (passed (eqb (get_or file 8 0) version) (BadVersion (get_or file 8 0)) number) in
    let at = drop-cons file 8 0 (omega arith) in
    take-add 8 1 file ∙ (λ i. m i ++ take 1 (at i)) ∙ ap (λ x. magic ++ x ∷ []) v

pub head_spelled : (digest : List ℕ) (n : ℕ) (file : List ℕ) → AllByRecursion (λ b. b < 256) file → head_fault digest n file ≡ None
    → (head_length n ≤ length file) × (AllByRecursion (λ m. m ≤ max_rows) (head_rows n file)) × (head digest (head_rows n file) ≡ take (head_length n) file)
head_spelled digest n file bytes h =
    let tables = or_then (other_tables digest file) (rows_fault n 0 n file) in
    let after_version = or_then (short n 41 file) tables in
    let numbered = or_then (short n 9 file) (or_then (bad_version file) after_version) in
    let a = neither (short n 8 file) (or_then (bad_magic file) numbered) h in
    let b = neither (bad_magic file) numbered a.1 in
    let c = neither (short n 9 file) (or_then (bad_version file) after_version) b.1 in
    let d = neither (bad_version file) after_version c.1 in
    let e = neither (short n 41 file) tables d.1 in
    let f = neither (other_tables digest file) (rows_fault n 0 n file) e.1 in
    let found : field 9 32 file ≡ digest = (bytes_eq-Decides (field 9 32 file) digest).0 (passed (bytes_eq (field 9 32 file) digest) (OtherTables digest (field 9 32 file)) f.0) in
    let rows = rows_found n 0 n file bytes (is_whole n 41 file e.0) f.1 in
    let all = all_rows n file in
    let start = begins file (is_whole n 9 file c.0) b.0 d.0 in
    let front : take 41 file ≡ (magic ++ version ∷ []) ++ digest = take-add 9 32 file ∙ (λ i. start i ++ found i) in (
      rows.0,
      subst (AllByRecursion (λ m. m ≤ max_rows)) all rows.1,
      sym (take-add 41 (4 * n) file ∙ (λ i. front i ++ (sym rows.2 ∙ ap rows_bytes all) i) ∙ append_assoc (magic ++ version ∷ []) digest (rows_bytes (head_rows n file))),
    )
