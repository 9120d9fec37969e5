-- The head of a proof's file, and the first fault of one.
-- Source: docs/PROOF.md, "The head".
use Rattle.std.specs.Prelude.{ℕ, zero, suc, ◌+◌, ◌*◌, ltb, ◌==◌, cond, List, [], ◌∷◌, length, take, drop, slice_index, Option, None, Some, ◌++◌}
use Rattle.std.specs.Int.{from_le_bytes, to_le_bytes, w32}
use Rattle.std.specs.List.{flat_map}
use Rattle.std.specs.Str.{bytes_eq}
use Rattle.cube_laws.specs.Sums.{tabulate}
use Rattle.table_shape.specs.Limits.{max_rows}
use Rattle.proof_plan.specs.Sizes.{head_length}
use Rattle.proof_format.specs.declared.proof_fault.ProofFault.{ProofFault}
use Rattle.proof_format.specs.declared.proof_fault.ProofFault.TheVariants.{BadMagic, BadVersion, OtherTables, BadRows, Short}

-- ---- what it begins with
-- `BM3PROOF`
abbrev pub magic : List ℕ
magic = 66 ∷ 77 ∷ 51 ∷ 80 ∷ 82 ∷ 79 ∷ 79 ∷ 70 ∷ []

abbrev pub version : ℕ
version = 1

-- 4 bytes for each table, the lowest first
abbrev pub rows_bytes : List ℕ → List ℕ
rows_bytes rows = flat_map (to_le_bytes w32) rows

-- of the digest of the tables, and the rows of each
abbrev pub head : List ℕ → List ℕ → List ℕ
head digest rows = magic ++ version ∷ (digest ++ rows_bytes rows)

-- ---- its fields in a file
abbrev pub field : ℕ → ℕ → List ℕ → List ℕ
field at n file = take n (drop at file)

-- where the rows of table t stand
abbrev pub rows_place : ℕ → ℕ
rows_place t = 41 + 4 * t

abbrev pub rows_in : List ℕ → ℕ → ℕ
rows_in file t = from_le_bytes w32 (field (rows_place t) 4 file)

-- ---- its first fault
abbrev pub or_then : Option ProofFault → Option ProofFault → Option ProofFault
or_then None next = next
or_then (Some fault) next = Some fault

-- a file of fewer bytes is short of a head of n tables
abbrev pub short : ℕ → ℕ → List ℕ → Option ProofFault
short n bytes file = cond (ltb (length file) bytes) (Some (Short (length file) (head_length n))) None

abbrev pub bad_magic : List ℕ → Option ProofFault
bad_magic file = cond (bytes_eq (field 0 8 file) magic) None (Some (BadMagic (field 0 8 file)))

abbrev pub bad_version : List ℕ → Option ProofFault
bad_version file = let v = slice_index file 8 in cond (v == version) None (Some (BadVersion v))

abbrev pub other_tables : List ℕ → List ℕ → Option ProofFault
other_tables digest file = cond (bytes_eq (field 9 32 file) digest) None (Some (OtherTables digest (field 9 32 file)))

abbrev pub bad_rows : ℕ → List ℕ → Option ProofFault
bad_rows t file = cond (ltb max_rows (rows_in file t)) (Some (BadRows t (rows_in file t))) None

-- of the rows of k tables from t on, in a head of n tables
abbrev pub rows_fault : ℕ → ℕ → ℕ → List ℕ → Option ProofFault
rows_fault n t zero file = None
rows_fault n t (suc k) file = or_then (short n (rows_place (suc t)) file) (or_then (bad_rows t file) (rows_fault n (suc t) k file))

-- field by field: that it is whole, and then what it says
abbrev pub head_fault : List ℕ → ℕ → List ℕ → Option ProofFault
head_fault digest n file =
    or_then (short n 8 file) (or_then (bad_magic file)
    (or_then (short n 9 file) (or_then (bad_version file)
    (or_then (short n 41 file) (or_then (other_tables digest file)
    (rows_fault n 0 n file))))))

-- the rows that a head of n tables tells
abbrev pub head_rows : ℕ → List ℕ → List ℕ
head_rows n file = tabulate n (rows_in file)
