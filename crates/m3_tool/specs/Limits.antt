-- The limits of files.
-- Source: docs/FORMATS.md, "Limits".
use Rattle.std.specs.Prelude.{ℕ}

-- the most bytes that a file of tables may have
abbrev pub max_tables_file : ℕ
max_tables_file = 1048576

-- the most bytes that a file of a witness may have
abbrev pub max_witness_file : ℕ
max_witness_file = 16777216
