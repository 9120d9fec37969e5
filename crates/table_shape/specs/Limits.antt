-- The limits of shapes and of the columns' values.
-- Source: docs/LANGUAGE.md, "What a file means"; docs/FORMATS.md, "Limits".
use Rattle.std.specs.Prelude.{ℕ}

-- the most tables
abbrev pub max_tables : ℕ
max_tables = 64

-- the most channels
abbrev pub max_channels : ℕ
max_channels = 64

-- the most boundaries
abbrev pub max_boundaries : ℕ
max_boundaries = 4096

-- the most numbers of a channel's tuples
abbrev pub max_channel_width : ℕ
max_channel_width = 16

-- the most columns of a table
abbrev pub max_columns : ℕ
max_columns = 256

-- the most constraints of a table
abbrev pub max_constraints : ℕ
max_constraints = 256

-- the most flushes of a table
abbrev pub max_flushes : ℕ
max_flushes = 64

-- the most terms of a linear column
abbrev pub max_terms : ℕ
max_terms = 64

-- the greatest degree of a constraint
abbrev pub max_degree : ℕ
max_degree = 8

-- the most rows that a table may have
abbrev pub max_rows : ℕ
max_rows = 1048576

-- all columns take at most 2 ^ max_size_log bits
abbrev pub max_size_log : ℕ
max_size_log = 24

-- one column takes at most 2 ^ max_block_log bits: those of 2 ^ 20 rows of 2 ^ 7 values of 2 ^ 7 bits
abbrev pub max_block_log : ℕ
max_block_log = 34
