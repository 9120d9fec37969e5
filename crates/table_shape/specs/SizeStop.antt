-- When the columns are too large.
-- Source: docs/FORMATS.md, "The witness" and "Limits".
use Rattle.std.specs.Prelude.{◌≡◌, ℕ, ◌<◌, ◌≤◌, Result, Ok, Err}
use Rattle.table_shape.specs.Limits.{max_size_log}
use Rattle.table_shape.specs.declared.size_stop.SizeStop.{SizeStop}
use Rattle.table_shape.specs.declared.size_stop.SizeStop.TheVariants.{TooLarge, NoMemory}

-- columns of at most 2 ^ e bits are too large exactly where e is above the limit
abbrev pub AnswersSize : {X : Type 0} → Result X SizeStop → ℕ → Type 0
AnswersSize (Ok x) e = e ≤ max_size_log
AnswersSize (Err (TooLarge log_bits)) e = (log_bits ≡ e) × (max_size_log < e)
AnswersSize (Err NoMemory) e = e ≤ max_size_log
