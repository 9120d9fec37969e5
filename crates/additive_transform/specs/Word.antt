-- What a table must be to have a word, and which list its word is.
-- Source: docs/COMMITMENTS.md, "Words and folds"; ePrint 2024/504, the section on the novel polynomial basis.
use Rattle.std.specs.Prelude.{◌≡◌, ◌≤◌, ℕ, ◌+◌, ◌^◌, List, length}
use Rattle.cube_laws.specs.Sums.{tabulate}
use Rattle.word_laws.specs.CodeWord.{word}

-- a table of 2 ^ m values, whose word at a rate is no longer than the words of a basis
abbrev pub CanEncode : ℕ → List ℕ → ℕ → Type 0
CanEncode log_len table log_rate = (m : ℕ) × ((length table ≡ 2 ^ m) × (m + log_rate ≤ log_len))

-- the values of the table's word at the first positions, 2 ^ log_rate times as many as the table's
abbrev pub IsWord : List ℕ → ℕ → List ℕ → Type 0
IsWord table log_rate items = (m : ℕ) → length table ≡ 2 ^ m → items ≡ tabulate (2 ^ (m + log_rate)) (word 0 m table)
