-- Heads that are written and read.
-- Source: docs/PROOF.md, "The head".
use Rattle.std.specs.Prelude.{◌≡◌, ◌<◌, ◌≤◌, ℕ, List, ◌++◌, length, take, None}
use Rattle.std.specs.List.{AllByRecursion}
use Rattle.table_shape.specs.Limits.{max_rows}
use Rattle.proof_plan.specs.Sizes.{head_length}
use Rattle.proof_format.specs.Head.{head, head_fault, head_rows}

-- a head that was written has no fault and tells its rows, whatever follows
abbrev pub HeadsAreReadAgain : Type 0
HeadsAreReadAgain = (digest rows rest : List ℕ) → length digest ≡ 32 → AllByRecursion (λ m. m ≤ max_rows) rows
    → (head_fault digest (length rows) (head digest rows ++ rest) ≡ None) × (head_rows (length rows) (head digest rows ++ rest) ≡ rows)

-- a file whose head has no fault begins with the head of the rows that it tells, none of which are too many
abbrev pub HeadsAreSpelledAgain : Type 0
HeadsAreSpelledAgain = (digest : List ℕ) (n : ℕ) (file : List ℕ) → AllByRecursion (λ b. b < 256) file → head_fault digest n file ≡ None
    → (head_length n ≤ length file) × (AllByRecursion (λ m. m ≤ max_rows) (head_rows n file)) × (head digest (head_rows n file) ≡ take (head_length n) file)
