-- The claims on columns that a merge and a batch are entered with.
-- Source: docs/PROOF.md, "The claims that wait".
use Rattle.std.specs.Prelude.{◌≤◌, ℕ, List, length}
use Rattle.std.specs.List.{AllByRecursion}
use Rattle.sumcheck.specs.declared.column_claim.ColumnClaim.{ColumnClaim}
use Rattle.eval_reduce.specs.Merge as merge
use Rattle.eval_reduce.specs.Merge.{AllOn, Merge}
use Rattle.bit_claim.specs.Batching as batch
use Rattle.bit_claim.specs.Batching.{Batching}
use Rattle.bit_claim.specs.Bits.{IsPlaced}

-- two or more on one column, for which there is memory
abbrev pub MergeTakes : ℕ → ℕ → List ColumnClaim → Merge → Type 0
MergeTakes t c cs (merge.waiting n m) = (2 ≤ length cs) × ((length cs ≤ m) × AllOn t c n cs)
MergeTakes t c cs (merge.opening t' c' n ds) = ⊥
MergeTakes t c cs (merge.summed s) = ⊥

-- all on columns that have blocks, and there is memory for them
abbrev pub BatchTakes : List ColumnClaim → Batching → Type 0
BatchTakes cs (batch.waiting bs m) = (length cs ≤ m) × AllByRecursion (IsPlaced bs) cs
BatchTakes cs (batch.opening bs ds) = ⊥
BatchTakes cs (batch.summed s) = ⊥
