-- The sum of a batch, of two tables.
-- Source: docs/REDUCTIONS.md, "Bits of columns".
use Rattle.std.specs.Prelude.{ℕ, ◌^◌, List, [], ◌∷◌, get_or, map}
use Rattle.batch_laws.specs.Batch.{batched}
use Rattle.sumcheck.specs.declared.summand.Pair.{Pair}
use Rattle.sumcheck.specs.Proving.{Proving}
use Rattle.table_shape.specs.Placement.{places_log}
use Rattle.bit_claim.specs.Batching.{Batched}
use Rattle.bit_claim.specs.Bits.{claim_table}

-- of the table of a batch and a table of bits, before any round
abbrev pub begun : Batched → List ℕ → Proving Pair
begun t cells = record { summand = record {}; degree = 2; left = places_log t.blocks; lists = batched (2 ^ places_log t.blocks) t.lambda (map (claim_table t.blocks) t.claims) ∷ cells ∷ [] }

-- the first number of the second table
abbrev pub second : Proving Pair → ℕ
second q = get_or (get_or q.lists 1 []) 0 0
