-- The fields of the walk of a batch of claims.
-- Source: docs/REDUCTIONS.md, "Bits of columns".
use Rattle.std.specs.Prelude.{◌≡◌, ◌<◌, ◌^◌, ℕ, [], length, Option, None, Some}
use Rattle.sumcheck.specs.Rounds.{Rounds, sum_claim, with_claim}
use Rattle.sumcheck.specs.Summing.{adding, closed}
use Rattle.table_shape.specs.Placement.{places_log}
use Rattle.bit_claim.specs.Batching.{Batched, Batching, BitValue, waiting, opening, summed}
use Rattle.bit_claim.specs.declared.bit_walk.Stage.{Stage}
use Rattle.bit_claim.specs.declared.bit_walk.Stage.TheVariants.{Waiting, Opening, Adding}

-- what they stand for
abbrev pub batching_of : Stage → Batched → Rounds → Option BitValue → (room : ℕ) → Batching
batching_of Waiting t r None m = waiting t.blocks m
batching_of Opening t r None m = opening t.blocks t.claims
batching_of Adding t r None m = summed (adding t r)
batching_of g t r (Some claim) m = summed (closed claim)

-- what is known in each stage
abbrev pub StageFits : Stage → Batched → Rounds → Option BitValue → Type 0
StageFits Waiting t r o = (o ≡ None) × (with_claim 0 r ≡ sum_claim 2 (places_log t.blocks) [] 0)
StageFits Opening t r o = (o ≡ None) × ((with_claim 0 r ≡ sum_claim 2 (places_log t.blocks) [] 0) × (length t.claims < 2 ^ 30))
StageFits Adding t r o = Unit {0}
