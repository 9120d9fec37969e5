-- The forms of the sum of a batch.
-- Source: docs/REDUCTIONS.md, "Provers".
use Rattle.std.specs.Prelude.{◌<◌, length}
use Rattle.sumcheck.specs.declared.summand.Pair.{Pair}
use Rattle.sumcheck.specs.Proving.{Proving}
use Rattle.bit_claim.specs.declared.sum_form.SumForm.{SumForm}
use Rattle.bit_claim.specs.declared.sum_form.SumForm.TheVariants.{Tables, Words}
use Rattle.bit_claim.specs.PackedSum.{packed_proving}

abbrev pub proving_of : SumForm → Proving Pair
proving_of (Tables p) = p
proving_of (Words s) = packed_proving s

-- it can give a round, or the last value
abbrev pub IsReady : SumForm → Type 0
IsReady (Tables p) = Unit {0}
IsReady (Words s) = length s.draws < 7
