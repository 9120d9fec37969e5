use Rattle.std.proofs.Common.{◌≡◌, map, drop}
use Rattle.std.specs.Prelude.{nat_le}
use Rattle.table_text.specs.Valid.{greatest, depth}
use Rattle.table_text.proofs.valid.+depths.Given as goal

abbrev pub invariant-are_within-loop-part : goal.invariant-are_within-loop-part
invariant-are_within-loop-part l =
    nat_le (greatest (map (λ part. depth part l.place) (drop l.part-index l.parts))) l.room ≡ nat_le (greatest (map (λ part. depth part l.place) l.parts)) l.room
