use Rattle.std.proofs.Common.{◌≡◌, ◌+◌, drop}
use Rattle.zerocheck.specs.Group.{place}
use Rattle.zerocheck.proofs.expressions.place.Given as goal

abbrev pub invariant-loop-i : goal.invariant-loop-i
invariant-loop-i l = l.i + place l.column (drop l.i l.columns) ≡ place l.column l.columns
