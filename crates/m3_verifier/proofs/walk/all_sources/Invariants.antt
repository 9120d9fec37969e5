use Rattle.std.proofs.Common.{◌≡◌, ◌+◌, ◌*◌, ◌≤◌, drop}
use Rattle.m3_walk.specs.Course.{source_count}
use Rattle.m3_verifier.proofs.walk.all_sources.Given as goal

abbrev pub invariant-loop-column : goal.invariant-loop-column
invariant-loop-column l = record {
  count : l.count + source_count (drop l.column-index l.columns) ≡ source_count l.columns;
  few : l.count ≤ l.column-index * 64;
}
