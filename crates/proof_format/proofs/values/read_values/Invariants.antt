use Rattle.std.proofs.Common.{◌≡◌, ◌*◌, ◌-◌, ◌++◌, length}
use Rattle.proof_format.specs.Values.{values_of}
use Rattle.proof_format.proofs.values.read_values.Given as goal

abbrev pub invariant-loop : goal.invariant-loop
invariant-loop l = record { long : length l.rest ≡ 16 * (l.count - l.counter); same : l.out.items ++ values_of (l.count - l.counter) l.rest ≡ values_of l.count l.bytes }
