use Rattle.std.proofs.Common.{◌≡◌, ◌-◌, ◌≤◌, length, take}
use Rattle.byte_ends.specs.Sink.{Puts}
use Rattle.byte_ends.proofs.putting.put_whole.Given as goal

abbrev pub invariant-loop-done : goal.invariant-loop-done
invariant-loop-done g l = record {
  within : l.done ≤ length l.bytes;
  put : Puts (g.W.Sink.state l.initial.sink) (g.W.Sink.state l.sink) (take l.done l.bytes);
  quiet : (g.W.Sink.state l.sink).faults ≡ (g.W.Sink.state l.initial.sink).faults;
  telling : (g.W.Sink.state l.sink).told ≡ (g.W.Sink.state l.initial.sink).told;
}

abbrev pub decreases-loop-done : goal.decreases-loop-done
decreases-loop-done g l = length l.bytes - l.done
