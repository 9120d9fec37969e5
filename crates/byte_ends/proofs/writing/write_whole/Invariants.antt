use Rattle.std.proofs.Common.{◌-◌, ◌≤◌, length, take}
use Rattle.byte_ends.specs.Shelf.{SameFaults, TellsNoMore, Appends}
use Rattle.byte_ends.proofs.writing.write_whole.Given as goal

abbrev pub invariant-loop-done : goal.invariant-loop-done
invariant-loop-done g l = record {
  within : l.done ≤ length l.bytes;
  added : Appends (g.S.Shelf.state l.initial.shelf) (g.S.Shelf.state l.shelf) l.name (take l.done l.bytes);
  faults : SameFaults (g.S.Shelf.state l.initial.shelf) (g.S.Shelf.state l.shelf);
  telling : TellsNoMore (g.S.Shelf.state l.initial.shelf) (g.S.Shelf.state l.shelf);
}

abbrev pub decreases-loop-done : goal.decreases-loop-done
decreases-loop-done g l = length l.bytes - l.done
