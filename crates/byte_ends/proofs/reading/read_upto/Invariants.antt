use Rattle.std.proofs.Common.{◌≡◌, ◌≤◌, ◌-◌, take, vec_len}
use Rattle.std.specs.Prelude.{IsTrue}
use Rattle.byte_ends.specs.Shelf.{bytes_of, SameFaults, ReadsOnly}
use Rattle.byte_ends.proofs.reading.read_upto.Given as goal

abbrev pub invariant-loop-buffer : goal.invariant-loop-buffer
invariant-loop-buffer g l = record {
  reads : ReadsOnly (g.S.Shelf.state l.initial.shelf) (g.S.Shelf.state l.shelf);
  faults : SameFaults (g.S.Shelf.state l.initial.shelf) (g.S.Shelf.state l.shelf);
  first : IsTrue (g.S.Shelf.state l.initial.shelf).told
      → l.bytes.items ≡ take (vec_len l.bytes) (bytes_of (g.S.Shelf.state l.initial.shelf) l.name);
  within : vec_len l.bytes ≤ l.limit;
}

abbrev pub decreases-loop-buffer : goal.decreases-loop-buffer
decreases-loop-buffer g l = l.limit - vec_len l.bytes
