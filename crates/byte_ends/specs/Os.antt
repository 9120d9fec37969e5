-- Real files and standard output, which tell counts alone.
-- Source: docs/ENDS.md, "The kinds".
use Rattle.std.specs.Prelude.{ℕ, false, None, []}
use Rattle.byte_ends.specs.Counts.{FaultCounts}
use Rattle.byte_ends.specs.Shelf.{ShelfState}
use Rattle.byte_ends.specs.Sink.{SinkState}

-- a shelf that tells no files, with these counts of faults
abbrev pub untold_shelf : FaultCounts → ShelfState
untold_shelf counts = record {
  told = false;
  file = λ name. None;
  read_faults = counts.reads;
  write_faults = counts.writes;
  read_faults_of = λ name. 0;
  write_faults_of = λ name. 0;
}

-- a sink that tells no bytes, with this count of faults
abbrev pub untold_sink : ℕ → SinkState
untold_sink faults = record { told = false; bytes = []; faults = faults }
