use Rattle.std.proofs.Common.{◌≡◌, ◌+◌, length, take, vec_len, ◌++◌, ◌∙◌, ap, arith}
use Rattle.std.proofs.lemmas.Grind.{common_steps}
use Rattle.std.proofs.lemmas.List.{length-take, length-take-le}
use Rattle.byte_ends.specs.Shelf.{bytes_of}
use Rattle.byte_ends.proofs.ReadSteps.{reads_then, faults_then, read_more}
use Rattle.byte_ends.proofs.reading.read_upto.Goals as goal

pub loop-buffer-preserved : goal.loop-buffer-preserved
loop-buffer-preserved g c =
    let held = c.loop-buffer.invariant in
    let bytes = c.loop-buffer.bytes in
    let count = c.in-Ok.count in
    let given = c.read.new.into in
    let file = bytes_of (g.S.Shelf.state c.args.shelf.now) c.args.name.now in
    let longer : c.extend_from_slice.new.self.items ≡ bytes.items ++ take count given = grind (arith, common_steps) in
    let grown : vec_len c.extend_from_slice.new.self ≡ vec_len bytes + length (take count given) = grind (arith, common_steps) in
    let taken = length-take-le count given (omega (arith, c.in-Ok.ensures.within, c.read.auto.into)) in
    record {
      reads = reads_then held.reads c.in-Ok.ensures.reads_only;
      faults = faults_then held.faults c.in-Ok.ensures.quiet;
      first = λ told.
          longer
          ∙ read_more c.args.name.now bytes.items (vec_len bytes) count held.reads told (held.first told) (rw c.len-at.ensures at c.in-Ok.ensures.given)
          ∙ ap (λ n. take n file) (omega (arith, grown, taken));
      within = omega (arith, held.within, grown, taken, c.in-Ok.ensures.within, length-take c.min-wanted.result c.loop-buffer.buffer, c.min-wanted.ensures, c.len-at.ensures);
    }
