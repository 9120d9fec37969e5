use Rattle.std.proofs.Common.{◌∙◌, ◌+◌, ◌-◌, ◌*◌, ap, arith, length, drop}
use Rattle.proof_format.specs.TextParts.{with_bytes}
use Rattle.transcript.specs.Transcript.{bytes_of}
use Rattle.proof_format.proofs.WriteSteps.{room_left, value_written}
use Rattle.proof_format.proofs.proof_text.ProofText.push_values.Goals as goal

pub loop-value-preserved : goal.loop-value-preserved
loop-value-preserved c =
    let i = c.loop-value.value-index in
    let values = c.args.values.now in
    record {
      room = room_left c.loop-value.self c.push_bytes.new.self c.to_bytes.result 16 (16 * (length values - i)) (16 * (length values - (i + 1))) c.push_bytes.ensures (ap length c.to_bytes.ensures)
          (let low = c.loop-value-test.true in omega arith) c.loop-value.invariant.room;
      written = ap (λ t. with_bytes t (bytes_of (drop (i + 1) values))) c.push_bytes.ensures
          ∙ value_written i values c.value-item.result c.loop-value.self c.to_bytes.result c.loop-value-test.true c.value-item.is c.to_bytes.ensures ∙ c.loop-value.invariant.written;
    }
