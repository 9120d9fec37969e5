use Rattle.std.proofs.Common.{◌≡◌, ◌*◌, length, ◌-◌, drop}
use Rattle.proof_format.specs.TextParts.{HasRoom, with_bytes}
use Rattle.transcript.specs.Transcript.{bytes_of}
use Rattle.proof_format.proofs.proof_text.ProofText.push_values.Given as goal

abbrev pub invariant-loop-value : goal.invariant-loop-value
invariant-loop-value l = record {
  room : HasRoom l.self (16 * (length l.values - l.value-index));
  written : with_bytes l.self (bytes_of (drop l.value-index l.values)) ≡ with_bytes l.initial.self (bytes_of l.values);
}
