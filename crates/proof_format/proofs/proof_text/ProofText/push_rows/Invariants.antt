use Rattle.std.proofs.Common.{◌≡◌, ◌*◌, length, ◌-◌, drop}
use Rattle.proof_format.specs.Head.{rows_bytes}
use Rattle.proof_format.specs.TextParts.{HasRoom, with_bytes}
use Rattle.proof_format.proofs.proof_text.ProofText.push_rows.Given as goal

abbrev pub invariant-loop-m : goal.invariant-loop-m
invariant-loop-m l = record {
  room : HasRoom l.self (4 * (length l.rows - l.m-index));
  written : with_bytes l.self (rows_bytes (drop l.m-index l.rows)) ≡ with_bytes l.initial.self (rows_bytes l.rows);
}
