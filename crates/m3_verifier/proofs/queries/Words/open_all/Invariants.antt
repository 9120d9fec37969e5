use Rattle.std.proofs.Common.{◌≡◌, ◌-◌}
use Rattle.m3_verifier.specs.Queries.{first_check, openings}
use Rattle.m3_verifier.proofs.queries.Words.open_all.Given as goal

abbrev pub invariant-loop-round : goal.invariant-loop-round
invariant-loop-round l = record {
  same : openings l.self l.self.rounds (first_check l.query l.index) l.bytes ≡ openings l.self (l.self.rounds - l.round) l.check l.left;
  due : l.check.round ≡ l.round;
  index : l.check.index ≡ l.index;
}
