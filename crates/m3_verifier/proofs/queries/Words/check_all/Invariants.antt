use Rattle.std.proofs.Common.{◌≡◌, ◌-◌}
use Rattle.proof_plan.specs.Sizes.{query_count}
use Rattle.m3_verifier.specs.Queries.{after_draws, queries}
use Rattle.m3_verifier.proofs.queries.Words.check_all.Given as goal

abbrev pub invariant-loop-query : goal.invariant-loop-query
invariant-loop-query l = record {
  same : queries l.self query_count 0 l.initial.transcript l.bytes ≡ queries l.self (query_count - l.query) l.query l.transcript l.left;
  drawn : after_draws query_count l.initial.transcript ≡ after_draws (query_count - l.query) l.transcript;
}
