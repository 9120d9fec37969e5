use Rattle.std.proofs.Common.{◌≡◌, take}
use Rattle.eval_reduce.specs.Provers.{given_lists}
use Rattle.eval_reduce.proofs.linear_prover.copied_lists.Given as goal

abbrev pub invariant-loop-term : goal.invariant-loop-term
invariant-loop-term l = l.lists.items ≡ given_lists l.tables l.table (take l.term-index l.terms)
