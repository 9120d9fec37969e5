use Rattle.std.proofs.Common.{◌^◌, take}
use Rattle.eval_reduce.specs.Provers.{TermsAreThere}
use Rattle.eval_reduce.proofs.lists.terms_are_there.Given as goal

abbrev pub invariant-loop-term : goal.invariant-loop-term
invariant-loop-term l = TermsAreThere l.tables l.table (2 ^ l.vars) (take l.term-index l.terms)
