use Rattle.std.proofs.Common.{sym, ap}
use Rattle.transcript.specs.Transcript.{start, shown, absorbed, drawn}
use Rattle.transcript.proofs.Absorbing.{after_all-push}
use Rattle.transcript.proofs.challenges.Goals as goal

pub returns : goal.returns
returns c = record {
  absorb = λ es tag bytes. sym (after_all-push start es (absorbed tag bytes));
  draw = λ es. sym (after_all-push start es drawn);
  answer = λ es. ap shown (sym (after_all-push start es drawn));
}
