use Rattle.std.proofs.Common.{◌≡◌, ◌∙◌, ◌/◌, length, sym, ap, subst}
use Rattle.sumcheck.specs.Machine.{AwaitsMessage}
use Rattle.m3_verifier.specs.Progress.{Progress}
use Rattle.m3_verifier.proofs.ReadingSteps.{length-values, values_in}
use Rattle.m3_verifier.proofs.reader.Reader.message.Goals as goal

pub message-requires : goal.message-requires
message-requires g c =
    let piece = c.in_ok-piece.piece.now in
    let size : length c.as_slice.result.now ≡ c.args.length = ap length c.as_slice.ensures.value ∙ ap length c.in_ok-read_values.ensures ∙ length-values (length piece / 16) piece ∙ values_in c.args.length piece c.in_ok-piece.ensures.sized in
    subst (λ k. AwaitsMessage k (g.W.Steps.machine.entries c.self.inside.walk)) (sym size) (subst (λ (p : Progress _). AwaitsMessage c.args.length (g.W.Steps.machine.entries p.state)) (sym c.self.view_is) c.requires.due)
