use Rattle.std.proofs.Common.{◌∙◌}
use Rattle.zerocheck.proofs.WalkSteps.{message_stage, told_few}
use Rattle.zerocheck.proofs.zero_walk.ZeroWalkSteps.message.Goals as goal

pub invariant_of-self-then-last : goal.invariant_of-self-then-last
invariant_of-self-then-last c =
    let w = c.self.inside in
    let adding = message_stage w.stage w.zeroed w.left _ w.rounds w.claims.items _ c.self.view_is c.requires in
    record {
      stage = tt;
      vars = c.tell.ensures.vars ∙ c.self.invariant.vars;
      many = λ h. absurd h;
      space = λ h. absurd h;
      told = told_few w.stage w.zeroed w.left w.rounds w.claims.items c.tell.new.claims.items _ _ _ _ c.self.invariant.stage adding c.tell.ensures.claims c.tell.ensures.few;
    }
