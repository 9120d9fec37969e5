use Rattle.std.proofs.Common.{◌≡◌, ◌++◌, ◌∷◌, [], ◌<◌, subst, arith}
use Rattle.std.proofs.lemmas.Grind.{common_steps}
use Rattle.ring_switch.proofs.ProverSteps.{final_gives, round_gives}
use Rattle.ring_switch.proofs.switch_prover.give.Goals as goal

pub returns-then-left-gt0 : goal.returns-then-left-gt0
returns-then-left-gt0 c = λ F t r h w.
    round_gives c.args.sum.now c.args.ending.now c.args.out.now.items c.round.new.out.items (subst (λ n. 0 < n) c.left.ensures c.if-left-gt0.true) c.in_ok-round.ensures F t r h w

pub returns : goal.returns
returns c = λ F t r h w.
    let l = c.if-left-gt0.false in
    let e = c.left.ensures in
    let pushed : c.push.new.self.items ≡ c.args.out.now.items ++ c.index-finals-1.result ∷ [] = grind (arith, common_steps) in
    final_gives c.args.sum.now c.args.ending.now c.tell.new.self c.args.out.now.items c.push.new.self.items c.finals.result.now c.index-finals-1.result (omega arith) c.finals.ensures c.index-finals-1.is pushed c.tell.ensures F t r h w
