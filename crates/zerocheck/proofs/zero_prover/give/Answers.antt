use Rattle.std.proofs.Common.{◌<◌, ◌-◌, take, drop, length, refl, subst, arith}
use Rattle.std.proofs.lemmas.List.{take_rest}
use Rattle.zerocheck.proofs.ProverSteps.{final_gives, round_gives}
use Rattle.zerocheck.proofs.zero_prover.give.Goals as goal

pub returns-then-left-gt0 : goal.returns-then-left-gt0
returns-then-left-gt0 c = λ F t r h w.
    round_gives c.args.sum.now c.args.sum.now c.args.ending.now c.args.out.now.items c.round.new.out.items (subst (λ n. 0 < n) c.left.ensures c.if-left-gt0.true) c.in_ok-round.ensures refl F t r h w

pub returns : goal.returns
returns c = λ F t r h w.
    let l = c.if-left-gt0.false in
    let e = c.left.ensures in
    let finals = c.finals-finals.result.now in
    final_gives c.args.sum.now c.args.sum.now c.args.ending.now c.tell.new.self c.args.out.now.items c.extend_from_slice.new.self.items finals (take (length finals - 2) (drop 2 finals)) (omega arith) c.finals-finals.ensures (take_rest finals 2) c.in_ok-extend_from_slice.ensures.items c.tell.ensures F t r h w
