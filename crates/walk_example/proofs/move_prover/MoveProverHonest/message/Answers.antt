use Rattle.std.proofs.Common.{◌≡◌, ◌<◌, ◌++◌, ◌∷◌, [], subst, arith}
use Rattle.std.proofs.lemmas.Grind.{common_steps}
use Rattle.walk_example.proofs.Steps.{last_is, last_values, round_values}
use Rattle.walk_example.proofs.move_prover.MoveProverHonest.message.Goals as goal

pub returns-then-left-gt0-clause-values : goal.returns-then-left-gt0-clause-values
returns-then-left-gt0-clause-values c = round_values c.args.self.now.sum c.args.out.now.items c.round.new.out.items (subst (λ n. 0 < n) c.left.ensures c.if-left-gt0.true) c.in_ok-round.ensures

pub returns-clause-values : goal.returns-clause-values
returns-clause-values c =
    let t = c.if-left-gt0.false in
    let e = c.left.ensures in
    let pushed : c.push.new.self.items ≡ c.args.out.now.items ++ c.index-finals-1.result ∷ [] = grind (arith, common_steps) in
    last_values c.args.self.now.sum c.index-finals-1.result c.args.out.now.items c.push.new.self.items (omega arith)
    (last_is c.args.self.now.sum c.index-finals-1.result c.finals-finals.result.now c.finals-finals.ensures c.index-finals-1.is) pushed
