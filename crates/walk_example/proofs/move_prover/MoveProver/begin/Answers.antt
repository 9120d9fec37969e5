use Rattle.std.proofs.Common.{◌≡◌, ◌∷◌, ◌∙◌, [], length, arith}
use Rattle.std.proofs.lemmas.Grind.{common_steps}
use Rattle.walk_example.proofs.Steps.{begins, tables_long}
use Rattle.walk_example.proofs.move_prover.MoveProver.begin.Goals as goal

pub begin-requires-clause-long : goal.begin-requires-clause-long
begin-requires-clause-long c =
    let tables : c.push-2.new.self ≡ c.from_vec.result ∷ c.args.cells ∷ [] = grind (arith, common_steps) in
    (length c.args.point.now, c.requires.few, tables_long c.args.point.now c.args.cells c.from_vec.result c.push-2.new.self c.requires.whole (c.from_vec.ensures ∙ c.in-Ok.ensures) tables)

pub returns : goal.returns
returns c =
    let tables : c.push-2.new.self ≡ c.from_vec.result ∷ c.args.cells ∷ [] = grind (arith, common_steps) in
    let weights = c.from_vec.ensures ∙ c.in-Ok.ensures in
    let long = tables_long c.args.point.now c.args.cells c.from_vec.result c.push-2.new.self c.requires.whole weights tables in
    begins c.in_ok-sum.sum c.args.point.now c.args.cells c.from_vec.result c.push-2.new.self c.requires.whole weights tables (c.in_ok-sum.ensures (length c.args.point.now) long)
