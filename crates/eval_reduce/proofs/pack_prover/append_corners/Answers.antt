use Rattle.std.proofs.Common.{◌≡◌, ◌^◌, ◌++◌, ◌∷◌, [], length, ◌∙◌, ap, arith}
use Rattle.std.proofs.lemmas.Grind.{common_steps}
use Rattle.std.proofs.lemmas.Nat.{one_shl}
use Rattle.cube_laws.specs.Extension.{extension, bits_of}
use Rattle.eval_reduce.proofs.VirtualSteps.{blocks, corner_part, list_more}
use Rattle.eval_reduce.proofs.pack_prover.append_corners.Goals as goal

pub every-requires-clause-blocks : goal.every-requires-clause-blocks
every-requires-clause-blocks c =
    let e = one_shl c.args.log 64 (let s = c.requires.small in omega arith) in
    (2 ^ length c.args.point.now, blocks c.args.column.now c.args.point.now c.args.log _ e c.requires.whole)

pub mle_at-requires : goal.mle_at-requires
mle_at-requires c =
    let e = one_shl c.args.log 64 (let s = c.requires.small in omega arith) in
    ap length c.as_slice.ensures.value
    ∙ (corner_part c.args.column.now c.args.point.now c.args.log _ c.loop-u.u c.in_ok-part.part.items e c.loop-u-test.true c.requires.whole c.in_ok-part.ensures).0

pub loop-u-preserved : goal.loop-u-preserved
loop-u-preserved c =
    let e = one_shl c.args.log 64 (let s = c.requires.small in omega arith) in
    let part = corner_part c.args.column.now c.args.point.now c.args.log _ c.loop-u.u c.in_ok-part.part.items e c.loop-u-test.true c.requires.whole c.in_ok-part.ensures in
    let pushed : c.push.new.self.items ≡ c.loop-u.out.items ++ c.in_ok-value.value ∷ [] = grind (arith, common_steps) in
    list_more c.loop-u.u c.in_ok-value.value (λ u. extension c.args.column.now (bits_of c.args.log u ++ c.args.point.now)) c.args.out.now.items c.loop-u.out.items c.push.new.self.items c.loop-u.invariant pushed
    (c.in_ok-value.ensures ∙ ap (λ t. extension t c.args.point.now) c.as_slice.ensures.value ∙ part.1)
