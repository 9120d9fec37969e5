use Rattle.std.proofs.Common.{ap, refl}
use Rattle.eval_reduce.specs.Merge.{points}
use Rattle.eval_reduce.specs.declared.merge_prover.MergeProver.{MergeProver}
use Rattle.eval_reduce.proofs.ProverSteps.{entered, no_longer}
use Rattle.eval_reduce.proofs.merge_prover.MergeProver.enter.Goals as goal

pub fill-copies-requires-clause-short : goal.fill-copies-requires-clause-short
fill-copies-requires-clause-short c = no_longer c.args.self.now.vars c.args.self.now.room.vars c.args.claims.now c.requires.new.room c.requires.placed

pub returns : goal.returns
returns c =
    let p : MergeProver = c.args.self.now in
    entered p (record p { room = c.fill-copies.new.self; claims = c.fill-copies.result; ending = c.aim.new.ending }) c.args.claims.now c.requires.new refl refl c.requires.new.none (ap points c.fill-copies.ensures.copies) c.requires.placed c.aim.ensures
