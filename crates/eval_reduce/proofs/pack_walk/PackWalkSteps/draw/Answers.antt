use Rattle.std.proofs.Common.{◌≡◌, ◌≤◌, ◌++◌, ◌∷◌, [], vec_capacity, sym, subst, arith}
use Rattle.std.proofs.lemmas.Grind.{common_steps}
use Rattle.sumcheck.specs.Machine.{AwaitsDraw}
use Rattle.eval_reduce.specs.Pack.{Pack, pack_entries}
use Rattle.eval_reduce.proofs.VirtualSteps.{is_listed, stage_more}
use Rattle.eval_reduce.proofs.pack_walk.PackWalkSteps.draw.Goals as goal

pub invariant_of-self : goal.invariant_of-self
invariant_of-self c =
    let w = c.self.inside in
    let due = subst (λ (s : Pack). AwaitsDraw (pack_entries s)) (sym c.self.view_is) c.requires in
    let pushed : c.push.new.self.items ≡ w.draws.items ++ c.args.c ∷ [] = grind (arith, common_steps) in
    let room : vec_capacity w.draws ≤ vec_capacity c.push.new.self = grind (arith, common_steps) in
    record {
      small = c.self.invariant.small;
      own_vars = c.self.invariant.own_vars;
      own = c.self.invariant.own;
      short = c.self.invariant.short;
      room = λ e. let r = c.self.invariant.room e in omega arith;
      wide = λ e. let t = is_listed w.packing w.claim w.listed w.draws.items w.values.items w.left w.closed due in absurd (cc);
      stage = stage_more w.packing w.claim w.listed w.draws.items c.push.new.self.items w.values.items c.fold_low.new.table.items w.left c.args.c w.closed due c.self.invariant.stage c.if-self-gt0.true pushed c.fold_low.ensures;
    }
