use Rattle.std.proofs.Common.{◌≡◌, ◌∙◌, length, map, ap, subst, sym, arith}
use Rattle.std.proofs.lemmas.List.{length-map}
use Rattle.cube_laws.specs.Extension.{fold_low}
use Rattle.cube_laws.specs.SumClaim.{AllLong, row}
use Rattle.sumcheck.specs.Proving.{Proving}
use Rattle.sumcheck.proofs.RowSteps.{long_doubled, long_folds}
use Rattle.sumcheck.proofs.sum_prover.SumProver.bind.Goals as goal

pub fold_tables-requires-clause-long : goal.fold_tables-requires-clause-long
fold_tables-requires-clause-long g c =
    let w = c.self.inside in
    let more = ap (λ (p : Proving _). p.left) c.self.view_is in
    let r = c.requires in
    long_doubled w.left c.power-half.result w.tables.items (omega arith) c.power-half.ensures.result c.self.invariant.long

pub fill_when_set-requires-clause-long : goal.fill_when_set-requires-clause-long
fill_when_set-requires-clause-long g c =
    let w = c.self.inside in
    let more = ap (λ (p : Proving _). p.left) c.self.view_is in
    let r = c.requires in
    let long = long_doubled w.left c.power-half.result w.tables.items (omega arith) c.power-half.ensures.result c.self.invariant.long in
    rw (c.as_slice.ensures.value, c.fold_tables.ensures) (subst (λ m. AllLong m (map (fold_low c.args.r) w.tables.items)) c.power-half.ensures.result (long_folds c.args.r c.power-half.result w.tables.items long))

pub invariant_of-self : goal.invariant_of-self
invariant_of-self g c =
    let w = c.self.inside in
    let i = c.self.invariant in
    let more = ap (λ (p : Proving _). p.left) c.self.view_is in
    let r = c.requires in
    let few = i.few in
    let long = long_doubled w.left c.power-half.result w.tables.items (omega arith) c.power-half.ensures.result i.long in
    let l : length c.fold_tables.new.tables.items ≡ length w.tables.items = ap length c.fold_tables.ensures ∙ length-map w.tables.items (fold_low c.args.r) in
    let room = i.room in
    let capacity = c.fill_when_set.ensures.capacity in
    record {
      few = omega arith;
      low = i.low;
      long = rw c.fold_tables.ensures (subst (λ m. AllLong m (map (fold_low c.args.r) w.tables.items)) c.power-half.ensures.result (long_folds c.args.r c.power-half.result w.tables.items long));
      suits = subst (λ n. g.S.Summand.suits w.summand n) (sym l) i.suits;
      room = omega arith;
      firsts = λ e. c.fill_when_set.ensures.row e ∙ ap (λ ts. row ts 0) c.as_slice.ensures.value;
    }
