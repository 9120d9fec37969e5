use Rattle.std.proofs.Common.{◌≡◌, ◌∙◌, ◌++◌, length, ap, sym, arith}
use Rattle.sumcheck.specs.Ending.{Ending}
use Rattle.sumcheck.specs.Column.{column_claims}
use Rattle.sumcheck.proofs.Told.{claims_count}
use Rattle.sumcheck.proofs.ending.Ending.tell.Goals as goal

pub invariant_of-self : goal.invariant_of-self
invariant_of-self c =
    let e = c.self.inside in
    let v = c.args.values.now in
    let none = ap (λ (x : Ending). x.claims) c.self.view_is ∙ c.requires.untold in
    let new : c.push_claims.new.claims.items ≡ column_claims e.table e.point.items e.columns.items v = c.push_claims.ensures.claims ∙ (λ i. none i ++ column_claims e.table (c.as_slice-2.ensures.value i) (c.as_slice.ensures.value i) v) in
    let count = ap length new ∙ claims_count e.table e.point.items e.columns.items v (c.requires.equal ∙ sym (ap (λ (x : Ending). length x.columns) c.self.view_is)) in
    record {
      room = c.self.invariant.room;
      vars = c.push_claims.ensures.vars ∙ c.self.invariant.vars;
      many = λ h. (let n = ap length h in omega arith);
      space = λ h. (let n = ap length h in omega arith);
      short = c.self.invariant.short;
      told = omega arith;
    }
