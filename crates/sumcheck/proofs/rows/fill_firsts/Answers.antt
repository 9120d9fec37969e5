use Rattle.std.proofs.Common.{◌≡◌, ◌+◌, ◌++◌, ◌∷◌, [], ◌≤◌, ℕ, List, drop, length, subst, arith, vec_capacity}
use Rattle.std.proofs.lemmas.Grind.{common_steps}
use Rattle.cube_laws.specs.SumClaim.{AllLong, row}
use Rattle.sumcheck.proofs.RowSteps.{opened_at, more_firsts}
use Rattle.sumcheck.proofs.rows.fill_firsts.Goals as goal

pub cell-requires : goal.cell-requires
cell-requires c =
    let e = opened_at c.args.tables.now c.loop-table.table-index c.table-item.result c.table-item.is c.loop-table-test.true in
    let long = subst (λ (ts : List (List ℕ)). AllLong 1 ts) e c.loop-table.invariant.long in
    let one = long.0 in
    omega arith

pub loop-table-preserved : goal.loop-table-preserved
loop-table-preserved c =
    let i = c.loop-table.table-index in
    let e = opened_at c.args.tables.now i c.table-item.result c.table-item.is c.loop-table-test.true in
    let long = subst (λ (ts : List (List ℕ)). AllLong 1 ts) e c.loop-table.invariant.long in
    let rest = subst (λ (ts : List (List ℕ)). c.loop-table.firsts.items ++ row ts 0 ≡ row c.args.tables.now 0) e c.loop-table.invariant.rest in
    let room = subst (λ (ts : List (List ℕ)). length c.loop-table.firsts.items + length ts ≤ vec_capacity c.loop-table.firsts) e c.loop-table.invariant.room in
    let pushed : c.push.new.self.items ≡ c.loop-table.firsts.items ++ c.cell.result ∷ [] = grind (arith, common_steps) in
    let n : length c.push.new.self.items ≡ length c.loop-table.firsts.items + 1 = grind (arith, common_steps) in
    let kept = c.loop-table.invariant.kept in
    let same : vec_capacity c.loop-table.firsts ≤ vec_capacity c.push.new.self = grind (arith, common_steps) in
    record {
      long = long.1;
      rest = more_firsts c.cell.result c.table-item.result (drop (i + 1) c.args.tables.now) c.loop-table.firsts.items c.push.new.self.items _ c.cell.ensures pushed rest;
      room = omega arith;
      kept = omega arith;
    }
