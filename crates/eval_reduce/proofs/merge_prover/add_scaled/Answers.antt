use Rattle.std.proofs.Common.{◌∙◌, sym, get_or, bit_xor, arith}
use Rattle.tower_laws.specs.Tower.{mul}
use Rattle.eval_reduce.proofs.ProverSteps.{map_end, tabulate_sums}
use Rattle.eval_reduce.proofs.merge_prover.add_scaled.Goals as goal

pub returns : goal.returns
returns c =
    let l = c.requires in
    let t = c.loop-i-test.false in
    map_end c.loop-i.i (λ j y. bit_xor (get_or c.args.table.now j 0) (mul c.args.mu y)) c.args.cells.now.items c.loop-i.cells.items (omega arith) c.loop-i.invariant.long c.loop-i.invariant.done
    ∙ tabulate_sums c.args.mu c.args.table.now c.args.cells.now.items (sym l)
