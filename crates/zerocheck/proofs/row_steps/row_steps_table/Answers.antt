use Rattle.std.proofs.Common.{◌≡◌, ◌*◌, ◌^◌, ◌++◌, ◌∷◌, [], arith, ltb}
use Rattle.std.proofs.lemmas.Grind.{common_steps}
use Rattle.cube_laws.proofs.Tabulate.{tabulate_pushed}
use Rattle.shift_laws.specs.Shifts.{flag}
use Rattle.zerocheck.proofs.StepsBelow.{step_off, step_on}
use Rattle.zerocheck.proofs.row_steps.row_steps_table.Goals.{then-p-on_rows, else-p-on_rows}
use Rattle.zerocheck.proofs.row_steps.row_steps_table.Goals as goal

pub loop-p-preserved : goal.loop-p-preserved
loop-p-preserved c =
    let n = c.args.group.now.rows * 2 ^ c.args.group.now.log_values in
    let on = c.loop-p.invariant.0 in
    let pushed : c.push.new.self.items ≡ c.loop-p.table.items ++ c.if-p-on_rows.step ∷ [] = grind (arith, common_steps) in
    let value : c.if-p-on_rows.step ≡ flag (ltb c.loop-p.p n) = elim c.if-p-on_rows.branch [
      | then-p-on_rows w ↦ (let t = w.if-p-on_rows.true in step_on c.loop-p.p n c.if-p-on_rows.step (omega arith) w.step-is)
      | else-p-on_rows w ↦ (let t = w.if-p-on_rows.false in step_off c.loop-p.p n c.if-p-on_rows.step (omega arith) w.step-is)
    ] in
    (on, tabulate_pushed c.loop-p.p c.if-p-on_rows.step (λ p. flag (ltb p n)) c.loop-p.table.items c.push.new.self.items c.loop-p.invariant.1 pushed value)
