use Rattle.std.proofs.Common.{ℕ, ◌/◌, ◌∙◌, List, bit_xor, sym, ap, subst, arith}
use Rattle.tower_laws.specs.Tower.{mul}
use Rattle.std.proofs.lemmas.List.{take_all}
use Rattle.cube_mle.proofs.Stepping.{Stepped, step_start, step_even, step_odd, step_end, step_whole, taken}
use Rattle.cube_mle.proofs.step.step_down_at.Goals.{then-rest-eq0, else-rest-eq0}
use Rattle.cube_mle.proofs.step.step_down_at.Goals as goal

pub loop-x-init : goal.loop-x-init
loop-x-init c = step_start c.args.rows

pub loop-x-preserved : goal.loop-x-preserved
loop-x-preserved c =
    let x = c.x-item.result in
    let i = c.loop-x.x-index in
    let e = taken c.args.point.now i x c.x-item.is c.loop-x-test.true in
    subst (λ (low : List ℕ). Stepped c.args.rows low (c.loop-x.rest / 2) c.if-rest-eq0.step) (sym e)
    (elim c.if-rest-eq0.branch [
      | then-rest-eq0 w ↦
          subst (Stepped c.args.rows _ (c.loop-x.rest / 2)) (sym w.step-is)
          (step_even c.args.rows x c.loop-x.rest c.loop-x.step w.mul-step.result _ (let t = w.if-rest-eq0.true in omega arith) c.loop-x.invariant (w.mul-step.ensures ∙ ap (λ a. mul a c.loop-x.step) w.add.ensures))
      | else-rest-eq0 w ↦
          subst (Stepped c.args.rows _ (c.loop-x.rest / 2)) (sym w.step-is)
          (step_odd c.args.rows x c.loop-x.rest c.loop-x.step w.add-step.result _ (let t = w.if-rest-eq0.false in omega arith) c.loop-x.invariant (w.add-step.ensures ∙ (λ j. bit_xor (w.add-else-rest-eq0.ensures j) (w.mul.ensures j))))
    ])

pub returns-then-rest-eq0-2 : goal.returns-then-rest-eq0-2
returns-then-rest-eq0-2 c =
    let e = take_all c.loop-x.x-index c.args.point.now c.loop-x-test.false in
    let h = subst (λ (low : List ℕ). Stepped c.args.rows low c.loop-x.rest c.loop-x.step) e c.loop-x.invariant in
    c.step.view_is ∙ step_end c.args.rows c.loop-x.step c.args.point.now (subst (λ (n : ℕ). Stepped c.args.rows c.args.point.now n c.loop-x.step) c.if-rest-eq0-2.true h)

pub returns-else-rest-eq0-2 : goal.returns-else-rest-eq0-2
returns-else-rest-eq0-2 c =
    let e = take_all c.loop-x.x-index c.args.point.now c.loop-x-test.false in
    step_whole c.args.rows c.loop-x.rest c.loop-x.step c.args.point.now (let t = c.if-rest-eq0-2.false in omega arith) (subst (λ (low : List ℕ). Stepped c.args.rows low c.loop-x.rest c.loop-x.step) e c.loop-x.invariant)
