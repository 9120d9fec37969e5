use Rattle.std.proofs.Common.{◌≡◌, ℕ, ◌^◌, ◌<◌, ◌++◌, ◌∷◌, [], List, length, get_or, sym, ◌∙◌, ap, subst, arith}
use Rattle.std.proofs.lemmas.Grind.{common_steps}
use Rattle.cube_laws.specs.Sums.{tabulate}
use Rattle.cube_laws.specs.Extension.{eq, extension}
use Rattle.cube_laws.proofs.Tabulate.{tabulate_pushed}
use Rattle.cube_laws.proofs.Weights.{length-tabulate}
use Rattle.cube_mle.proofs.Doubling.{weights_are}
use Rattle.cube_mle.proofs.Folds.{value_at}
use Rattle.shift_laws.specs.Shifts.{flag, goes}
use Rattle.cube_mle.specs.Moving.{shift_of}
use Rattle.eval_reduce.proofs.ShiftSteps.{value_leaves, value_stays}
use Rattle.eval_reduce.proofs.shift_prover.moved_table.Goals.{in-Some, in-None}
use Rattle.eval_reduce.proofs.shift_prover.moved_table.Goals as goal

long : (ws low : List ℕ) (b : ℕ) → ws ≡ tabulate (2 ^ length low) (eq low) → length low ≡ b → length ws ≡ 2 ^ b
long ws low b e h = ap length e ∙ length-tabulate (2 ^ length low) (eq low) ∙ ap (λ n. 2 ^ n) h

pub target-requires-clause-within : goal.target-requires-clause-within
target-requires-clause-within c =
    let l = long c.in_ok-weights.weights.items c.args.low.now c.args.shifting.now.block c.in_ok-weights.ensures c.requires.block in
    let e = c.len-p-end.ensures in
    let t = c.loop-p-test.true in
    omega arith

pub index-requires : goal.index-requires
index-requires c =
    let l = long c.in_ok-weights.weights.items c.args.low.now c.args.shifting.now.block c.in_ok-weights.ensures c.requires.block in
    let h = (c.target.ensures.stays c.in-Some.t c.in-Some.is).0 in
    omega arith

pub loop-p-preserved : goal.loop-p-preserved
loop-p-preserved c =
    let s = c.args.shifting.now in
    let low = c.args.low.now in
    let ws = c.in_ok-weights.weights.items in
    let l = long ws low s.block c.in_ok-weights.ensures c.requires.block in
    let f : ℕ → ℕ = λ p. extension (tabulate (2 ^ s.block) (λ q. flag (goes (shift_of s.kind) s.block s.offset q p))) low in
    let pushed : c.push.new.self.items ≡ c.loop-p.table.items ++ c.match-target.value ∷ [] = grind (arith, common_steps) in
    let value : c.match-target.value ≡ f c.loop-p.p = elim c.match-target.branch [
      | in-Some w ↦
          (let there = c.target.ensures.stays w.in-Some.t w.in-Some.is in
          w.value-is ∙ value_at w.index.result.now w.in-Some.t ws w.index.ensures (subst (λ (n : ℕ). w.in-Some.t < n) (sym l) there.0)
          ∙ ap (λ (v : List ℕ). get_or v w.in-Some.t 0) (c.in_ok-weights.ensures ∙ sym (weights_are low))
          ∙ value_stays (shift_of s.kind) s.block s.offset c.loop-p.p w.in-Some.t low c.requires.block there.0 there.1)
      | in-None w ↦ w.value-is ∙ value_leaves (shift_of s.kind) s.block s.offset c.loop-p.p low c.requires.block (c.target.ensures.leaves w.in-None.is)
    ] in
    tabulate_pushed c.loop-p.p c.match-target.value f c.loop-p.table.items c.push.new.self.items c.loop-p.invariant pushed value

pub returns : goal.returns
returns c =
    let s = c.args.shifting.now in
    let l = long c.in_ok-weights.weights.items c.args.low.now s.block c.in_ok-weights.ensures c.requires.block in
    let e = c.len-p-end.ensures in
    let t = c.loop-p-test.false in
    let b = c.loop-p.auto.p-end in
    let n : c.loop-p.p ≡ 2 ^ s.block = omega arith in
    c.loop-p.invariant ∙ ap (λ n. tabulate n (λ p. extension (tabulate (2 ^ s.block) (λ q. flag (goes (shift_of s.kind) s.block s.offset q p))) c.args.low.now)) n
