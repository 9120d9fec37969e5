use Rattle.std.proofs.Common.{◌≡◌, ◌∙◌, ◌+◌, ◌-◌, ◌^◌, ℕ, List, length, refl, sym, ap, subst, arith}
use Rattle.sumcheck.specs.Machine.{Filling}
use Rattle.ring_switch.specs.declared.switch_prover.SwitchProver.{SwitchProver}
use Rattle.ring_switch.specs.Switching.{IsWaiting, Switching, valued, waiting}
use Rattle.ring_switch.specs.SwitchProver.{FollowsSwitch}
use Rattle.walk_bench.proofs.begin_switch.Goals as goal

less : (n : ℕ) → n ≡ n + 7 - 7
less n = omega arith

pub enter-requires : goal.enter-requires
enter-requires c = subst (IsWaiting (length c.args.point.now)) (sym c.in-Ok.ensures) (sym c.requires.long)

pub begin-requires-2-clause-whole : goal.begin-requires-2-clause-whole
begin-requires-2-clause-whole c = c.requires.whole ∙ ap (λ n. 2 ^ n) (less c.args.log)

pub enter-requires-2-clause-long : goal.enter-requires-2-clause-long
enter-requires-2-clause-long c = c.requires.long ∙ sym c.in-Ok-begin.ensures.size

pub returns : goal.returns
returns c =
    let F : Filling = λ t k. c.args.words.now in
    (F, subst (FollowsSwitch c.enter-2.new.self F) (sym c.enter.ensures) (c.enter-2.ensures F c.args.value (sym c.in-Ok-begin.ensures.words)))
