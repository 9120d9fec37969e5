-- Steps of the walk.
use Rattle.std.proofs.Common.{◌≡◌, ◌∙◌, ℕ, List, Option, None, Some, ap, subst, sym}
use Rattle.sumcheck.specs.declared.column_claim.ColumnClaim.{ColumnClaim}
use Rattle.sumcheck.specs.Machine.{AwaitsDraw}
use Rattle.sumcheck.specs.Rounds.{Rounds, DrawIsDue}
use Rattle.sumcheck.proofs.Lawful.{draw_due}
use Rattle.eval_reduce.specs.declared.merge_walk.Stage.{Stage}
use Rattle.eval_reduce.specs.declared.merge_walk.Stage.TheVariants.{Waiting, Opening, Adding}
use Rattle.eval_reduce.specs.Room.{Space}
use Rattle.eval_reduce.specs.Merge.{Merge, Joined, StageFits, Takes, waiting, opening, state_claims, merge_sum, merge_entries, merge_of}

at_stage : (g : Stage) (t : Joined) (r : Rounds) (o : Option ColumnClaim) (w : Space) → g ≡ Adding → AwaitsDraw (merge_entries (merge_of g t r o w)) → DrawIsDue r
at_stage Waiting t r None w e h = absurd (cc)
at_stage Opening t r None w e h = absurd (cc)
at_stage Adding t r None w e h = draw_due merge_sum t r h
at_stage Waiting t r (Some c) w e h = absurd h
at_stage Opening t r (Some c) w e h = absurd h
at_stage Adding t r (Some c) w e h = absurd h

pub bind_due : (g : Stage) (t : Joined) (r : Rounds) (o : Option ColumnClaim) (w : Space) (m : Merge) → merge_of g t r o w ≡ m → g ≡ Adding → AwaitsDraw (merge_entries m) → DrawIsDue r
bind_due g t r o w m v e h = at_stage g t r o w e (rw v h)

-- ---- claims that are copied
pub stage_same : (g : Stage) (t : Joined) (r : Rounds) (o : Option ColumnClaim) (a b : Space) → b.vars ≡ a.vars → StageFits g t r o a → StageFits g t r o b
stage_same Waiting t r o a b e h = (h.0, (h.1.0, e ∙ h.1.1))
stage_same Opening t r o a b e h = h
stage_same Adding t r o a b e h = h

pub takes_same : (g : Stage) (t : Joined) (r : Rounds) (o : Option ColumnClaim) (a b : Space) (x y : ℕ) (cs ds : List ColumnClaim) → ds ≡ cs → Takes x y cs (merge_of g t r o a) → Takes x y ds (merge_of g t r o b)
takes_same Waiting t r None a b x y cs ds e h = subst (λ cs. Takes x y cs (waiting t.vars b.count)) (sym e) h
takes_same Opening t r None a b x y cs ds e h = absurd h
takes_same Adding t r None a b x y cs ds e h = absurd h
takes_same Waiting t r (Some c) a b x y cs ds e h = absurd h
takes_same Opening t r (Some c) a b x y cs ds e h = absurd h
takes_same Adding t r (Some c) a b x y cs ds e h = absurd h

pub states_same : (g : Stage) (t : Joined) (r : Rounds) (o : Option ColumnClaim) (a b : Space) (x y : ℕ) (cs ds : List ColumnClaim) → ds ≡ cs → Takes x y cs (merge_of g t r o a) → state_claims x y ds (merge_of g t r o b) ≡ state_claims x y cs (merge_of g t r o a)
states_same Waiting t r None a b x y cs ds e h = ap (opening x y t.vars) e
states_same Opening t r None a b x y cs ds e h = absurd h
states_same Adding t r None a b x y cs ds e h = absurd h
states_same Waiting t r (Some c) a b x y cs ds e h = absurd h
states_same Opening t r (Some c) a b x y cs ds e h = absurd h
states_same Adding t r (Some c) a b x y cs ds e h = absurd h
