use Rattle.std.proofs.Common.{◌∙◌, arith, ap, ◌<◌, suc, sym}
use Rattle.proof_plan.specs.Sizes.{query_count}
use Rattle.proof_format.specs.Openings.{openings_left}
use Rattle.proof_format.specs.declared.openings.Openings.TheInside.{Inside}
use Rattle.proof_format.proofs.NextSteps.{opening_next, query_next, without_rounds}
use Rattle.proof_format.proofs.openings.Openings.next_piece.Goals.{then-self+else-self-2, else-self}
use Rattle.proof_format.proofs.openings.Openings.next_piece.Goals as goal

pub returns-then-self-eq0 : goal.returns-then-self-eq0
returns-then-self-eq0 c =
    let at = c.self.inside in
    let none = sym c.self.view_is ∙ without_rounds at.entry at.rounds at.query at.round c.if-self-eq0.true in
    (none, none)

pub returns : goal.returns
returns c =
    let at = c.self.inside in
    let begun = c.if-self.self-inside in
    elim c.if-self.branch [
      | then-self+else-self-2 w ↦
          let low : suc at.query < query_count = let last = w.if-self-2.false in let few = c.self.invariant.query in omega arith in
          let zero = ap (λ (s : Inside). s.round) w.self-inside-is in
          let same = ap (λ (s : Inside). s.rounds) w.self-inside-is in
          let some = c.if-self-eq0.false in
          sym c.self.view_is ∙ query_next at.entry at.rounds at.query at.round w.if-self.true low
          ∙ ap (λ (s : Inside). openings_left s.entry s.rounds s.query s.round) (sym w.self-inside-is) ∙ opening_next begun.entry begun.rounds begun.query begun.round (omega arith)
      | else-self w ↦
          let low : at.round < at.rounds = let less = c.self.invariant.round in let other = w.if-self.false in omega arith in
          let round = ap (λ (s : Inside). s.round) w.self-inside-is in
          let rounds = ap (λ (s : Inside). s.rounds) w.self-inside-is in
          sym c.self.view_is
          ∙ ap (λ (s : Inside). openings_left s.entry s.rounds s.query s.round) (sym w.self-inside-is) ∙ opening_next begun.entry begun.rounds begun.query begun.round (omega arith)
    ]
