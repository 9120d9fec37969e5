-- What a prover holds before its first message.
-- Source: docs/REDUCTIONS.md, "Zerocheck".
use Rattle.std.specs.Prelude.{ℕ, ◌<◌, List, [], ◌∷◌, ◌++◌, length}
use Rattle.zerocheck.specs.declared.zero_walk.Stage.{Stage}
use Rattle.zerocheck.specs.declared.zero_walk.Stage.TheVariants.{Waiting, Stated, Drawing, Adding, Done}
use Rattle.zerocheck.specs.Zero.{Zeroed}

-- what was drawn, and the lists of the group's columns
pub record Opening : Type 0 where
  pub stage : Stage
  pub zeroed : Zeroed
  pub lists : List (List ℕ)

-- the first draw joins the constraints, and each other one is a coordinate
abbrev pub drawn : Stage → Zeroed → ℕ → Zeroed
drawn Stated t c = record t { beta = c }
drawn _ t c = record t { point = t.point ++ c ∷ [] }

-- a draw is due
abbrev pub CanDraw : Stage → Zeroed → Type 0
CanDraw Waiting t = ⊥
CanDraw Stated t = Unit {0}
CanDraw Drawing t = length t.point < t.group.vars
CanDraw Adding t = ⊥
CanDraw Done t = ⊥
