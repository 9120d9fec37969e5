-- Provers that go along with the walks of a chain.
-- Source: docs/REDUCTIONS.md, "One after another".
use Rattle.std.specs.Prelude.{List, [], ◌∷◌, reverse}
use Rattle.sumcheck.specs.Machine.{Filling}
use Rattle.walk_chain.specs.Chain.{Chained}

-- each was made for the walk at its place
abbrev pub AllMade : {P A : Type 0} → (P → A → Type 0) → List P → List A → Type 0
AllMade R [] [] = Unit {0}
AllMade R [] (g ∷ gs) = ⊥
AllMade R (p ∷ ps) [] = ⊥
AllMade R (p ∷ ps) (g ∷ gs) = R p g × AllMade R ps gs

-- a chain of provers, of which the next stands last, goes along with a chain of walks
pub record Goes {P A W V : Type 0} (follows : P → Filling → A → Type 0) (made_for : P → A → Type 0) (alike : V → W → Type 0)
    (active : P) (stack : List P) (waits : V) (F : Filling) (s : Chained A W) : Type 0 where
  pub walk : follows active F s.active
  pub made : AllMade made_for (reverse stack) s.todo
  pub kept : alike waits s.kept
