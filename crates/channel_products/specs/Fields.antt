-- What the fields of a walk of channels stand for.
-- Source: docs/REDUCTIONS.md, "Channels".
use Rattle.std.specs.Prelude.{◌≡◌, ◌≤◌, ℕ, List, [], length}
use Rattle.channel_products.specs.declared.balance_walk.Stage.{Stage}
use Rattle.channel_products.specs.declared.balance_walk.Stage.TheVariants.{Waiting, Stated, Collapsing, Multiplying, Told}
use Rattle.channel_products.specs.declared.channels.Channels.{Channels}
use Rattle.channel_products.specs.Balancing.{Balancing, waiting, stated, collapsing, multiplying, told}

abbrev pub balancing_of : Stage → Channels → ℕ → ℕ → List ℕ → Balancing
balancing_of Waiting ch a g v = waiting ch
balancing_of Stated ch a g v = stated ch
balancing_of Collapsing ch a g v = collapsing ch a
balancing_of Multiplying ch a g v = multiplying ch a g
balancing_of Told ch a g v = told ch a g v

-- no values are told yet, and there is room for one of each flush
pub record IsOpen (ch : Channels) (v : List ℕ) (space : ℕ) : Type 0 where
  pub none : v ≡ []
  pub room : length ch.flushes ≤ space

-- nothing is drawn yet
pub record IsFresh (ch : Channels) (a g : ℕ) (v : List ℕ) (space : ℕ) : Type 0 where
  pub alpha : a ≡ 0
  pub gamma : g ≡ 0
  pub none : v ≡ []
  pub room : length ch.flushes ≤ space

-- what is known in each stage
abbrev pub StageFits : Stage → Channels → ℕ → ℕ → List ℕ → ℕ → Type 0
StageFits Waiting ch a g v room = IsFresh ch a g v room
StageFits Stated ch a g v room = IsOpen ch v room
StageFits Collapsing ch a g v room = IsOpen ch v room
StageFits Multiplying ch a g v room = IsOpen ch v room
StageFits Told ch a g v room = length v ≤ length ch.flushes
