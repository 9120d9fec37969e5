-- The balance that is stated is that of the shape's channels.
-- Source: docs/LANGUAGE.md, "Channels"; docs/REDUCTIONS.md, "Channels".
use Rattle.std.specs.Prelude.{◌↔◌, ℕ, List}
use Rattle.table_shape.specs.Parts.{ShapeParts}
use Rattle.table_shape.specs.Fits.{ShapeFits}
use Rattle.table_shape.specs.Filling.{Filling, IsFilling, values_of}
use Rattle.table_shape.specs.Channels.{IsInBalance}
use Rattle.channel_products.specs.Channels.{channels_of}
use Rattle.channel_products.specs.Balancing.{waiting, state_balance, BalancingFits, BalancingHolds}

-- the first state fits every filling of the shape, and is true exactly where each channel is in balance
pub record IsFirst (shape : ShapeParts) (rows : List ℕ) (filling : Filling) : Type 0 where
  pub fits : BalancingFits (values_of filling) (state_balance (waiting (channels_of shape rows)))
  pub same : BalancingHolds (values_of filling) (state_balance (waiting (channels_of shape rows))) ↔ ((channel : ℕ) → IsInBalance shape rows filling channel)

abbrev pub FirstStatesAreMeant : Type 0
FirstStatesAreMeant = (shape : ShapeParts) (rows : List ℕ) (filling : Filling) → ShapeFits shape → IsFilling shape.tables rows filling → IsFirst shape rows filling
