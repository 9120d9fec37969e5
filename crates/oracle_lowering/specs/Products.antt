-- The products of channels.
-- Source: docs/LOWERING.md, "The lowered statement".
use Rattle.std.specs.Prelude.{◌≡◌, ℕ, List, length, slice_get, Some}
use Rattle.table_text.specs.declared.decl.Side.TheVariants.{Push, Pull}
use Rattle.table_shape.specs.Filling.{Filling}
use Rattle.table_shape.specs.Lowering.{side_product}
use Rattle.table_shape.specs.Parts.{ShapeParts}
use Rattle.oracle_lowering.specs.declared.products.Pair.{Pair}

-- one pair for each channel, the products of its two sides at alpha a and gamma g
pub record ArePairs (shape : ShapeParts) (rows : List ℕ) (filling : Filling) (a g : ℕ) (pairs : List Pair) : Type 0 where
  pub count : length pairs ≡ length shape.channels
  pub push : (channel : ℕ) (pair : Pair) → slice_get pairs channel ≡ Some pair → pair.push ≡ side_product Push shape rows filling a g channel
  pub pull : (channel : ℕ) (pair : Pair) → slice_get pairs channel ≡ Some pair → pair.pull ≡ side_product Pull shape rows filling a g channel

-- the products of each pair are equal
abbrev pub AreEqual : List Pair → Type 0
AreEqual pairs = (channel : ℕ) (pair : Pair) → slice_get pairs channel ≡ Some pair → pair.push ≡ pair.pull
