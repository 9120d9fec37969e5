-- The claims that wait while the reductions of a proof go on, one after another.
-- Source: docs/PROOF.md, "The claims that wait".
use Rattle.std.specs.Prelude.{◌≡◌, ◌^◌, ◌==◌, ◌&&◌, ◌||◌, ltb, ℕ, Bool, true, false, cond, List, [], ◌∷◌, ◌++◌, length, map}
use Rattle.std.specs.List.{AllByRecursion, filter}
use Rattle.tower_laws.specs.Lists.{AllFit}
use Rattle.cube_laws.specs.Extension.{extension}
use Rattle.sumcheck.specs.declared.column_claim.ColumnClaim.{ColumnClaim}
use Rattle.sumcheck.specs.Claim.{Claim, bit_value, column_value, flush_product, packed_value}
use Rattle.sumcheck.specs.Column.{ColumnFits, ColumnHolds}
use Rattle.sumcheck.specs.Machine.{Filling}
use Rattle.table_shape.specs.Placement.{Block, places_log}
use Rattle.channel_products.specs.declared.flushed.Flushed.{Flushed}
use Rattle.channel_products.specs.Channels.{product_of}
use Rattle.channel_products.specs.Descent.{HasRows}
use Rattle.bit_claim.specs.Batching.{BitValue}
use Rattle.bit_claim.specs.Bits.{bits}
use Rattle.m3_walk.specs.declared.product.Product.{Product}
use Rattle.m3_walk.specs.Stages.{words}

-- the extension of the packed table at the point is the value
pub record Packed : Type 0 where
  pub blocks : List Block
  pub point : List ℕ
  pub value : ℕ

pub record Kept : Type 0 where
  -- of flushes that are still to come, in their order
  pub products : List Product
  -- in the order in which they arose
  pub columns : List ColumnClaim
  -- at most one each, at the end
  pub bits : List BitValue
  pub packed : List Packed
  -- there is memory for so many claims on columns, and for so many products
  pub room : ℕ

-- the most of either
abbrev pub max_room : ℕ
max_room = 2 ^ 27

abbrev pub none_wait : ℕ → Kept
none_wait room = record { products = []; columns = []; bits = []; packed = []; room = room }

-- ---- what is true
abbrev pub ProductHolds : Filling → Product → Type 0
ProductHolds F p = product_of F p.alpha p.gamma p.flushed ≡ p.value

abbrev pub BitHolds : Filling → BitValue → Type 0
BitHolds F b = extension (bits F b.blocks) b.point ≡ b.value

abbrev pub PackedHolds : Filling → Packed → Type 0
PackedHolds F p = extension (words F p.blocks) p.point ≡ p.value

pub record KeptHolds (F : Filling) (w : Kept) : Type 0 where
  pub products : AllByRecursion (ProductHolds F) w.products
  pub columns : AllByRecursion (ColumnHolds F) w.columns
  pub bits : AllByRecursion (BitHolds F) w.bits
  pub packed : AllByRecursion (PackedHolds F) w.packed

-- ---- what fits
-- the table of bits has its size, and the point a coordinate for each of its variables
pub record BitFits (F : Filling) (b : BitValue) : Type 0 where
  pub size : length (bits F b.blocks) ≡ 2 ^ length b.point
  pub vars : places_log b.blocks ≡ length b.point
  pub elements : AllFit 7 b.point

pub record KeptFits (F : Filling) (w : Kept) : Type 0 where
  pub products : AllByRecursion (λ (p : Product). HasRows F p.flushed) w.products
  pub columns : AllByRecursion (ColumnFits F) w.columns
  pub bits : AllByRecursion (BitFits F) w.bits

-- ---- as claims
abbrev pub product_claim : Product → Claim
product_claim p = flush_product p.flushed.table p.flushed.number p.alpha p.gamma p.value

abbrev pub kept_claims : Kept → List Claim
kept_claims w = map product_claim w.products ++ map column_value w.columns ++ map (λ (b : BitValue). bit_value b.point b.value) w.bits ++ map (λ (p : Packed). packed_value p.point p.value) w.packed
