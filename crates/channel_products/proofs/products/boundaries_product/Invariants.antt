use Rattle.std.proofs.Common.{◌≡◌, drop}
use Rattle.tower_laws.specs.Tower.{mul}
use Rattle.table_shape.specs.Lowering.{boundaries_product}
use Rattle.channel_products.proofs.products.boundaries_product.Given as goal

abbrev pub invariant-loop-boundary : goal.invariant-loop-boundary
invariant-loop-boundary l = mul l.product (boundaries_product l.side l.channel l.alpha l.gamma (drop l.boundary-index l.boundaries)) ≡ boundaries_product l.side l.channel l.alpha l.gamma l.boundaries
