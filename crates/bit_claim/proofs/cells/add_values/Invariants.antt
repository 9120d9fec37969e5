use Rattle.bit_claim.proofs.PlacedCells.{Cells, product_at}
use Rattle.bit_claim.proofs.cells.add_values.Given as goal

abbrev pub invariant-loop-k : goal.invariant-loop-k
invariant-loop-k l = Cells l.fn.cells.items l.cells.items l.first l.k (product_at l.level l.weights)
