use Rattle.std.proofs.Common.{◌≡◌, ◌++◌, drop}
use Rattle.channel_products.proofs.channels.copied_boundaries.Given as goal

abbrev pub invariant-loop-boundary : goal.invariant-loop-boundary
invariant-loop-boundary l = l.copies ++ drop l.boundary-index l.boundaries ≡ l.boundaries
