use Rattle.std.proofs.Common.{◌≡◌, ℕ, ◌+◌, ◌≤◌}
use Rattle.channel_products.specs.DescentFields.{sums_from}
use Rattle.channel_products.proofs.product_walk.all_rounds.Given as goal

abbrev pub invariant-loop-layer : goal.invariant-loop-layer
invariant-loop-layer l = record {
  within : l.layer ≤ l.vars;
  all : (d : ℕ) → l.layer + d ≡ l.vars → l.all.items ≡ sums_from l.vars l.layer d;
}

abbrev pub decreases-loop-layer : goal.decreases-loop-layer
decreases-loop-layer l = l.layer
