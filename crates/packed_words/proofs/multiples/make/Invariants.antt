use Rattle.std.proofs.Common.{◌≡◌, ◌≤◌, ◌*◌, vec_capacity}
use Rattle.packed_words.specs.Multiples.{entries}
use Rattle.packed_words.proofs.multiples.make.Given as goal

abbrev pub invariant-loop-place : goal.invariant-loop-place
invariant-loop-place l = record { made : l.products.items ≡ entries l.factor (256 * l.place); room : 4096 ≤ vec_capacity l.products }
