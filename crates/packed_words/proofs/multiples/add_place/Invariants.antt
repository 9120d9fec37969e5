use Rattle.std.proofs.Common.{◌≡◌, ◌≤◌, ◌+◌, ◌*◌, ◌^◌, vec_capacity}
use Rattle.packed_words.specs.Multiples.{entries}
use Rattle.packed_words.proofs.multiples.add_place.Given as goal

abbrev pub invariant-loop-bit : goal.invariant-loop-bit
invariant-loop-bit l = record { made : l.products.items ≡ entries l.factor (256 * l.place + 2 ^ l.bit); room : 4096 ≤ vec_capacity l.products }
