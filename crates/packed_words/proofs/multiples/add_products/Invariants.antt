use Rattle.std.proofs.Common.{◌≡◌, ◌≤◌, ◌+◌, ◌*◌, ◌^◌, vec_capacity}
use Rattle.packed_words.specs.Multiples.{entries}
use Rattle.packed_words.proofs.multiples.add_products.Given as goal

abbrev pub invariant-loop-k : goal.invariant-loop-k
invariant-loop-k l = record { made : l.products.items ≡ entries l.fn.factor (256 * l.place + (2 ^ l.bit + l.k)); room : 4096 ≤ vec_capacity l.products }
