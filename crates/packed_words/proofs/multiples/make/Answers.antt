use Rattle.std.proofs.Common.{◌≡◌, ◌*◌, arith, ap, ◌∙◌}
use Rattle.packed_words.specs.Multiples.{entries}
use Rattle.packed_words.proofs.multiples.make.Goals as goal

pub returns-clause-made : goal.returns-clause-made
returns-clause-made c = let e : c.loop-place.place ≡ 16 = omega arith in c.loop-place.invariant.made ∙ ap (λ n. entries c.args.factor (256 * n)) e
