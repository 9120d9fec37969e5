use Rattle.std.proofs.Common.{arith}
use Rattle.std.proofs.lemmas.Nat.{pow_below}
use Rattle.packed_words.proofs.Exchanges.{width_is, first_is, second_is}
use Rattle.packed_words.proofs.transpose.exchanged.Goals as goal

pub overflow_shr-moved : goal.overflow_shr-moved
overflow_shr-moved c = omega (arith, width_is c.args.k c.requires, pow_below c.args.k 7 c.requires)

pub returns-clause-first : goal.returns-clause-first
returns-clause-first c v l = first_is c.args.k c.args.rows.0 c.args.rows.1 v _ c.requires l (width_is c.args.k c.requires)

pub returns-clause-second : goal.returns-clause-second
returns-clause-second c v l = second_is c.args.k c.args.rows.0 c.args.rows.1 v _ c.requires l (width_is c.args.k c.requires)
