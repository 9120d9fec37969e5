use Rattle.std.proofs.Common.{◌≡◌, arith}
use Rattle.packed_words.proofs.Exchanges.{more_mixed, all_mixed}
use Rattle.packed_words.proofs.transpose.transpose128.Goals as goal

pub loop-k-preserved : goal.loop-k-preserved
loop-k-preserved c = more_mixed c.loop-k.k c.args.rows.now c.loop-k.rows c.exchange.new.rows c.loop-k-test.true c.exchange.ensures c.loop-k.invariant

pub returns : goal.returns
returns c = let e : c.loop-k.k ≡ 7 = omega arith in all_mixed c.loop-k.k c.args.rows.now c.loop-k.rows e c.loop-k.invariant
