use Rattle.std.proofs.Common.{refl}
use Rattle.packed_words.proofs.Exchanges.{is_within, shift_is, both_are, neither}
use Rattle.packed_words.proofs.transpose.exchange.Goals as goal
use Rattle.packed_words.proofs.transpose.exchange.Goals.{then-u-k-eq0, else-u-k-eq0}

pub bounds-rows-beside : goal.bounds-rows-beside
bounds-rows-beside c = is_within c.args.k c.loop-u.u _ c.requires c.loop-u-test.true c.if-u-k-eq0.true refl

pub bounds-rows-beside-then-u-k-eq0 : goal.bounds-rows-beside-then-u-k-eq0
bounds-rows-beside-then-u-k-eq0 c = is_within c.args.k c.loop-u.u _ c.requires c.loop-u-test.true c.if-u-k-eq0.true refl

pub loop-u-preserved : goal.loop-u-preserved
loop-u-preserved c = elim c.if-u-k-eq0.branch [
  | then-u-k-eq0 w ↦ both_are c.args.k c.loop-u.u w.exchanged-first.result.0 w.exchanged-first.result.1 _ c.args.rows.now c.loop-u.rows _
      c.requires c.loop-u-test.true w.if-u-k-eq0.true (shift_is c.args.k c.requires) w.exchanged-first.ensures.first w.exchanged-first.ensures.second w.rows-is c.loop-u.invariant
  | else-u-k-eq0 w ↦ neither c.args.k c.loop-u.u c.args.rows.now c.loop-u.rows _ c.requires w.if-u-k-eq0.false w.rows-is c.loop-u.invariant
]
