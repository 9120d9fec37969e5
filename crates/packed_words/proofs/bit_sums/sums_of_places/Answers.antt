use Rattle.packed_words.proofs.Filling.{more_collected}
use Rattle.packed_words.proofs.bit_sums.sums_of_places.Goals as goal

pub loop-place-preserved : goal.loop-place-preserved
loop-place-preserved c = more_collected c.loop-place.place c.sums_of_place-sums.result c.loop-place.all c.put_sums.new.all c.args.buckets.now c.loop-place.buckets c.sums_of_place-sums.new.buckets
    c.put_sums.ensures.long c.sums_of_place-sums.auto.buckets c.sums_of_place-sums.ensures.sums c.sums_of_place-sums.ensures.after c.put_sums.ensures.here c.put_sums.ensures.before c.loop-place.invariant
