use Rattle.std.proofs.Common.{◌≡◌, ◌∙◌, ◌-◌, ◌+◌, ◌/◌, suc, length, arith, length-drop, ap, take}
use Rattle.std.specs.Int.{from_le_bytes, w128}
use Rattle.proof_format.proofs.WriteSteps.{value_read}
use Rattle.proof_format.proofs.values.read_values.Goals as goal

pub loop-preserved : goal.loop-preserved
loop-preserved c =
    let count = length c.args.bytes.now / 16 in
    let n : suc (count - (c.loop.counter + 1)) ≡ count - c.loop.counter = omega arith in
    let v : c.from_bytes.result ≡ from_le_bytes w128 (take 16 c.loop.rest.now) = c.from_bytes.ensures ∙ ap (from_le_bytes w128) (c.copy_from_slice.ensures.after ∙ c.split_at.ensures.front) in
    record {
      long = let l = length-drop 16 c.loop.rest.now in let e = ap length c.split_at.ensures.back in let k = c.loop.invariant.long in omega arith;
      same = value_read (count - (c.loop.counter + 1)) _ c.loop.rest.now c.split_at.result.1.now _ _ _ _ n v c.split_at.ensures.back c.in_ok-push.ensures.items c.loop.invariant.same;
    }
