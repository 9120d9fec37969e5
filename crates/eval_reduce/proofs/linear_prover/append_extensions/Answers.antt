use Rattle.std.proofs.Common.{◌^◌, length, ◌∙◌, ap}
use Rattle.eval_reduce.proofs.VirtualSteps.{long_item}
use Rattle.eval_reduce.proofs.linear_prover.append_extensions.Goals as goal

pub mle_at-requires : goal.mle_at-requires
mle_at-requires c = ap length c.as_slice.ensures ∙ long_item (2 ^ length c.args.point.now) c.loop-list.list-index c.args.lists.now c.list-item.result c.requires c.loop-list-test.true c.list-item.is
