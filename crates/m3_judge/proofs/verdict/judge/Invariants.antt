use Rattle.std.proofs.Common.{ℕ, ◌<◌}
use Rattle.table_shape.specs.Channels.{IsInBalance}
use Rattle.m3_judge.proofs.verdict.judge.Given as goal

abbrev pub invariant-loop-channel : goal.invariant-loop-channel
invariant-loop-channel l = (channel : ℕ) → channel < l.channel → IsInBalance l.store.shape l.store.rows l.store.filling channel
