use Rattle.m3_verifier.proofs.VerdictSteps.{due_opened}
use Rattle.m3_verifier.proofs.judging.judge_entries.Goals as goal

pub read_through-requires : goal.read_through-requires
read_through-requires g c = due_opened g.W.Steps.machine c.args.plan.now.entries c.args.reader.now.state c.requires
