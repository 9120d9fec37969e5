use Rattle.ring_switch.proofs.SwitchLaws.{switching_lawful}
use Rattle.ring_switch.proofs.switch_walk.SwitchWalkSteps.is_lawful.Goals as goal

pub returns : goal.returns
returns c = switching_lawful
