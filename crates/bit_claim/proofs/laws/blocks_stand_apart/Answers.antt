use Rattle.bit_claim.proofs.Numbered.{own_blocks}
use Rattle.bit_claim.proofs.Standing.{stand}
use Rattle.bit_claim.proofs.laws.blocks_stand_apart.Goals as goal

pub returns : goal.returns
returns c = record { stand = stand; own = own_blocks }
