use Rattle.additive_transform.proofs.basis.Basis.+encode_block.Given as goal

abbrev pub decreases-encode_block : goal.decreases-encode_block
decreases-encode_block l = l.level
