use Rattle.packed_words.proofs.Packed.{count_of}
use Rattle.packed_words.proofs.lanes.Lanes.count.Goals as goal

pub returns-clause-length : goal.returns-clause-length
returns-clause-length g c = count_of g.F.Tower.LEVEL g.row.W c.LEVEL.result c.self.inside.words c.args.self.now c.LEVEL.ensures g.met.F.Tower.is_a_level c.self.invariant.1 c.self.view_is
