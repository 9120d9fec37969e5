use Rattle.std.proofs.Common.{arith}
use Rattle.packed_words.proofs.Packed.{word_in, got}
use Rattle.packed_words.proofs.lanes.Lanes.get.Goals as goal

pub offset_bounds-self-inside-word : goal.offset_bounds-self-inside-word
offset_bounds-self-inside-word g c =
    let h = word_in g.F.Tower.LEVEL g.row.W c.args.i c.LEVEL.result c.place_of-word.result.0 c.self.inside.words c.args.self.now c.LEVEL.ensures c.self.view_is c.requires c.place_of-word.ensures.word in
    let m = c.self.invariant.1 in omega arith

pub bounds-self-inside-word : goal.bounds-self-inside-word
bounds-self-inside-word g c =
    word_in g.F.Tower.LEVEL g.row.W c.args.i c.LEVEL.result c.place_of-word.result.0 c.self.inside.words c.args.self.now c.LEVEL.ensures c.self.view_is c.requires c.place_of-word.ensures.word

pub returns : goal.returns
returns g c =
    got g.F.Tower.LEVEL g.row.W c.args.i c.LEVEL.result c.LEVEL-2.result c.place_of-word.result.0 c.place_of-word.result.1 c.element_in-number.result (g.F.Tower.number c.in-Some.element) _ c.self.inside.words c.args.self.now
    c.LEVEL.ensures c.LEVEL-2.ensures c.self.told c.self.view_is c.requires c.place_of-word.ensures.word c.place_of-word.ensures.bit c.element_in-number.ensures c.in-Some.ensures.some
