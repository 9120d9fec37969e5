use Rattle.std.proofs.Common.{arith, refl, ◌∙◌, ap, set}
use Rattle.packed_words.proofs.Packed.{word_in, put}
use Rattle.packed_words.proofs.lanes.Lanes.set.Goals as goal

pub offset_bounds-self-inside-word : goal.offset_bounds-self-inside-word
offset_bounds-self-inside-word g c =
    let h = word_in g.F.Tower.LEVEL g.row.W c.args.i c.LEVEL.result c.place_of-word.result.0 c.self.inside.words c.args.self.now c.LEVEL.ensures c.self.view_is c.requires c.place_of-word.ensures.word in
    let m = c.self.invariant.1 in omega arith

pub bounds-self-inside-word : goal.bounds-self-inside-word
bounds-self-inside-word g c =
    word_in g.F.Tower.LEVEL g.row.W c.args.i c.LEVEL.result c.place_of-word.result.0 c.self.inside.words c.args.self.now c.LEVEL.ensures c.self.view_is c.requires c.place_of-word.ensures.word

pub offset_bounds-self-inside-word-2 : goal.offset_bounds-self-inside-word-2
offset_bounds-self-inside-word-2 g c =
    let h = word_in g.F.Tower.LEVEL g.row.W c.args.i c.LEVEL.result c.place_of-word.result.0 c.self.inside.words c.args.self.now c.LEVEL.ensures c.self.view_is c.requires c.place_of-word.ensures.word in
    let m = c.self.invariant.1 in omega arith

pub bounds-self-inside-word-2 : goal.bounds-self-inside-word-2
bounds-self-inside-word-2 g c =
    word_in g.F.Tower.LEVEL g.row.W c.args.i c.LEVEL.result c.place_of-word.result.0 c.self.inside.words c.args.self.now c.LEVEL.ensures c.self.view_is c.requires c.place_of-word.ensures.word

pub returns : goal.returns
returns g c =
    put g.F.Tower.LEVEL g.row.W c.args.i c.LEVEL.result c.LEVEL-2.result c.place_of-word.result.0 c.place_of-word.result.1 c.element_in.result _ c.number.result c.self.inside.words c.args.self.now
    c.LEVEL.ensures c.LEVEL-2.ensures g.met.F.Tower.is_a_level c.self.told c.self.view_is c.requires c.place_of-word.ensures.word c.place_of-word.ensures.bit refl c.element_in.ensures c.number.ensures.fits
    ∙ ap (set c.args.self.now c.args.i) c.number.ensures.value
