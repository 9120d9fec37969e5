use Rattle.std.proofs.Common.{refl, length, arith}
use Rattle.packed_words.specs.Packing.{lanes}
use Rattle.packed_words.proofs.Packed.{word_in, put, length-lanes}
use Rattle.packed_words.proofs.words.set_lane.Goals as goal

pub bounds-words-word : goal.bounds-words-word
bounds-words-word c =
    let n = length c.args.words.now in
    let xs = lanes c.args.level n c.args.words.now in
    word_in c.args.level n c.args.i c.args.level c.place_of-word.result.0 c.args.words.now xs refl refl (let l = length-lanes c.args.level n c.args.words.now in let h = c.requires.in_words in omega arith) c.place_of-word.ensures.word

pub returns : goal.returns
returns c =
    let n = length c.args.words.now in
    let xs = lanes c.args.level n c.args.words.now in
    put c.args.level n c.args.i c.args.level c.args.level c.place_of-word.result.0 c.place_of-word.result.1 c.element_in.result _ c.args.number c.args.words.now xs
    refl refl c.requires.is_a_level refl refl (let l = length-lanes c.args.level n c.args.words.now in let h = c.requires.in_words in omega arith) c.place_of-word.ensures.word c.place_of-word.ensures.bit refl c.element_in.ensures c.requires.fits
