use Rattle.std.proofs.Common.{ap, ◌∙◌, length, get_or, bit_xor, arith}
use Rattle.std.proofs.lemmas.List.{with_items_is}
use Rattle.column_store.specs.Column.{packed_values}
use Rattle.column_store.proofs.Words.{stored}
use Rattle.column_store.proofs.WordSums.{column_add}
use Rattle.column_store.proofs.column.Column.add.Goals as goal

pub returns : goal.returns
returns c =
    let own = c.as_mut_slice.ensures.value in
    let theirs = c.as_slice.ensures.value in
    let long = ap length own in
    let now = with_items_is c.self.inside.words c.add_words.new.words (c.add_words.auto.words ∙ c.as_mut_slice.ensures.len) in
    ap (λ ws. stored c.self.inside.level (packed_values c.self.inside.level c.self.inside.count ws)) now
    ∙ column_add c.self.inside.level c.self.inside.count c.self.inside.words.items c.add_words.new.words c.args.self.now c.other.inside.level c.other.inside.count c.other.inside.words.items c.args.other.now
    c.self.invariant c.self.view_is c.other.invariant c.other.view_is c.requires.same_level c.requires.as_many (c.add_words.auto.words ∙ long)
    (λ k l. c.add_words.ensures k (omega arith) ∙ (λ i. bit_xor (get_or (own i) k 0) (get_or (theirs i) k 0)))
