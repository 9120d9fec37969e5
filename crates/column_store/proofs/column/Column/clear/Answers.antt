use Rattle.std.proofs.Common.{ap, ◌∙◌, length, arith}
use Rattle.std.proofs.lemmas.List.{with_items_is}
use Rattle.column_store.specs.Column.{packed_values}
use Rattle.column_store.proofs.Words.{stored}
use Rattle.column_store.proofs.WordSums.{column_clear}
use Rattle.column_store.proofs.column.Column.clear.Goals as goal

pub returns : goal.returns
returns c =
    let long = ap length c.as_mut_slice.ensures.value in
    let now = with_items_is c.self.inside.words c.clear_words.new.words (c.clear_words.auto.words ∙ c.as_mut_slice.ensures.len) in
    ap (λ ws. stored c.self.inside.level (packed_values c.self.inside.level c.self.inside.count ws)) now
    ∙ column_clear c.self.inside.level c.self.inside.count c.self.inside.words.items c.clear_words.new.words c.args.self.now
    c.self.invariant c.self.view_is (c.clear_words.auto.words ∙ long) (λ k l. c.clear_words.ensures k (omega arith))
