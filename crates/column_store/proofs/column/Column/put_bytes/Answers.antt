use Rattle.std.proofs.Common.{ap, ◌∙◌, length, arith}
use Rattle.std.proofs.lemmas.List.{with_items_is}
use Rattle.column_store.specs.Column.{packed_values}
use Rattle.column_store.specs.Digits.{number_of_bytes}
use Rattle.column_store.proofs.Words.{stored, column_spelled}
use Rattle.column_store.proofs.column.Column.put_bytes.Goals as goal

pub returns : goal.returns
returns c =
    let long = ap length c.as_mut_slice.ensures.value in
    let now = with_items_is c.self.inside.words c.put_words.new.words (c.put_words.auto.words ∙ c.as_mut_slice.ensures.len) in
    ap (λ ws. stored c.self.inside.level (packed_values c.self.inside.level c.self.inside.count ws)) now ∙
    column_spelled c.self.inside.level c.self.inside.count (number_of_bytes c.args.bytes.now) c.self.inside.words.items c.put_words.new.words c.args.self.now
    c.self.invariant c.self.view_is (c.put_words.auto.words ∙ long) (λ k l. c.put_words.ensures k (omega arith))
