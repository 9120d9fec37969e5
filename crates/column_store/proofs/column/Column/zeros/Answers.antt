use Rattle.column_store.proofs.Words.{column_zeros}
use Rattle.column_store.proofs.column.Column.zeros.Goals as goal

pub returns : goal.returns
returns c =
    column_zeros c.args.level c.args.count c.words_for.result c.in_ok-words.words.items (c.in_ok-words.ensures.items_if_clones_equal (λ y h. h)) c.words_for.ensures.enough
