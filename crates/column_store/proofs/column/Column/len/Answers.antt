use Rattle.column_store.proofs.Words.{column_len}
use Rattle.column_store.proofs.column.Column.len.Goals as goal

pub returns : goal.returns
returns c = column_len c.self.inside.level c.self.inside.count c.self.inside.words.items c.args.self.now c.self.invariant c.self.view_is
