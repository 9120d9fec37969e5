use Rattle.std.proofs.Common.{length}
use Rattle.column_store.proofs.Packs.{whole_block}
use Rattle.column_store.proofs.forms.pack_value.Goals as goal

pub wide-requires-clause-within : goal.wide-requires-clause-within
wide-requires-clause-within c = whole_block (length c.args.source.now.values) c.args.log c.args.position (rw c.len.ensures at c.if-position-len.true)
