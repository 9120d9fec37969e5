use Rattle.std.proofs.Common.{sym, subst}
use Rattle.channel_products.specs.declared.flushed.Flushed.{Flushed}
use Rattle.channel_products.specs.Descent.{IsWaiting}
use Rattle.channel_products.specs.DescentFields.{flush_in}
use Rattle.channel_products.specs.Given.{table_of}
use Rattle.walk_bench.proofs.Products.{product_starts, some_flush}
use Rattle.walk_bench.proofs.begin_product.Goals as goal

pub enter-requires : goal.enter-requires
enter-requires c =
    let there = some_flush (flush_in c.args.shape.now.tables 0 0) c.requires.some in
    subst IsWaiting (sym (c.in-Ok.ensures there.0 there.1)) tt

pub enter-requires-2 : goal.enter-requires-2
enter-requires-2 c =
    let there = some_flush (flush_in c.args.shape.now.tables 0 0) c.requires.some in
    let f : Flushed = record { table = 0; number = 0; rows = c.args.rows; shape = there.0 } in
    (f, c.args.tables.now, c.in-Ok-begin.ensures there.0 there.1)

pub returns : goal.returns
returns c =
    let there = some_flush (flush_in c.args.shape.now.tables 0 0) c.requires.some in
    let f : Flushed = record { table = 0; number = 0; rows = c.args.rows; shape = there.0 } in
    (table_of c.args.tables.now, product_starts c.args.tables.now f c.args.alpha c.args.gamma c.args.product c.in-Ok-begin.prover c.enter-2.new.self c.in-Ok.walk c.enter.new.self (c.in-Ok-begin.ensures there.0 there.1) c.enter-2.ensures (c.in-Ok.ensures there.0 there.1) c.enter.ensures)
