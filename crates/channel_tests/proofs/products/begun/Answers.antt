use Rattle.std.proofs.Common.{◌∙◌, sym}
use Rattle.channel_products.specs.DescentFields.{flush_in}
use Rattle.channel_products.specs.declared.flushed.Flushed.{Flushed}
use Rattle.channel_products.specs.Given.{table_of}
use Rattle.channel_tests.proofs.Flushes.{product_starts, some_flush}
use Rattle.channel_tests.proofs.products.begun.Goals as goal

pub enter-requires-2 : goal.enter-requires-2
enter-requires-2 c =
    let there = some_flush (flush_in c.args.shape.now.tables 0 c.args.flush) c.requires.some in
    let f : Flushed = record { table = 0; number = c.args.flush; rows = c.args.rows; shape = there.0 } in
    (f, c.args.tables.now, c.in_ok-prover.ensures there.0 there.1)

pub returns : goal.returns
returns c =
    let there = some_flush (flush_in c.args.shape.now.tables 0 c.args.flush) c.requires.some in
    let f : Flushed = record { table = 0; number = c.args.flush; rows = c.args.rows; shape = there.0 } in
    let alpha = c.element.ensures ∙ sym c.element-3.ensures in
    let gamma = c.element-2.ensures ∙ sym c.element-4.ensures in (
      table_of c.args.tables.now,
      product_starts c.args.tables.now f c.element.result c.element-2.result c.element-3.result c.element-4.result c.args.product c.in_ok-prover.prover c.enter-2.new.self c.in_ok-walk.walk c.enter.new.self
          alpha gamma (c.in_ok-prover.ensures there.0 there.1) c.enter-2.ensures (c.in_ok-walk.ensures there.0 there.1) c.enter.ensures,
    )
