use Rattle.std.proofs.Common.{sym, subst}
use Rattle.zerocheck.specs.Given.{given_lists}
use Rattle.zerocheck.specs.Group.{group_of}
use Rattle.zerocheck.specs.Zero.{IsWaiting}
use Rattle.walk_bench.proofs.Begins.{given, group_starts, some_group}
use Rattle.walk_bench.proofs.begin_zero.Goals as goal

pub enter-requires : goal.enter-requires
enter-requires c =
    let there = some_group (group_of c.args.shape.now.tables c.args.rows 0 c.args.log_values) c.requires.some in
    subst IsWaiting (sym (c.in-Ok.ensures there.0 there.1)) tt

pub enter-requires-2 : goal.enter-requires-2
enter-requires-2 c =
    let there = some_group (group_of c.args.shape.now.tables c.args.rows 0 c.args.log_values) c.requires.some in
    let g = there.0 in
    (g, given_lists c.args.tables.now g.table g.columns, c.in-Ok-begin.ensures g there.1)

pub returns : goal.returns
returns c =
    let there = some_group (group_of c.args.shape.now.tables c.args.rows 0 c.args.log_values) c.requires.some in
    let g = there.0 in
    (given c.args.tables.now, group_starts c.args.tables.now g c.in-Ok-begin.prover c.enter-2.new.self c.in-Ok.walk c.enter.new.self (c.in-Ok-begin.ensures g there.1) c.enter-2.ensures (c.in-Ok.ensures g there.1) c.enter.ensures)
