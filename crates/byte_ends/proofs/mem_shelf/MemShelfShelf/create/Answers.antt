use Rattle.std.proofs.Common.{rules, []}
use Rattle.byte_ends.proofs.MemShelfClauses.{create_ok-empties, changed-quiet, changed-counts, write_err-failed, write_err-files, write_err-reads, write_err-counts}
use Rattle.byte_ends.proofs.mem_shelf.MemShelfShelf.create.Goals as goal

pub returns-then-make_empty-clause-empty : goal.returns-then-make_empty-clause-empty
returns-then-make_empty-clause-empty c = search (rules, create_ok-empties c.args.self.now c.make_empty.new.self c.args.name.now)

pub returns-then-make_empty-clause-quiet : goal.returns-then-make_empty-clause-quiet
returns-then-make_empty-clause-quiet c = search (rules, changed-quiet c.args.self.now c.make_empty.new.self c.args.name.now [])

pub returns-then-make_empty-clause-read_faults : goal.returns-then-make_empty-clause-read_faults
returns-then-make_empty-clause-read_faults c = (returns-then-make_empty-clause-quiet c).reads

pub returns-then-make_empty-clause-counts : goal.returns-then-make_empty-clause-counts
returns-then-make_empty-clause-counts c = search (rules, changed-counts c.args.self.now c.make_empty.new.self c.args.name.now [])

pub returns-clause-failed : goal.returns-clause-failed
returns-clause-failed c = search (rules, write_err-failed c.args.self.now c.count_write_fault.new.self c.args.name.now)

pub returns-clause-unchanged : goal.returns-clause-unchanged
returns-clause-unchanged c = search (rules, write_err-files c.args.self.now c.count_write_fault.new.self c.args.name.now)

pub returns-clause-read_faults : goal.returns-clause-read_faults
returns-clause-read_faults c = search (rules, write_err-reads c.args.self.now c.count_write_fault.new.self c.args.name.now)

pub returns-clause-counts : goal.returns-clause-counts
returns-clause-counts c = search (rules, write_err-counts c.args.self.now c.count_write_fault.new.self c.args.name.now)
