use Rattle.std.proofs.Common.{rules, take, ◌++◌}
use Rattle.byte_ends.specs.MemFile.{bytes_in}
use Rattle.byte_ends.specs.MemShelf.{file_of}
use Rattle.byte_ends.proofs.MemShelfClauses.{append_ok-appends, changed-quiet, changed-counts, write_err-failed, write_err-files, write_err-reads, write_err-counts}
use Rattle.byte_ends.proofs.mem_shelf.MemShelfShelf.append.Goals as goal

pub returns-in-Some-clause-added : goal.returns-in-Some-clause-added
returns-in-Some-clause-added c = search (rules, append_ok-appends c.args.self.now c.add_piece.new.self c.args.name.now (take c.in-Some.count c.args.piece.now))

pub returns-in-Some-clause-quiet : goal.returns-in-Some-clause-quiet
returns-in-Some-clause-quiet c = search (rules, changed-quiet c.args.self.now c.add_piece.new.self c.args.name.now (bytes_in (file_of c.args.self.now c.args.name.now) ++ take c.in-Some.count c.args.piece.now))

pub returns-in-Some-clause-read_faults : goal.returns-in-Some-clause-read_faults
returns-in-Some-clause-read_faults c = (returns-in-Some-clause-quiet c).reads

pub returns-in-Some-clause-counts : goal.returns-in-Some-clause-counts
returns-in-Some-clause-counts c = search (rules, changed-counts c.args.self.now c.add_piece.new.self c.args.name.now (bytes_in (file_of c.args.self.now c.args.name.now) ++ take c.in-Some.count c.args.piece.now))

pub returns-clause-failed : goal.returns-clause-failed
returns-clause-failed c = search (rules, write_err-failed c.args.self.now c.count_write_fault.new.self c.args.name.now)

pub returns-clause-unchanged : goal.returns-clause-unchanged
returns-clause-unchanged c = search (rules, write_err-files c.args.self.now c.count_write_fault.new.self c.args.name.now)

pub returns-clause-read_faults : goal.returns-clause-read_faults
returns-clause-read_faults c = search (rules, write_err-reads c.args.self.now c.count_write_fault.new.self c.args.name.now)

pub returns-clause-counts : goal.returns-clause-counts
returns-clause-counts c = search (rules, write_err-counts c.args.self.now c.count_write_fault.new.self c.args.name.now)
