use Rattle.std.proofs.Common.{rules}
use Rattle.byte_ends.proofs.MemShelfClauses.{read_err-failed, read_err-reads_only}
use Rattle.byte_ends.proofs.mem_shelf.MemShelfShelf.read.Goals as goal

pub returns-clause-failed : goal.returns-clause-failed
returns-clause-failed c = search (rules, read_err-failed c.args.self.now c.count_read_fault.new.self c.args.name.now)

pub returns-clause-reads_only : goal.returns-clause-reads_only
returns-clause-reads_only c = search (rules, read_err-reads_only c.args.self.now c.count_read_fault.new.self c.args.name.now)
