use Rattle.std.proofs.Common.{sym, arith}
use Rattle.table_shape.proofs.LeastLevel.{level_is_0, level_is_suc}
use Rattle.table_shape.proofs.levels.level_of.Goals as goal

pub returns-in-0-to-1-clause-value : goal.returns-in-0-to-1-clause-value
returns-in-0-to-1-clause-value c = sym (level_is_0 c.args.element (omega arith))

pub returns-in-2-to-3-clause-value : goal.returns-in-2-to-3-clause-value
returns-in-2-to-3-clause-value c = sym (level_is_suc c.args.element 0 (omega arith) (omega arith))

pub returns-in-4-to-15-clause-value : goal.returns-in-4-to-15-clause-value
returns-in-4-to-15-clause-value c = sym (level_is_suc c.args.element 1 (omega arith) (omega arith))

pub returns-in-16-to-255-clause-value : goal.returns-in-16-to-255-clause-value
returns-in-16-to-255-clause-value c = sym (level_is_suc c.args.element 2 (omega arith) (omega arith))

pub returns-in-256-to-65535-clause-value : goal.returns-in-256-to-65535-clause-value
returns-in-256-to-65535-clause-value c = sym (level_is_suc c.args.element 3 (omega arith) (omega arith))

pub returns-in-65536-to-4294967295-clause-value : goal.returns-in-65536-to-4294967295-clause-value
returns-in-65536-to-4294967295-clause-value c = sym (level_is_suc c.args.element 4 (omega arith) (omega arith))

pub returns-in-4294967296-to-18446744073709551615-clause-value : goal.returns-in-4294967296-to-18446744073709551615-clause-value
returns-in-4294967296-to-18446744073709551615-clause-value c = sym (level_is_suc c.args.element 5 (omega arith) (omega arith))

pub returns-in_default-clause-value : goal.returns-in_default-clause-value
returns-in_default-clause-value c = sym (level_is_suc c.args.element 6 (omega arith) (omega arith))
