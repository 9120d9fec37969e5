use Rattle.std.proofs.Common.{◌^◌}
use Rattle.table_text.proofs.Digits.{too_wide}
use Rattle.m3_tool.proofs.number.number_of_digits.Goals as goal

pub returns-in_default : goal.returns-in_default
returns-in_default c = too_wide (2 ^ 128) c.args.base c.loop-digit.number c.loop-digit.digit-index _ c.args.digits.now c.requires c.loop-digit-test.true c.loop-digit.invariant.made c.in_default.ensures
