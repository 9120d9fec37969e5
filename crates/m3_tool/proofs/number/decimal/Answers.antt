use Rattle.std.proofs.Common.{sym, ◌∙◌}
use Rattle.m3_tool.proofs.WordNumbers.{decimal_number, no_decimal_number}
use Rattle.m3_tool.proofs.number.decimal.Goals as goal

pub returns-then-are_digits : goal.returns-then-are_digits
returns-then-are_digits c = c.number_of_digits.ensures ∙ sym (decimal_number c.args.word.now c.requires (sym c.are_digits.ensures ∙ c.if-are_digits.true))

pub returns-else-are_digits : goal.returns-else-are_digits
returns-else-are_digits c = sym (no_decimal_number c.args.word.now c.requires (sym c.are_digits.ensures ∙ c.if-are_digits.false))
