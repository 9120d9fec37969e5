use Rattle.std.proofs.Common.{◌-◌, length, drop, take, sym, ◌∙◌}
use Rattle.m3_tool.proofs.WordNumbers.{hex_number, no_hex_number, whole_rest}
use Rattle.m3_tool.proofs.number.hexadecimal.Goals as goal

pub returns-then-are_hex_digits : goal.returns-then-are_hex_digits
returns-then-are_hex_digits c =
    let word = c.args.word.now in
    let digits = take (length word - 2) (drop 2 word) in
    c.number_of_digits.ensures ∙ sym (hex_number word digits c.requires (whole_rest word) (sym c.are_hex_digits.ensures ∙ c.if-are_hex_digits.true))

pub returns-else-are_hex_digits : goal.returns-else-are_hex_digits
returns-else-are_hex_digits c =
    let word = c.args.word.now in
    let digits = take (length word - 2) (drop 2 word) in
    sym (no_hex_number word digits c.requires (whole_rest word) (sym c.are_hex_digits.ensures ∙ c.if-are_hex_digits.false))
