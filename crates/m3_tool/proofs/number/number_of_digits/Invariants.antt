use Rattle.std.proofs.Common.{◌≡◌, ◌<◌, ◌^◌, drop}
use Rattle.table_text.proofs.Digits.{number_on}
use Rattle.m3_tool.proofs.number.number_of_digits.Given as goal

-- the number so far and the digits that are left make what all digits make
abbrev pub invariant-loop-digit : goal.invariant-loop-digit
invariant-loop-digit l = record { made : number_on l.base l.number (drop l.digit-index l.digits) ≡ number_on l.base 0 l.digits; below : l.number < 2 ^ 128 }
