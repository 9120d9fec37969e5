use Rattle.std.proofs.Common.{◌∙◌, ◌≤◌, length, arith}
use Rattle.m3_tool.specs.Limits.{max_tables_file}
use Rattle.m3_tool.proofs.AnswerSteps.{parsed_file}
use Rattle.m3_tool.proofs.tables.tables_of_file.Goals as goal

pub returns-in_ok-tables_of_text-in-Ok-clause-parsed : goal.returns-in_ok-tables_of_text-in-Ok-clause-parsed
returns-in_ok-tables_of_text-in-Ok-clause-parsed g c told =
    let len = c.as_slice.ensures.len in
    let limit = c.in-Ok.ensures.within in
    let within : length c.as_slice.result.now ≤ max_tables_file = omega (arith, len, limit) in
    parsed_file c.as_slice.result.now _ c.in_ok-tables_of_text-in-Ok.field-0 (c.as_slice.ensures.value ∙ c.in-Ok.ensures.whole told) within
    c.in_ok-tables_of_text-in-Ok.ensures.parsed c.in_ok-tables_of_text-in-Ok.ensures.once
