use Rattle.std.proofs.Common.{subst}
use Rattle.byte_ends.specs.Shelf.{bytes_of}
use Rattle.m3_tool.specs.Checking.{IsShapedFile}
use Rattle.m3_tool.proofs.AnswerSteps.{refused_rows}
use Rattle.m3_tool.proofs.count.count.Goals as goal

pub returns-in-Refused-clause-due : goal.returns-in-Refused-clause-due
returns-in-Refused-clause-due g c told counts named =
    let file = bytes_of (g.S.Shelf.state c.args.shelf.now) c.args.tables_file.now in
    refused_rows file counts c.in-Refused.answer (subst (IsShapedFile file) c.in-Refused.is (c.in_ok-shape.ensures.shape told))
