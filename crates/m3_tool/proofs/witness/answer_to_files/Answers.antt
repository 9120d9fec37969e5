use Rattle.std.proofs.Common.{subst}
use Rattle.byte_ends.specs.Shelf.{bytes_of}
use Rattle.m3_tool.specs.Checking.{IsShapedFile}
use Rattle.m3_tool.proofs.AnswerSteps.{refused_witness}
use Rattle.m3_tool.proofs.Verdicts.{witness_answered, witness_read_failed}
use Rattle.m3_tool.proofs.witness.answer_to_files.Goals as goal

pub returns-in-Shape-clause-failed : goal.returns-in-Shape-clause-failed
returns-in-Shape-clause-failed g c =
    witness_read_failed (g.S.Shelf.state c.args.shelf.now) (g.S.Shelf.state c.shape_of_file.new.shelf) _ c.args.tables_file.now c.args.witness_file.now c.in_ok-shape.field-0 c.in-Shape.shape c.answer_to_witness.result c.in-Shape.is
    c.in_ok-shape.ensures.shape c.in_ok-shape.ensures.reads_only c.in_ok-shape.ensures.quiet c.answer_to_witness.ensures.failed

pub returns-in-Refused-clause-due : goal.returns-in-Refused-clause-due
returns-in-Refused-clause-due g c told =
    let file = bytes_of (g.S.Shelf.state c.args.shelf.now) c.args.tables_file.now in
    refused_witness file _ c.args.question c.in-Refused.answer (subst (IsShapedFile file) c.in-Refused.is (c.in_ok-shape.ensures.shape told))

pub returns-in-Shape-clause-due : goal.returns-in-Shape-clause-due
returns-in-Shape-clause-due g c =
    witness_answered (g.S.Shelf.state c.args.shelf.now) (g.S.Shelf.state c.shape_of_file.new.shelf) c.args.tables_file.now c.args.witness_file.now c.args.question c.in_ok-shape.field-0 c.in-Shape.shape c.answer_to_witness.result c.in-Shape.is
    c.in_ok-shape.ensures.shape c.in_ok-shape.ensures.reads_only c.answer_to_witness.ensures.due
