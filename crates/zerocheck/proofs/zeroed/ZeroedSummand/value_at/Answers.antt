use Rattle.std.proofs.Common.{◌∙◌, ◌-◌, take, drop, length, ap}
use Rattle.std.proofs.lemmas.List.{take_rest}
use Rattle.tower_laws.specs.Tower.{mul}
use Rattle.zerocheck.proofs.ProverSteps.{batch_same, row_value}
use Rattle.zerocheck.proofs.zeroed.ZeroedSummand.value_at.Goals as goal

pub returns : goal.returns
returns c =
    let row = c.args.row.now in
    let t = c.args.self.now in
    c.mul-2.ensures ∙ ap (mul c.index-row-0.result) c.mul.ensures
    ∙ row_value t row (take (length row - 2) (drop 2 row)) c.index-row-0.result c.index-row-1.result c.batch_at.result c.requires (take_rest row 2) c.index-row-0.is c.index-row-1.is
    (batch_same _ t (take (length row - 2) (drop 2 row)) c.batch_at.result c.self.view_is c.batch_at.ensures)
