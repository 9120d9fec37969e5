use Rattle.std.proofs.Common.{◌∙◌, ◌-◌, take, drop, length}
use Rattle.std.proofs.lemmas.List.{take_rest}
use Rattle.channel_products.proofs.DescentSteps.{leaves_value}
use Rattle.channel_products.proofs.leaf_term.LeafTermSummand.value_at.Goals as goal

pub returns : goal.returns
returns c =
    let row = c.args.row.now in
    c.mul.ensures
    ∙ leaves_value c.args.self.now row (take (length row - 3) (drop 3 row)) c.index-row-0.result c.index-row-1.result c.index-row-2.result c.collapse.result c.leaf.result c.requires (take_rest row 3) c.index-row-0.is c.index-row-1.is c.index-row-2.is c.collapse.ensures c.leaf.ensures
