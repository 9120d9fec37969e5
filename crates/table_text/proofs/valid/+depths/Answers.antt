use Rattle.std.proofs.Common.{◌≡◌, ◌+◌, cond, map, sym, ◌∙◌, ap}
use Rattle.std.specs.Prelude.{nat_le}
use Rattle.table_text.specs.Valid.{greatest, depth}
use Rattle.table_text.specs.declared.expr.Expr.{Expr}
use Rattle.table_text.specs.declared.expr.Expr.TheVariants as expr
use Rattle.table_text.specs.declared.print.Place.TheVariants.{InSum, InProduct}
use Rattle.table_text.proofs.Depths.{sum_depth, product_depth}
use Rattle.table_text.proofs.valid.+depths.Goals as goal

pub is_within-returns-in-Sum : goal.is_within-returns-in-Sum
is_within-returns-in-Sum t c =
    let parts = c.as_slice.result.now in
    let same : depth c.args.expr.now c.args.place ≡ cond c.sum_in_parens-parens.result 1 0 + greatest (map (λ part. depth part InSum) parts) =
    ap (λ (e : Expr). depth e c.args.place) (c.in-Sum.is ∙ ap expr.Sum (sym c.as_slice.ensures)) ∙ sum_depth parts c.args.place ∙ ap (λ b. cond b 1 0 + greatest (map (λ part. depth part InSum) parts)) (sym c.sum_in_parens-parens.ensures) in
    c.are_parts_within.ensures ∙ ap (λ n. nat_le n c.args.room) (sym same)

pub is_within-returns-in-Product : goal.is_within-returns-in-Product
is_within-returns-in-Product t c =
    let parts = c.as_slice-in-Product.result.now in
    let same : depth c.args.expr.now c.args.place ≡ cond c.product_in_parens-parens.result 1 0 + greatest (map (λ part. depth part InProduct) parts) =
    ap (λ (e : Expr). depth e c.args.place) (c.in-Product.is ∙ ap expr.Product (sym c.as_slice-in-Product.ensures)) ∙ product_depth parts c.args.place
    ∙ ap (λ b. cond b 1 0 + greatest (map (λ part. depth part InProduct) parts)) (sym c.product_in_parens-parens.ensures) in
    c.are_parts_within-in-Product.ensures ∙ ap (λ n. nat_le n c.args.room) (sym same)
