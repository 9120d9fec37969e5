use Rattle.std.proofs.Common.{◌≡◌, ◌++◌, List, ℕ, map, sym, ◌∙◌, ap, subst}
use Rattle.std.specs.Prelude.{codes, OnOk}
use Rattle.table_text.specs.Canonical.{joined, in_parens, expr_text}
use Rattle.table_text.specs.declared.expr.Expr.{Expr}
use Rattle.table_text.specs.declared.expr.Expr.TheVariants as expr
use Rattle.table_text.specs.declared.print.Place.TheVariants.{InSum, InProduct}
use Rattle.table_text.proofs.ExprTexts.{sum_text, product_text}
use Rattle.table_text.proofs.print.Printer.+expressions.Goals as goal

pub expr-returns-in-Sum : goal.expr-returns-in-Sum
expr-returns-in-Sum t c =
    let parts = c.as_slice-in-Sum.result.now in
    let same : expr_text c.args.expr.now c.args.place ≡ in_parens c.sum_in_parens-parens.result (joined (codes " + ") (map (λ part. expr_text part InSum) parts)) =
    ap (λ (e : Expr). expr_text e c.args.place) (c.in-Sum.is ∙ ap expr.Sum (sym c.as_slice-in-Sum.ensures)) ∙ sum_text parts c.args.place ∙ ap (λ b. in_parens b (joined (codes " + ") (map (λ part. expr_text part InSum) parts))) (sym c.sum_in_parens-parens.ensures) in
    subst (λ (text : List ℕ). OnOk c.parts.result (c.parts.new.self ≡ c.args.self.now ++ text)) (sym same) c.parts.ensures

pub expr-returns-in-Product : goal.expr-returns-in-Product
expr-returns-in-Product t c =
    let parts = c.as_slice-in-Product.result.now in
    let same : expr_text c.args.expr.now c.args.place ≡ in_parens c.product_in_parens-parens.result (joined (codes " * ") (map (λ part. expr_text part InProduct) parts)) =
    ap (λ (e : Expr). expr_text e c.args.place) (c.in-Product.is ∙ ap expr.Product (sym c.as_slice-in-Product.ensures)) ∙ product_text parts c.args.place ∙ ap (λ b. in_parens b (joined (codes " * ") (map (λ part. expr_text part InProduct) parts))) (sym c.product_in_parens-parens.ensures) in
    subst (λ (text : List ℕ). OnOk c.parts-in-Product.result (c.parts-in-Product.new.self ≡ c.args.self.now ++ text)) (sym same) c.parts-in-Product.ensures
