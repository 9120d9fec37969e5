-- How many parentheses are open in the texts of expressions.
use Rattle.std.proofs.Common.{◌≡◌, ℕ, ◌+◌, cond, List, map, sym, ◌∙◌, ap}
use Rattle.table_text.specs.Canonical.{sum_in_parens, product_in_parens}
use Rattle.table_text.specs.Valid.{greatest, depth_step, depth}
use Rattle.table_text.specs.declared.expr.Expr.{Expr}
use Rattle.table_text.specs.declared.expr.Expr.TheVariants as expr
use Rattle.table_text.specs.declared.expr.Expr.TheOpen.{Expr-F}
use Rattle.table_text.specs.declared.expr.Expr.TheFolds.{fold-roll-Expr}
use Rattle.table_text.specs.declared.print.Place.{Place}
use Rattle.table_text.specs.declared.print.Place.TheVariants.{InSum, InProduct}
use Rattle.table_text.proofs.ExprTexts.{map-map}

pub number_depth : (n : ℕ) (place : Place) → depth (expr.Number n) place ≡ 0
number_depth n place = ap (λ (e : Expr). depth e place) (sym (expr.rolls-Number n)) ∙ ap (λ (f : Place → ℕ). f place) (fold-roll-Expr (Place → ℕ) depth_step (Expr-F.Number n))

pub column_depth : (w : List ℕ) (place : Place) → depth (expr.Column w) place ≡ 0
column_depth w place = ap (λ (e : Expr). depth e place) (sym (expr.rolls-Column w)) ∙ ap (λ (f : Place → ℕ). f place) (fold-roll-Expr (Place → ℕ) depth_step (Expr-F.Column w))

pub sum_depth : (parts : List Expr) (place : Place) → depth (expr.Sum parts) place ≡ cond (sum_in_parens place) 1 0 + greatest (map (λ part. depth part InSum) parts)
sum_depth parts place =
    ap (λ (e : Expr). depth e place) (sym (expr.rolls-Sum parts)) ∙ ap (λ (f : Place → ℕ). f place) (fold-roll-Expr (Place → ℕ) depth_step (Expr-F.Sum parts))
    ∙ ap (λ ns. cond (sum_in_parens place) 1 0 + greatest ns) (map-map depth (λ part. part InSum) parts)

pub product_depth : (parts : List Expr) (place : Place) → depth (expr.Product parts) place ≡ cond (product_in_parens place) 1 0 + greatest (map (λ part. depth part InProduct) parts)
product_depth parts place =
    ap (λ (e : Expr). depth e place) (sym (expr.rolls-Product parts)) ∙ ap (λ (f : Place → ℕ). f place) (fold-roll-Expr (Place → ℕ) depth_step (Expr-F.Product parts))
    ∙ ap (λ ns. cond (product_in_parens place) 1 0 + greatest ns) (map-map depth (λ part. part InProduct) parts)
