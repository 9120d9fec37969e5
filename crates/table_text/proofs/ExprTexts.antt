-- The texts of sums and products.
use Rattle.std.proofs.Common.{◌≡◌, ℕ, List, [], ◌∷◌, map, refl, sym, ◌∙◌, ap}
use Rattle.std.specs.Prelude.{codes}
use Rattle.std.specs.Fmt.{decimal}
use Rattle.table_text.specs.Canonical.{joined, in_parens, sum_in_parens, product_in_parens, expr_step, expr_text}
use Rattle.table_text.specs.declared.expr.Expr.{Expr}
use Rattle.table_text.specs.declared.expr.Expr.TheVariants as expr
use Rattle.table_text.specs.declared.expr.Expr.TheOpen.{Expr-F}
use Rattle.table_text.specs.declared.expr.Expr.TheFolds.{fold-roll-Expr}
use Rattle.table_text.specs.declared.print.Place.{Place}
use Rattle.table_text.specs.declared.print.Place.TheVariants.{InSum, InProduct}

pub map-map : {X Y Z : Type 0} (f : X → Y) (g : Y → Z) (xs : List X) → map g (map f xs) ≡ map (λ x. g (f x)) xs
map-map f g [] = refl
map-map f g (x ∷ xs) = ap (λ ys. g (f x) ∷ ys) (map-map f g xs)

pub number_text : (n : ℕ) (place : Place) → expr_text (expr.Number n) place ≡ decimal n
number_text n place = ap (λ (e : Expr). expr_text e place) (sym (expr.rolls-Number n)) ∙ ap (λ (f : Place → List ℕ). f place) (fold-roll-Expr (Place → List ℕ) expr_step (Expr-F.Number n))

pub column_text : (w : List ℕ) (place : Place) → expr_text (expr.Column w) place ≡ w
column_text w place = ap (λ (e : Expr). expr_text e place) (sym (expr.rolls-Column w)) ∙ ap (λ (f : Place → List ℕ). f place) (fold-roll-Expr (Place → List ℕ) expr_step (Expr-F.Column w))

pub sum_text : (parts : List Expr) (place : Place) → expr_text (expr.Sum parts) place ≡ in_parens (sum_in_parens place) (joined (codes " + ") (map (λ part. expr_text part InSum) parts))
sum_text parts place =
    ap (λ (e : Expr). expr_text e place) (sym (expr.rolls-Sum parts)) ∙ ap (λ (f : Place → List ℕ). f place) (fold-roll-Expr (Place → List ℕ) expr_step (Expr-F.Sum parts))
    ∙ ap (λ ts. in_parens (sum_in_parens place) (joined (codes " + ") ts)) (map-map expr_text (λ part. part InSum) parts)

pub product_text : (parts : List Expr) (place : Place) → expr_text (expr.Product parts) place ≡ in_parens (product_in_parens place) (joined (codes " * ") (map (λ part. expr_text part InProduct) parts))
product_text parts place =
    ap (λ (e : Expr). expr_text e place) (sym (expr.rolls-Product parts)) ∙ ap (λ (f : Place → List ℕ). f place) (fold-roll-Expr (Place → List ℕ) expr_step (Expr-F.Product parts))
    ∙ ap (λ ts. in_parens (product_in_parens place) (joined (codes " * ") ts)) (map-map expr_text (λ part. part InProduct) parts)
