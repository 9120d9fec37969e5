-- Declarations that begin in tokens and in those behind them.
use Rattle.std.proofs.Common.{◌≡◌, ◌+◌, Bool, false, cond, List, [], ◌∷◌, ◌++◌, refl, ◌∙◌, arith}
use Rattle.table_text.specs.Lexing.{Token}
use Rattle.table_text.specs.Faults.{is_boundary, begins_declaration, behind_boundary, begun_from, begun_in}

pub behind_boundary-append : (b : Bool) (xs ys : List Token) → behind_boundary b (xs ++ ys) ≡ behind_boundary (behind_boundary b xs) ys
behind_boundary-append b [] ys = refl
behind_boundary-append b (x ∷ xs) ys = behind_boundary-append (is_boundary x) xs ys

pub begun_from-append : (b : Bool) (xs ys : List Token) → begun_from b (xs ++ ys) ≡ begun_from b xs + begun_from (behind_boundary b xs) ys
begun_from-append b [] ys = omega arith
begun_from-append b (x ∷ xs) ys = omega (arith, begun_from-append (is_boundary x) xs ys)

pub begun_in-one : (xs : List Token) (t : Token) → begun_in (xs ++ t ∷ []) ≡ begun_in xs + cond (begins_declaration (behind_boundary false xs) t) 1 0
begun_in-one xs t =
    let one : begun_from (behind_boundary false xs) (t ∷ []) ≡ cond (begins_declaration (behind_boundary false xs) t) 1 0 + 0 = refl in
    begun_from-append false xs (t ∷ []) ∙ omega arith
