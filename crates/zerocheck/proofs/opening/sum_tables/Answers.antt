use Rattle.std.proofs.Common.{◌≡◌, ◌++◌, ◌∷◌, [], ◌∙◌, List, ℕ, ap, sym, arith}
use Rattle.std.proofs.lemmas.Grind.{common_steps}
use Rattle.cube_laws.specs.Extension.{weights}
use Rattle.cube_mle.proofs.Doubling.{weights_are}
use Rattle.zerocheck.specs.Zero.{Zeroed, row_steps}
use Rattle.zerocheck.proofs.opening.sum_tables.Goals as goal

pub returns : goal.returns
returns c =
    let t = c.args.zeroed.now in
    let two : c.push-2.new.self.items ≡ c.from_vec.result ∷ c.from_vec-2.result ∷ [] = grind (arith, common_steps) in
    let eq : c.from_vec.result ≡ weights t.point = c.from_vec.ensures ∙ c.in_ok-weights.ensures ∙ sym (weights_are c.as_slice.result.now) ∙ ap weights (c.as_slice.ensures.value ∙ ap (λ (x : Zeroed). x.point) c.zeroed.view_is) in
    let steps : c.from_vec-2.result ≡ row_steps t.group = c.from_vec-2.ensures ∙ c.in_ok-steps.ensures ∙ ap (λ (x : Zeroed). row_steps x.group) c.zeroed.view_is in
    c.from_vec-3.ensures ∙ c.in_ok-append.ensures.items ∙ ap (λ (ls : List (List ℕ)). ls ++ c.args.lists.now.items) (two ∙ (λ i. eq i ∷ steps i ∷ []))
