use Rattle.std.proofs.Common.{◌≡◌, [], ◌∷◌, refl, sym, subst, ◌∙◌}
use Rattle.sumcheck.specs.Pair.{pair_form}
use Rattle.sumcheck.specs.Proving.{Accompanies}
use Rattle.walk_example.specs.Move.{Move, the_sum}
use Rattle.walk_example.specs.declared.moved.Moved.{Moved}
use Rattle.field_tests.proofs.moves.moved.Goals as goal

-- the filling that has the column's cells everywhere
pub meet-requires : goal.meet-requires
meet-requires c =
    let claimed : Moved = record { claim = record { table = 3; column = 5; point = c.from_vec.result; value = c.add.result } } in
    let at : c.from_vec.result ≡ c.element.result ∷ c.element-2.result ∷ [] = c.from_vec.ensures ∙ c.in_ok-from_slice-2.ensures.items in (
      (λ t k. c.from_vec-cells.result),
      subst (λ (w : Move). Accompanies the_sum pair_form c.in_ok-prover.prover.sum (λ t k. c.from_vec-cells.result) w) (sym c.in_ok-walk.ensures.state)
          (c.in_ok-prover.ensures (λ t k. c.from_vec-cells.result) claimed c.add.result at refl),
    )
