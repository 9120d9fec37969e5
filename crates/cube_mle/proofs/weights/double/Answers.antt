use Rattle.std.proofs.Common.{◌≡◌, ◌++◌, ℕ, map, bit_xor, subst}
use Rattle.std.specs.Prelude.{IfOk}
use Rattle.tower_laws.specs.Tower.{mul}
use Rattle.cube_mle.proofs.weights.double.Goals as goal

pub returns-in-Ok : goal.returns-in-Ok
returns-in-Ok c =
    subst (λ (x : ℕ). IfOk c.double_many.result (λ _. c.double_many.new.table.items ≡ map (λ t. mul t (bit_xor 1 x)) c.args.table.now.items ++ map (λ t. mul t x) c.args.table.now.items))
    c.in-Ok.ensures c.double_many.ensures
