use Rattle.std.proofs.Common.{refl}
use Rattle.m3_judge.specs.Judging.{seen}
use Rattle.oracle_lowering.proofs.Decided.{not_zero}
use Rattle.oracle_lowering.proofs.products.are_zero.Goals as goal

pub returns-in-Some : goal.returns-in-Some
returns-in-Some c = (λ h. absurd cc, λ all. absurd (not_zero c.args.store.now.shape.tables c.args.store.now.rows c.args.store.now.filling (seen _) c.in-Some.ensures all))
