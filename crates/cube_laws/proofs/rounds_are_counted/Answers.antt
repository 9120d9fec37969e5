use Rattle.std.proofs.Common.{arith}
use Rattle.cube_laws.specs.Form.{degree}
use Rattle.cube_laws.proofs.Degrees.{round_poly}
use Rattle.cube_laws.proofs.Rounds.{sum_at-suc, sum_at-bound, draws_counted}
use Rattle.cube_laws.proofs.rounds_are_counted.Goals as goal

pub returns : goal.returns
returns c = record {
  degrees = λ s prefix left. round_poly s prefix left (degree s.form) (omega arith);
  halves = sum_at-suc;
  bound = sum_at-bound;
  counted = draws_counted;
}
