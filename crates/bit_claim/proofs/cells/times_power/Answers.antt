use Rattle.std.proofs.Common.{◌^◌, sym, ◌∙◌, ap}
use Rattle.tower_laws.specs.Tower.{mul}
use Rattle.tower_laws.proofs.Levels.{field_one}
use Rattle.bit_claim.proofs.cells.times_power.Goals as goal

pub returns-then-u-eq0 : goal.returns-then-u-eq0
returns-then-u-eq0 c = sym (ap (λ n. mul (2 ^ n) c.args.value) c.if-u-eq0.true ∙ field_one c.args.value)
