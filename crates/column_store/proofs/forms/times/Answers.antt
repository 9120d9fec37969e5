use Rattle.std.proofs.Common.{◌≡◌, sym, ap, ◌∙◌}
use Rattle.std.proofs.lemmas.Bool.{eqb-true}
use Rattle.tower_laws.specs.Tower.{mul}
use Rattle.tower_laws.proofs.Levels.{field_one}
use Rattle.column_store.proofs.forms.times.Goals as goal

pub returns-then-eq : goal.returns-then-eq
returns-then-eq c =
    let one : c.args.coefficient ≡ 1 = eqb-true c.args.coefficient 1 (sym c.eq.ensures ∙ c.if-eq.true) in
    sym (ap (λ k. mul k c.args.value) one ∙ field_one c.args.value)
