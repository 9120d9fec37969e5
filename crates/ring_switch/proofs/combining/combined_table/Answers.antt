use Rattle.std.proofs.Common.{◌≡◌, ◌∙◌, ◌^◌, ap, length, sym, take, arith}
use Rattle.std.proofs.lemmas.List.{take_all}
use Rattle.cube_laws.specs.Extension.{weights}
use Rattle.cube_laws.proofs.Folding.{length-weights}
use Rattle.cube_mle.proofs.Doubling.{weights_are}
use Rattle.ring_switch.proofs.CombiningSteps.{table_is}
use Rattle.ring_switch.proofs.combining.combined_table.Goals as goal

pub new-requires : goal.new-requires
new-requires c =
    let draws = c.args.switched.now.combine in
    let seven = c.requires in
    let all : take 7 draws ≡ draws = take_all 7 draws (omega arith) in
    let ws = c.in_ok-eq_table.ensures ∙ sym (weights_are c.prefix.result.now) ∙ ap weights (c.prefix.ensures ∙ all) in
    ap length ws ∙ length-weights draws ∙ ap (λ n. 2 ^ n) seven

pub returns : goal.returns
returns c =
    let t = c.args.switched.now in
    let seven = c.requires in
    let all : take 7 t.combine ≡ t.combine = take_all 7 t.combine (omega arith) in
    let ws = c.in_ok-weights.ensures ∙ c.in_ok-eq_table.ensures ∙ sym (weights_are c.prefix.result.now) ∙ ap weights (c.prefix.ensures ∙ all) in
    table_is t.high t.combine c.in_ok-cells.cells.items _ c.combine.new.cells.items seven (c.in_ok-cells.ensures ∙ sym (weights_are c.high.result.now) ∙ ap weights c.high.ensures) ws c.combine.ensures
