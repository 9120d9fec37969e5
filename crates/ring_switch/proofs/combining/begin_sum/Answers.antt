use Rattle.std.proofs.Common.{◌≡◌, ◌∷◌, [], ◌∙◌, List, ℕ, ap, length, arith}
use Rattle.std.proofs.lemmas.Grind.{common_steps}
use Rattle.sumcheck.specs.Proving.{Proving}
use Rattle.sumcheck.specs.declared.summand.Pair.{Pair}
use Rattle.ring_switch.proofs.CombiningSteps.{two_long}
use Rattle.ring_switch.proofs.combining.begin_sum.Goals as goal

pub begin-requires-clause-long : goal.begin-requires-clause-long
begin-requires-clause-long c =
    let t = c.args.switched.now in
    let two : c.push-2.new.self ≡ c.from_vec.result ∷ c.from_vec-2.result ∷ [] = grind (arith, common_steps) in
    let few = c.requires.few in
    (length t.high, (omega arith), two_long t.high t.combine c.from_vec.result c.from_vec-2.result c.push-2.new.self (c.from_vec.ensures ∙ c.in_ok-cells.ensures) (ap length c.from_vec-2.ensures ∙ c.requires.whole) two)

pub returns : goal.returns
returns c =
    let t = c.args.switched.now in
    let two : c.push-2.new.self ≡ c.from_vec.result ∷ c.from_vec-2.result ∷ [] = grind (arith, common_steps) in
    let cells = c.from_vec.ensures ∙ c.in_ok-cells.ensures in
    let long = two_long t.high t.combine c.from_vec.result c.from_vec-2.result c.push-2.new.self cells (ap length c.from_vec-2.ensures ∙ c.requires.whole) two in
    c.in_ok-begin.ensures (length t.high) long ∙ ap with_lists (two ∙ (λ i. cells i ∷ c.from_vec-2.ensures i ∷ []))
  where
    with_lists : List (List ℕ) → Proving Pair
    with_lists ls = record { summand = record {}; degree = 2; left = length c.args.switched.now.high; lists = ls }
