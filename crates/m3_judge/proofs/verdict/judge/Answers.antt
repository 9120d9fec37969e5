use Rattle.std.proofs.Common.{◌∙◌, ◌<◌, length, ap, arith}
use Rattle.std.proofs.lemmas.Option.{slice_get_within}
use Rattle.table_shape.specs.Parts.{ShapeParts}
use Rattle.m3_judge.proofs.Judged.{first_unequal}
use Rattle.m3_judge.proofs.verdict.judge.Goals as goal

pub returns-in-Some-2 : goal.returns-in-Some-2
returns-in-Some-2 c =
    let all = ap length (c.channels.ensures.all ∙ ap (λ (s : ShapeParts). s.channels) c.shape.ensures) in
    let below = c.loop-channel-test.true in
    let least = rw c.in-Some-2.is at c.in_ok-found.ensures in
    (c.in_default.ensures, first_unequal c.args.store.now.shape c.args.store.now.rows c.args.store.now.filling c.loop-channel.channel c.in-Some-2.found (omega arith) least c.loop-channel.invariant)

pub returns : goal.returns
returns c =
    let all = ap length (c.channels.ensures.all ∙ ap (λ (s : ShapeParts). s.channels) c.shape.ensures) in
    let past = c.loop-channel-test.false in
    record {
      zero = c.in_default.ensures;
      balanced = λ channel shape at. let within = slice_get_within _ channel shape at in let below : channel < c.loop-channel.channel = omega arith in c.loop-channel.invariant channel below shape at;
    }
