use Rattle.std.proofs.Common.{◌≡◌, ◌<◌, length, min, nat_cmp, refl, sym, ◌∙◌, arith}
use Rattle.m3_judge.specs.Sources.{tuple_of}
use Rattle.m3_judge.proofs.Comparing.{order_next, order_differs, order_ends}
use Rattle.m3_judge.proofs.sorted.compare.Goals as goal

pub loop-k-init : goal.loop-k-init
loop-k-init c = refl

pub returns-then-number-other_number : goal.returns-then-number-other_number
returns-then-number-other_number c =
    let one = tuple_of c.args.store.now.shape c.args.store.now.filling c.args.one in
    let other = tuple_of c.args.store.now.shape c.args.store.now.filling c.args.other in
    let len = c.len_of-len.ensures in
    let other_len = c.len_of-other_len.ensures in
    let end = c.min-k-end.ensures in
    let below = c.loop-k-test.true in
    let in_one : c.loop-k.k < length one = omega arith in
    let in_other : c.loop-k.k < length other = omega arith in
    c.cmp.ensures ∙ (λ i. nat_cmp (c.member-number.ensures i) (c.member-other_number.ensures i))
    ∙ sym (order_differs one other c.loop-k.k in_one in_other (λ e. c.if-number-other_number.true (c.member-number.ensures ∙ e ∙ sym c.member-other_number.ensures))) ∙ c.loop-k.invariant

pub loop-k-preserved : goal.loop-k-preserved
loop-k-preserved c =
    let one = tuple_of c.args.store.now.shape c.args.store.now.filling c.args.one in
    let other = tuple_of c.args.store.now.shape c.args.store.now.filling c.args.other in
    let len = c.len_of-len.ensures in
    let other_len = c.len_of-other_len.ensures in
    let end = c.min-k-end.ensures in
    let below = c.loop-k-test.true in
    let in_one : c.loop-k.k < length one = omega arith in
    let in_other : c.loop-k.k < length other = omega arith in
    sym (order_next one other c.loop-k.k in_one in_other (sym c.member-number.ensures ∙ c.if-number-other_number.false ∙ c.member-other_number.ensures)) ∙ c.loop-k.invariant

pub returns : goal.returns
returns c =
    let one = tuple_of c.args.store.now.shape c.args.store.now.filling c.args.one in
    let other = tuple_of c.args.store.now.shape c.args.store.now.filling c.args.other in
    let len = c.len_of-len.ensures in
    let other_len = c.len_of-other_len.ensures in
    let end = c.min-k-end.ensures in
    let past = c.loop-k-test.false in
    let within = c.loop-k.auto.k-end in
    let at_end : c.loop-k.k ≡ min (length one) (length other) = omega arith in
    c.cmp-2.ensures ∙ (λ i. nat_cmp (len i) (other_len i)) ∙ sym (order_ends one other c.loop-k.k at_end) ∙ c.loop-k.invariant
