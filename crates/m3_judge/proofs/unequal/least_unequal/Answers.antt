use Rattle.std.proofs.Common.{map, sym, ◌∙◌, ap}
use Rattle.counting_laws.specs.Multiset.{count, same_tuple}
use Rattle.table_text.specs.declared.decl.Side.TheVariants.{Push, Pull}
use Rattle.table_shape.specs.Channels.{tuples}
use Rattle.m3_judge.specs.Order.{first_difference}
use Rattle.m3_judge.specs.Sources.{tuple_of}
use Rattle.m3_judge.proofs.Least.{reordered, least_found}
use Rattle.m3_judge.proofs.unequal.least_unequal.Goals as goal

pub returns-in_default : goal.returns-in_default
returns-in_default c =
    let tuple = tuple_of c.args.store.now.shape c.args.store.now.filling in
    let pushes = reordered tuple _ _ _ c.in_order-pushed.ensures.same c.in_ok-sources_of.ensures in
    let pulls = reordered tuple _ _ _ c.in_order-pulled.ensures.same c.in_ok-sources_of-2.ensures in
    let least = least_found tuple c.in_order-pushed.result.items c.in_order-pulled.result.items _ _ c.first_difference.result pushes pulls c.in_order-pushed.ensures.ascending c.in_order-pulled.ensures.ascending
    (c.first_difference.ensures ∙ (λ i. first_difference (map tuple (c.as_slice.ensures.value i)) (map tuple (c.as_slice-2.ensures.value i)))) in
    rw c.in_default.is at least

pub returns : goal.returns
returns c =
    let tuple = tuple_of c.args.store.now.shape c.args.store.now.filling in
    let pushes = reordered tuple _ _ _ c.in_order-pushed.ensures.same c.in_ok-sources_of.ensures in
    let pulls = reordered tuple _ _ _ c.in_order-pulled.ensures.same c.in_ok-sources_of-2.ensures in
    let least = least_found tuple c.in_order-pushed.result.items c.in_order-pulled.result.items _ _ c.first_difference.result pushes pulls c.in_order-pushed.ensures.ascending c.in_order-pulled.ensures.ascending
    (c.first_difference.ensures ∙ (λ i. first_difference (map tuple (c.as_slice.ensures.value i)) (map tuple (c.as_slice-2.ensures.value i)))) in
    let found = rw c.in-Some.is at least in
    record {
      least = rw c.in_ok-tuple.ensures found;
      pushed_is = c.count_of.ensures ∙ (λ i. count same_tuple (tuple c.in-Some.source) (map tuple (c.as_slice-3.ensures.value i))) ∙ sym (pushes (tuple c.in-Some.source)) ∙ ap (λ t. count same_tuple t (tuples Push c.args.store.now.shape c.args.store.now.rows c.args.store.now.filling c.args.channel)) (sym c.in_ok-tuple.ensures);
      pulled_is = c.count_of-2.ensures ∙ (λ i. count same_tuple (tuple c.in-Some.source) (map tuple (c.as_slice-4.ensures.value i))) ∙ sym (pulls (tuple c.in-Some.source)) ∙ ap (λ t. count same_tuple t (tuples Pull c.args.store.now.shape c.args.store.now.rows c.args.store.now.filling c.args.channel)) (sym c.in_ok-tuple.ensures);
    }
