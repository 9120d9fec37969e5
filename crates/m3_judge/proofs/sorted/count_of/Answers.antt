use Rattle.std.proofs.Common.{◌≡◌, true, false, refl, sym, ◌∙◌, ap, arith}
use Rattle.std.specs.Bool.{◌==◌}
use Rattle.std.specs.declared.cmp.Ordering.{Ordering}
use Rattle.std.specs.declared.cmp.Ordering.TheVariants.{Less, Equal, Greater}
use Rattle.std.specs.Ordering.{is_eq, ordering_index}
use Rattle.m3_judge.specs.Sources.{tuple_of}
use Rattle.m3_judge.proofs.Comparing.{count_next, count_done}
use Rattle.m3_judge.proofs.sorted.count_of.Goals as goal
use Rattle.m3_judge.proofs.sorted.count_of.Goals.{then-eq, else-eq}

equal : (o : Ordering) → is_eq o ≡ (ordering_index o == 1)
equal Less = refl
equal Equal = refl
equal Greater = refl

pub loop-k-init : goal.loop-k-init
loop-k-init c = (omega arith, omega arith)

pub loop-k-preserved : goal.loop-k-preserved
loop-k-preserved c =
    let tuple = tuple_of c.args.store.now.shape c.args.store.now.filling in
    let few = c.loop-k.invariant.0 in
    let so_far = c.loop-k.invariant.1 in
    let below = c.loop-k-test.true in
    elim c.if-eq.branch [
      | then-eq w ↦ (
          let is = w.count-is in
          let next = count_next tuple (tuple c.args.source) c.args.among.now c.loop-k.k _ true (omega arith) (ap is_eq (sym c.compare.ensures) ∙ equal c.compare.result ∙ sym c.eq.ensures ∙ w.if-eq.true) in
          (omega arith, omega arith)
          )
      | else-eq w ↦ (
          let is = w.count-is in
          let next = count_next tuple (tuple c.args.source) c.args.among.now c.loop-k.k _ false (omega arith) (ap is_eq (sym c.compare.ensures) ∙ equal c.compare.result ∙ sym c.eq.ensures ∙ w.if-eq.false) in
          (omega arith, omega arith)
          )
    ]

pub returns : goal.returns
returns c =
    let tuple = tuple_of c.args.store.now.shape c.args.store.now.filling in
    let so_far = c.loop-k.invariant.1 in
    let past = c.loop-k-test.false in
    let none = count_done tuple (tuple c.args.source) c.args.among.now c.loop-k.k (omega arith) in
    omega arith
