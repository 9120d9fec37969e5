use Rattle.std.proofs.Common.{◌≡◌, map, drop, refl, sym, ◌∙◌, subst, arith}
use Rattle.m3_judge.specs.Order.{first_difference}
use Rattle.m3_judge.specs.Sources.{tuple_of}
use Rattle.m3_judge.proofs.Comparing.{read_next, read_less, read_greater, read_first, read_second, none_left}
use Rattle.m3_judge.proofs.sorted.first_difference.Goals as goal

pub loop-k-init : goal.loop-k-init
loop-k-init c = refl

pub returns-in-Less : goal.returns-in-Less
returns-in-Less c =
    let tuple = tuple_of c.args.store.now.shape c.args.store.now.filling in
    let pushed = c.args.pushed.now in
    let pulled = c.args.pulled.now in
    let shared = c.min-shared.ensures in
    let below = c.loop-k-test.true in
    sym (read_less tuple pushed pulled c.loop-k.k _ _ (omega arith) (omega arith) (sym c.compare.ensures ∙ c.in-Less.is)) ∙ c.loop-k.invariant

pub returns-in-Greater : goal.returns-in-Greater
returns-in-Greater c =
    let tuple = tuple_of c.args.store.now.shape c.args.store.now.filling in
    let pushed = c.args.pushed.now in
    let pulled = c.args.pulled.now in
    let shared = c.min-shared.ensures in
    let below = c.loop-k-test.true in
    sym (read_greater tuple pushed pulled c.loop-k.k _ _ (omega arith) (omega arith) (sym c.compare.ensures ∙ c.in-Greater.is)) ∙ c.loop-k.invariant

pub loop-k-preserved : goal.loop-k-preserved
loop-k-preserved c =
    let tuple = tuple_of c.args.store.now.shape c.args.store.now.filling in
    let pushed = c.args.pushed.now in
    let pulled = c.args.pulled.now in
    let shared = c.min-shared.ensures in
    let below = c.loop-k-test.true in
    sym (read_next tuple pushed pulled c.loop-k.k _ _ (omega arith) (omega arith) (sym c.compare.ensures ∙ c.in-Equal.is)) ∙ c.loop-k.invariant

pub returns-then-shared-pushed : goal.returns-then-shared-pushed
returns-then-shared-pushed c =
    let tuple = tuple_of c.args.store.now.shape c.args.store.now.filling in
    let pushed = c.args.pushed.now in
    let pulled = c.args.pulled.now in
    let shared = c.min-shared.ensures in
    let past = c.loop-k-test.false in
    let within = c.loop-k.auto.k-end in
    let at_end : c.loop-k.k ≡ c.min-shared.result = omega arith in
    let so_far = subst (λ k. first_difference (map tuple (drop k pushed)) (map tuple (drop k pulled)) ≡ first_difference (map tuple pushed) (map tuple pulled)) at_end c.loop-k.invariant in
    let more = c.if-shared-pushed.true in
    sym (read_first tuple pushed pulled c.min-shared.result _ more (omega arith)) ∙ so_far

pub returns-then-shared-pulled : goal.returns-then-shared-pulled
returns-then-shared-pulled c =
    let tuple = tuple_of c.args.store.now.shape c.args.store.now.filling in
    let pushed = c.args.pushed.now in
    let pulled = c.args.pulled.now in
    let shared = c.min-shared.ensures in
    let past = c.loop-k-test.false in
    let within = c.loop-k.auto.k-end in
    let at_end : c.loop-k.k ≡ c.min-shared.result = omega arith in
    let so_far = subst (λ k. first_difference (map tuple (drop k pushed)) (map tuple (drop k pulled)) ≡ first_difference (map tuple pushed) (map tuple pulled)) at_end c.loop-k.invariant in
    let none = c.if-shared-pushed.false in
    let more = c.if-shared-pulled.true in
    sym (read_second tuple pushed pulled c.min-shared.result _ more none) ∙ so_far

pub returns-else-shared-pulled : goal.returns-else-shared-pulled
returns-else-shared-pulled c =
    let tuple = tuple_of c.args.store.now.shape c.args.store.now.filling in
    let pushed = c.args.pushed.now in
    let pulled = c.args.pulled.now in
    let shared = c.min-shared.ensures in
    let past = c.loop-k-test.false in
    let within = c.loop-k.auto.k-end in
    let at_end : c.loop-k.k ≡ c.min-shared.result = omega arith in
    let so_far = subst (λ k. first_difference (map tuple (drop k pushed)) (map tuple (drop k pulled)) ≡ first_difference (map tuple pushed) (map tuple pulled)) at_end c.loop-k.invariant in
    sym (none_left tuple pushed pulled c.min-shared.result c.if-shared-pushed.false c.if-shared-pulled.false) ∙ so_far
