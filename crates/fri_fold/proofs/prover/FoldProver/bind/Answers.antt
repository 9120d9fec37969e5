use Rattle.std.proofs.Common.{◌≡◌, ◌<◌, ◌≤◌, ◌+◌, ◌-◌, ◌^◌, ◌*◌, ◌∙◌, ◌++◌, ◌∷◌, [], length, ap, sym, subst, refl, arith}
use Rattle.hash_tree.specs.Tree.{digest_at}
use Rattle.fri_fold.proofs.Words.{next_word}
use Rattle.std.proofs.lemmas.List.{length_push}
use Rattle.fri_fold.specs.Prover.{Folding, bound, newest_root}
use Rattle.fri_fold.specs.Folds.{folded, leaves, word_after}
use Rattle.fri_fold.proofs.Proving.{root_is, length-word, spaced, next_length, folding_last, folding_next}
use Rattle.fri_fold.proofs.prover.FoldProver.bind.Goals as goal

pub fold_word-requires-clause-word : goal.fold_word-requires-clause-word
fold_word-requires-clause-word c =
    let v = ap (λ (k : Folding). k.log) c.self.view_is in
    let n : length c.self.inside.draws.items ≡ c.len-round.result = omega arith in
    let b : c.args.basis.now ≡ c.self.inside.log + 2 = omega (arith, c.requires.basis) in
    subst (λ k. length c.as_slice.result.now * 2 ^ k ≤ 2 ^ c.args.basis.now) n
    (spaced c.self.inside.log (length c.self.inside.draws.items) c.args.basis.now (length c.as_slice.result.now) c.self.invariant.folds b
    (ap length (c.as_slice.ensures.value ∙ c.self.invariant.newest) ∙ length-word c.self.inside.log c.self.inside.values.items c.self.inside.draws.items))

pub invariant_of-self-then-round-self : goal.invariant_of-self-then-round-self
invariant_of-self-then-round-self c =
    let n : c.len-round.result ≡ length c.self.inside.draws.items = omega arith in
    let f : c.in_ok-word.word.items ≡ folded (length c.self.inside.draws.items) c.args.r c.self.inside.word.items = c.in_ok-word.ensures ∙ (λ i. folded (n i) c.args.r (c.as_slice.ensures.value i)) in
    let l : length c.self.inside.draws.items + 1 ≡ c.self.inside.log = omega (arith, c.if-round-self.true) in
    folding_last c.self.inside.log c.args.r c.self.inside.values.items c.self.inside.draws.items c.self.inside.word.items c.push.new.self.items c.in_ok-word.word.items c.self.inside.trees.items c.self.invariant l c.in_ok-push.ensures.items f

pub tree_of-requires-clause-len : goal.tree_of-requires-clause-len
tree_of-requires-clause-len c =
    let n : c.len-round.result ≡ length c.self.inside.draws.items = omega arith in
    let f : c.in_ok-word.word.items ≡ folded (length c.self.inside.draws.items) c.args.r c.self.inside.word.items = c.in_ok-word.ensures ∙ (λ i. folded (n i) c.args.r (c.as_slice.ensures.value i)) in
    let v = ap (λ (k : Folding). k.log) c.self.view_is in
    let w = ap (λ (k : Folding). length k.draws) c.self.view_is in
    let l : length c.self.inside.draws.items < c.self.inside.log = omega (arith, c.requires.folds) in
    ap length c.as_slice-2.ensures.value ∙ next_length c.self.inside.log c.args.r c.self.inside.values.items c.self.inside.draws.items c.self.inside.word.items c.in_ok-word.word.items c.self.invariant.full l c.self.invariant.newest f
    ∙ ap (λ k. 2 * 2 ^ (c.self.inside.log - k)) (sym n)

pub invariant_of-self-2 : goal.invariant_of-self-2
invariant_of-self-2 c =
    let n : c.len-round.result ≡ length c.self.inside.draws.items = omega arith in
    let f : c.in_ok-word.word.items ≡ folded (length c.self.inside.draws.items) c.args.r c.self.inside.word.items = c.in_ok-word.ensures ∙ (λ i. folded (n i) c.args.r (c.as_slice.ensures.value i)) in
    let v = ap (λ (k : Folding). k.log) c.self.view_is in
    let w = ap (λ (k : Folding). length k.draws) c.self.view_is in
    let l : length c.self.inside.draws.items + 1 < c.self.inside.log = omega (arith, c.requires.folds, c.if-round-self.false) in
    folding_next c.self.inside.log c.args.r c.self.inside.values.items c.self.inside.draws.items c.self.inside.word.items c.push-2.new.self.items c.in_ok-word.word.items c.self.inside.trees.items c.push-3.new.self.items c.in_ok-tree.tree
    c.self.invariant l c.in_ok-push-2.ensures.items f (c.in-Ok.ensures.items ∙ ap (λ k. k ++ c.in_ok-tree.tree ∷ []) c.reserve.ensures.items) (c.in_ok-tree.ensures ∙ ap leaves c.as_slice-2.ensures.value)

pub returns-clause-root : goal.returns-clause-root
returns-clause-root c =
    let n : c.len-round.result ≡ length c.self.inside.draws.items = omega arith in
    let f : c.in_ok-word.word.items ≡ folded (length c.self.inside.draws.items) c.args.r c.self.inside.word.items = c.in_ok-word.ensures ∙ (λ i. folded (n i) c.args.r (c.as_slice.ensures.value i)) in
    let v = ap (λ (k : Folding). k.log) c.self.view_is in
    let w = ap (λ (k : Folding). length k.draws) c.self.view_is in
    let l : length c.self.inside.draws.items < c.self.inside.log = omega (arith, c.requires.folds) in
    let h = next_length c.self.inside.log c.args.r c.self.inside.values.items c.self.inside.draws.items c.self.inside.word.items c.in_ok-word.word.items c.self.invariant.full l c.self.invariant.newest f in
    let a = f ∙ ap (folded (length c.self.inside.draws.items) c.args.r) c.self.invariant.newest ∙ next_word c.self.inside.log c.args.r c.self.inside.values.items c.self.inside.draws.items c.self.invariant.full l in
    root_is (c.self.inside.log - length c.self.inside.draws.items) (c.self.inside.log - length c.self.inside.draws.items) c.in_ok-word.word.items c.root-root.result c.in_ok-tree.tree (c.in_ok-tree.ensures ∙ ap leaves c.as_slice-2.ensures.value) h c.root-root.ensures refl
    ∙ ap (λ k. digest_at (leaves k) (c.self.inside.log - length c.self.inside.draws.items) 0) a
    ∙ (let p = length_push c.self.inside.draws.items c.args.r in
    let n : c.self.inside.log - length c.self.inside.draws.items ≡ c.self.inside.log + 1 - length (c.self.inside.draws.items ++ c.args.r ∷ []) = omega arith in
    ap (λ k. digest_at (leaves (word_after c.self.inside.log c.self.inside.values.items (c.self.inside.draws.items ++ c.args.r ∷ []))) k 0) n)
    ∙ ap (λ (k : Folding). newest_root (bound k c.args.r)) c.self.view_is
