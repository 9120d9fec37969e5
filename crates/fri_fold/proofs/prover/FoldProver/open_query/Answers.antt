use Rattle.std.proofs.Common.{◌∙◌, ◌++◌, ap, sym, arith}
use Rattle.std.proofs.lemmas.List.{append_assoc}
use Rattle.fri_fold.specs.Prover.{Folding, openings}
use Rattle.fri_fold.proofs.Proving.{opened_more, place_in}
use Rattle.fri_fold.proofs.prover.FoldProver.open_query.Goals as goal

pub leaf-requires : goal.leaf-requires
leaf-requires c =
    let v = ap (λ (k : Folding). k.log) c.self.view_is in
    place_in c.args.self.now c.args.index c.loop-round.round c.tree-tree.result.now (omega arith) (sym c.requires.folds) c.requires.index c.tree-tree.ensures

pub loop-round-preserved : goal.loop-round-preserved
loop-round-preserved c =
    let v = ap (λ (k : Folding). k.log) c.self.view_is in
    opened_more c.args.self.now c.args.index c.loop-round.round c.args.out.now.items c.loop-round.out.items c.extend_from_slice.new.self.items c.extend_from_slice-in-loop-round.new.self.items c.leaf.result.now c.in_ok-path.path.items c.tree-tree.result.now
    (omega arith) (sym c.requires.folds) c.tree-tree.ensures c.loop-round.invariant c.leaf.ensures c.in_ok-path.ensures c.in_ok-extend_from_slice.ensures.items
    (c.in_ok-extend_from_slice-2.ensures.items ∙ ap (λ k. c.extend_from_slice.new.self.items ++ k) c.as_slice.ensures.value)

pub returns-in_err-extend_from_slice-clause-begins : goal.returns-in_err-extend_from_slice-clause-begins
returns-in_err-extend_from_slice-clause-begins c = (openings c.args.self.now c.args.index c.loop-round.round, c.in_err-extend_from_slice.ensures.items ∙ c.loop-round.invariant)

pub returns-in_err-path-clause-begins : goal.returns-in_err-path-clause-begins
returns-in_err-path-clause-begins c = (
  openings c.args.self.now c.args.index c.loop-round.round ++ c.leaf.result.now,
  c.in_ok-extend_from_slice.ensures.items ∙ ap (λ k. k ++ c.leaf.result.now) c.loop-round.invariant ∙ append_assoc c.args.out.now.items (openings c.args.self.now c.args.index c.loop-round.round) c.leaf.result.now,
)

pub returns-in_err-extend_from_slice-2-clause-begins : goal.returns-in_err-extend_from_slice-2-clause-begins
returns-in_err-extend_from_slice-2-clause-begins c = (
  openings c.args.self.now c.args.index c.loop-round.round ++ c.leaf.result.now,
  c.in_err-extend_from_slice-2.ensures.items ∙ c.in_ok-extend_from_slice.ensures.items ∙ ap (λ k. k ++ c.leaf.result.now) c.loop-round.invariant ∙ append_assoc c.args.out.now.items (openings c.args.self.now c.args.index c.loop-round.round) c.leaf.result.now,
)

pub returns-clause-begins : goal.returns-clause-begins
returns-clause-begins c = (openings c.args.self.now c.args.index c.loop-round.round, c.loop-round.invariant)
