use Rattle.std.proofs.Common.{◌≡◌, ◌≤◌, ◌/◌, ◌+◌, ◌*◌, ◌^◌, length, ◌∙◌, sym, ap, subst, arith}
use Rattle.hash_tree.specs.Tree.{path_up_to}
use Rattle.hash_tree.proofs.Nodes.{beside_within, over_within, pow_same}
use Rattle.hash_tree.proofs.tree.Tree.path.Goals as goal

pub node-requires : goal.node-requires
node-requires c =
    let n = length c.args.self.now in
    let w = over_within c.depth-depth.result c.loop-height.height c.args.index (length c.args.self.now) c.depth-depth.ensures.leaves (omega arith) c.requires in
    subst (λ k. (k + 1) * 2 ^ c.loop-height.height ≤ length c.args.self.now) (sym c.beside.ensures)
    (beside_within c.depth-depth.result c.loop-height.height (c.args.index / 2 ^ c.loop-height.height) (length c.args.self.now) c.depth-depth.ensures.leaves c.loop-height-test.true w)

pub returns : goal.returns
returns c = λ k h.
    let e : c.loop-height.height ≡ c.depth-depth.result = omega arith in
    c.loop-height.invariant ∙ ap (path_up_to c.args.self.now c.args.index) (e ∙ pow_same c.depth-depth.result k (sym c.depth-depth.ensures.leaves ∙ h))
