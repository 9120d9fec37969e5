use Rattle.std.proofs.Common.{◌≡◌, ◌<◌, ◌≤◌, ◌/◌, ◌+◌, ◌-◌, ◌*◌, ◌^◌, length, ◌∙◌, sym, ap, subst, refl, take, drop, arith}
use Rattle.std.proofs.Math.Nat.{div-eq_of_lt}
use Rattle.std.specs.Cmp.Lexicographic.{same_text, other_text}
use Rattle.hash_tree.specs.Tree.{over, digest_at, digest_by_path, piece}
use Rattle.hash_tree.proofs.Nodes.{beside_within, over_within, pow_same}
use Rattle.sha2.specs.Sha256.{sha256}
use Rattle.hash_tree.proofs.Clashing.{apart_first, apart_more, clash_is, length-digest_by_path, length-piece}
use Rattle.hash_tree.proofs.Steps.{digest_by_path-suc, place_up}
use Rattle.hash_tree.proofs.clash.find_clash.Goals as goal

pub node-requires-in-loop-height : goal.node-requires-in-loop-height
node-requires-in-loop-height c =
    over_within c.depth-height-end.result c.loop-height.height c.args.index (length c.args.tree.now) c.depth-height-end.ensures.leaves (omega arith) c.requires.index

pub node-requires-in-loop-height-2 : goal.node-requires-in-loop-height-2
node-requires-in-loop-height-2 c =
    let w = over_within c.depth-height-end.result c.loop-height.height c.args.index (length c.args.tree.now) c.depth-height-end.ensures.leaves (omega arith) c.requires.index in
    subst (λ k. (k + 1) * 2 ^ c.loop-height.height ≤ length c.args.tree.now) (sym c.beside.ensures)
    (beside_within c.depth-height-end.result c.loop-height.height (c.args.index / 2 ^ c.loop-height.height) (length c.args.tree.now) c.depth-height-end.ensures.leaves c.loop-height-test.true w)

pub slice_bounds-bytes_over-end-in-loop-height : goal.slice_bounds-bytes_over-end-in-loop-height
slice_bounds-bytes_over-end-in-loop-height c =
    let d = pow_same c.depth-height-end.result (length c.args.path.now / 32) (sym c.depth-height-end.ensures.leaves ∙ c.requires.depth) in
    omega arith

pub node-requires-in-loop-height-3 : goal.node-requires-in-loop-height-3
node-requires-in-loop-height-3 c =
    subst (λ k. (k + 1) * 2 ^ (c.loop-height.height + 1) ≤ length c.args.tree.now) (sym (place_up c.args.index c.loop-height.height))
    (over_within c.depth-height-end.result (c.loop-height.height + 1) c.args.index (length c.args.tree.now) c.depth-height-end.ensures.leaves (omega arith) c.requires.index)

pub loop-height-init : goal.loop-height-init
loop-height-init c = (
  c.digest-digest.ensures ∙ ap sha256 c.leaf_bytes.ensures,
  apart_first c.args.tree.now c.args.index c.args.leaf.now c.args.path.now c.digest-digest.result c.node.result.now c.requires.index
      (c.digest-digest.ensures ∙ ap sha256 c.leaf_bytes.ensures) c.node.ensures (other_text _ _ c.if-eq-2.ensures),
)

pub returns-then-eq-3-clause-clash : goal.returns-then-eq-3-clause-clash
returns-then-eq-3-clause-clash c =
    let d = pow_same c.depth-height-end.result (length c.args.path.now / 32) (sym c.depth-height-end.ensures.leaves ∙ c.requires.depth) in
    let i = c.loop-height.invariant in
    let w : 32 * c.loop-height.height + 32 - 32 * c.loop-height.height ≡ 32 = omega arith in
    clash_is c.args.tree.now c.loop-height.height (c.args.index / 2 ^ c.loop-height.height) c.node-in-loop-height.result.now c.node-in-loop-height-2.result.now c.loop-height.digest (piece c.args.path.now c.loop-height.height)
    c.bytes_over-kept.result c.bytes_over-found.result c.digest-digest-in-loop-height.result c.node-in-loop-height-3.result.now
    c.node-in-loop-height.ensures (c.node-in-loop-height-2.ensures ∙ ap (digest_at c.args.tree.now c.loop-height.height) c.beside.ensures) c.bytes_over-kept.ensures
    (c.bytes_over-found.ensures ∙ ap (over (c.args.index / 2 ^ c.loop-height.height) c.loop-height.digest) (ap (λ n. take n (drop (32 * c.loop-height.height) c.args.path.now)) w))
    (ap length i.0 ∙ length-digest_by_path c.args.index c.args.leaf.now c.args.path.now c.loop-height.height) (length-piece c.args.path.now c.loop-height.height (omega arith)) (λ q. i.1 c.loop-height.height (omega arith) (sym i.0 ∙ q))
    c.digest-digest-in-loop-height.ensures c.node-in-loop-height-3.ensures (same_text _ _ c.if-eq-3.ensures)

pub returns-then-eq-3-clause-place : goal.returns-then-eq-3-clause-place
returns-then-eq-3-clause-place c =
    let i = c.loop-height.invariant in
    let w : 32 * c.loop-height.height + 32 - 32 * c.loop-height.height ≡ 32 = omega arith in (
      c.loop-height.height,
      record {
        apart = i.1;
        meet = sym (digest_by_path-suc c.args.index c.args.leaf.now c.args.path.now c.loop-height.height (c.args.index / 2 ^ c.loop-height.height) c.loop-height.digest _ c.bytes_over-found.result c.digest-digest-in-loop-height.result refl i.0 refl c.bytes_over-found.ensures c.digest-digest-in-loop-height.ensures)
            ∙ same_text _ _ c.if-eq-3.ensures ∙ c.node-in-loop-height-3.ensures ∙ ap (digest_at c.args.tree.now (c.loop-height.height + 1)) (place_up c.args.index c.loop-height.height);
        kept_is = c.bytes_over-kept.ensures ∙ (λ k. over (c.args.index / 2 ^ c.loop-height.height) (c.node-in-loop-height.ensures k) ((c.node-in-loop-height-2.ensures ∙ ap (digest_at c.args.tree.now c.loop-height.height) c.beside.ensures) k));
        found_is = c.bytes_over-found.ensures ∙ (λ k. over (c.args.index / 2 ^ c.loop-height.height) (i.0 k) (take (w k) (drop (32 * c.loop-height.height) c.args.path.now)));
      },
    )

pub loop-height-preserved : goal.loop-height-preserved
loop-height-preserved c =
    let i = c.loop-height.invariant in
    let s = digest_by_path-suc c.args.index c.args.leaf.now c.args.path.now c.loop-height.height (c.args.index / 2 ^ c.loop-height.height) c.loop-height.digest _ c.bytes_over-found.result c.digest-digest-in-loop-height.result refl i.0 refl c.bytes_over-found.ensures c.digest-digest-in-loop-height.ensures in (
      s,
      apart_more c.args.tree.now c.args.index c.args.leaf.now c.args.path.now c.loop-height.height i.1
          (λ q. other_text _ _ c.if-eq-3.ensures (s ∙ q ∙ ap (digest_at c.args.tree.now (c.loop-height.height + 1)) (sym (place_up c.args.index c.loop-height.height)) ∙ sym c.node-in-loop-height-3.ensures)),
    )

pub unreachable-requires : goal.unreachable-requires
unreachable-requires c =
    let d = pow_same c.depth-height-end.result (length c.args.path.now / 32) (sym c.depth-height-end.ensures.leaves ∙ c.requires.depth) in
    let e : c.loop-height.height ≡ length c.args.path.now / 32 = omega arith in
    let l : c.args.index < 2 ^ (length c.args.path.now / 32) = omega (arith, c.requires.depth) in
    let z = div-eq_of_lt l in
    c.loop-height.invariant.1 c.loop-height.height (omega arith)
    (ap (digest_by_path c.args.index c.args.leaf.now c.args.path.now) e ∙ c.if-not-check_path.ensures.0 refl ∙ c.root.ensures (length c.args.path.now / 32) c.requires.depth
    ∙ sym (ap (λ n. digest_at c.args.tree.now n (c.args.index / 2 ^ n)) e ∙ ap (digest_at c.args.tree.now (length c.args.path.now / 32)) z))
