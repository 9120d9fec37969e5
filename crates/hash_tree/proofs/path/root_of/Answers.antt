use Rattle.std.proofs.Common.{◌≡◌, ◌+◌, ◌/◌, ◌^◌, suc, refl, ◌∙◌, ap, arith}
use Rattle.hash_tree.proofs.Steps.{place_above, digest_by_path-suc}
use Rattle.hash_tree.proofs.path.root_of.Goals as goal

pub loop-height-preserved : goal.loop-height-preserved
loop-height-preserved c =
    let n : suc c.loop-height.height ≡ c.loop-height.height + 1 = omega arith in (
      ap (λ w. w / 2) c.loop-height.invariant.0 ∙ place_above c.args.index c.loop-height.height ∙ ap (λ w. c.args.index / 2 ^ w) n,
      digest_by_path-suc c.args.index c.args.leaf.now c.args.path.now c.loop-height.height c.loop-height.place c.loop-height.digest _ c.bytes_over.result c.digest-digest-in-loop-height.result c.loop-height.invariant.0 c.loop-height.invariant.1 refl c.bytes_over.ensures c.digest-digest-in-loop-height.ensures,
    )
