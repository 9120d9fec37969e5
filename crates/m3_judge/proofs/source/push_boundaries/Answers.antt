use Rattle.std.proofs.Common.{Vec, Global, length, refl, sym, ◌∙◌, ap, ◌≡◌, ◌<◌}
use Rattle.std.specs.Prelude.{slice_get, Some}
use Rattle.std.proofs.lemmas.Option.{slice_get_read}
use Rattle.table_shape.specs.declared.shape.BoundaryShape.{BoundaryShape}
use Rattle.table_shape.specs.Channels.{is_boundary_of}
use Rattle.table_shape.specs.Parts.{ShapeParts}
use Rattle.m3_judge.specs.declared.source.Source.{Source}
use Rattle.m3_judge.specs.Sources.{values_in, tuple_of}
use Rattle.m3_judge.proofs.Collecting.{pushed, skipped}
use Rattle.m3_judge.proofs.source.push_boundaries.Goals as goal
use Rattle.m3_judge.proofs.source.push_boundaries.Goals.{then-is_boundary_of+in_ok-push, else-is_boundary_of}

pub loop-k-preserved : goal.loop-k-preserved
loop-k-preserved c =
    let tuple = tuple_of c.args.store.now.shape c.args.store.now.filling in
    let boundaries = c.args.store.now.shape.boundaries in
    let all = c.boundaries-boundary-items.ensures.all ∙ ap (λ (s : ShapeParts). s.boundaries) c.shape.ensures in
    let item = rw all at c.boundary-item.is in
    let below : c.loop-k.k < length boundaries = rw all at c.loop-k-test.true in
    let found : slice_get boundaries c.loop-k.k ≡ Some c.boundary-item.result = slice_get_read _ _ _ _ refl below item in
    elim c.if-is_boundary_of.branch [
      | then-is_boundary_of+in_ok-push w ↦
          pushed tuple (λ (b : BoundaryShape). b.values) (is_boundary_of c.args.side c.args.channel) boundaries c.loop-k.k c.boundary-item.result _ c.loop-k.sources.items c.if-is_boundary_of.sources.items _ below item
          (sym c.is_boundary_of.ensures ∙ w.if-is_boundary_of.true) (ap values_in found) (ap (λ (v : Vec Source Global). v.items) w.sources-is ∙ w.in_ok-push.ensures.items) c.loop-k.invariant
      | else-is_boundary_of w ↦
          skipped tuple (λ (b : BoundaryShape). b.values) (is_boundary_of c.args.side c.args.channel) boundaries c.loop-k.k c.boundary-item.result c.loop-k.sources.items c.if-is_boundary_of.sources.items _ below item
          (sym c.is_boundary_of.ensures ∙ w.if-is_boundary_of.false) (ap (λ (v : Vec Source Global). v.items) w.sources-is) c.loop-k.invariant
    ]
