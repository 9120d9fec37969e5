use Rattle.std.proofs.Common.{ℕ, ◌+◌, List, sym, ap, subst, ◌∙◌}
use Rattle.table_text.specs.declared.decl.Decl.{Decl}
use Rattle.table_text.specs.declared.decl.Decl.TheVariants.{Channel, Boundary, Table}
use Rattle.table_shape.specs.Shape.{shape_of}
use Rattle.table_shape.specs.Parts.{ShapeParts}
use Rattle.table_shape.proofs.FitsSteps.{begun}
use Rattle.table_shape.proofs.Passed.{same_ok}
use Rattle.table_shape.proofs.ShapeSteps.{Adds, adds_none, adds_from, adds_channel, adds_boundary, adds_table, adds_as, table_refused}
use Rattle.table_shape.proofs.VirtualSteps.{gives_refusal}
use Rattle.table_shape.proofs.resolving.resolve.Goals.{in-Channel+in_ok-channels-in-Channel, in-Boundary+in_ok-boundaries-in-Boundary, in-Table+in_ok-table-in-Table+in_ok-table-in-Table-2+in_ok-push-in-Table}
use Rattle.table_shape.proofs.resolving.resolve.Goals as goal

pub loop-decl-init : goal.loop-decl-init
loop-decl-init c =
    let all = shape_of c.args.tables.now in
    let adds = adds_none c.args.tables.now c.in_ok-digest.digest c.decls-decl-items.ensures.levels c.decls-decl-items.ensures.few (sym (same_ok _ _ c.in_ok-digest.ensures)) in
    let same = subst (λ (decls : List Decl). Adds 0 decls (begun c.in_ok-digest.digest) all) (sym c.decls-decl-items.ensures.all) adds in
    adds_as 0 _ _ _ _ _ _ _ _ all c.new-channels.ensures c.new-boundaries.ensures c.new-shapes.ensures same

pub loop-decl-preserved : goal.loop-decl-preserved
loop-decl-preserved c =
    let all = shape_of c.args.tables.now in
    let k = c.loop-decl.number in
    let n = c.match-decl.number in
    let decls = c.decls-decl-items.result.now in
    let i = c.loop-decl.decl-index in
    let digest = c.in_ok-digest.digest in
    let shape : ShapeParts = record { channels = c.loop-decl.channels; boundaries = c.loop-decl.boundaries; tables = c.loop-decl.shapes; digest = digest } in
    elim c.match-decl.branch [
      | in-Channel+in_ok-channels-in-Channel w ↦
          let here = adds_from i k decls _ (Channel w.in-Channel.name w.in-Channel.width) shape all c.loop-decl-test.true (sym c.decl-item.is ∙ w.in-Channel.is) c.loop-decl.invariant in
          adds_as n _ _ _ _ _ _ _ digest all w.channels-is w.boundaries-is w.shapes-is
          (adds_channel k n w.in-Channel.name w.in-Channel.width _ shape w.in_ok-channels-in-Channel.channels all here w.in_ok-channels-in-Channel.ensures w.number-is)
      | in-Boundary+in_ok-boundaries-in-Boundary w ↦
          let d = w.in-Boundary in
          let here = adds_from i k decls _ (Boundary d.side d.channel d.values) shape all c.loop-decl-test.true (sym c.decl-item.is ∙ d.is) c.loop-decl.invariant in
          adds_as n _ _ _ _ _ _ _ digest all w.channels-is w.boundaries-is w.shapes-is
          (adds_boundary k n d.side d.channel d.values _ shape w.in_ok-boundaries-in-Boundary.boundaries all here (rw (w.as_slice-values.ensures) at w.in_ok-boundaries-in-Boundary.ensures) w.number-is)
      | in-Table+in_ok-table-in-Table+in_ok-table-in-Table-2+in_ok-push-in-Table w ↦
          let d = w.in-Table in
          let begun = w.in_ok-table-in-Table in
          let filled = w.in_ok-table-in-Table-2 in
          let here = adds_from i k decls _ (Table d.name d.items) shape all c.loop-decl-test.true (sym c.decl-item.is ∙ d.is) c.loop-decl.invariant in
          adds_as n _ _ _ _ _ _ _ digest all w.channels-is w.boundaries-is w.shapes-is
          (adds_table k n d.name d.items _ shape w.push.new.self begun.table filled.table all here (rw w.as_slice.ensures at begun.ensures.exact) (rw (w.as_slice-in-Table.ensures) at filled.ensures.exact)
          (w.number-is ∙ ap (λ (m : ℕ). k + (1 + m)) w.len.ensures) (rw (w.into_table.ensures) at w.in_ok-push-in-Table.ensures.ok) filled.ensures.fits)
    ]

pub returns-in_err-table-in-Table-2 : goal.returns-in_err-table-in-Table-2
returns-in_err-table-in-Table-2 c =
    let all = shape_of c.args.tables.now in
    let k = c.loop-decl.number in
    let d = c.in-Table in
    let begun = c.in_ok-table-in-Table in
    let stop = c.in_err-table-in-Table-2 in
    let shape : ShapeParts = record { channels = c.loop-decl.channels; boundaries = c.loop-decl.boundaries; tables = c.loop-decl.shapes; digest = c.in_ok-digest.digest } in
    let here = adds_from c.loop-decl.decl-index k c.decls-decl-items.result.now _ (Table d.name d.items) shape all c.loop-decl-test.true (sym c.decl-item.is ∙ d.is) c.loop-decl.invariant in
    let refused = table_refused k d.name d.items _ shape begun.table stop.field-0.0 all here (rw (c.as_slice.ensures) at begun.ensures.exact) (rw (c.as_slice-in-Table.ensures) at stop.ensures.exact) in
    gives_refusal c.from_residual-in_err-table-in-Table-2.result stop.field-0.0 all c.from_residual-in_err-table-in-Table-2.ensures.1 refused
