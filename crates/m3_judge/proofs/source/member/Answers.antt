use Rattle.std.proofs.Common.{length, get_or, sym, ◌∙◌, ap, arith}
use Rattle.std.proofs.lemmas.List.{get_or_default, get_or_past}
use Rattle.table_shape.specs.Filling.{values_of}
use Rattle.table_shape.specs.Parts.{ShapeParts}
use Rattle.m3_judge.proofs.Sourced.{row_tuple_is, boundary_tuple_is, row_ends}
use Rattle.m3_judge.proofs.source.member.Goals as goal

pub returns-in-None : goal.returns-in-None
returns-in-None c =
    let table = c.in-Some.ensures.lookup in
    let flush = c.in-Some-get.ensures.lookup in
    let past = c.in-None.ensures.lookup.3 in
    let columns = ap length c.as_slice-in-Row.ensures in
    let is = row_tuple_is c.args.store.now.shape c.args.store.now.filling c.args.source c.in-Row.table c.in-Row.flush c.in-Row.row c.tables.result.now c.in-Some.shape.now c.as_slice.result.now c.in-Some-get.flush.now
    c.in-Row.is (c.tables.ensures.all ∙ ap (λ (s : ShapeParts). s.tables) c.shape.ensures) table.3.0 table.1 c.as_slice.ensures flush.3.0 flush.1 in
    sym (ap (λ t. get_or t c.args.k 0) is ∙ row_ends (values_of c.args.store.now.filling c.in-Row.table) c.in-Row.row c.args.k c.in-Some-get.flush.now (omega arith))

pub returns-in-Some-get-4 : goal.returns-in-Some-get-4
returns-in-Some-get-4 c =
    let boundary = c.in-Some-get-3.ensures.lookup in
    let value = c.in-Some-get-4.ensures.lookup in
    let is = boundary_tuple_is c.args.store.now.shape c.args.store.now.filling c.args.source c.in-Boundary.boundary c.boundaries.result.now c.in-Some-get-3.boundary.now
    c.in-Boundary.is (c.boundaries.ensures.all ∙ ap (λ (s : ShapeParts). s.boundaries) c.shape-in-Boundary.ensures) boundary.3.0 boundary.1 in
    c.number.ensures.value ∙ value.1 ∙ get_or_default c.as_slice-in-Boundary.result.now c.args.k _ 0 value.3.0 ∙ ap (λ t. get_or t c.args.k 0) (c.as_slice-in-Boundary.ensures ∙ sym is)

pub returns-in-None-get : goal.returns-in-None-get
returns-in-None-get c =
    let boundary = c.in-Some-get-3.ensures.lookup in
    let past = c.in-None-get.ensures.lookup.3 in
    let is = boundary_tuple_is c.args.store.now.shape c.args.store.now.filling c.args.source c.in-Boundary.boundary c.boundaries.result.now c.in-Some-get-3.boundary.now
    c.in-Boundary.is (c.boundaries.ensures.all ∙ ap (λ (s : ShapeParts). s.boundaries) c.shape-in-Boundary.ensures) boundary.3.0 boundary.1 in
    sym (ap (λ t. get_or t c.args.k 0) (is ∙ sym c.as_slice-in-Boundary.ensures) ∙ get_or_past c.as_slice-in-Boundary.result.now c.args.k 0 (omega arith))
