use Rattle.std.proofs.Common.{◌≡◌, ◌&&◌, ◌||◌, false, codes, bytes_eq, rules, tests, sym, ap, ◌∙◌}
use Rattle.std.proofs.Math.Seq.{take-length}
use Rattle.std.specs.List.{list_any}
use Rattle.std.proofs.lemmas.Iterator.{YieldsList-from_slice}
use Rattle.std.proofs.lemmas.Iterator.Search.{any_from_yields_List}
use Rattle.table_shape.specs.declared.shape.ColumnShape.{ColumnShape}
use Rattle.witness_reader.specs.Witness.{is_committed, committed_names}
use Rattle.witness_reader.proofs.Members.{list_any-committed}
use Rattle.witness_reader.proofs.witness.is_column.Goals as goal

pub returns-else-eq : goal.returns-else-eq
returns-else-eq c =
    let any = any_from_yields_List (λ (t : ColumnShape). is_committed t.kind && bytes_eq c.args.key.now t.name) _ _ c.any.result c.any.ensures.ran (YieldsList-from_slice c.args.columns.now cc) (λ x b q k. search (rules, tests, take-length))
    ∙ list_any-committed (bytes_eq c.args.key.now) c.args.columns.now in
    let other : bytes_eq c.args.key.now (codes "rows") ≡ false = ap (bytes_eq c.args.key.now) (sym c.as_slice.ensures) ∙ sym c.eq.ensures ∙ c.if-eq.false in
    any ∙ sym (ap (λ b. b || list_any (bytes_eq c.args.key.now) (committed_names c.args.columns.now)) other)
