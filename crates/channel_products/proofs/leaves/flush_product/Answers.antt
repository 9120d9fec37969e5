use Rattle.std.proofs.Common.{◌≡◌, ◌^◌, Bor, List, ℕ, Some, map, sym, ap, ◌∙◌}
use Rattle.std.specs.Prelude.{option_map}
use Rattle.std.specs.Option.{option_copied}
use Rattle.std.proofs.lemmas.Result.{IfOk-weaker}
use Rattle.list_laws.specs.CeilLog.{ceil_log}
use Rattle.table_shape.specs.Lowering.{flush_product}
use Rattle.channel_products.specs.Given.{table_of}
use Rattle.channel_products.proofs.ProverSteps.{named_there, product_is, rows_long, selector_long}
use Rattle.channel_products.proofs.leaves.flush_product.Goals as goal
use Rattle.channel_products.proofs.leaves.flush_product.Goals.{in-Some, in-None}

pub lists_at-requires : goal.lists_at-requires
lists_at-requires c = (2 ^ ceil_log c.args.flush.now.rows, rw c.as_slice.ensures ((named_there c.args.tables.now c.args.flush.now c.requires).columns))

pub list_at-requires : goal.list_at-requires
list_at-requires c = (2 ^ ceil_log c.args.flush.now.rows, (named_there c.args.tables.now c.args.flush.now c.requires).selector c.in-Some.column c.in-Some.is)

pub rows_product-requires-clause-long : goal.rows_product-requires-clause-long
rows_product-requires-clause-long c =
    let f = c.args.flush.now in
    let tables = c.args.tables.now in
    rw c.as_slice-2.ensures.value
    (rows_long (λ (r : Bor (List ℕ)). r.now) tables f.table f.rows f.shape.columns c.in_ok-lists.lists.items (c.in_ok-lists.ensures ∙ ap (map (table_of tables f.table)) c.as_slice.ensures) (named_there tables f c.requires).columns)

pub rows_product-requires-clause-selector : goal.rows_product-requires-clause-selector
rows_product-requires-clause-selector c =
    let f = c.args.flush.now in
    let tables = c.args.tables.now in
    elim c.match-flush.branch [
      | in-Some w ↦
          rw w.selector-is (selector_long tables f.table f.rows w.in-Some.column w.list_at.result.now w.list_at.ensures ((named_there tables f c.requires).selector w.in-Some.column w.in-Some.is))
      | in-None w ↦ rw w.selector-is tt
    ]

pub returns : goal.returns
returns c =
    let f = c.args.flush.now in
    let tables = c.args.tables.now in
    let selector : option_copied c.match-flush.selector ≡ option_map (table_of tables f.table) f.shape.selector = elim c.match-flush.branch [
      | in-Some w ↦ ap option_copied w.selector-is ∙ ap Some w.list_at.ensures ∙ ap (option_map (table_of tables f.table)) (sym w.in-Some.is)
      | in-None w ↦ ap option_copied w.selector-is ∙ ap (option_map (table_of tables f.table)) (sym w.in-None.is)
    ] in
    let lists : map (λ (r : Bor (List ℕ)). r.now) c.as_slice-2.result.now ≡ map (table_of tables f.table) f.shape.columns =
    ap (map (λ (r : Bor (List ℕ)). r.now)) c.as_slice-2.ensures.value ∙ c.in_ok-lists.ensures ∙ ap (map (table_of tables f.table)) c.as_slice.ensures in
    IfOk-weaker c.rows_product.result _ (λ product. product ≡ flush_product c.args.alpha c.args.gamma (table_of tables f.table) f.rows f.shape)
    (λ product is. is ∙ product_is (λ (r : Bor (List ℕ)). r.now) c.args.alpha c.args.gamma f.rows (table_of tables f.table) f.shape c.as_slice-2.result.now (option_copied c.match-flush.selector) lists selector) c.rows_product.ensures
