use Rattle.std.proofs.Common.{◌≡◌, ◌^◌, ◌∙◌, Bor, List, ℕ, Some, map, sym, ap}
use Rattle.std.specs.Prelude.{option_map}
use Rattle.std.specs.Option.{option_copied}
use Rattle.std.proofs.lemmas.Result.{IfOk-weaker}
use Rattle.list_laws.specs.CeilLog.{ceil_log}
use Rattle.channel_products.specs.Channels.{leaves_of}
use Rattle.channel_products.specs.Given.{table_of}
use Rattle.channel_products.proofs.ProverSteps.{named_there}
use Rattle.channel_products.proofs.StackSteps.{all_rows_long, leaves_is, selector_whole}
use Rattle.channel_products.proofs.layers.leaf_table.Goals as goal
use Rattle.channel_products.proofs.layers.leaf_table.Goals.{in-Some, in-None}

pub lists_at-requires : goal.lists_at-requires
lists_at-requires c = (2 ^ ceil_log c.args.flush.now.rows, rw c.as_slice.ensures ((named_there c.args.tables.now c.args.flush.now c.requires.there).columns))

pub list_at-requires : goal.list_at-requires
list_at-requires c = (2 ^ ceil_log c.args.flush.now.rows, (named_there c.args.tables.now c.args.flush.now c.requires.there).selector c.in-Some.column c.in-Some.is)

pub leaves_at-requires-clause-long : goal.leaves_at-requires-clause-long
leaves_at-requires-clause-long c =
    let f = c.args.flush.now in
    let tables = c.args.tables.now in
    rw c.as_slice-2.ensures.value
    (all_rows_long (λ (r : Bor (List ℕ)). r.now) tables f.table (2 ^ ceil_log f.rows) c.args.count f.shape.columns c.in_ok-lists.lists.items c.requires.count (c.in_ok-lists.ensures ∙ ap (map (table_of tables f.table)) c.as_slice.ensures) (named_there tables f c.requires.there).columns)

pub leaves_at-requires-clause-selector : goal.leaves_at-requires-clause-selector
leaves_at-requires-clause-selector c =
    let f = c.args.flush.now in
    let tables = c.args.tables.now in
    elim c.match-flush.branch [
      | in-Some w ↦
          rw w.selector-is (selector_whole tables f.table (2 ^ ceil_log f.rows) c.args.count w.in-Some.column w.list_at.result.now c.requires.count w.list_at.ensures ((named_there tables f c.requires.there).selector w.in-Some.column w.in-Some.is))
      | in-None w ↦ rw w.selector-is tt
    ]

pub returns : goal.returns
returns c =
    let f = c.args.flush.now in
    let tables = c.args.tables.now in
    let selector : option_copied c.match-flush.selector ≡ option_map (table_of tables f.table) f.shape.selector = elim c.match-flush.branch [
      | in-Some w ↦ ap option_copied w.selector-is ∙ ap Some w.list_at.ensures ∙ ap (option_map (table_of tables f.table)) (sym w.in-Some.is)
      | in-None w ↦ ap option_copied w.selector-is ∙ ap (option_map (table_of tables f.table)) (sym w.in-None.is)
    ] in
    let lists : map (λ (r : Bor (List ℕ)). r.now) c.as_slice-2.result.now ≡ map (table_of tables f.table) f.shape.columns =
    ap (map (λ (r : Bor (List ℕ)). r.now)) c.as_slice-2.ensures.value ∙ c.in_ok-lists.ensures ∙ ap (map (table_of tables f.table)) c.as_slice.ensures in
    IfOk-weaker c.leaves_at.result _ (λ leaves. leaves.items ≡ leaves_of (table_of tables) c.args.alpha c.args.gamma f)
    (λ leaves is. is ∙ leaves_is (λ (r : Bor (List ℕ)). r.now) c.args.alpha c.args.gamma f.rows c.args.count (table_of tables f.table) f.shape c.as_slice-2.result.now (option_copied c.match-flush.selector) c.requires.count lists selector) c.leaves_at.ensures
