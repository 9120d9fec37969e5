use Rattle.std.proofs.Common.{ap, ◌∙◌}
use Rattle.std.proofs.lemmas.List.{with_items_is}
use Rattle.column_store.specs.Column.{packed_values}
use Rattle.column_store.proofs.Words.{stored, column_set}
use Rattle.column_store.proofs.column.Column.set.Goals as goal

pub returns : goal.returns
returns c =
    let now = with_items_is c.self.inside.words c.set_lane.new.words (c.set_lane.auto.words ∙ c.as_mut_slice.ensures.len) in
    ap (λ ws. stored c.self.inside.level (packed_values c.self.inside.level c.self.inside.count ws)) now ∙
    column_set c.self.inside.level c.self.inside.count c.args.position c.args.number c.self.inside.words.items c.as_mut_slice.result.now c.set_lane.new.words c.args.self.now
    c.self.invariant c.self.view_is c.as_mut_slice.ensures.value c.set_lane.auto.words c.requires.within c.set_lane.ensures
