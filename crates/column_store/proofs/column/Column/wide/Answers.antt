use Rattle.column_store.proofs.Packs.{column_within, column_wide}
use Rattle.column_store.proofs.column.Column.wide.Goals as goal

pub lane_of-requires-clause-in_words : goal.lane_of-requires-clause-in_words
lane_of-requires-clause-in_words c =
    column_within c.self.inside.level c.args.log c.self.inside.count c.args.block c.self.inside.words.items c.as_slice.result.now c.args.self.now
    c.self.invariant c.self.view_is c.as_slice.ensures.value c.requires.fits c.requires.within

pub returns : goal.returns
returns c =
    column_wide c.self.inside.level c.args.log c.self.inside.count c.args.block c.lane_of.result c.self.inside.words.items c.as_slice.result.now c.args.self.now
    c.self.invariant c.self.view_is c.as_slice.ensures.value c.requires.fits c.requires.within c.lane_of.ensures.value
