use Rattle.channel_tests.proofs.products.meets.Goals as goal

pub begun-requires-clause-few : goal.begun-requires-clause-few
begun-requires-clause-few c = c.rows_fit.ensures.few c.if-not-rows_fit.false 0
