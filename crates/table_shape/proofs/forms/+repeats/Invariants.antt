use Rattle.std.proofs.Common.{length}
use Rattle.table_shape.proofs.forms.+repeats.Given as goal

abbrev pub decreases-repeats : goal.decreases-repeats
decreases-repeats l = length l.terms.now
