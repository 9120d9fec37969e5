use Rattle.column_store.proofs.ByteDigits.{digit_within}
use Rattle.column_store.proofs.store.digits_stand_by_place.Goals as goal

pub returns : goal.returns
returns c = digit_within
