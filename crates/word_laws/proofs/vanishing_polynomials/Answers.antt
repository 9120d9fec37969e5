use Rattle.word_laws.proofs.Vanishing.{vanish_zero, vanish-step, hat-add, hat_below, hat_one}
use Rattle.word_laws.proofs.vanishing_polynomials.Goals as goal

pub returns : goal.returns
returns c = record { first = vanish_zero; next = vanish-step; sum = hat-add; below = hat_below; one = hat_one }
