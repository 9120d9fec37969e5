use Rattle.std.proofs.Common.{◌≡◌, Bool, true, false, not, ◌||◌, arith}
use Rattle.counting_laws.proofs.Bounds.{at_most_split, at_most_weaker}
use Rattle.counting_laws.proofs.counts_add.Goals as goal

second : (a b : Bool) → (a || b) ≡ true → not a ≡ true → b ≡ true
second true b h k = cc
second false b h k = h

pub returns : goal.returns
returns c = λ p q j k f g.
    at_most_split p (λ x. (p x || q x) ≡ true) j k
    (at_most_weaker (λ x. ((p x || q x) ≡ true) × (p x ≡ true)) (λ x. p x ≡ true) j j (λ x r. r.1) (omega arith) f)
    (at_most_weaker (λ x. ((p x || q x) ≡ true) × (not (p x) ≡ true)) (λ x. q x ≡ true) k k (λ x r. second (p x) (q x) r.0 r.1) (omega arith) g)
