-- Hats, words and folds of numbers of a level stay in the level.
use Rattle.std.proofs.Common.{ℕ, zero, suc, ◌+◌, ◌*◌, ◌^◌, ◌<◌, ◌≤◌, eqb, Bool, true, false, cond, List, get_or, bit_xor, arith}
use Rattle.std.proofs.lemmas.Nat.{pow_below}
use Rattle.tower_laws.specs.Tower.{mul}
use Rattle.tower_laws.specs.Inverse.{inverse}
use Rattle.tower_laws.specs.Lists.{AllFit}
use Rattle.tower_laws.proofs.Inverses.{inverse_lt}
use Rattle.tower_laws.proofs.Levels.{mul_lt, one_lt_size, size_pos}
use Rattle.tower_laws.proofs.Lists.{xor_fits, get_or_fits}
use Rattle.cube_laws.specs.Sums.{sum_to, product_to}
use Rattle.cube_laws.specs.Extension.{bit}
use Rattle.word_laws.specs.CodeWord.{vanish, hat, word, fold_pair}

pub product_to_fits : (l n : ℕ) (f : ℕ → ℕ) → ((k : ℕ) → k < n → f k < 2 ^ (2 ^ l)) → product_to n f < 2 ^ (2 ^ l)
product_to_fits l zero f h = one_lt_size l
product_to_fits l (suc n) f h = mul_lt l (f 0) (product_to n (λ k. f (suc k))) (h 0 (omega arith)) (product_to_fits l n (λ k. f (suc k)) (λ k m. h (suc k) (omega arith)))

pub sum_to_fits : (l n : ℕ) (f : ℕ → ℕ) → ((k : ℕ) → k < n → f k < 2 ^ (2 ^ l)) → sum_to n f < 2 ^ (2 ^ l)
sum_to_fits l zero f h = size_pos l
sum_to_fits l (suc n) f h = xor_fits l (f 0) (sum_to n (λ k. f (suc k))) (h 0 (omega arith)) (sum_to_fits l n (λ k. f (suc k)) (λ k m. h (suc k) (omega arith)))

vanish_fits : (l i x : ℕ) → i < 2 ^ l → x < 2 ^ (2 ^ l) → vanish i x < 2 ^ (2 ^ l)
unfolding vanish
vanish_fits l i x h k = product_to_fits l (2 ^ i) (bit_xor x) (λ u m. xor_fits l x u k (let p = pow_below i (2 ^ l) h in omega arith))

pub hat_fits : (l i x : ℕ) → i < 2 ^ l → x < 2 ^ (2 ^ l) → hat i x < 2 ^ (2 ^ l)
unfolding hat
hat_fits l i x h k = mul_lt l (vanish i x) (inverse (vanish i (2 ^ i))) (vanish_fits l i x h k) (inverse_lt l (vanish i (2 ^ i)) (vanish_fits l i (2 ^ i) h (pow_below i (2 ^ l) h)))

pub word_fits : (l j k p : ℕ) (table : List ℕ) → AllFit l table → j + k ≤ 2 ^ l → p * 2 ^ j < 2 ^ (2 ^ l) → word j k table p < 2 ^ (2 ^ l)
word_fits l j k p table h n m =
    sum_to_fits l (2 ^ k) (λ w. mul (get_or table w 0) (product_to k (λ i. cond (eqb (bit w i) 1) (hat (j + i) (p * 2 ^ j)) 1)))
    (λ w _. mul_lt l (get_or table w 0) (product_to k (λ i. cond (eqb (bit w i) 1) (hat (j + i) (p * 2 ^ j)) 1)) (get_or_fits l w table h)
    (product_to_fits l k (λ i. cond (eqb (bit w i) 1) (hat (j + i) (p * 2 ^ j)) 1) (λ i b. either (eqb (bit w i) 1) (hat (j + i) (p * 2 ^ j)) (hat_fits l (j + i) (p * 2 ^ j) (omega arith) m))))
  where
    either : (t : Bool) (x : ℕ) → x < 2 ^ (2 ^ l) → cond t x 1 < 2 ^ (2 ^ l)
    either true x h = h
    either false x h = one_lt_size l

pub fold_pair_fits : (l r x f g : ℕ) → r < 2 ^ (2 ^ l) → x < 2 ^ (2 ^ l) → f < 2 ^ (2 ^ l) → g < 2 ^ (2 ^ l) → fold_pair r x f g < 2 ^ (2 ^ l)
fold_pair_fits l r x f g hr hx hf hg =
    xor_fits l _ _
    (mul_lt l (bit_xor 1 r) (bit_xor (mul (bit_xor x 1) f) (mul x g)) (xor_fits l 1 r (one_lt_size l) hr)
    (xor_fits l (mul (bit_xor x 1) f) (mul x g) (mul_lt l (bit_xor x 1) f (xor_fits l x 1 hx (one_lt_size l)) hf) (mul_lt l x g hx hg)))
    (mul_lt l r (bit_xor f g) hr (xor_fits l f g hf hg))
