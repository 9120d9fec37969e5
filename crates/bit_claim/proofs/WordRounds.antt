-- The rounds of the sum of a batch, from tables of one value for each place in a word.
use Rattle.std.proofs.Common.{◌≡◌, ℕ, zero, suc, ◌*◌, ◌^◌, List, [], ◌∷◌, ◌++◌, length, map, get_or, bit_xor, refl, sym, ap, ◌∙◌, arith}
use Rattle.std.proofs.lemmas.List.{length-append, length-map}
use Rattle.std.specs.List.{AllByRecursion}
use Rattle.tower_laws.specs.Tower.{mul}
use Rattle.tower_laws.proofs.Field.{identity, field_terms}
use Rattle.tower_laws.proofs.Levels.{field_one}
use Rattle.tower_laws.proofs.Rules.{times_zero}
use Rattle.poly_laws.specs.Polynomial.{horner}
use Rattle.cube_laws.specs.Extension.{dot, fold_all, fold_low, kron}
use Rattle.cube_laws.specs.Form.{value, moved}
use Rattle.cube_laws.specs.SumClaim.{AllLong, round_at, row}
use Rattle.cube_laws.specs.Sums.{sum_to, tabulate}
use Rattle.cube_laws.proofs.Coordinates.{fold_all-last, folds_last, length-fold_all}
use Rattle.cube_laws.proofs.Dots.{dot-comm, dot-scale, sum_to-plus, sum_to-zeros}
use Rattle.cube_laws.proofs.Folding.{length-fold_low}
use Rattle.cube_laws.proofs.Positions.{round_is_at, value-moved}
use Rattle.cube_laws.proofs.Weights.{dot_sum, length-tabulate, sum_to-same}
use Rattle.batch_laws.specs.Batch.{batched, pair_sum}
use Rattle.batch_laws.proofs.Batching.{length-batched}
use Rattle.tensor_laws.specs.Tensor.{bits_of_table, column}
use Rattle.bit_claim.specs.Pairs.{pairs_form}
use Rattle.bit_claim.specs.Words.{part_tables}
use Rattle.bit_claim.proofs.WordSums.{batch_summed, dot_folded, length-bits_of_table, part_summed, spread_all}

-- ---- sums of products
abbrev pub pair_sums : List (List ℕ) → ℕ
pair_sums [] = 0
pair_sums (f ∷ []) = 0
pair_sums (f ∷ g ∷ fs) = bit_xor (dot f g) (pair_sums fs)

pairs_summed : (n half : ℕ) (fs : List (List ℕ)) → length fs ≡ 2 * n → AllLong half fs → sum_to half (λ p. value (pairs_form n) (row fs p)) ≡ pair_sums fs
pairs_summed zero half [] l h = sum_to-zeros half
pairs_summed zero half (f ∷ fs) l h = absurd (omega arith)
pairs_summed (suc n) half [] l h = absurd (omega arith)
pairs_summed (suc n) half (f ∷ []) l h = absurd (omega arith)
pairs_summed (suc n) half (f ∷ g ∷ fs) l h =
    sum_to-same half (λ p. value (pairs_form (suc n)) (row (f ∷ g ∷ fs) p)) (λ p. bit_xor (mul (get_or f p 0) (get_or g p 0)) (value (pairs_form n) (row fs p)))
    (λ p k. ap (bit_xor (mul (get_or f p 0) (get_or g p 0))) (value-moved (moved (pairs_form n)) (get_or f p 0) (row (g ∷ fs) p) ∙ value-moved (pairs_form n) (get_or g p 0) (row fs p)))
    ∙ sum_to-plus half (λ p. mul (get_or f p 0) (get_or g p 0)) (λ p. value (pairs_form n) (row fs p))
    ∙ (λ i. bit_xor (sym (dot_sum half f g h.1.0) i) (pairs_summed n half fs (omega arith) h.1.1 i))

long_folded : (r half : ℕ) (fs : List (List ℕ)) → AllLong (2 * half) fs → AllLong half (map (fold_low r) fs)
long_folded r half [] h = tt
long_folded r half (f ∷ fs) h = (length-fold_low r half f h.0, long_folded r half fs h.1)

pairs_round : (j n r : ℕ) (fs : List (List ℕ)) → length fs ≡ 2 * j → AllLong (2 * 2 ^ n) fs → pair_sums (map (fold_low r) fs) ≡ round_at (record { form = pairs_form j; lists = fs }) [] n r
pairs_round j n r fs l h =
    round_is_at (pair_sums (map (fold_low r) fs)) n r (2 ^ n) (pairs_form j) fs (sym (pairs_summed j (2 ^ n) (map (fold_low r) fs) (length-map fs (fold_low r) ∙ l) (long_folded r (2 ^ n) fs h))) refl h

pair_round : (n r : ℕ) (f g : List ℕ) → length f ≡ 2 * 2 ^ n → length g ≡ 2 * 2 ^ n → dot (fold_low r f) (fold_low r g) ≡ round_at (pair_sum f g) [] n r
pair_round n r f g k l =
    round_is_at (dot (fold_low r f) (fold_low r g)) n r (2 ^ n) (pair_sum f g).form (f ∷ g ∷ []) (dot_sum (2 ^ n) (fold_low r f) (fold_low r g) (length-fold_low r (2 ^ n) g l)) refl (k, (l, tt))

-- ---- the tables of a batch's parts
scaled_folded : (m f : ℕ) (rs low ts : List ℕ) → length low ≡ m * 2 ^ length rs → dot (fold_all rs (map (mul f) low)) ts ≡ mul f (dot (fold_all rs low) ts)
scaled_folded m f rs low ts e =
    sym (dot_folded m rs (map (mul f) low) ts (length-map low (mul f) ∙ e)) ∙ dot-scale f low (spread_all rs ts) ∙ ap (mul f) (dot_folded m rs low ts e)

next_power : (f a l h : ℕ) → mul f (bit_xor a (mul l h)) ≡ bit_xor (mul f a) (mul (mul f l) h)
next_power f a l h = identity (f ∷ a ∷ l ∷ h ∷ []) (search field_terms depth 60 fits 20000) refl

module _ {X : Type 0} (low : X → List ℕ) (high : X → List ℕ) (n m : ℕ) (rs words : List ℕ) (lambda : ℕ) (size : n ≡ m * 2 ^ length rs) where
  abbrev against : X → ℕ
  against c = dot (fold_all rs (kron (low c) (high c))) (fold_all rs (bits_of_table n words))

  pub parts_summed : (f : ℕ) (cs : List X) → AllByRecursion (λ c. length (low c) ≡ n) cs → mul f (horner (map against cs) lambda) ≡ pair_sums (map (fold_all rs) (part_tables low high n words lambda f cs))
  parts_summed f [] h = sym (times_zero f)
  parts_summed f (c ∷ cs) h =
      let v = tabulate n (column (high c) words) in
      next_power f (against c) lambda (horner (map against cs) lambda)
      ∙ (λ i. bit_xor
      ((ap (mul f) (dot-comm (fold_all rs (kron (low c) (high c))) (fold_all rs (bits_of_table n words)) ∙ part_summed n m rs words (low c) (high c) size h.0 ∙ dot-comm (fold_all rs v) (fold_all rs (low c)))
      ∙ sym (scaled_folded m f rs (low c) (fold_all rs v) (h.0 ∙ size))) i)
      (parts_summed (mul f lambda) cs h.1 i))

pub length-part_tables : {X : Type 0} (low high : X → List ℕ) (n : ℕ) (words : List ℕ) (lambda f : ℕ) (cs : List X) → length (part_tables low high n words lambda f cs) ≡ 2 * length cs
length-part_tables low high n words lambda f [] = refl
length-part_tables low high n words lambda f (c ∷ cs) = let h = length-part_tables low high n words lambda (mul f lambda) cs in omega (arith, h)

pub long_parts : {X : Type 0} (low high : X → List ℕ) (n m : ℕ) (rs words : List ℕ) (lambda f : ℕ) (cs : List X) → n ≡ m * 2 ^ length rs → AllByRecursion (λ c. length (low c) ≡ n) cs → AllLong m (map (fold_all rs) (part_tables low high n words lambda f cs))
long_parts low high n m rs words lambda f [] size h = tt
long_parts low high n m rs words lambda f (c ∷ cs) size h =
    (length-fold_all m rs (map (mul f) (low c)) (length-map (low c) (mul f) ∙ h.0 ∙ size), (length-fold_all m rs (tabulate n (column (high c) words)) (length-tabulate n (column (high c) words) ∙ size), long_parts low high n m rs words lambda (mul f lambda) cs size h.1))

pub map_twice : {X : Type 0} (f : List ℕ → ℕ) (g : X → List ℕ) (cs : List X) → map f (map g cs) ≡ map (λ c. f (g c)) cs
map_twice f g [] = refl
map_twice f g (c ∷ cs) = ap (λ l. f (g c) ∷ l) (map_twice f g cs)

twice_as_many : (a k : ℕ) → a * 2 ^ suc k ≡ 2 * a * 2 ^ k
twice_as_many a k =
    let p : 2 ^ suc k ≡ 2 * 2 ^ k = omega arith in
    let q : a * (2 * 2 ^ k) ≡ 2 * a * 2 ^ k = grind arith in
    ap (λ w. a * w) p ∙ q

in_all : (w n m b p : ℕ) → n ≡ m * p → w * m ≡ b → w * n ≡ b * p
in_all w n m b p e f =
    let q : w * (m * p) ≡ w * m * p = grind arith in
    ap (λ k. w * k) e ∙ q ∙ ap (λ k. k * p) f

-- as long as variables of the place in a word are left, the rounds are those of the parts' tables
pub rounds_agree : {X : Type 0} (low high : X → List ℕ) (n a b lambda r : ℕ) (rs words : List ℕ) (cs : List X) → n ≡ 2 ^ a * 2 ^ suc (length rs) → length words * 2 ^ a ≡ 2 ^ b
    → AllByRecursion (λ c. length (low c) ≡ n) cs → AllLong (length words * n) (map (λ c. kron (low c) (high c)) cs)
    → round_at (pair_sum (fold_all rs (batched (length words * n) lambda (map (λ c. kron (low c) (high c)) cs))) (fold_all rs (bits_of_table n words))) [] b r
    ≡ round_at (record { form = pairs_form (length cs); lists = map (fold_all rs) (part_tables low high n words lambda 1 cs) }) [] a r
rounds_agree low high n a b lambda r rs words cs part all lows long =
    let size = length words * n in
    let ts = map (λ c. kron (low c) (high c)) cs in
    let table = batched size lambda ts in
    let bits = bits_of_table n words in
    let tables = part_tables low high n words lambda 1 cs in
    let next = rs ++ r ∷ [] in
    let more : suc (length rs) ≡ length next = omega (arith, length-append rs (r ∷ [])) in
    let whole : size ≡ 2 ^ b * 2 ^ suc (length rs) = in_all (length words) n (2 ^ a) (2 ^ b) (2 ^ suc (length rs)) part all in
    let half : size ≡ 2 * 2 ^ b * 2 ^ length rs = whole ∙ twice_as_many (2 ^ b) (length rs) in
    let part_next : n ≡ 2 ^ a * 2 ^ length next = part ∙ ap (λ k. 2 ^ a * 2 ^ k) more in
    let part_half : n ≡ 2 * 2 ^ a * 2 ^ length rs = part ∙ twice_as_many (2 ^ a) (length rs) in
    sym (pair_round b r (fold_all rs table) (fold_all rs bits) (length-fold_all (2 * 2 ^ b) rs table (length-batched size lambda ts long ∙ half)) (length-fold_all (2 * 2 ^ b) rs bits (length-bits_of_table n words ∙ half)))
    ∙ (λ i. dot (sym (fold_all-last rs table r) i) (sym (fold_all-last rs bits r) i))
    ∙ batch_summed size (2 ^ b) lambda next bits ts long (whole ∙ ap (λ k. 2 ^ b * 2 ^ k) more)
    ∙ ap (λ vs. horner vs lambda) (map_twice (λ t. dot (fold_all next t) (fold_all next bits)) (λ c. kron (low c) (high c)) cs)
    ∙ sym (field_one (horner (map (λ c. dot (fold_all next (kron (low c) (high c))) (fold_all next bits)) cs) lambda))
    ∙ parts_summed low high n (2 ^ a) next words lambda part_next 1 cs lows
    ∙ ap pair_sums (sym (folds_last rs r tables))
    ∙ pairs_round (length cs) a r (map (fold_all rs) tables) (length-map tables (fold_all rs) ∙ length-part_tables low high n words lambda 1 cs) (long_parts low high n (2 * 2 ^ a) rs words lambda 1 cs part_half lows)
