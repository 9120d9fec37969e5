-- Honest openings pass.
use Rattle.std.proofs.Common.{◌≡◌, ℕ, zero, suc, ◌+◌, ◌-◌, ◌*◌, ◌/◌, ◌%◌, ◌^◌, ◌<◌, List, [], ◌∷◌, ◌++◌, cond, eqb, get_or, length, replicate, take, subst, refl, sym, ◌∙◌, ap, arith}
use Rattle.std.proofs.Math.Nat.{div-div-eq-div-mul, div-lt_iff_lt-mul}
use Rattle.std.proofs.lemmas.Nat.{pow_pos}
use Rattle.std.proofs.lemmas.List.{take_at, drop_at, take_all, take_more, length-take}
use Rattle.std.specs.Int.{w128, to_le_bytes, from_le_bytes}
use Rattle.tower_field.proofs.BytesAgain.{number_again}
use Rattle.cube_laws.specs.Extension.{extension}
use Rattle.word_laws.specs.CodeWord.{hat, fold_pair}
use Rattle.hash_tree.specs.Tree.{IsRoot, IsPath}
use Rattle.hash_tree.proofs.OwnPaths.{own_path}
use Rattle.fri_fold.specs.Folds.{pairs, folded, leaves, word_after}
use Rattle.fri_fold.specs.Prover.{Folding, leaves_at}
use Rattle.fri_fold.specs.Query.{Check, Passes, after, first, second, opened_of}
use Rattle.fri_fold.specs.Honest.{IsHonest, leaf_at, word_at}
use Rattle.fri_fold.proofs.Proving.{length-leaves_at, length-word, place_in}
use Rattle.fri_fold.proofs.Words.{next_word, last_word_is}

-- ---- what stands at a place of a list of pairs
pairs_at : {X : Type 0} (make : ℕ → ℕ → ℕ → X) (p q : ℕ) (w : List ℕ) (d : X) → 2 * q + 1 < length w → get_or (pairs make p w) q d ≡ make (p + q) (get_or w (2 * q) 0) (get_or w (2 * q + 1) 0)
pairs_at make p q [] d l = absurd (omega arith)
pairs_at make p q (f ∷ []) d l = absurd (omega arith)
pairs_at make p zero (f ∷ g ∷ w) d l = let z : p ≡ p + 0 = omega arith in ap (λ k. make k f g) z
pairs_at make p (suc q) (f ∷ g ∷ w) d l =
    let h = pairs_at make (suc p) q w d (omega arith) in
    let a : suc p + q ≡ p + suc q = omega arith in
    let b : suc (suc (2 * q)) ≡ 2 * suc q = omega arith in
    let c : suc (suc (2 * q + 1)) ≡ 2 * suc q + 1 = omega arith in
    h ∙ (λ i. make (a i) (get_or (f ∷ g ∷ w) (b i) 0) (get_or (f ∷ g ∷ w) (c i) 0))

-- the two values of a leaf of a word whose values are below 2 ^ 128
pub leaf_first : (w : List ℕ) (q : ℕ) → 2 * q + 1 < length w → get_or w (2 * q) 0 < 2 ^ 128 → first (get_or (leaves w) q []) ≡ get_or w (2 * q) 0
leaf_first w q l s =
    ap first (pairs_at (λ p f g. to_le_bytes w128 f ++ to_le_bytes w128 g) 0 q w [] l)
    ∙ ap (from_le_bytes w128) (take_at (to_le_bytes w128 (get_or w (2 * q) 0)) (to_le_bytes w128 (get_or w (2 * q + 1) 0)) 16 refl)
    ∙ number_again (get_or w (2 * q) 0) s

pub leaf_second : (w : List ℕ) (q : ℕ) → 2 * q + 1 < length w → get_or w (2 * q + 1) 0 < 2 ^ 128 → second (get_or (leaves w) q []) ≡ get_or w (2 * q + 1) 0
leaf_second w q l s =
    ap second (pairs_at (λ p f g. to_le_bytes w128 f ++ to_le_bytes w128 g) 0 q w [] l)
    ∙ ap (from_le_bytes w128) (drop_at (to_le_bytes w128 (get_or w (2 * q) 0)) (to_le_bytes w128 (get_or w (2 * q + 1) 0)) 16 refl)
    ∙ number_again (get_or w (2 * q + 1) 0) s

-- the one of two neighbours that stands at n
chosen : (w : List ℕ) (n q : ℕ) → q ≡ n / 2 → cond (eqb (n % 2) 1) (get_or w (2 * q + 1) 0) (get_or w (2 * q) 0) ≡ get_or w n 0
chosen w n q e = go (n % 2) refl
  where
    go : (b : ℕ) → n % 2 ≡ b → cond (eqb (n % 2) 1) (get_or w (2 * q + 1) 0) (get_or w (2 * q) 0) ≡ get_or w n 0
    go zero h = let k : 2 * q ≡ n = omega arith in ap (λ b. cond (eqb b 1) (get_or w (2 * q + 1) 0) (get_or w (2 * q) 0)) h ∙ ap (λ m. get_or w m 0) k
    go (suc zero) h = let k : 2 * q + 1 ≡ n = omega arith in ap (λ b. cond (eqb b 1) (get_or w (2 * q + 1) 0) (get_or w (2 * q) 0)) h ∙ ap (λ m. get_or w m 0) k
    go (suc (suc b)) h = absurd (omega arith)

-- the place above
above : (n j : ℕ) → 0 < j → n / 2 ^ j ≡ n / 2 ^ (j - 1) / 2
above n zero l = absurd (omega arith)
above n (suc j) l =
    let e : suc j - 1 ≡ j = omega arith in
    let p : 2 ^ suc j ≡ 2 ^ j * 2 = omega arith in
    ap (λ k. n / k) p ∙ sym (div-div-eq-div-mul n (2 ^ j) 2) ∙ ap (λ k. n / 2 ^ k / 2) (sym e)

-- the length of the word in a round
pub length-word_at : (f : Folding) (j : ℕ) → j < f.log → length f.draws ≡ f.log → length (word_at f j) ≡ 2 * 2 ^ (f.log + 1 - j)
length-word_at f j l e =
    let t = length-take j f.draws in
    let n : length (take j f.draws) ≡ j = omega arith in
    let s : f.log + 2 - j ≡ suc (f.log + 1 - j) = omega arith in
    let p : 2 ^ suc (f.log + 1 - j) ≡ 2 * 2 ^ (f.log + 1 - j) = omega arith in
    length-word f.log f.table (take j f.draws) ∙ ap (λ k. 2 ^ (f.log + 2 - k)) n ∙ ap (λ k. 2 ^ k) s ∙ p

pub honest_passes : (f : Folding) (c : Check) (root path : List ℕ) → IsHonest f c → IsRoot (leaves_at f c.round) root → IsPath (leaves_at f c.round) (c.index / 2 ^ c.round) path → Passes c root (leaf_at f c) path
honest_passes f c root path h r p =
    let n = length-leaves_at f c.round h.round (sym h.folds) in
    let b = place_in f c.index c.round (leaves_at f c.round) h.round (sym h.folds) h.index refl in
    let w = length-word_at f c.round h.round h.folds in
    let l : 2 * (c.index / 2 ^ c.round) + 1 < length (word_at f c.round) = omega arith in
    let a = leaf_first (word_at f c.round) (c.index / 2 ^ c.round) l (h.small (2 * (c.index / 2 ^ c.round))) in
    let d = leaf_second (word_at f c.round) (c.index / 2 ^ c.round) l (h.small (2 * (c.index / 2 ^ c.round) + 1)) in (
      own_path (leaves_at f c.round) root path (f.log + 1 - c.round) (c.index / 2 ^ c.round) n b r p,
      (λ m. h.fold m ∙ sym (chosen (word_at f c.round) (c.index / 2 ^ (c.round - 1)) (c.index / 2 ^ c.round) (above c.index c.round m)) ∙ sym (λ i. opened_of c (a i) (d i))),
    )

pub honest_folds : (f : Folding) (c : Check) → IsHonest f c → (after c (get_or f.draws c.round 0) (leaf_at f c)).fold ≡ get_or (word_at f (c.round + 1)) (c.index / 2 ^ c.round) 0
honest_folds f c h =
    let n = length-leaves_at f c.round h.round (sym h.folds) in
    let b = place_in f c.index c.round (leaves_at f c.round) h.round (sym h.folds) h.index refl in
    let w = length-word_at f c.round h.round h.folds in
    let l : 2 * (c.index / 2 ^ c.round) + 1 < length (word_at f c.round) = omega arith in
    let a = leaf_first (word_at f c.round) (c.index / 2 ^ c.round) l (h.small (2 * (c.index / 2 ^ c.round))) in
    let d = leaf_second (word_at f c.round) (c.index / 2 ^ c.round) l (h.small (2 * (c.index / 2 ^ c.round) + 1)) in
    let r : ℕ = get_or f.draws c.round 0 in
    let z : c.index / 2 ^ c.round ≡ 0 + c.index / 2 ^ c.round = omega arith in
    let t = length-take c.round f.draws in
    let e : length (take c.round f.draws) ≡ c.round = omega (arith, h.folds, h.round) in
    let m = take_more f.draws c.round 0 (omega (arith, h.folds, h.round)) in
    (λ i. fold_pair (get_or f.draws c.round 0) (hat c.round ((2 * (c.index / 2 ^ c.round)) * 2 ^ c.round)) (a i) (d i))
    ∙ ap (λ k. fold_pair (get_or f.draws c.round 0) (hat c.round ((2 * k) * 2 ^ c.round)) (get_or (word_at f c.round) (2 * (c.index / 2 ^ c.round)) 0) (get_or (word_at f c.round) (2 * (c.index / 2 ^ c.round) + 1) 0)) z
    ∙ sym (pairs_at (λ p f g. fold_pair r (hat c.round ((2 * p) * 2 ^ c.round)) f g) 0 (c.index / 2 ^ c.round) (word_at f c.round) 0 l)
    ∙ ap (λ k. get_or (folded k (get_or f.draws c.round 0) (word_at f c.round)) (c.index / 2 ^ c.round) 0) (sym e)
    ∙ ap (λ k. get_or k (c.index / 2 ^ c.round) 0) (next_word f.log (get_or f.draws c.round 0) f.table (take c.round f.draws) h.full (omega (arith, h.round)) ∙ ap (word_after f.log f.table) (sym m))

-- each of four equal values
one_of_four : (e p : ℕ) → p < 4 → get_or (replicate 4 e) p 0 ≡ e
one_of_four e zero l = refl
one_of_four e (suc zero) l = refl
one_of_four e (suc (suc zero)) l = refl
one_of_four e (suc (suc (suc zero))) l = refl
one_of_four e (suc (suc (suc (suc p)))) l = absurd (omega arith)

-- the fold of the last round is the constant
pub honest_constant : (f : Folding) (c : Check) → IsHonest f c → c.round + 1 ≡ f.log → (after c (get_or f.draws c.round 0) (leaf_at f c)).fold ≡ extension f.table f.draws
honest_constant f c h e =
    let i = h.index in
    let n : f.log + 1 ≡ suc (suc c.round) = omega arith in
    let q : 2 ^ suc (suc c.round) ≡ 4 * 2 ^ c.round = omega arith in
    let u : c.index < 4 * 2 ^ c.round = subst (λ k. c.index < k) (ap (λ k. 2 ^ k) n ∙ q) i in
    let v : c.index / 2 ^ c.round < 4 = (div-lt_iff_lt-mul (pow_pos c.round)).1 u in
    let t = take_all (c.round + 1) f.draws (omega (arith, h.folds)) in
    honest_folds f c h
    ∙ ap (λ k. get_or (word_after f.log f.table k) (c.index / 2 ^ c.round) 0) t
    ∙ ap (λ k. get_or k (c.index / 2 ^ c.round) 0) (last_word_is f.log f.table f.draws h.full h.folds)
    ∙ one_of_four (extension f.table f.draws) (c.index / 2 ^ c.round) v
