-- Lists taken two by two.
use Rattle.std.proofs.Common.{◌≡◌, ℕ, zero, suc, ◌+◌, ◌*◌, ◌/◌, ◌^◌, ◌<◌, List, [], ◌∷◌, ◌++◌, length, take, get_or, bit_xor, refl, sym, ◌∙◌, ap, arith}
use Rattle.std.proofs.Math.Nat.{div-mul-le_self}
use Rattle.tower_laws.specs.Tower.{mul}
use Rattle.tower_laws.proofs.Field.{identity, field_terms}
use Rattle.word_laws.specs.CodeWord.{fold_pair}
use Rattle.fri_fold.specs.Folds.{pairs}

-- a fold by two products
pub fold_pair_by_two : (r x f g : ℕ) → bit_xor (bit_xor f (mul x (bit_xor f g))) (mul r (bit_xor (bit_xor f (mul x (bit_xor f g))) (bit_xor f g))) ≡ fold_pair r x f g
fold_pair_by_two r x f g = identity (r ∷ x ∷ f ∷ g ∷ []) (search field_terms depth 60 fits 20000) refl

-- one pair more
more : {X : Type 0} (make : ℕ → ℕ → ℕ → X) (p n : ℕ) (word : List ℕ) → 2 * n + 1 < length word
    → pairs make p (take (2 * suc n) word) ≡ pairs make p (take (2 * n) word) ++ make (p + n) (get_or word (2 * n) 0) (get_or word (2 * n + 1) 0) ∷ []
more make p n [] l = absurd (omega arith)
more make p n (f ∷ []) l = absurd (omega arith)
more make p zero (f ∷ g ∷ word) l = let z : p ≡ p + 0 = omega arith in ap (λ q. make q f g ∷ []) z
more make p (suc n) (f ∷ g ∷ word) l =
    let h = more make (suc p) n word (omega arith) in
    let a : 2 * suc (suc n) ≡ suc (suc (2 * suc n)) = omega arith in
    let b : suc (suc (2 * n)) ≡ 2 * suc n = omega arith in
    let c : suc (suc (2 * n + 1)) ≡ 2 * suc n + 1 = omega arith in
    let d : suc p + n ≡ p + suc n = omega arith in
    ap (λ k. pairs make p (take k (f ∷ g ∷ word))) a ∙ ap (λ k. make p f g ∷ k) h
    ∙ (λ i. pairs make p (take (b i) (f ∷ g ∷ word)) ++ make (d i) (get_or (f ∷ g ∷ word) (b i) 0) (get_or (f ∷ g ∷ word) (c i) 0) ∷ [])

pub pairs_push : {X : Type 0} (make : ℕ → ℕ → ℕ → X) (n : ℕ) (v : X) (word : List ℕ) → 2 * n + 1 < length word → v ≡ make n (get_or word (2 * n) 0) (get_or word (2 * n + 1) 0)
    → pairs make 0 (take (2 * n) word) ++ v ∷ [] ≡ pairs make 0 (take (2 * (n + 1)) word)
pairs_push make n v word l e =
    let z : n ≡ 0 + n = omega arith in
    let s : suc n ≡ n + 1 = omega arith in
    ap (λ w. pairs make 0 (take (2 * n) word) ++ w ∷ []) (e ∙ ap (λ q. make q (get_or word (2 * n) 0) (get_or word (2 * n + 1) 0)) z) ∙ sym (more make 0 n word l) ∙ ap (λ q. pairs make 0 (take (2 * q) word)) s

all : {X : Type 0} (make : ℕ → ℕ → ℕ → X) (p n : ℕ) (word : List ℕ) → n ≡ length word / 2 → pairs make p (take (2 * n) word) ≡ pairs make p word
all make p zero [] e = refl
all make p (suc n) [] e = absurd (omega arith)
all make p zero (f ∷ []) e = refl
all make p (suc n) (f ∷ []) e = absurd (omega arith)
all make p zero (f ∷ g ∷ word) e = absurd (omega arith)
all make p (suc n) (f ∷ g ∷ word) e =
    let a : 2 * suc n ≡ suc (suc (2 * n)) = omega arith in
    ap (λ k. pairs make p (take k (f ∷ g ∷ word))) a ∙ ap (λ k. make p f g ∷ k) (all make (suc p) n word (omega arith))

pub pairs_all : {X : Type 0} (make : ℕ → ℕ → ℕ → X) (n : ℕ) (word : List ℕ) → n ≡ length word / 2 → pairs make 0 (take (2 * n) word) ≡ pairs make 0 word
pairs_all make n word e = all make 0 n word e

pub place_within : (index round n : ℕ) → 2 * index < 2 ^ n → (2 * (index / 2 ^ round)) * 2 ^ round < 2 ^ n
place_within index round n l = let m = div-mul-le_self index (2 ^ round) in let e : (2 * (index / 2 ^ round)) * 2 ^ round ≡ 2 * (index / 2 ^ round * 2 ^ round) = grind arith in omega arith
