-- A fold in place, and folds to the end.
use Rattle.std.proofs.Common.{◌≡◌, ◌≢◌, ℕ, suc, ◌+◌, ◌*◌, ◌^◌, ◌<◌, ◌≤◌, List, [], ◌∷◌, take, drop, length, get_or, set, bit_xor, refl, sym, ◌∙◌, ap, subst, arith, length-take, get_or-set_other, get_or-set_same, below_more}
use Rattle.std.proofs.lemmas.List.{get_or-take, get_or_default, drop_all}
use Rattle.std.proofs.Math.Pow.{pow_pos}
use Rattle.std.proofs.Math.Seq.{drop-cons}
use Rattle.tower_laws.specs.Tower.{mul}
use Rattle.cube_laws.specs.Extension.{extension, fold_low}
use Rattle.cube_laws.proofs.Folding.{get_or-fold_low, length-fold_low}
use Rattle.cube_laws.proofs.Weights.{extension-fold_low}
use Rattle.cube_laws.proofs.Coordinates.{last_value}

pub value_at : (v i : ℕ) (xs : List ℕ) → v ≡ get_or xs i v → i < length xs → v ≡ get_or xs i 0
value_at v i xs h l = h ∙ get_or_default xs i v 0 l

pub same_entries : (xs ys : List ℕ) → length xs ≡ length ys → ((k : ℕ) → k < length xs → get_or xs k 0 ≡ get_or ys k 0) → xs ≡ ys
same_entries [] [] l h = refl
same_entries [] (y ∷ ys) l h = absurd (omega arith)
same_entries (x ∷ xs) [] l h = absurd (omega arith)
same_entries (x ∷ xs) (y ∷ ys) l h = let a = h 0 (omega arith) in let r = same_entries xs ys (omega arith) (λ k m. h (suc k) (omega arith)) in cc

pub fold_more : (half i r low high v : ℕ) (start table : List ℕ) → length start ≡ 2 * half → i < half → length table ≡ length start
    → ((k : ℕ) → k < i → get_or table k 0 ≡ get_or (fold_low r start) k 0) → ((k : ℕ) → i ≤ k → get_or table k 0 ≡ get_or start k 0)
    → low ≡ get_or table (2 * i) 0 → high ≡ get_or table (2 * i + 1) 0 → v ≡ bit_xor low (mul r (bit_xor low high))
    → (k : ℕ) → k < i + 1 → get_or (set table i v) k 0 ≡ get_or (fold_low r start) k 0
fold_more half i r low high v start table l s t done left hl hh hv =
    below_more (λ k. get_or (set table i v) k 0 ≡ get_or (fold_low r start) k 0) i
    (λ k m. let ne : k ≢ i = omega arith in rw get_or-set_other (done k m))
    (let lt : i < length table = omega arith in
    let a = left (2 * i) (omega arith) in
    let b = left (2 * i + 1) (omega arith) in
    let e = get_or-fold_low r i start (omega arith) in
    rw get_or-set_same (cc))

pub fold_left : (i v : ℕ) (start table : List ℕ) → ((k : ℕ) → i ≤ k → get_or table k 0 ≡ get_or start k 0) → (k : ℕ) → i + 1 ≤ k → get_or (set table i v) k 0 ≡ get_or start k 0
fold_left i v start table left k l = let ne : k ≢ i = omega arith in rw get_or-set_other (left k (omega arith))

pub fold_end : (half i r : ℕ) (start table : List ℕ) → length start ≡ 2 * half → half ≤ i → length table ≡ length start
    → ((k : ℕ) → k < i → get_or table k 0 ≡ get_or (fold_low r start) k 0) → take half table ≡ fold_low r start
fold_end half i r start table l s t done =
    let a = length-take half table in
    let b = length-fold_low r half start l in
    same_entries (take half table) (fold_low r start) (omega arith) (λ k m. get_or-take half table k 0 (omega arith) ∙ done k (omega arith))

-- ---- one coordinate after another
pub record Remains (table values point rest : List ℕ) : Type 0 where
  pub long : length table ≡ 2 ^ length rest
  pub same : extension table rest ≡ extension values point

pub opened : (xs : List ℕ) (i x : ℕ) → x ≡ get_or xs i x → i < length xs → drop i xs ≡ x ∷ drop (i + 1) xs
opened xs i x e l =
    let p : i + 1 ≡ suc i = omega arith in
    drop-cons xs i x l ∙ ap (λ w. w ∷ drop (suc i) xs) (sym e) ∙ ap (λ n. x ∷ drop n xs) (sym p)

pub length-doubled : (xs : List ℕ) (x : ℕ) (rest : List ℕ) → length xs ≡ 2 ^ length (x ∷ rest) → length xs ≡ 2 * 2 ^ length rest
length-doubled xs x rest l = let p : 2 ^ suc (length rest) ≡ 2 * 2 ^ length rest = omega arith in l ∙ p

pub set_next : (table next values point : List ℕ) (i x : ℕ) → x ≡ get_or point i x → i < length point → Remains table values point (drop i point) → next ≡ fold_low x table → Remains next values point (drop (i + 1) point)
set_next table next values point i x e l h n =
    let r : Remains table values point (x ∷ drop (i + 1) point) = subst (Remains table values point) (opened point i x e l) h in
    let rest = drop (i + 1) point in
    record {
      long = ap length n ∙ length-fold_low x (2 ^ length rest) table (length-doubled table x rest r.long);
      same = ap (λ t. extension t rest) n ∙ sym (extension-fold_low table x rest r.long) ∙ r.same;
    }

pub still_even : (table values point : List ℕ) (i : ℕ) → i < length point → Remains table values point (drop i point) → (half : ℕ) × (0 < half) × (length table ≡ 2 * half)
still_even table values point i l h =
    let r = subst (Remains table values point) (opened point i (get_or point i 0) (get_or_default point i 0 (get_or point i 0) l) l) h in
    (2 ^ length (drop (i + 1) point), pow_pos (length (drop (i + 1) point)), length-doubled table (get_or point i 0) (drop (i + 1) point) r.long)

pub all_set : (table values point : List ℕ) (i : ℕ) → length point ≤ i → Remains table values point (drop i point) → (length table ≡ 1) × (get_or table 0 0 ≡ extension values point)
all_set table values point i l h =
    let r = subst (Remains table values point) (drop_all i point l) h in
    (r.long, last_value table [] r.long ∙ r.same)
