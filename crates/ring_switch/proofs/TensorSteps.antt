-- Steps of the tensor.
use Rattle.std.proofs.Common.{◌≡◌, ◌∙◌, ℕ, zero, suc, ◌+◌, ◌-◌, ◌^◌, ◌<◌, ◌≤◌, inl, inr, List, [], ◌∷◌, drop, map, length, get_or, set, bit_xor, refl, sym, ap, subst, arith}
use Rattle.std.proofs.Math.ListN.{length-set}
use Rattle.std.proofs.lemmas.List.{drop_all, get_or_default, get_or-set_other}
use Rattle.std.proofs.lemmas.Bool.{cases_lt}
use Rattle.std.proofs.lemmas.Grind.{get_or-set_at}
use Rattle.tower_laws.specs.Tower.{mul}
use Rattle.tower_laws.specs.Lists.{sums, AllFit}
use Rattle.tower_laws.proofs.Field.{identity, field_terms}
use Rattle.cube_laws.specs.Sums.{product_to, sum_to, tabulate}
use Rattle.cube_laws.specs.Extension.{bit, dot, eq, extension, weights}
use Rattle.cube_laws.proofs.Positions.{sum_to-more}
use Rattle.cube_laws.proofs.Tabulate.{entries, map-tabulate, sums-tabulate, tabulated}
use Rattle.cube_laws.proofs.Weights.{by_weights_is, product_to-same, tabulate-same}
use Rattle.sumcheck.proofs.RowSteps.{opened_at}
use Rattle.tensor_laws.specs.Tensor.{row}
use Rattle.tensor_laws.proofs.Crossing.{rows_at}
use Rattle.tensor_laws.specs.Switch.{combined, scaled, tensor_eq, transposed}
use Rattle.ring_switch.proofs.Padding.{get_or-padded, length-padded, padded, padded-fit, row-padded}
use Rattle.tensor_laws.proofs.Switching.{combined_is, tensor_rows, transposed_is}

-- ---- 128 numbers, one by one
-- the first u of 128 numbers are those of f
pub record Filled (f : ℕ → ℕ) (u : ℕ) (xs : List ℕ) : Type 0 where
  pub long : length xs ≡ 128
  pub done : (k : ℕ) → k < u → get_or xs k 0 ≡ f k

more_done : (f : ℕ → ℕ) (u v : ℕ) (xs : List ℕ) → u < length xs → v ≡ f u → ((k : ℕ) → k < u → get_or xs k 0 ≡ f k) → (k : ℕ) → k < u + 1 → get_or (set xs u v) k 0 ≡ f k
more_done f u v xs l e h k m = elim (cases_lt k u) [
  | inl below ↦ get_or-set_other xs u k v 0 (omega arith) ∙ h k below
  | inr above ↦ let same : k ≡ u = omega arith in get_or-set_at xs u k v 0 same l ∙ e ∙ ap f (sym same)
]

pub more_filled : (f : ℕ → ℕ) (u v : ℕ) (xs : List ℕ) → u < 128 → v ≡ f u → Filled f u xs → Filled f (u + 1) (set xs u v)
more_filled f u v xs l e h = record { long = length-set xs u v ∙ h.long; done = more_done f u v xs (let n = h.long in omega arith) e h.done }

pub all_filled : (f : ℕ → ℕ) (u : ℕ) (xs : List ℕ) → 128 ≤ u → Filled f u xs → xs ≡ tabulate 128 f
all_filled f u xs l h = entries 128 f xs h.long (λ k m. h.done k (omega arith))

-- ---- rows read across
pub across_is : (old numbers new across : List ℕ) → length old ≡ 128 → numbers ≡ old → length across ≡ 128 → across ≡ new → AllFit 7 across
    → ((u v : ℕ) → u < 128 → v < 128 → bit (get_or new u 0) v ≡ bit (get_or numbers v 0) u) → across ≡ transposed 128 old
across_is old numbers new across l n m e fit h =
    transposed_is 128 old across l m fit (λ u v j k. ap (λ xs. bit (get_or xs u 0) v) e ∙ h u v j k ∙ ap (λ xs. bit (get_or xs v 0) u) n)

pub products_are : (c : ℕ) (xs ys : List ℕ) → length xs ≡ 128 → ys ≡ tabulate 128 (λ k. mul c (get_or xs k 0)) → ys ≡ map (mul c) xs
products_are c xs ys l e = e ∙ sym (map-tabulate 128 (mul c) (λ k. get_or xs k 0)) ∙ ap (map (mul c)) (tabulated 128 xs l)

pub sums_are : (xs ys zs : List ℕ) → length xs ≡ 128 → length ys ≡ 128 → zs ≡ tabulate 128 (λ k. bit_xor (get_or xs k 0) (get_or ys k 0)) → zs ≡ sums xs ys
sums_are xs ys zs l m e = e ∙ sym (sums-tabulate 128 (λ k. get_or xs k 0) (λ k. get_or ys k 0)) ∙ (λ i. sums (tabulated 128 xs l i) (tabulated 128 ys m i))

-- ---- eq of a point and a corner
abbrev factor : List ℕ → ℕ → ℕ → ℕ
factor z p k = bit_xor (mul (get_or z k 0) (bit p k)) (mul (bit_xor 1 (get_or z k 0)) (bit_xor 1 (bit p k)))

pub factor_one : (x b : ℕ) → b ≡ 1 → x ≡ bit_xor (mul x b) (mul (bit_xor 1 x) (bit_xor 1 b))
factor_one x b h = subst (λ b. x ≡ bit_xor (mul x b) (mul (bit_xor 1 x) (bit_xor 1 b))) (sym h) (identity (x ∷ []) (search field_terms depth 60 fits 20000) refl)

pub factor_zero : (x b : ℕ) → b ≡ 0 → bit_xor 1 x ≡ bit_xor (mul x b) (mul (bit_xor 1 x) (bit_xor 1 b))
factor_zero x b h = subst (λ b. bit_xor 1 x ≡ bit_xor (mul x b) (mul (bit_xor 1 x) (bit_xor 1 b))) (sym h) (identity (x ∷ []) (search field_terms depth 60 fits 20000) refl)

-- the factors from coordinate k on
pub record FromCoordinate (z : List ℕ) (p k product : ℕ) : Type 0 where
  pub within : k ≤ length z
  pub is : (m : ℕ) → length z ≡ k + m → product ≡ product_to m (λ j. factor z p (k + j))

pub no_coordinate : (z : List ℕ) (p : ℕ) → FromCoordinate z p (length z) 1
no_coordinate z p = record { within = omega arith; is = λ m e. let n : 0 ≡ m = omega arith in ap (λ m. product_to m (λ j. factor z p (length z + j))) n }

from_next : (z : List ℕ) (p k m f product next : ℕ) → length z ≡ k + m → 0 < m → f ≡ factor z p k → product ≡ product_to (m - 1) (λ j. factor z p (k + 1 + j)) → next ≡ mul f product → next ≡ product_to m (λ j. factor z p (k + j))
from_next z p k zero f product next l s e q n = absurd (omega arith)
from_next z p k (suc m) f product next l s e q n =
    let less : suc m - 1 ≡ m = omega arith in
    let first : k ≡ k + 0 = omega arith in
    n ∙ (λ i. mul ((e ∙ ap (factor z p) first) i) ((q ∙ ap (λ m. product_to m (λ j. factor z p (k + 1 + j))) less
    ∙ product_to-same m (λ j. factor z p (k + 1 + j)) (λ j. factor z p (k + suc j)) (λ j h. ap (factor z p) (let c : k + 1 + j ≡ k + suc j = omega arith in c))) i))

pub more_coordinate : (z : List ℕ) (p k x f product next : ℕ) → 0 < k → x ≡ get_or z (k - 1) x → f ≡ bit_xor (mul x (bit p (k - 1))) (mul (bit_xor 1 x) (bit_xor 1 (bit p (k - 1)))) → next ≡ mul f product
    → FromCoordinate z p k product → FromCoordinate z p (k - 1) next
more_coordinate z p k x f product next s e f_is n h =
    let w = h.within in
    let at : x ≡ get_or z (k - 1) 0 = e ∙ get_or_default z (k - 1) x 0 (omega arith) in
    let up : k ≡ k - 1 + 1 = omega arith in
    record {
      within = omega arith;
      is = λ m l.
          from_next z p (k - 1) m f product next l (omega arith)
          (f_is ∙ ap (λ x. bit_xor (mul x (bit p (k - 1))) (mul (bit_xor 1 x) (bit_xor 1 (bit p (k - 1))))) at)
          (h.is (m - 1) (omega arith) ∙ ap (λ k. product_to (m - 1) (λ j. factor z p (k + j))) up) n;
    }

pub all_coordinates : (z : List ℕ) (p k product : ℕ) → k ≡ 0 → FromCoordinate z p k product → product ≡ eq z p
all_coordinates z p k product e h = h.is (length z) (omega arith) ∙ product_to-same (length z) (λ j. factor z p (k + j)) (factor z p) (λ j l. ap (factor z p) (let c : k + j ≡ j = omega arith in c))

-- ---- values under weights
pub more_weighed : (values z : List ℕ) (p total x e t next : ℕ) → p < 128 → length values ≡ 128 → total ≡ sum_to p (λ p. mul (get_or values p 0) (eq z p)) → e ≡ eq z p → t ≡ mul (get_or values p x) e → next ≡ bit_xor t total
    → next ≡ sum_to (p + 1) (λ p. mul (get_or values p 0) (eq z p))
more_weighed values z p total x e t next l n h e_is t_is next_is =
    sum_to-more p total t next (λ p. mul (get_or values p 0) (eq z p)) h (t_is ∙ (λ i. mul (get_or_default values p x 0 (omega arith) i) (e_is i))) next_is

pub all_weighed : (values z : List ℕ) (p total : ℕ) → p ≡ 128 → length z ≡ 7 → total ≡ sum_to p (λ p. mul (get_or values p 0) (eq z p)) → total ≡ dot values (weights z)
all_weighed values z p total e l h =
    h ∙ ap (λ n. sum_to n (λ p. mul (get_or values p 0) (eq z p))) (e ∙ ap (λ n. 2 ^ n) (sym l)) ∙ sym (by_weights_is values z)

-- ---- the rows of eq, coordinate by coordinate
abbrev filled : ℕ → List ℕ → List ℕ
filled n z = padded (n - length z) z

length-filled : (n : ℕ) (z : List ℕ) → length z ≤ n → length (filled n z) ≡ n
length-filled n z l = length-padded (n - length z) z ∙ (let e : length z + (n - length z) ≡ n = omega arith in e)

-- the rows of eq of the coordinates from k on, both points having n of them
pub record RowsFrom (high at : List ℕ) (n k : ℕ) (rows : List ℕ) : Type 0 where
  pub within : k ≤ n
  pub high_short : length high ≤ n
  pub at_short : length at ≤ n
  pub is : rows ≡ tensor_eq 128 (drop k (filled n high)) (drop k (filled n at))

opened : (z : List ℕ) (n k x : ℕ) → 0 < k → k ≤ n → length z ≤ n → x ≡ get_or z (k - 1) 0 → drop (k - 1) (filled n z) ≡ x ∷ drop k (filled n z)
opened z n k x s l w e =
    let up : k - 1 + 1 ≡ k = omega arith in
    let long = length-filled n z w in
    let at : x ≡ get_or (filled n z) (k - 1) x = e ∙ sym (get_or-padded (n - length z) z (k - 1)) ∙ get_or_default (filled n z) (k - 1) 0 x (omega arith) in
    opened_at (filled n z) (k - 1) x at (omega arith) ∙ ap (λ j. x ∷ drop j (filled n z)) up

pub no_rows : (high at rows : List ℕ) (n : ℕ) → length high ≤ n → length at ≤ n → rows ≡ tabulate 128 (bit 1) → RowsFrom high at n n rows
no_rows high at rows n l m e =
    let long = length-filled n high l in
    record { within = omega arith; high_short = l; at_short = m; is = e ∙ ap (λ w. tensor_eq 128 w (drop n (filled n at))) (sym (drop_all n (filled n high) (omega arith))) }

pub more_rows : (high at rows zeros ones next : List ℕ) (n k h a : ℕ) → 0 < k → h ≡ get_or high (k - 1) 0 → a ≡ get_or at (k - 1) 0 → RowsFrom high at n k rows
    → zeros ≡ scaled 128 (bit_xor 1 h) (bit_xor 1 a) rows → ones ≡ scaled 128 h a rows → next ≡ sums zeros ones → RowsFrom high at n (k - 1) next
more_rows high at rows zeros ones next n k h a s eh ea r ez eo en =
    let w = r.within in
    record {
      within = omega arith;
      high_short = r.high_short;
      at_short = r.at_short;
      is = en ∙ (λ i. sums (ez i) (eo i)) ∙ ap (λ t. sums (scaled 128 (bit_xor 1 h) (bit_xor 1 a) t) (scaled 128 h a t)) r.is
          ∙ sym (λ i. tensor_eq 128 (opened high n k h s w r.high_short eh i) (opened at n k a s w r.at_short ea i));
    }

pub all_rows : (high at rows : List ℕ) (n k : ℕ) → k ≡ 0 → AllFit 7 high → AllFit 7 at → RowsFrom high at n k rows → rows ≡ tabulate 128 (row (weights high) (weights at))
all_rows high at rows n k e fh fa r =
    r.is ∙ ap (λ k. tensor_eq 128 (drop k (filled n high)) (drop k (filled n at))) e
    ∙ tensor_rows 7 (filled n high) (filled n at) (length-filled n high r.high_short ∙ sym (length-filled n at r.at_short)) (padded-fit (n - length high) high fh) (padded-fit (n - length at) at fa)
    ∙ tabulate-same 128 (row (weights (filled n high)) (weights (filled n at))) (row (weights high) (weights at)) (λ u l. row-padded (n - length high) (n - length at) high at u)

-- the sum's table at a point
pub at_point : (high at combine rows : List ℕ) (v : ℕ) → length combine ≡ 7 → rows ≡ tabulate 128 (row (weights high) (weights at)) → v ≡ dot rows (weights combine) → v ≡ extension (combined high combine) at
at_point high at combine rows v n er ev =
    ev ∙ ap (λ t. dot t (weights combine)) (er ∙ ap (λ n. tabulate (2 ^ n) (row (weights high) (weights at))) (sym n))
    ∙ rows_at (2 ^ length combine) (weights high) (weights at) (weights combine)
    ∙ ap (λ a. dot a (weights at)) (sym (combined_is high combine))
    ∙ by_weights_is (combined high combine) at
