-- What is made from numbers of a level stays in the level.
use Rattle.std.proofs.Common.{ℕ, zero, suc, ◌^◌, ◌<◌, List, [], ◌∷◌, map, bit_xor, subst}
use Rattle.tower_laws.specs.Tower.{mul}
use Rattle.tower_laws.specs.Lists.{AllFit}
use Rattle.tower_laws.proofs.Levels.{mul_lt, one_lt_size, size_pos}
use Rattle.tower_laws.proofs.Lists.{xor_fits, all_fit-append, all_fit-sums, all_fit-scaled}
use Rattle.batch_laws.specs.Batch.{batched}
use Rattle.cube_laws.specs.Extension.{dot, eq_points, spread, weights, extension, fold_low, fold_all, kron}
use Rattle.cube_laws.specs.Sums.{tabulate}
use Rattle.cube_laws.proofs.Weights.{by_weights_is}
use Rattle.std.specs.List.{AllByRecursion}

pub one_plus_fits : (i x : ℕ) → x < 2 ^ (2 ^ i) → bit_xor 1 x < 2 ^ (2 ^ i)
one_plus_fits i x h = xor_fits i 1 x (one_lt_size i) h

pub all_fit-tabulate : (i n : ℕ) (f : ℕ → ℕ) → ((k : ℕ) → f k < 2 ^ (2 ^ i)) → AllFit i (tabulate n f)
all_fit-tabulate i zero f h = tt
all_fit-tabulate i (suc n) f h = (h 0, all_fit-tabulate i n (λ k. f (suc k)) (λ k. h (suc k)))

all_fit-multiples : (i c : ℕ) (xs : List ℕ) → c < 2 ^ (2 ^ i) → AllFit i xs → AllFit i (map (λ x. mul x c) xs)
all_fit-multiples i c [] l h = tt
all_fit-multiples i c (x ∷ xs) l h = (mul_lt i x c h.0 l, all_fit-multiples i c xs l h.1)

pub all_fit-kron : (i : ℕ) (ts es : List ℕ) → AllFit i ts → AllFit i es → AllFit i (kron ts es)
all_fit-kron i ts [] h k = tt
all_fit-kron i ts (e ∷ es) h k = all_fit-append i (map (λ t. mul t e) ts) (kron ts es) (all_fit-multiples i e ts k.0 h) (all_fit-kron i ts es h k.1)

all_fit-spread : (i c : ℕ) (xs : List ℕ) → c < 2 ^ (2 ^ i) → AllFit i xs → AllFit i (spread c xs)
all_fit-spread i c [] l h = tt
all_fit-spread i c (x ∷ xs) l h = (mul_lt i x (bit_xor 1 c) h.0 (one_plus_fits i c l), (mul_lt i x c h.0 l, all_fit-spread i c xs l h.1))

pub all_fit-weights : (i : ℕ) (z : List ℕ) → AllFit i z → AllFit i (weights z)
all_fit-weights i [] h = (one_lt_size i, tt)
all_fit-weights i (x ∷ z) h = all_fit-spread i x (weights z) h.0 (all_fit-weights i z h.1)

pub eq_points_fits : (i : ℕ) (x y : List ℕ) → AllFit i x → AllFit i y → eq_points x y < 2 ^ (2 ^ i)
eq_points_fits i [] y h k = one_lt_size i
eq_points_fits i (a ∷ x) [] h k = one_lt_size i
eq_points_fits i (a ∷ x) (b ∷ y) h k =
    mul_lt i _ (eq_points x y)
    (xor_fits i (mul a b) (mul (bit_xor 1 a) (bit_xor 1 b)) (mul_lt i a b h.0 k.0) (mul_lt i (bit_xor 1 a) (bit_xor 1 b) (one_plus_fits i a h.0) (one_plus_fits i b k.0)))
    (eq_points_fits i x y h.1 k.1)

pub dot_fits : (i : ℕ) (xs ys : List ℕ) → AllFit i xs → AllFit i ys → dot xs ys < 2 ^ (2 ^ i)
dot_fits i [] ys h k = size_pos i
dot_fits i (x ∷ xs) [] h k = size_pos i
dot_fits i (x ∷ xs) (y ∷ ys) h k = xor_fits i (mul x y) (dot xs ys) (mul_lt i x y h.0 k.0) (dot_fits i xs ys h.1 k.1)

pub extension_fits : (i : ℕ) (table z : List ℕ) → AllFit i table → AllFit i z → extension table z < 2 ^ (2 ^ i)
extension_fits i table z h k = subst (λ v. v < 2 ^ (2 ^ i)) (by_weights_is table z) (dot_fits i table (weights z) h (all_fit-weights i z k))

pub all_fit-fold_low : (i r : ℕ) (table : List ℕ) → r < 2 ^ (2 ^ i) → AllFit i table → AllFit i (fold_low r table)
all_fit-fold_low i r [] l h = tt
all_fit-fold_low i r (a ∷ []) l h = h
all_fit-fold_low i r (a ∷ b ∷ table) l h = (xor_fits i a (mul r (bit_xor a b)) h.0 (mul_lt i r (bit_xor a b) l (xor_fits i a b h.0 h.1.0)), all_fit-fold_low i r table l h.1.1)

pub all_fit-fold_all : (i : ℕ) (rs table : List ℕ) → AllFit i rs → AllFit i table → AllFit i (fold_all rs table)
all_fit-fold_all i [] table l h = h
all_fit-fold_all i (r ∷ rs) table l h = all_fit-fold_all i rs (fold_low r table) l.1 (all_fit-fold_low i r table l.0 h)

pub all_fit-batched : (i n a : ℕ) (ts : List (List ℕ)) → a < 2 ^ (2 ^ i) → AllByRecursion (AllFit i) ts → AllFit i (batched n a ts)
all_fit-batched i n a [] l h = all_fit-tabulate i n (λ p. 0) (λ k. size_pos i)
all_fit-batched i n a (t ∷ ts) l h = all_fit-sums i t (map (mul a) (batched n a ts)) h.0 (all_fit-scaled i a (batched n a ts) l (all_fit-batched i n a ts l h.1))
