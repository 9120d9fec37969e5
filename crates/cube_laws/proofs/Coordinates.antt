-- Coordinates of a point, set one by one.
use Rattle.std.proofs.Common.{◌≡◌, ℕ, suc, ◌+◌, ◌*◌, ◌^◌, ◌≤◌, List, [], ◌∷◌, ◌++◌, map, take, drop, length, get_or, bit_xor, refl, sym, ◌∙◌, ap, subst, arith}
use Rattle.std.proofs.lemmas.List.{append-nil}
use Rattle.tower_laws.specs.Tower.{mul}
use Rattle.tower_laws.proofs.Field.{identity, field_terms}
use Rattle.tower_laws.proofs.Rules.{choice_line}
use Rattle.poly_laws.specs.Polynomial.{Polynomial, horner}
use Rattle.cube_laws.specs.Sums.{tabulate}
use Rattle.cube_laws.specs.Extension.{dot, weights, extension, fold_low, fold_all}
use Rattle.cube_laws.specs.Form.{Form}
use Rattle.cube_laws.specs.SumClaim.{Sum, summand, sum_at, cube_sum, AllLong}
use Rattle.cube_laws.proofs.Degrees.{extension_poly}
use Rattle.cube_laws.proofs.Dots.{dot-split, dot-scaled}
use Rattle.cube_laws.proofs.Folding.{length-weights, length-fold_low, dot-even}
use Rattle.cube_laws.proofs.Kron.{weights-joined}
use Rattle.cube_laws.proofs.Positions.{folded, long_folded, sum_folded}
use Rattle.cube_laws.proofs.Tabulate.{take-tabulate, drop-tabulate}
use Rattle.cube_laws.proofs.Weights.{by_weights_is}

-- ---- the last coordinate
length-multiples : (c : ℕ) (ts : List ℕ) → length (map (λ t. mul t c) ts) ≡ length ts
length-multiples c [] = refl
length-multiples c (t ∷ ts) = ap suc (length-multiples c ts)

halves_step : (x a b : ℕ) → bit_xor (mul a (mul 1 (bit_xor 1 x))) (mul b (mul 1 x)) ≡ bit_xor (mul (bit_xor 1 x) a) (mul x b)
halves_step x a b = identity (x ∷ a ∷ b ∷ []) (search field_terms depth 60 fits 20000) refl

-- it chooses between the halves of the table
pub extension_halves : (table low : List ℕ) (x : ℕ)
    → extension table (low ++ x ∷ []) ≡ bit_xor (mul (bit_xor 1 x) (extension (take (2 ^ length low) table) low)) (mul x (extension (drop (2 ^ length low) table) low))
extension_halves table low x =
    let n : length (map (λ t. mul t (mul 1 (bit_xor 1 x))) (weights low)) ≡ 2 ^ length low = length-multiples (mul 1 (bit_xor 1 x)) (weights low) ∙ length-weights low in
    sym (by_weights_is table (low ++ x ∷ []))
    ∙ ap (dot table) (weights-joined low (x ∷ []))
    ∙ dot-split table (map (λ t. mul t (mul 1 (bit_xor 1 x))) (weights low)) (map (λ t. mul t (mul 1 x)) (weights low) ++ [])
    ∙ (λ i. bit_xor (dot (take (n i) table) (map (λ t. mul t (mul 1 (bit_xor 1 x))) (weights low))) (dot (drop (n i) table) (append-nil (map (λ t. mul t (mul 1 x)) (weights low)) i)))
    ∙ (λ i. bit_xor (dot-scaled (take (2 ^ length low) table) (weights low) (mul 1 (bit_xor 1 x)) i) (dot-scaled (drop (2 ^ length low) table) (weights low) (mul 1 x) i))
    ∙ halves_step x _ _
    ∙ (λ i. bit_xor (mul (bit_xor 1 x) (by_weights_is (take (2 ^ length low) table) low i)) (mul x (by_weights_is (drop (2 ^ length low) table) low i)))

length-last : (xs : List ℕ) (x : ℕ) → length (xs ++ x ∷ []) ≡ suc (length xs)
length-last [] x = refl
length-last (y ∷ xs) x = ap suc (length-last xs x)

double : (k : ℕ) → 2 ^ suc k ≡ 2 ^ k + 2 ^ k
double k = omega arith

-- the same for a table that a function of the place tells
pub extension_halves_of : (f : ℕ → ℕ) (low : List ℕ) (x : ℕ)
    → extension (tabulate (2 ^ length (low ++ x ∷ [])) f) (low ++ x ∷ [])
    ≡ bit_xor (mul (bit_xor 1 x) (extension (tabulate (2 ^ length low) f) low)) (mul x (extension (tabulate (2 ^ length low) (λ p. f (2 ^ length low + p))) low))
extension_halves_of f low x =
    ap (λ k. extension (tabulate k f) (low ++ x ∷ [])) (ap (λ k. 2 ^ k) (length-last low x) ∙ double (length low))
    ∙ extension_halves (tabulate (2 ^ length low + 2 ^ length low) f) low x
    ∙ (λ i. bit_xor (mul (bit_xor 1 x) (extension (take-tabulate (2 ^ length low) (2 ^ length low) f i) low)) (mul x (extension (drop-tabulate (2 ^ length low) (2 ^ length low) f i) low)))

-- ---- any coordinate
horner_line : (cs : List ℕ) (x : ℕ) → length cs ≤ 2 → horner cs x ≡ bit_xor (horner cs 0) (mul x (bit_xor (horner cs 0) (horner cs 1)))
horner_line [] x h = identity (x ∷ []) (search field_terms depth 60 fits 20000) refl
horner_line (a ∷ []) x h = identity (a ∷ x ∷ []) (search field_terms depth 60 fits 20000) refl
horner_line (a ∷ b ∷ []) x h = identity (a ∷ b ∷ x ∷ []) (search field_terms depth 60 fits 20000) refl
horner_line (a ∷ b ∷ c ∷ cs) x h = absurd (omega arith)

-- a polynomial of degree 1 by its values at 0 and 1
pub line_by_ends : (f : ℕ → ℕ) (x : ℕ) → Polynomial 1 f → f x ≡ bit_xor (f 0) (mul x (bit_xor (f 0) (f 1)))
line_by_ends f x p = let a = p.is 0 in let b = p.is 1 in let c = p.is x in let h = horner_line p.coefficients x p.short in cc

pub extension_line : (table before after : List ℕ) (x : ℕ)
    → extension table (before ++ x ∷ after) ≡ bit_xor (extension table (before ++ 0 ∷ after)) (mul x (bit_xor (extension table (before ++ 0 ∷ after)) (extension table (before ++ 1 ∷ after))))
extension_line table before after x = line_by_ends (λ x. extension table (before ++ x ∷ after)) x (extension_poly table before after)

pub extension_choice : (table before after : List ℕ) (x : ℕ)
    → extension table (before ++ x ∷ after) ≡ bit_xor (mul (bit_xor 1 x) (extension table (before ++ 0 ∷ after))) (mul x (extension table (before ++ 1 ∷ after)))
extension_choice table before after x = extension_line table before after x ∙ sym (choice_line x (extension table (before ++ 0 ∷ after)) (extension table (before ++ 1 ∷ after)))

-- ---- the first coordinates
pub extension-even : (half : ℕ) (table : List ℕ) (x : ℕ) (z : List ℕ) → length table ≡ 2 * half → extension table (x ∷ z) ≡ extension (fold_low x table) z
extension-even half table x z h = sym (by_weights_is table (x ∷ z)) ∙ dot-even x half table (weights z) h ∙ by_weights_is (fold_low x table) z

pub fold_all-append : (rs ss table : List ℕ) → fold_all (rs ++ ss) table ≡ fold_all ss (fold_all rs table)
fold_all-append [] ss table = refl
fold_all-append (r ∷ rs) ss table = fold_all-append rs ss (fold_low r table)

pub fold_all-last : (rs table : List ℕ) (r : ℕ) → fold_all (rs ++ r ∷ []) table ≡ fold_low r (fold_all rs table)
fold_all-last rs table r = fold_all-append rs (r ∷ []) table

-- m times 2 ^ suc k is even
even_length : (m k : ℕ) → m * 2 ^ suc k ≡ 2 * (m * 2 ^ k)
even_length m k = let p : 2 ^ suc k ≡ 2 * 2 ^ k = omega arith in ap (λ w. m * w) p ∙ grind arith

pub length-fold_all : (m : ℕ) (rs table : List ℕ) → length table ≡ m * 2 ^ length rs → length (fold_all rs table) ≡ m
length-fold_all m [] table h = let e : m * 2 ^ 0 ≡ m = grind arith in h ∙ e
length-fold_all m (r ∷ rs) table h = length-fold_all m rs (fold_low r table) (length-fold_low r (m * 2 ^ length rs) table (h ∙ even_length m (length rs)))

pub extension-fold_all : (m : ℕ) (table rs z : List ℕ) → length table ≡ m * 2 ^ length rs → extension (fold_all rs table) z ≡ extension table (rs ++ z)
extension-fold_all m table [] z h = refl
extension-fold_all m table (r ∷ rs) z h =
    let e = h ∙ even_length m (length rs) in
    extension-fold_all m (fold_low r table) rs z (length-fold_low r (m * 2 ^ length rs) table e) ∙ sym (extension-even (m * 2 ^ length rs) table r (rs ++ z) e)

-- ---- all coordinates
one_value : (t : List ℕ) → length t ≡ 1 → t ≡ extension t [] ∷ []
one_value [] h = absurd (omega arith)
one_value (x ∷ []) h = ap (λ w. w ∷ []) (identity (x ∷ []) (search field_terms depth 60 fits 20000) refl)
one_value (x ∷ y ∷ t) h = absurd (omega arith)

pub fold_all_is : (table z : List ℕ) → length table ≡ 2 ^ length z → fold_all z table ≡ extension table z ∷ []
fold_all_is table z h =
    let e : length table ≡ 1 * 2 ^ length z = omega arith in
    one_value (fold_all z table) (length-fold_all 1 z table e)
    ∙ ap (λ w. w ∷ []) (extension-fold_all 1 table z [] e ∙ ap (extension table) (append-nil z))

-- the last value of a table that was folded to its end
pub last_value : (table z : List ℕ) → length table ≡ 2 ^ length z → get_or (fold_all z table) 0 0 ≡ extension table z
last_value table z h = ap (λ t. get_or t 0 0) (fold_all_is table z h)

-- ---- sums over a cube
folds_map : (r : ℕ) (rs : List ℕ) (fs : List (List ℕ)) → map (fold_all rs) (folded r fs) ≡ map (fold_all (r ∷ rs)) fs
folds_map r rs [] = refl
folds_map r rs (f ∷ fs) = ap (λ l. fold_all rs (fold_low r f) ∷ l) (folds_map r rs fs)

pub map_none : (fs : List (List ℕ)) → fs ≡ map (fold_all []) fs
map_none [] = refl
map_none (f ∷ fs) = ap (λ l. f ∷ l) (map_none fs)

-- one more variable of all lists
pub folds_last : (rs : List ℕ) (r : ℕ) (fs : List (List ℕ)) → map (fold_low r) (map (fold_all rs) fs) ≡ map (fold_all (rs ++ r ∷ [])) fs
folds_last rs r [] = refl
folds_last rs r (f ∷ fs) = let a = fold_all-last rs f r in let q = folds_last rs r fs in cc

pub prefix_folded : (m left : ℕ) (form : Form) (lists : List (List ℕ)) (rs rest : List ℕ) → AllLong (m * 2 ^ length rs) lists
    → sum_at (record { form = form; lists = lists }) (rs ++ rest) left ≡ sum_at (record { form = form; lists = map (fold_all rs) lists }) rest left
prefix_folded m left form lists [] rest h = ap (λ l. sum_at (record { form = form; lists = l }) rest left) (map_none lists)
prefix_folded m left form lists (r ∷ rs) rest h =
    let k = subst (λ n. AllLong n lists) (even_length m (length rs)) h in
    sum_folded left r form lists (rs ++ rest) (m * 2 ^ length rs) k
    ∙ prefix_folded m left form (folded r lists) rs rest (long_folded r (m * 2 ^ length rs) lists k)
    ∙ ap (λ l. sum_at (record { form = form; lists = l }) rest left) (folds_map r rs lists)

-- with no variable left
pub sum_at-all : (s : Sum) (r : List ℕ) → sum_at s r 0 ≡ summand s r
unfolding cube_sum
sum_at-all s r = ap (summand s) (append-nil r)
