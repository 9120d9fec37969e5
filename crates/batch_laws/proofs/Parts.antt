-- Parts of tables: coordinates that are set to bits.
use Rattle.std.proofs.Common.{◌≡◌, ℕ, zero, suc, ◌+◌, ◌*◌, ◌/◌, ◌%◌, ◌^◌, ◌<◌, List, [], ◌∷◌, ◌++◌, map, take, drop, length, get_or, bit_xor, refl, sym, ◌∙◌, ap, arith, append_assoc}
use Rattle.std.proofs.lemmas.List.{get_or-take, get_or-drop, drop-drop, length-map}
use Rattle.tower_laws.specs.Tower.{mul}
use Rattle.cube_laws.specs.Sums.{tabulate}
use Rattle.cube_laws.specs.Extension.{dot, eq, extension, weights, fold_low, fold_all, bits_of, kron}
use Rattle.cube_laws.proofs.Coordinates.{extension_line}
use Rattle.cube_laws.proofs.Dots.{dot_nil, dot-split, dot-scaled}
use Rattle.cube_laws.proofs.Folding.{length-weights, length-bits_of}
use Rattle.cube_laws.proofs.Kron.{weights-joined}
use Rattle.cube_laws.proofs.Linear.{fold_low-tabulate}
use Rattle.cube_laws.proofs.Tabulate.{get_or-tabulate}
use Rattle.cube_laws.proofs.Weights.{extension-bits, tabulate-same, by_weights_is, length-tabulate, sum_to-same}

-- a table ends where its cube does, and is 0 past its own end
pub extension-padded : (table z : List ℕ) → extension table z ≡ extension (tabulate (2 ^ length z) (λ p. get_or table p 0)) z
extension-padded table z =
    sum_to-same (2 ^ length z) (λ p. mul (get_or table p 0) (eq z p)) (λ p. mul (get_or (tabulate (2 ^ length z) (λ p. get_or table p 0)) p 0) (eq z p))
    (λ p l. ap (λ w. mul w (eq z p)) (sym (get_or-tabulate (2 ^ length z) p (λ p. get_or table p 0) l)))

-- at a corner the extension of any table is its value there
pub extension_at : (n p : ℕ) (table : List ℕ) → p < 2 ^ n → extension table (bits_of n p) ≡ get_or table p 0
extension_at n p table h =
    extension-padded table (bits_of n p)
    ∙ ap (λ m. extension (tabulate (2 ^ m) (λ p. get_or table p 0)) (bits_of n p)) (length-bits_of n p)
    ∙ extension-bits n p (tabulate (2 ^ n) (λ p. get_or table p 0)) (length-tabulate (2 ^ n) (λ p. get_or table p 0)) h
    ∙ get_or-tabulate (2 ^ n) p (λ p. get_or table p 0) h

pub dot_at : (n p : ℕ) (table : List ℕ) → p < 2 ^ n → dot table (weights (bits_of n p)) ≡ get_or table p 0
dot_at n p table h = by_weights_is table (bits_of n p) ∙ extension_at n p table h

pub length-corner : (n p : ℕ) → length (weights (bits_of n p)) ≡ 2 ^ n
length-corner n p = length-weights (bits_of n p) ∙ ap (λ m. 2 ^ m) (length-bits_of n p)

-- ---- blocks of n numbers
abbrev pub blocks : ℕ → ℕ → List ℕ → List ℕ → List ℕ
blocks zero n table ts = []
blocks (suc m) n table ts = dot (take n table) ts ∷ blocks m n (drop n table) ts

-- a table against a product is its blocks against the second factor
pub dot-blocks : (table ts es : List ℕ) → dot table (kron ts es) ≡ dot (blocks (length es) (length ts) table ts) es
dot-blocks table ts [] = dot_nil table
dot-blocks table ts (e ∷ es) =
    let l = length-map ts (λ t. mul t e) in
    dot-split table (map (λ t. mul t e) ts) (kron ts es)
    ∙ (λ i. bit_xor (dot (take (l i) table) (map (λ t. mul t e) ts)) (dot (drop (l i) table) (kron ts es)))
    ∙ (λ i. bit_xor (dot-scaled (take (length ts) table) ts e i) (dot-blocks (drop (length ts) table) ts es i))

pub get_or-blocks : (m n q : ℕ) (table ts : List ℕ) → q < m → get_or (blocks m n table ts) q 0 ≡ dot (take n (drop (q * n) table)) ts
get_or-blocks zero n q table ts h = absurd (omega arith)
get_or-blocks (suc m) n zero table ts h = let e : 0 ≡ zero * n = omega arith in ap (λ w. dot (take n (drop w table)) ts) e
get_or-blocks (suc m) n (suc q) table ts h =
    let e : n + q * n ≡ suc q * n = grind arith in
    get_or-blocks m n q (drop n table) ts (omega arith) ∙ ap (λ w. dot (take n w) ts) (drop-drop (q * n) n table ∙ ap (λ w. drop w table) e)

-- one aligned part of a longer table
pub dot_part : (g q : ℕ) (table ts : List ℕ) → q < 2 ^ g → dot table (kron ts (weights (bits_of g q))) ≡ dot (take (length ts) (drop (q * length ts) table)) ts
dot_part g q table ts h =
    dot-blocks table ts (weights (bits_of g q))
    ∙ ap (λ m. dot (blocks m (length ts) table ts) (weights (bits_of g q))) (length-corner g q)
    ∙ dot_at g q (blocks (2 ^ g) (length ts) table ts) h
    ∙ get_or-blocks (2 ^ g) (length ts) q table ts h

pub extension_part : (g q : ℕ) (table z : List ℕ) → q < 2 ^ g → extension table (z ++ bits_of g q) ≡ extension (take (2 ^ length z) (drop (q * 2 ^ length z) table)) z
extension_part g q table z h =
    sym (by_weights_is table (z ++ bits_of g q))
    ∙ ap (dot table) (weights-joined z (bits_of g q))
    ∙ dot_part g q table (weights z) h
    ∙ ap (λ n. dot (take n (drop (q * n) table)) (weights z)) (length-weights z)
    ∙ by_weights_is (take (2 ^ length z) (drop (q * 2 ^ length z) table)) z

-- ---- every 2 ^ k-th number
blocks-corner : (k j m : ℕ) (table : List ℕ) → j < 2 ^ k → blocks m (2 ^ k) table (weights (bits_of k j)) ≡ tabulate m (λ x. get_or table (x * 2 ^ k + j) 0)
blocks-corner k j zero table h = refl
blocks-corner k j (suc m) table h =
    let z : j ≡ 0 * 2 ^ k + j = omega arith in
    (λ i. (dot_at k j (take (2 ^ k) table) h ∙ get_or-take (2 ^ k) table j 0 h ∙ ap (λ n. get_or table n 0) z) i
    ∷ (blocks-corner k j m (drop (2 ^ k) table) h
    ∙ tabulate-same m _ (λ x. get_or table (suc x * 2 ^ k + j) 0) (λ x b. get_or-drop (2 ^ k) table (x * 2 ^ k + j) 0 ∙ ap (λ n. get_or table n 0) (place x (2 ^ k)))) i)
  where
    place : (x n : ℕ) → n + (x * n + j) ≡ suc x * n + j
    place x n = grind arith

pub extension_every : (k j : ℕ) (table z : List ℕ) → j < 2 ^ k → extension (tabulate (2 ^ length z) (λ x. get_or table (x * 2 ^ k + j) 0)) z ≡ extension table (bits_of k j ++ z)
extension_every k j table z h =
    sym (by_weights_is (tabulate (2 ^ length z) (λ x. get_or table (x * 2 ^ k + j) 0)) z)
    ∙ ap (λ t. dot t (weights z)) (sym (blocks-corner k j (2 ^ length z) table h))
    ∙ (λ i. dot (blocks (sym (length-weights z) i) (sym (length-corner k j) i) table (weights (bits_of k j))) (weights z))
    ∙ sym (dot-blocks table (weights (bits_of k j)) (weights z))
    ∙ ap (dot table) (sym (weights-joined (bits_of k j) z))
    ∙ by_weights_is table (bits_of k j ++ z)

-- ---- the values at the corners of the lowest variables
low_bits : (k u b : ℕ) → b < 2 → bits_of (suc k) (2 * u + b) ≡ b ∷ bits_of k u
low_bits k u b h =
    let e : (2 * u + b) % 2 ≡ b = omega arith in
    let q : (2 * u + b) / 2 ≡ u = omega arith in
    (λ i. e i ∷ bits_of k (q i))

-- of a function that is a line in each variable, the values at corners set one by one
pub fold_corners : (rs : List ℕ) (f : List ℕ → ℕ) → ((p q : List ℕ) (x : ℕ) → f (p ++ x ∷ q) ≡ bit_xor (f (p ++ 0 ∷ q)) (mul x (bit_xor (f (p ++ 0 ∷ q)) (f (p ++ 1 ∷ q)))))
    → fold_all rs (tabulate (2 ^ length rs) (λ u. f (bits_of (length rs) u))) ≡ f rs ∷ []
fold_corners [] f line = refl
fold_corners (r ∷ rs) f line =
    let n : 2 ^ suc (length rs) ≡ 2 * 2 ^ length rs = omega arith in
    ap (λ m. fold_all rs (fold_low r (tabulate m (λ u. f (bits_of (suc (length rs)) u))))) n
    ∙ ap (fold_all rs) (fold_low-tabulate r (2 ^ length rs) (λ u. f (bits_of (suc (length rs)) u))
    ∙ tabulate-same (2 ^ length rs) _ (λ u. f (r ∷ bits_of (length rs) u)) (λ u l. cell u))
    ∙ fold_corners rs (λ w. f (r ∷ w)) (λ p q x. line (r ∷ p) q x)
  where
    cell : (u : ℕ) → bit_xor (f (bits_of (suc (length rs)) (2 * u))) (mul r (bit_xor (f (bits_of (suc (length rs)) (2 * u))) (f (bits_of (suc (length rs)) (2 * u + 1))))) ≡ f (r ∷ bits_of (length rs) u)
    cell u =
        let z : 2 * u ≡ 2 * u + 0 = omega arith in
        let a : bits_of (suc (length rs)) (2 * u) ≡ 0 ∷ bits_of (length rs) u = ap (bits_of (suc (length rs))) z ∙ low_bits (length rs) u 0 (omega arith) in
        let b = low_bits (length rs) u 1 (omega arith) in
        (λ i. bit_xor (f (a i)) (mul r (bit_xor (f (a i)) (f (b i))))) ∙ sym (line [] (bits_of (length rs) u) r)

pub fold_list : (table rs z : List ℕ) → fold_all rs (tabulate (2 ^ length rs) (λ u. extension table (bits_of (length rs) u ++ z))) ≡ extension table (rs ++ z) ∷ []
fold_list table rs z =
    fold_corners rs (λ w. extension table (w ++ z))
    (λ p q x. let a = ap (extension table) (append_assoc p (x ∷ q) z) in let b = ap (extension table) (append_assoc p (0 ∷ q) z) in let c = ap (extension table) (append_assoc p (1 ∷ q) z) in let e = extension_line table p (q ++ z) x in cc)
