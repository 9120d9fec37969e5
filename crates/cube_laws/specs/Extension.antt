-- Multilinear extensions of tables of values, the lowest variable first.
-- Source: docs/LAWS.md, "cube_laws: tables over cubes".
use Rattle.std.specs.Prelude.{ℕ, ◌/◌, ◌%◌, ◌^◌, List, [], ◌∷◌, ◌++◌, map, length, get_or, bit_xor}
use Rattle.tower_laws.specs.Tower.{mul}
use Rattle.tower_laws.specs.Digits.{digits}
use Rattle.cube_laws.specs.Sums.{sum_to, product_to}

-- the sum of the products of the numbers at one place
abbrev pub dot : List ℕ → List ℕ → ℕ
dot [] ys = 0
dot (x ∷ xs) [] = 0
dot (x ∷ xs) (y ∷ ys) = bit_xor (mul x y) (dot xs ys)

-- bit k of p
abbrev pub bit : ℕ → ℕ → ℕ
bit p k = p / 2 ^ k % 2

-- of a point z and the corner whose coordinates are the bits of p: the product over k of z_k · p_k + (1 + z_k) · (1 + p_k)
abbrev pub eq : List ℕ → ℕ → ℕ
eq z p = product_to (length z) (λ k. bit_xor (mul (get_or z k 0) (bit p k)) (mul (bit_xor 1 (get_or z k 0)) (bit_xor 1 (bit p k))))

-- eq of two points: the product over their coordinates x and y of x · y + (1 + x) · (1 + y)
abbrev pub eq_points : List ℕ → List ℕ → ℕ
eq_points [] ys = 1
eq_points (x ∷ xs) [] = 1
eq_points (x ∷ xs) (y ∷ ys) = mul (bit_xor (mul x y) (mul (bit_xor 1 x) (bit_xor 1 y))) (eq_points xs ys)

-- the extension of a table at a point z: the sum over the positions p of the cube of the table's value at p times eq of z and p
abbrev pub extension : List ℕ → List ℕ → ℕ
extension table z = sum_to (2 ^ length z) (λ p. mul (get_or table p 0) (eq z p))

-- each weight t as the weights t · (1 + x) and t · x of its two places
abbrev pub spread : ℕ → List ℕ → List ℕ
spread x [] = []
spread x (t ∷ ts) = mul t (bit_xor 1 x) ∷ mul t x ∷ spread x ts

-- eq of a point and each position
abbrev pub weights : List ℕ → List ℕ
weights [] = 1 ∷ []
weights (x ∷ xs) = spread x (weights xs)

-- a quick form of the extension
abbrev pub extension_by_weights : List ℕ → List ℕ → ℕ
extension_by_weights table point = dot table (weights point)

-- the table with its lowest variable set to x
abbrev pub fold_low : ℕ → List ℕ → List ℕ
fold_low x [] = []
fold_low x (a ∷ []) = a ∷ []
fold_low x (a ∷ b ∷ table) = bit_xor a (mul x (bit_xor a b)) ∷ fold_low x table

-- the table with its lowest variables set to the numbers of a list
abbrev pub fold_all : List ℕ → List ℕ → List ℕ
fold_all [] table = table
fold_all (r ∷ rs) table = fold_all rs (fold_low r table)

-- the n low bits of k, the lowest first
abbrev pub bits_of : ℕ → ℕ → List ℕ
bits_of n k = digits 2 n k

-- the product of two tables in disjoint variables, those of ts the lower ones: for each number of es the numbers of ts times it
abbrev pub kron : List ℕ → List ℕ → List ℕ
kron ts [] = []
kron ts (e ∷ es) = map (λ t. mul t e) ts ++ kron ts es
