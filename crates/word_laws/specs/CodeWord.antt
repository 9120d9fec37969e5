-- Code words of tables, in the novel polynomial basis of Diamond and Posen.
-- Source: ePrint 2024/504, the section on the novel polynomial basis; docs/LAWS.md, "word_laws: code words".
use Rattle.std.specs.Prelude.{ℕ, zero, suc, ◌+◌, ◌*◌, ◌^◌, List, [], ◌∷◌, cond, ◌==◌, get_or, bit_xor}
use Rattle.tower_laws.specs.Tower.{mul}
use Rattle.tower_laws.specs.Inverse.{inverse}
use Rattle.cube_laws.specs.Sums.{sum_to, product_to}
use Rattle.cube_laws.specs.Extension.{bit, dot}

-- the product of x + u over u below 2 ^ i
unfoldable pub vanish : ℕ → ℕ → ℕ
vanish i x = product_to (2 ^ i) (bit_xor x)

-- the same, divided by its value at 2 ^ i
unfoldable pub hat : ℕ → ℕ → ℕ
hat i x = mul (vanish i x) (inverse (vanish i (2 ^ i)))

-- the value at position p of the word of a table of 2 ^ k values, after j folds: the sum over w of the table's value there
-- times the product, over the set bits i of w, of hat (j + i) at the point of p
abbrev pub word : ℕ → ℕ → List ℕ → ℕ → ℕ
word j k table p = sum_to (2 ^ k) (λ w. mul (get_or table w 0) (product_to k (λ i. cond (bit w i == 1) (hat (j + i) (p * 2 ^ j)) 1)))

-- the values at x of k hats, from hat j on
abbrev pub hats : ℕ → ℕ → ℕ → List ℕ
hats j zero x = []
hats j (suc k) x = hat j x ∷ hats (suc j) k x

-- each number t as t and x · t
abbrev pub branch : ℕ → List ℕ → List ℕ
branch x [] = []
branch x (t ∷ ts) = t ∷ mul x t ∷ branch x ts

-- for each position the product of the numbers at its set bits
abbrev pub subsets : List ℕ → List ℕ
subsets [] = 1 ∷ []
subsets (x ∷ xs) = branch x (subsets xs)

-- a quick form of the word
abbrev pub word_by_subsets : ℕ → ℕ → List ℕ → ℕ → ℕ
word_by_subsets j k table p = dot table (subsets (hats j k (p * 2 ^ j)))

-- the fold at r of the two values f and g of a pair of positions, x being the point of the first
abbrev pub fold_pair : ℕ → ℕ → ℕ → ℕ → ℕ
fold_pair r x f g = bit_xor (mul (bit_xor 1 r) (bit_xor (mul (bit_xor x 1) f) (mul x g))) (mul r (bit_xor f g))
