-- The additive transform by butterflies.
-- Source: docs/LAWS.md, "word_laws: code words".
use Rattle.std.specs.Prelude.{ℕ, zero, suc, ◌+◌, ◌*◌, ◌^◌, List, [], ◌∷◌, ◌++◌, take, drop, bit_xor}
use Rattle.tower_laws.specs.Tower.{mul}
use Rattle.word_laws.specs.CodeWord.{hat}

-- each member of the first list plus c times that of the second
abbrev pub mix : ℕ → List ℕ → List ℕ → List ℕ
mix c [] ys = []
mix c (x ∷ xs) [] = []
mix c (x ∷ xs) (y ∷ ys) = bit_xor x (mul c y) ∷ mix c xs ys

-- block b of 2 ^ k values, from the highest variable of the table down
abbrev pub encode : ℕ → ℕ → List ℕ → List ℕ
encode zero b table = table
encode (suc k) b table =
    encode k (2 * b) (mix (hat k (b * 2 ^ suc k)) (take (2 ^ k) table) (drop (2 ^ k) table))
    ++ encode k (2 * b + 1) (mix (bit_xor (hat k (b * 2 ^ suc k)) 1) (take (2 ^ k) table) (drop (2 ^ k) table))
