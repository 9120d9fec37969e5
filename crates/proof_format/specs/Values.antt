-- Values as bytes, 16 each, the lowest first, and read again.
-- Source: docs/PROOF.md, "The bytes".
use Rattle.std.specs.Prelude.{◌≡◌, ◌*◌, ◌<◌, ◌≤◌, ◌^◌, ℕ, zero, suc, List, [], ◌∷◌, ◌++◌, length, take, drop}
use Rattle.std.specs.List.{AllByRecursion}
use Rattle.std.specs.Int.{from_le_bytes, w128}
use Rattle.transcript.specs.Transcript.{bytes_of}

-- the n values that bytes spell
abbrev pub values_of : ℕ → List ℕ → List ℕ
values_of zero bytes = []
values_of (suc n) bytes = from_le_bytes w128 (take 16 bytes) ∷ values_of n (drop 16 bytes)

-- the values of bytes of values, whatever follows
abbrev pub ValuesAreReadAgain : Type 0
ValuesAreReadAgain = (vs rest : List ℕ) → AllByRecursion (λ v. v < 2 ^ 128) vs → values_of (length vs) (bytes_of vs ++ rest) ≡ vs

-- the bytes of the values of bytes
abbrev pub ValuesAreSpelledAgain : Type 0
ValuesAreSpelledAgain = (n : ℕ) (bytes : List ℕ) → AllByRecursion (λ b. b < 256) bytes → 16 * n ≤ length bytes → bytes_of (values_of n bytes) ≡ take (16 * n) bytes
