-- What a basis keeps: the values of the hats at the powers of 2.
-- Source: docs/LAWS.md, "word_laws: code words".
use Rattle.std.specs.Prelude.{◌≡◌, ◌<◌, ◌≤◌, ℕ, ◌*◌, ◌/◌, ◌%◌, ◌^◌, List, length, slice_index}
use Rattle.word_laws.specs.CodeWord.{hat, vanish}

-- for each hat below n, its values at the n first powers of 2
pub record IsTable (points : List ℕ) (n : ℕ) : Type 0 where
  pub low : n ≤ 24
  pub size : length points ≡ n * n
  pub at : (k : ℕ) → k < n * n → slice_index points k ≡ hat (k / n) (2 ^ (k % n))

-- the values at the powers of 2 by which a hat is divided
pub record AreTops (tops : List ℕ) (n : ℕ) : Type 0 where
  pub size : length tops ≡ n
  pub at : (i : ℕ) → i < n → slice_index tops i ≡ vanish i (2 ^ i)
