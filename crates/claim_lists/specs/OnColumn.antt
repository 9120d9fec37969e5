-- Claims on columns, parted by the column that they are on.
-- Source: docs/PROOF.md, "The claims that wait".
use Rattle.std.specs.Prelude.{ℕ, ◌==◌, ◌&&◌, Bool, true, false, cond, List, [], ◌∷◌, Option, None, Some}
use Rattle.std.specs.List.{filter}
use Rattle.sumcheck.specs.declared.column_claim.ColumnClaim.{ColumnClaim}

-- ---- all of those on column c of table t, and the others
abbrev pub is_on : ℕ → ℕ → ColumnClaim → Bool
is_on t c claim = claim.table == t && claim.column == c

abbrev pub is_off : ℕ → ℕ → ColumnClaim → Bool
is_off t c claim = cond (is_on t c claim) false true

abbrev pub on_column : ℕ → ℕ → List ColumnClaim → List ColumnClaim
on_column t c claims = filter (is_on t c) claims

abbrev pub off_column : ℕ → ℕ → List ColumnClaim → List ColumnClaim
off_column t c claims = filter (is_off t c) claims

-- ---- the first of them, and the others
abbrev pub first_on : ℕ → ℕ → List ColumnClaim → Option ColumnClaim
first_on t c [] = None
first_on t c (claim ∷ claims) = cond (is_on t c claim) (Some claim) (first_on t c claims)

abbrev pub but_first_on : ℕ → ℕ → List ColumnClaim → List ColumnClaim
but_first_on t c [] = []
but_first_on t c (claim ∷ claims) = cond (is_on t c claim) claims (claim ∷ but_first_on t c claims)
