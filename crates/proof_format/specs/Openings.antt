-- The pieces that are left while they are listed.
-- Source: docs/PROOF.md, "The bytes".
use Rattle.std.specs.Prelude.{◌≡◌, ℕ, suc, ◌-◌, List, [], ◌∷◌, ◌++◌, drop, Option, None, Some}
use Rattle.proof_plan.specs.PlanParts.{PlanParts}
use Rattle.proof_plan.specs.Sizes.{query_count}
use Rattle.proof_format.specs.declared.piece.Piece.{Piece}
use Rattle.proof_format.specs.Pieces.{pieces, queries_pieces, rounds_pieces}

-- of query q from round j on, and of the queries after it, over m rounds
abbrev pub openings_left : ℕ → ℕ → ℕ → ℕ → List Piece
openings_left e m q j = rounds_pieces e q j (m - j) ++ queries_pieces e m (suc q) (query_count - suc q)

-- of the entries numbered from e on
abbrev pub entries_left : PlanParts → ℕ → List Piece
entries_left plan e = pieces plan.packed_log e (drop e plan.entries)

-- the first of a list and what is left after it, or that nothing is left
abbrev pub IsNext : Option Piece → List Piece → List Piece → Type 0
IsNext None before after = (before ≡ []) × (after ≡ [])
IsNext (Some piece) before after = before ≡ piece ∷ after
