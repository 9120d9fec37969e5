-- The pieces of a proof's file after its head.
-- Source: docs/PROOF.md, "The bytes".
use Rattle.std.specs.Prelude.{ℕ, zero, suc, ◌+◌, ◌*◌, List, [], ◌∷◌, ◌++◌, None, Some}
use Rattle.proof_plan.specs.declared.plan_entry.PlanEntry.{PlanEntry}
use Rattle.proof_plan.specs.declared.plan_entry.PlanEntry.TheVariants.{Root, Message, Draw, Constant, Queries}
use Rattle.proof_plan.specs.Sizes.{opening_length, query_count}
use Rattle.proof_format.specs.declared.piece.Piece.{Piece}

-- an entry's own piece
abbrev pub whole_piece : ℕ → ℕ → List Piece
whole_piece e n = record { entry = e; query = None; round = 0; length = n } ∷ []

-- the openings of query q from round j on, of words whose trees have 2 ^ (k + 1), 2 ^ k, .., 2 ^ 2 leaves
abbrev pub rounds_pieces : ℕ → ℕ → ℕ → ℕ → List Piece
rounds_pieces e q j zero = []
rounds_pieces e q j (suc k) = record { entry = e; query = Some q; round = j; length = opening_length (suc (suc k)) } ∷ rounds_pieces e q (suc j) k

-- k queries from query q on, over m rounds
abbrev pub queries_pieces : ℕ → ℕ → ℕ → ℕ → List Piece
queries_pieces e m q zero = []
queries_pieces e m q (suc k) = rounds_pieces e q 0 m ++ queries_pieces e m (suc q) k

abbrev pub entry_pieces : ℕ → ℕ → PlanEntry → List Piece
entry_pieces m e Root = whole_piece e 32
entry_pieces m e (Message check n) = whole_piece e (16 * n)
entry_pieces m e (Draw kind n) = []
entry_pieces m e Constant = whole_piece e 16
entry_pieces m e Queries = queries_pieces e m 0 query_count

-- of the entries numbered from e on, of a packed table of 2 ^ m words
abbrev pub pieces : ℕ → ℕ → List PlanEntry → List Piece
pieces m e [] = []
pieces m e (entry ∷ es) = entry_pieces m e entry ++ pieces m (suc e) es

abbrev pub lengths : List Piece → ℕ
lengths [] = 0
lengths (p ∷ ps) = p.length + lengths ps
