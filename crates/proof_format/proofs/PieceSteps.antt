-- The lengths of pieces.
use Rattle.std.proofs.Common.{◌≡◌, ◌∙◌, refl, ap, arith, ℕ, zero, suc, ◌+◌, ◌*◌, List, [], ◌∷◌, ◌++◌}
use Rattle.proof_plan.specs.declared.plan_entry.PlanEntry.{PlanEntry}
use Rattle.proof_plan.specs.declared.plan_entry.PlanEntry.TheVariants.{Root, Message, Draw, Constant, Queries}
use Rattle.proof_plan.specs.Sizes.{entries_length, entry_length, opening_length, query_count, query_length}
use Rattle.proof_format.specs.declared.piece.Piece.{Piece}
use Rattle.proof_format.specs.Pieces.{entry_pieces, lengths, pieces, queries_pieces, rounds_pieces}

-- ---- of two lists, one after the other
lengths-append : (ps qs : List Piece) → lengths (ps ++ qs) ≡ lengths ps + lengths qs
lengths-append [] qs = omega arith
lengths-append (p ∷ ps) qs = let rest = lengths-append ps qs in omega arith

-- ---- of queries
of_rounds : (e q j k : ℕ) → lengths (rounds_pieces e q j k) ≡ query_length k
of_rounds e q j zero = refl
of_rounds e q j (suc k) = ap (λ n. opening_length (suc (suc k)) + n) (of_rounds e q (suc j) k)

of_queries : (e m q k : ℕ) → lengths (queries_pieces e m q k) ≡ k * query_length m
of_queries e m q zero = grind arith
of_queries e m q (suc k) =
    let more : query_length m + k * query_length m ≡ suc k * query_length m = grind arith in
    lengths-append (rounds_pieces e q 0 m) (queries_pieces e m (suc q) k) ∙ (λ i. of_rounds e q 0 m i + of_queries e m (suc q) k i) ∙ more

-- ---- of entries
of_entry : (m e : ℕ) (entry : PlanEntry) → lengths (entry_pieces m e entry) ≡ entry_length m entry
of_entry m e Root = omega arith
of_entry m e (Message check n) = omega arith
of_entry m e (Draw kind n) = refl
of_entry m e Constant = omega arith
of_entry m e Queries = of_queries e m 0 query_count

pub of_entries : (m e : ℕ) (es : List PlanEntry) → lengths (pieces m e es) ≡ entries_length m es
of_entries m e [] = refl
of_entries m e (entry ∷ es) =
    lengths-append (entry_pieces m e entry) (pieces m (suc e) es) ∙ (λ i. of_entry m e entry i + of_entries m (suc e) es i)
