-- Steps of the list of pieces.
use Rattle.std.proofs.Common.{◌≡◌, ◌∙◌, refl, sym, ap, arith, ℕ, zero, suc, ◌+◌, ◌-◌, ◌*◌, ◌<◌, List, [], ◌∷◌, ◌++◌, length, drop, subst, drop-cons, Option, None, Some}
use Rattle.std.proofs.lemmas.Option.{get_or_from_slice_get}
use Rattle.std.specs.List.{slice_get}
use Rattle.proof_plan.specs.declared.plan_entry.PlanEntry.{PlanEntry}
use Rattle.proof_plan.specs.PlanParts.{PlanParts}
use Rattle.proof_plan.specs.Sizes.{opening_length, query_count}
use Rattle.proof_format.specs.declared.piece.Piece.{Piece}
use Rattle.proof_format.specs.Openings.{IsNext, entries_left, openings_left}
use Rattle.proof_format.specs.Pieces.{entry_pieces, pieces, queries_pieces, rounds_pieces}

-- ---- openings
no_queries : (e q k : ℕ) → queries_pieces e 0 q k ≡ []
no_queries e q zero = refl
no_queries e q (suc k) = no_queries e (suc q) k

pub without_rounds : (e m q j : ℕ) → m ≡ 0 → openings_left e m q j ≡ []
without_rounds e m q j z =
    let left : m - j ≡ 0 = omega arith in
    (λ i. rounds_pieces e q j (left i) ++ queries_pieces e (z i) (suc q) (query_count - suc q)) ∙ no_queries e (suc q) (query_count - suc q)

pub opening_next : (e m q j : ℕ) → j < m
    → openings_left e m q j ≡ record { entry = e; query = Some q; round = j; length = 32 + 32 * (m - j + 1) } ∷ openings_left e m q (j + 1)
opening_next e m q j low =
    let left : m - j ≡ suc (m - (j + 1)) = omega arith in
    let long : opening_length (suc (suc (m - (j + 1)))) ≡ 32 + 32 * (m - j + 1) = omega arith in
    let next : suc j ≡ j + 1 = omega arith in
    let after = queries_pieces e m (suc q) (query_count - suc q) in
    ap (λ k. rounds_pieces e q j k ++ after) left
    ∙ (λ i. record { entry = e; query = Some q; round = j; length = long i } ∷ (rounds_pieces e q (next i) (m - (j + 1)) ++ after))

pub query_next : (e m q j : ℕ) → j ≡ m → suc q < query_count → openings_left e m q j ≡ openings_left e m (q + 1) 0
query_next e m q j done low =
    let left : m - j ≡ 0 = omega arith in
    let all : m ≡ m - 0 = omega arith in
    let more : query_count - suc q ≡ suc (query_count - suc (q + 1)) = omega arith in
    let next : suc q ≡ q + 1 = omega arith in
    ap (λ k. rounds_pieces e q j k ++ queries_pieces e m (suc q) (query_count - suc q)) left
    ∙ ap (queries_pieces e m (suc q)) more
    ∙ (λ i. rounds_pieces e (next i) 0 (all i) ++ queries_pieces e m (suc (next i)) (query_count - suc (q + 1)))

-- ---- entries
entry_next : (plan : PlanParts) (e : ℕ) (entry : PlanEntry) → e < length plan.entries → slice_get plan.entries e ≡ Some entry
    → entries_left plan e ≡ entry_pieces plan.packed_log e entry ++ entries_left plan (e + 1)
entry_next plan e entry low is =
    let next : suc e ≡ e + 1 = omega arith in
    ap (pieces plan.packed_log e) (drop-cons plan.entries e entry low ∙ ap (λ x. x ∷ drop (suc e) plan.entries) (get_or_from_slice_get plan.entries e entry entry is))
    ∙ (λ i. entry_pieces plan.packed_log e entry ++ pieces plan.packed_log (next i) (drop (next i) plan.entries))

-- where no openings are left
pub entry_begins : (plan : PlanParts) (e n : ℕ) (entry : PlanEntry) (result : Option Piece) (openings after all : List Piece) → IsNext result openings after → result ≡ None
    → openings ++ entries_left plan e ≡ all → e < n → n ≡ length plan.entries → slice_get plan.entries e ≡ Some entry
    → (after ≡ []) × (all ≡ entry_pieces plan.packed_log e entry ++ entries_left plan (e + 1))
entry_begins plan e n entry result openings after all next none is low few at =
    let ends : (openings ≡ []) × (after ≡ []) = subst (λ r. IsNext r openings after) none next in
    (ends.1, sym is ∙ ap (λ ps. ps ++ entries_left plan e) ends.0 ∙ entry_next plan e entry (omega arith) at)

pub piece_first : (piece : Piece) (ps after left all : List Piece) → (after ≡ []) × (all ≡ ps ++ left) → ps ≡ piece ∷ [] → all ≡ piece ∷ (after ++ left)
piece_first piece ps after left all begins one = begins.1 ∙ ap (λ qs. qs ++ left) one ∙ ap (λ qs. piece ∷ (qs ++ left)) (sym begins.0)
