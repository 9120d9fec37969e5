-- Steps of the reductions of a proof before any message.
use Rattle.std.proofs.Common.{◌≡◌, ◌∙◌, ℕ, ◌≤◌, List, [], ◌∷◌, length, reverse, slice_index, refl, sym, ap, arith}
use Rattle.std.proofs.lemmas.List.{reverse-append}
use Rattle.table_shape.specs.Fits.{ShapeFits}
use Rattle.table_shape.specs.Limits.{max_rows}
use Rattle.table_shape.specs.Parts.{ShapeParts}
use Rattle.proof_plan.specs.Plan.{plan}
use Rattle.walk_chain.specs.Chain.{Chained, chained, settle}
use Rattle.walk_chain.specs.LawfulChain.{LawfulChain}
use Rattle.walk_chain.proofs.Settling.{settle_entries}
use Rattle.m3_walk.specs.declared.stage.Stage.{Stage}
use Rattle.m3_walk.specs.declared.stage.Stage.TheVariants.{Start}
use Rattle.m3_walk.specs.Course.{ArePlans, course, walked}
use Rattle.m3_walk.specs.Kept.{Kept, none_wait}
use Rattle.m3_walk.specs.Linked.{linking}
use Rattle.m3_verifier.specs.Verdict.{first_state, room_of}

reverse_twice : {X : Type 0} (xs : List X) → reverse (reverse xs) ≡ xs
reverse_twice [] = refl
reverse_twice (x ∷ xs) = ap reverse (reverse-append (x ∷ []) xs) ∙ reverse-append (reverse xs) (x ∷ []) ∙ ap (λ ys. x ∷ ys) (reverse_twice xs)

pub state_is : (shape : ShapeParts) (rows : List ℕ) (stages : List Stage) (kept : Kept) (room : ℕ) → stages ≡ reverse (course shape rows) → kept ≡ none_wait room → room ≡ room_of shape
    → settle linking (reverse stages) Start kept ≡ first_state shape rows
unfolding first_state
state_is shape rows stages kept room s k r =
    let order : reverse stages ≡ course shape rows = ap reverse s ∙ reverse_twice (course shape rows) in
    let none : kept ≡ none_wait (room_of shape) = k ∙ ap none_wait r in
    λ i. settle linking (order i) Start (none i)

first_entries : LawfulChain linking → ArePlans → (shape : ShapeParts) (rows : List ℕ) → ShapeFits shape → length rows ≡ length shape.tables → ((t : ℕ) → slice_index rows t ≤ max_rows)
    → (chained linking).entries (first_state shape rows) ≡ walked (plan shape rows)
unfolding first_state
first_entries law plans shape rows fits counts few =
    settle_entries linking law (course shape rows) Start (none_wait (room_of shape))
    ∙ plans shape rows (room_of shape) fits counts few (record { products = omega arith; columns = omega arith })

pub entries_are : LawfulChain linking → ArePlans → (shape : ShapeParts) (rows : List ℕ) (walk : Chained Stage Kept) → ShapeFits shape → length rows ≡ length shape.tables → ((t : ℕ) → slice_index rows t ≤ max_rows)
    → walk ≡ first_state shape rows → walked (plan shape rows) ≡ (chained linking).entries walk
entries_are law plans shape rows walk fits counts few is = sym (ap (λ s. (chained linking).entries s) is ∙ first_entries law plans shape rows fits counts few)
