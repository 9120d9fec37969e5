-- A proof's file as its head and the pieces after it, one after another.
-- Source: docs/PROOF.md, "The bytes".
use Rattle.std.specs.Prelude.{◌≡◌, ◌+◌, ◌≤◌, ℕ, List, [], ◌∷◌, ◌++◌, length, map, take, drop}
use Rattle.std.specs.List.{flat_map}
use Rattle.proof_plan.specs.declared.plan_entry.PlanEntry.{PlanEntry}
use Rattle.proof_plan.specs.Sizes.{head_length, proof_length}
use Rattle.proof_format.specs.Pieces.{lengths, pieces}

-- parts one after another
abbrev pub joined : List (List ℕ) → List ℕ
joined parts = flat_map (λ part. part) parts

abbrev pub part_lengths : List (List ℕ) → List ℕ
part_lengths parts = map (λ (part : List ℕ). length part) parts

-- how long parts of these lengths are together
abbrev pub joined_length : List ℕ → ℕ
joined_length [] = 0
joined_length (n ∷ ns) = n + joined_length ns

-- the parts of these lengths from the start of bytes
abbrev pub split : List ℕ → List ℕ → List (List ℕ)
split [] bytes = []
split (n ∷ ns) bytes = take n bytes ∷ split ns (drop n bytes)

-- parts that were joined are split again, whatever follows
abbrev pub PartsAreSplitAgain : Type 0
PartsAreSplitAgain = (parts : List (List ℕ)) (rest : List ℕ) → split (part_lengths parts) (joined parts ++ rest) ≡ parts

-- bytes that were split into parts of these lengths are joined again
abbrev pub PartsAreJoinedAgain : Type 0
PartsAreJoinedAgain = (ns bytes : List ℕ) → joined_length ns ≤ length bytes → (part_lengths (split ns bytes) ≡ ns) × (joined (split ns bytes) ≡ take (joined_length ns) bytes)

-- the head and the pieces of a plan are together as long as the proof
abbrev pub ProofsAreHeadAndPieces : Type 0
ProofsAreHeadAndPieces = (tables m : ℕ) (es : List PlanEntry) → head_length tables + lengths (pieces m 0 es) ≡ proof_length tables m es
