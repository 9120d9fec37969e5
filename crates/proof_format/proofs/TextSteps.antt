-- Parts that are joined and split.
use Rattle.std.proofs.Common.{◌≡◌, ◌∙◌, refl, sym, ap, arith, ℕ, ◌+◌, ◌≤◌, List, [], ◌∷◌, ◌++◌, length, take, drop, append_assoc}
use Rattle.std.proofs.lemmas.List.{take_at, drop_at, length-drop, length-take-le}
use Rattle.std.proofs.Math.Seq.{take-add}
use Rattle.proof_plan.specs.declared.plan_entry.PlanEntry.{PlanEntry}
use Rattle.proof_plan.specs.Sizes.{head_length, proof_length}
use Rattle.proof_format.specs.Pieces.{lengths, pieces}
use Rattle.proof_format.specs.Text.{joined, joined_length, part_lengths, split}
use Rattle.proof_format.proofs.PieceSteps.{of_entries}

pub split_again : (parts : List (List ℕ)) (rest : List ℕ) → split (part_lengths parts) (joined parts ++ rest) ≡ parts
split_again [] rest = refl
split_again (p ∷ ps) rest =
    let a = append_assoc p (joined ps) rest in
    let t = take_at p (joined ps ++ rest) (length p) refl in
    let d = drop_at p (joined ps ++ rest) (length p) refl in
    ap (split (length p ∷ part_lengths ps)) a ∙ (λ i. t i ∷ split (part_lengths ps) (d i)) ∙ ap (λ qs. p ∷ qs) (split_again ps rest)

of_lengths : (ns bytes : List ℕ) → joined_length ns ≤ length bytes → part_lengths (split ns bytes) ≡ ns
of_lengths [] bytes l = refl
of_lengths (n ∷ ns) bytes l =
    let left = length-drop n bytes in
    let first = length-take-le n bytes (omega arith) in
    let rest = of_lengths ns (drop n bytes) (omega arith) in
    (λ i. first i ∷ rest i)

joined_bytes : (ns bytes : List ℕ) → joined_length ns ≤ length bytes → joined (split ns bytes) ≡ take (joined_length ns) bytes
joined_bytes [] bytes l = refl
joined_bytes (n ∷ ns) bytes l =
    let left = length-drop n bytes in
    let rest = joined_bytes ns (drop n bytes) (omega arith) in
    ap (λ bs. take n bytes ++ bs) rest ∙ sym (take-add n (joined_length ns) bytes)

pub joined_again : (ns bytes : List ℕ) → joined_length ns ≤ length bytes → (part_lengths (split ns bytes) ≡ ns) × (joined (split ns bytes) ≡ take (joined_length ns) bytes)
joined_again ns bytes l = (of_lengths ns bytes l, joined_bytes ns bytes l)

pub head_and_pieces : (tables m : ℕ) (es : List PlanEntry) → head_length tables + lengths (pieces m 0 es) ≡ proof_length tables m es
head_and_pieces tables m es = ap (λ n. head_length tables + n) (of_entries m 0 es)
