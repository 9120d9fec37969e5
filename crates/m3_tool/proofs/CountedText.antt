-- The lines of a plan, entry by entry.
use Rattle.std.proofs.Common.{◌≡◌, ℕ, zero, suc, ◌+◌, List, [], ◌∷◌, ◌++◌, drop, length, sym, ◌∙◌, ap, arith, append_assoc}
use Rattle.std.specs.Prelude.{slice_get, Some}
use Rattle.proof_plan.specs.declared.plan_entry.PlanEntry.{PlanEntry}
use Rattle.proof_plan.specs.Plan.{packed_log, plan}
use Rattle.proof_plan.specs.PlanParts.{PlanParts}
use Rattle.table_shape.specs.Parts.{ShapeParts}
use Rattle.m3_tool.specs.Lines.{count_text, draw_lines, entry_line, plan_text}

entry_first : (entries : List PlanEntry) (k : ℕ) (entry : PlanEntry) → slice_get entries k ≡ Some entry → drop k entries ≡ entry ∷ drop (suc k) entries
entry_first [] k entry at = absurd cc
entry_first (first ∷ entries) zero entry at = let same : first ≡ entry = cc in ap (λ (e : PlanEntry). e ∷ entries) same
entry_first (first ∷ entries) (suc k) entry at = entry_first entries k entry at

-- the lines so far, with that of one entry more
pub entry_told : (entries : List PlanEntry) (k : ℕ) (entry : PlanEntry) (all text new : List ℕ) → slice_get entries k ≡ Some entry → text ++ draw_lines k (drop k entries) ≡ all → new ≡ text ++ entry_line k entry
    → new ++ draw_lines (k + 1) (drop (k + 1) entries) ≡ all
entry_told entries k entry all text new at so_far pushed =
    let next : k + 1 ≡ suc k = omega arith in
    let left : entry_line k entry ++ draw_lines (k + 1) (drop (k + 1) entries) ≡ draw_lines k (drop k entries) =
    ap (λ i. entry_line k entry ++ draw_lines (k + 1) (drop i entries)) next ∙ ap (draw_lines k) (sym (entry_first entries k entry at)) in
    ap (λ t. t ++ draw_lines (k + 1) (drop (k + 1) entries)) pushed ∙ append_assoc text (entry_line k entry) (draw_lines (k + 1) (drop (k + 1) entries)) ∙ ap (λ t. text ++ t) left ∙ so_far

-- the lines of the plan of a shape on so many rows
pub plan_told : (shape : ShapeParts) (rows text : List ℕ) (p : PlanParts) → text ≡ plan_text p → p ≡ record { entries = plan shape rows; tables = length shape.tables; packed_log = packed_log shape rows } → text ≡ count_text shape rows
unfolding count_text
plan_told shape rows text p told is = told ∙ ap plan_text is
