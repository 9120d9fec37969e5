-- Steps of the pass over the rows of a head.
use Rattle.std.proofs.Common.{◌≡◌, ◌∙◌, sym, ap, arith, ℕ, suc, ◌+◌, ◌-◌, ◌*◌, ◌<◌, List, Option, None, Some}
use Rattle.proof_format.specs.declared.proof_fault.ProofFault.{ProofFault}
use Rattle.proof_format.specs.Head.{bad_rows, or_then, rows_fault, rows_place, short}

-- ---- a table's rows, and then those of the others
pub rows_step : (n t : ℕ) (file : List ℕ) → t < n
    → rows_fault n t (n - t) file ≡ or_then (short n (45 + 4 * t) file) (or_then (bad_rows t file) (rows_fault n (t + 1) (n - (t + 1)) file))
rows_step n t file low =
    let left : n - t ≡ suc (n - (t + 1)) = omega arith in
    let next : suc t ≡ t + 1 = omega arith in
    let due : rows_place (suc t) ≡ 45 + 4 * t = omega arith in
    ap (λ k. rows_fault n t k file) left ∙ (λ i. or_then (short n (due i) file) (or_then (bad_rows t file) (rows_fault n (next i) (n - (t + 1)) file)))

pub stopped_short : (n t : ℕ) (file : List ℕ) (whole : Option ProofFault) (found : ProofFault) → t < n
    → whole ≡ rows_fault n t (n - t) file → Some found ≡ short n (45 + 4 * t) file → Some found ≡ whole
stopped_short n t file whole found low is fault =
    sym (is ∙ rows_step n t file low ∙ ap (λ s. or_then s (or_then (bad_rows t file) (rows_fault n (t + 1) (n - (t + 1)) file))) (sym fault))

pub past_short : (n t : ℕ) (file : List ℕ) (whole : Option ProofFault) → t < n
    → whole ≡ rows_fault n t (n - t) file → None ≡ short n (45 + 4 * t) file → whole ≡ or_then (bad_rows t file) (rows_fault n (t + 1) (n - (t + 1)) file)
past_short n t file whole low is passed =
    is ∙ rows_step n t file low ∙ ap (λ s. or_then s (or_then (bad_rows t file) (rows_fault n (t + 1) (n - (t + 1)) file))) (sym passed)

pub stopped_rows : (n t : ℕ) (file : List ℕ) (whole : Option ProofFault) (found : ProofFault) → t < n
    → whole ≡ rows_fault n t (n - t) file → None ≡ short n (45 + 4 * t) file → Some found ≡ bad_rows t file → Some found ≡ whole
stopped_rows n t file whole found low is passed fault =
    sym (past_short n t file whole low is passed ∙ ap (λ s. or_then s (rows_fault n (t + 1) (n - (t + 1)) file)) (sym fault))

pub past_rows : (n t : ℕ) (file : List ℕ) (whole : Option ProofFault) → t < n
    → whole ≡ rows_fault n t (n - t) file → None ≡ short n (45 + 4 * t) file → None ≡ bad_rows t file → whole ≡ rows_fault n (t + 1) (n - (t + 1)) file
past_rows n t file whole low is passed right =
    past_short n t file whole low is passed ∙ ap (λ s. or_then s (rows_fault n (t + 1) (n - (t + 1)) file)) (sym right)
