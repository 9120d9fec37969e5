-- A claim on a column as a sum over the table of all bits.
use Rattle.std.proofs.Common.{◌≡◌, ℕ, ◌+◌, ◌*◌, ◌^◌, ◌<◌, List, [], ◌∷◌, ◌++◌, map, take, drop, length, refl, sym, ◌∙◌, ap, arith}
use Rattle.std.proofs.lemmas.List.{length-append}
use Rattle.std.proofs.lemmas.Nat.{pow-add}
use Rattle.tower_laws.specs.Tower.{mul}
use Rattle.tower_laws.specs.Lists.{AllFit}
use Rattle.cube_laws.specs.Sums.{tabulate}
use Rattle.cube_laws.specs.Extension.{bit, dot, eq_points, extension, weights, bits_of, kron}
use Rattle.cube_laws.proofs.EqPoints.{weights_extend}
use Rattle.cube_laws.proofs.Folding.{length-weights, length-bits_of}
use Rattle.cube_laws.proofs.Kron.{length-kron, extension-kron}
use Rattle.batch_laws.proofs.Parts.{dot_part, length-corner}
use Rattle.cube_laws.proofs.Weights.{by_weights_is, length-tabulate, tabulate-same}
use Rattle.tensor_laws.specs.Tensor.{bits_of_table}
use Rattle.tensor_laws.proofs.Crossing.{dot-kron}
use Rattle.column_laws.specs.Columns.{placed, placed_at}
use Rattle.column_laws.proofs.Powers.{bits_spell, powers_extend}

abbrev powers : ℕ → List ℕ
powers i = tabulate (2 ^ i) (λ u. 2 ^ u)

spelled : (i : ℕ) (column : List ℕ) → AllFit i column → map (λ t. dot (tabulate (2 ^ i) (bit t)) (powers i)) column ≡ column
spelled i [] h = refl
spelled i (c ∷ cs) h = let e = bits_spell (2 ^ i) c h.0 in let r = spelled i cs h.1 in cc

length-powers : (i : ℕ) → length (powers i) ≡ 2 ^ i
length-powers i = length-tabulate (2 ^ i) (λ u. 2 ^ u)

length-local : (i : ℕ) (z : List ℕ) → length (kron (powers i) (weights z)) ≡ 2 ^ (i + length z)
length-local i z =
    let p : 2 ^ (i + length z) ≡ 2 ^ i * 2 ^ length z = pow-add 2 i (length z) in
    let q : 2 ^ length z * 2 ^ i ≡ 2 ^ i * 2 ^ length z = grind arith in
    length-kron (powers i) (weights z) ∙ (λ t. length-weights z t * length-powers i t) ∙ q ∙ sym p

pub length-placed : (i g q : ℕ) (z : List ℕ) → length (placed i z g q) ≡ 2 ^ (i + length z + g)
length-placed i g q z =
    let p : 2 ^ (i + length z + g) ≡ 2 ^ (i + length z) * 2 ^ g = pow-add 2 (i + length z) g in
    let e : 2 ^ g * 2 ^ (i + length z) ≡ 2 ^ (i + length z) * 2 ^ g = grind arith in
    length-kron (kron (powers i) (weights z)) (weights (bits_of g q)) ∙ (λ t. length-corner g q t * length-local i z t) ∙ e ∙ sym p

pub placed_truth : (i g q : ℕ) (bits column z : List ℕ) → AllFit i column → q < 2 ^ g
    → take (2 ^ (i + length z)) (drop (q * 2 ^ (i + length z)) bits) ≡ bits_of_table (2 ^ i) column → dot bits (placed i z g q) ≡ extension column z
placed_truth i g q bits column z fits h place =
    dot_part g q bits (kron (powers i) (weights z)) h
    ∙ ap (λ n. dot (take n (drop (q * n) bits)) (kron (powers i) (weights z))) (length-local i z)
    ∙ ap (λ w. dot w (kron (powers i) (weights z))) place
    ∙ dot-kron (2 ^ i) column (powers i) (weights z) (length-powers i)
    ∙ ap (λ w. dot w (weights z)) (spelled i column fits)
    ∙ by_weights_is column z

-- B at a point
powers_are : (i : ℕ) → powers i ≡ tabulate (2 ^ i) (λ u. 2 ^ (u * 2 ^ 0))
powers_are i = tabulate-same (2 ^ i) (λ u. 2 ^ u) (λ u. 2 ^ (u * 2 ^ 0)) (λ u l. let e : u ≡ u * 2 ^ 0 = grind arith in ap (λ m. 2 ^ m) e)

pub placed_point : (i g q : ℕ) (z low mid top : List ℕ) → length low ≡ i → length mid ≡ length z → length top ≡ g → extension (placed i z g q) ((low ++ mid) ++ top) ≡ placed_at z g q low mid top
placed_point i g q z low mid top hl hm ht =
    let s = length-append low mid in
    let b = ap (λ t. extension t low) (powers_are i ∙ ap (λ n. tabulate (2 ^ n) (λ u. 2 ^ (u * 2 ^ 0))) (sym hl)) ∙ powers_extend 0 low in
    extension-kron (kron (powers i) (weights z)) (weights (bits_of g q)) (low ++ mid) top (length-local i z ∙ ap (λ n. 2 ^ n) (omega arith))
    ∙ (λ t. mul (extension-kron (powers i) (weights z) low mid (length-powers i ∙ ap (λ n. 2 ^ n) (sym hl)) t) (weights_extend (bits_of g q) top (length-bits_of g q ∙ sym ht) t))
    ∙ (λ t. mul (mul (b t) (weights_extend z mid (sym hm) t)) (eq_points (bits_of g q) top))
