-- Columns that are made from others, and their extensions.
use Rattle.std.proofs.Common.{◌≡◌, ℕ, ◌+◌, ◌*◌, ◌^◌, List, [], ◌∷◌, ◌++◌, map, length, get_or, bit_xor, sym, ◌∙◌, ap}
use Rattle.tower_laws.specs.Tower.{mul}
use Rattle.cube_laws.specs.Sums.{sum_to, tabulate}
use Rattle.cube_laws.specs.Extension.{dot, extension, weights, bits_of}
use Rattle.cube_laws.specs.SumClaim.{row}
use Rattle.cube_laws.proofs.Dots.{dot-comm, dot-exchange, sum_to-dot}
use Rattle.cube_laws.proofs.Linear.{extension-scale, extension-sums, extension-constant}
use Rattle.batch_laws.proofs.Parts.{extension-padded, extension_every}
use Rattle.cube_laws.proofs.Tabulate.{map-tabulate, sums-tabulate}
use Rattle.cube_laws.proofs.Weights.{tabulate-same, by_weights_is}
use Rattle.column_laws.specs.Columns.{linear_value, linear, packed}

pub linear_is : (k0 : ℕ) (ks z : List ℕ) (cs : List (List ℕ)) → extension (linear (2 ^ length z) k0 ks cs) z ≡ linear_value k0 ks (map (λ c. extension c z) cs)
linear_is k0 [] z cs = extension-constant k0 z
linear_is k0 (k ∷ ks) z [] = extension-constant k0 z
linear_is k0 (k ∷ ks) z (c ∷ cs) =
    let n = 2 ^ length z in
    ap (λ t. extension t z) (sym (sums-tabulate n (λ p. mul k (get_or c p 0)) (λ p. linear_value k0 ks (row cs p))))
    ∙ extension-sums (tabulate n (λ p. mul k (get_or c p 0))) (linear n k0 ks cs) z
    ∙ (λ i. bit_xor (first i) (linear_is k0 ks z cs i))
  where
    first : extension (tabulate (2 ^ length z) (λ p. mul k (get_or c p 0))) z ≡ mul k (extension c z)
    first =
        ap (λ t. extension t z) (sym (map-tabulate (2 ^ length z) (mul k) (λ p. get_or c p 0)))
        ∙ extension-scale k (tabulate (2 ^ length z) (λ p. get_or c p 0)) z ∙ ap (mul k) (sym (extension-padded c z))

pub packed_is : (i k : ℕ) (column z : List ℕ) → extension (packed i k (2 ^ length z) column) z ≡ sum_to (2 ^ k) (λ u. mul (2 ^ (u * 2 ^ i)) (extension column (bits_of k u ++ z)))
packed_is i k column z =
    let n = 2 ^ length z in
    let b : ℕ → ℕ = λ u. 2 ^ (u * 2 ^ i) in
    sym (by_weights_is (packed i k n column) z)
    ∙ ap (λ t. dot t (weights z)) (tabulate-same n _ (λ x. dot (tabulate (2 ^ k) (λ u. get_or column (x * 2 ^ k + u) 0)) (tabulate (2 ^ k) b))
    (λ x l. sum_to-dot (2 ^ k) b (λ u. get_or column (x * 2 ^ k + u) 0) ∙ dot-comm (tabulate (2 ^ k) b) (tabulate (2 ^ k) (λ u. get_or column (x * 2 ^ k + u) 0))))
    ∙ dot-exchange n (2 ^ k) (λ x u. get_or column (x * 2 ^ k + u) 0) (weights z) (tabulate (2 ^ k) b)
    ∙ ap (λ t. dot t (tabulate (2 ^ k) b)) (tabulate-same (2 ^ k) _ (λ u. extension column (bits_of k u ++ z)) (λ u l. by_weights_is (tabulate n (λ x. get_or column (x * 2 ^ k + u) 0)) z ∙ extension_every k u column z l))
    ∙ dot-comm (tabulate (2 ^ k) (λ u. extension column (bits_of k u ++ z))) (tabulate (2 ^ k) b)
    ∙ sym (sum_to-dot (2 ^ k) b (λ u. extension column (bits_of k u ++ z)))
