-- Bits appended to a table.
use Rattle.std.proofs.Common.{◌≡◌, ◌∙◌, ℕ, ◌+◌, suc, List, [], ◌∷◌, ◌++◌, sym, ap, arith}
use Rattle.std.proofs.lemmas.List.{append_assoc}
use Rattle.cube_laws.specs.Sums.{tabulate}
use Rattle.cube_laws.proofs.Tabulate.{tabulate-suc}

-- one more of those that a function gives
pub tabulated_more : (n v : ℕ) (f : ℕ → ℕ) (start old new : List ℕ) → old ≡ start ++ tabulate n f → new ≡ old ++ v ∷ [] → v ≡ f n → new ≡ start ++ tabulate (n + 1) f
tabulated_more n v f start old new h e q =
    let p : suc n ≡ n + 1 = omega arith in
    e ∙ (λ i. h i ++ q i ∷ []) ∙ append_assoc start (tabulate n f) (f n ∷ []) ∙ ap (λ l. start ++ l) (sym (tabulate-suc n f)) ∙ ap (λ m. start ++ tabulate m f) p
