-- Claims on one column, one by one.
use Rattle.std.proofs.Common.{◌≡◌, ◌∙◌, ℕ, List, [], ◌∷◌, ◌++◌, length, sym}
use Rattle.std.proofs.lemmas.List.{map-append}
use Rattle.sumcheck.specs.declared.column_claim.ColumnClaim.{ColumnClaim}
use Rattle.eval_reduce.specs.Merge.{AllOn, points}

pub all_more : (t k n : ℕ) (cs : List ColumnClaim) (c : ColumnClaim) → AllOn t k n cs → (c.table ≡ t) × ((c.column ≡ k) × (length c.point ≡ n)) → AllOn t k n (cs ++ c ∷ [])
all_more t k n [] c h on = (on, tt)
all_more t k n (x ∷ xs) c h on = (h.0, all_more t k n xs c h.1 on)

pub points_more : (cs ds : List ColumnClaim) (c d : ColumnClaim) → points cs ≡ points ds → c.point ≡ d.point → points (cs ++ c ∷ []) ≡ points (ds ++ d ∷ [])
points_more cs ds c d h e = map-append (λ (x : ColumnClaim). x.point) cs (c ∷ []) ∙ (λ i. h i ++ e i ∷ []) ∙ sym (map-append (λ (x : ColumnClaim). x.point) ds (d ∷ []))
