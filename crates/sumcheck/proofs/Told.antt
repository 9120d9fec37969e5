-- Claims on several columns at one point.
use Rattle.std.proofs.Common.{◌≡◌, ◌∙◌, ℕ, suc, ◌^◌, ◌≤◌, List, [], ◌∷◌, length, map, refl, sym, ap, arith}
use Rattle.std.specs.List.{AllByRecursion}
use Rattle.cube_laws.specs.Extension.{extension}
use Rattle.cube_laws.specs.SumClaim.{AllLong}
use Rattle.sumcheck.specs.Column.{ColumnFits, ColumnHolds, column_claims}
use Rattle.sumcheck.specs.Machine.{Filling}

-- they are true of the extensions' values
pub claims_told : (F : Filling) (t : ℕ) (z cs : List ℕ) → AllByRecursion (ColumnHolds F) (column_claims t z cs (map (λ list. extension list z) (map (F t) cs)))
claims_told F t z [] = tt
claims_told F t z (c ∷ cs) = (refl, claims_told F t z cs)

-- and of no others
pub claims_tell : (F : Filling) (t : ℕ) (z cs v : List ℕ) → length v ≡ length cs → AllByRecursion (ColumnHolds F) (column_claims t z cs v) → v ≡ map (λ list. extension list z) (map (F t) cs)
claims_tell F t z [] [] l h = refl
claims_tell F t z [] (x ∷ v) l h = absurd (omega arith)
claims_tell F t z (c ∷ cs) [] l h = absurd (omega arith)
claims_tell F t z (c ∷ cs) (x ∷ v) l h = let r = claims_tell F t z cs v (omega arith) h.1 in (λ i. sym h.0 i ∷ r i)

pub claims_fit : (F : Filling) (t n : ℕ) (z cs v : List ℕ) → length v ≡ length cs → n ≡ length z → AllLong (2 ^ n) (map (F t) cs) → AllByRecursion (ColumnFits F) (column_claims t z cs v)
claims_fit F t n z [] v l e h = tt
claims_fit F t n z (c ∷ cs) [] l e h = absurd (omega arith)
claims_fit F t n z (c ∷ cs) (x ∷ v) l e h = (h.0 ∙ ap (λ k. 2 ^ k) e, claims_fit F t n z cs v (omega arith) e h.1)

pub claims_count : (t : ℕ) (z cs v : List ℕ) → length v ≡ length cs → length (column_claims t z cs v) ≡ length cs
claims_count t z [] v h = refl
claims_count t z (c ∷ cs) [] h = absurd (omega arith)
claims_count t z (c ∷ cs) (x ∷ v) h = ap suc (claims_count t z cs v (omega arith))

pub claims_short : (t : ℕ) (z cs v : List ℕ) → length (column_claims t z cs v) ≤ length cs
claims_short t z [] v = omega arith
claims_short t z (c ∷ cs) [] = omega arith
claims_short t z (c ∷ cs) (x ∷ v) = let h = claims_short t z cs v in omega arith
