-- Claims taken out of those that wait: a reduction of one is entered with the first on its column.
use Rattle.std.proofs.Common.{◌≡◌, ◌∙◌, ◌↔◌, ◌^◌, ◌==◌, ℕ, Bool, true, false, cond, List, [], ◌∷◌, length, None, Some, refl, sym, subst}
use Rattle.std.proofs.lemmas.Bool.{and_parts, eqb-true}
use Rattle.std.specs.List.{AllByRecursion, filter}
use Rattle.sumcheck.specs.declared.column_claim.ColumnClaim.{ColumnClaim}
use Rattle.sumcheck.specs.Column.{ColumnFits, ColumnHolds}
use Rattle.sumcheck.specs.Machine.{Filling}
use Rattle.sumcheck.proofs.RowSteps.{same_exponent}
use Rattle.eval_reduce.specs.Virtual.{IsOn}
use Rattle.m3_walk.specs.declared.stage.Stage.{Stage}
use Rattle.m3_walk.specs.declared.stage.Stage.TheVariants.{Start}
use Rattle.claim_lists.specs.OnColumn.{is_on, but_first_on, first_on}
use Rattle.m3_walk.specs.Kept.{Kept, KeptFits, KeptHolds}
use Rattle.m3_walk.specs.Linking.{on_claim}
use Rattle.m3_walk.specs.Stages.{StageFits, StageHolds}
use Rattle.m3_walk.proofs.Parts.{all_but_first, none_on, the_first, with_first}

-- ---- by a test
-- what passes has what the test and the list say
pub all_passed : {X : Type 0} (P Q : X → Type 0) (p : X → Bool) → ((x : X) → p x ≡ true → P x → Q x) → (xs : List X) → AllByRecursion P xs → AllByRecursion Q (filter p xs)
all_passed P Q p h [] k = tt
all_passed P Q p h (x ∷ xs) k =
    elim (p x) as (λ t. p x ≡ t → AllByRecursion Q (cond t (x ∷ filter p xs) (filter p xs))) [
      | true ↦ λ e. (h x e k.0, all_passed P Q p h xs k.1)
      | false ↦ λ e. all_passed P Q p h xs k.1
    ] refl

-- a claim on column c of table t, of 2 ^ n values
pub is_claim_on : (F : Filling) (t c n : ℕ) (d : ColumnClaim) → length (F t c) ≡ 2 ^ n → is_on t c d ≡ true → ColumnFits F d → IsOn t c n d
is_claim_on F t c n d size on fit =
    let both = and_parts (d.table == t) (d.column == c) on in
    let table = eqb-true d.table t both.0 in
    let column = eqb-true d.column c both.1 in
    record {
      table_is = table;
      column_is = column;
      long = same_exponent (length d.point) n (sym fit ∙ (λ i. length (F (table i) (column i))) ∙ size);
    }

-- ---- the first on a column
first_is_on : (t c : ℕ) (cs : List ColumnClaim) (d : ColumnClaim) → first_on t c cs ≡ Some d → is_on t c d ≡ true
first_is_on t c [] d e = absurd cc
first_is_on t c (x ∷ xs) d e =
    elim (is_on t c x) as (λ b. is_on t c x ≡ b → cond b (Some x) (first_on t c xs) ≡ Some d → is_on t c d ≡ true) [
      | true ↦ λ on s. subst (λ y. is_on t c y ≡ true) (some_is x d s) on
      | false ↦ λ off s. first_is_on t c xs d s
    ] refl e
  where
    some_is : (x d : ColumnClaim) → Some x ≡ Some d → x ≡ d
    some_is x d s = cc

-- there is none, or there is one and the others stay
taken : (t c : ℕ) (cs : List ColumnClaim) (make : ColumnClaim → Stage) (P : Stage → List ColumnClaim → Type 0)
    → P Start cs → ((d : ColumnClaim) → first_on t c cs ≡ Some d → P (make d) (but_first_on t c cs)) → P (on_claim (first_on t c cs) make) (but_first_on t c cs)
taken t c cs make P none some =
    elim (first_on t c cs) as (λ o. first_on t c cs ≡ o → P (on_claim o make) (but_first_on t c cs)) [
      | None ↦ λ e. subst (P Start) (sym (none_on t c cs e)) none
      | Some d ↦ λ e. some d e
    ] refl

-- a reduction of a claim fits, and so do the others
pub one_fits : (F : Filling) (w : Kept) (t c n : ℕ) (make : ColumnClaim → Stage) → length (F t c) ≡ 2 ^ n → ((d : ColumnClaim) → IsOn t c n d → StageFits F (make d)) → KeptFits F w
    → StageFits F (on_claim (first_on t c w.columns) make) × KeptFits F (record w { columns = but_first_on t c w.columns })
one_fits F w t c n make size fits k =
    taken t c w.columns make (λ g cs. StageFits F g × KeptFits F (record w { columns = cs })) (tt, k)
    (λ d e. (
      fits d (is_claim_on F t c n d size (first_is_on t c w.columns d e) (the_first (ColumnFits F) t c w.columns d e k.columns)),
      record { products = k.products; columns = all_but_first (ColumnFits F) t c w.columns k.columns; bits = k.bits },
    ))

-- and it is as true as the claim
pub one_holds : (F : Filling) (w : Kept) (t c n : ℕ) (make : ColumnClaim → Stage) → length (F t c) ≡ 2 ^ n → ((d : ColumnClaim) → IsOn t c n d → ColumnHolds F d ↔ StageHolds F (make d)) → KeptFits F w
    → (StageHolds F (on_claim (first_on t c w.columns) make) × KeptHolds F (record w { columns = but_first_on t c w.columns })) ↔ (Unit {0} × KeptHolds F w)
one_holds F w t c n make size same k =
    taken t c w.columns make (λ g cs. (StageHolds F g × KeptHolds F (record w { columns = cs })) ↔ (Unit {0} × KeptHolds F w)) ((λ h. h), (λ h. h))
    (λ d e.
    let both = same d (is_claim_on F t c n d size (first_is_on t c w.columns d e) (the_first (ColumnFits F) t c w.columns d e k.columns)) in (
      (λ h. (tt, record { products = h.1.products; columns = with_first (ColumnHolds F) t c w.columns d e (both.1 h.0) h.1.columns; bits = h.1.bits; packed = h.1.packed })),
      (λ h. (both.0 (the_first (ColumnHolds F) t c w.columns d e h.1.columns), record { products = h.1.products; columns = all_but_first (ColumnHolds F) t c w.columns h.1.columns; bits = h.1.bits; packed = h.1.packed })),
    ))
