-- A claim on a linear column keeps its truth.
use Rattle.std.proofs.Common.{◌≡◌, ◌∙◌, ℕ, suc, ◌^◌, List, [], ◌∷◌, length, map, None, refl, sym, ap, subst, arith}
use Rattle.std.specs.List.{AllByRecursion}
use Rattle.cube_laws.specs.Extension.{extension}
use Rattle.cube_laws.specs.SumClaim.{AllLong}
use Rattle.column_laws.specs.Columns.{linear, linear_value}
use Rattle.column_laws.proofs.Making.{linear_is}
use Rattle.poly_forms.specs.declared.check_kind.CheckKind.{CheckKind}
use Rattle.poly_forms.specs.declared.check_kind.CheckKind.TheVariants.{Linear as LinearCheck}
use Rattle.poly_forms.specs.declared.draw_kind.DrawKind.{DrawKind}
use Rattle.sumcheck.specs.declared.column_claim.ColumnClaim.{ColumnClaim}
use Rattle.sumcheck.specs.declared.entry.Entry.{Entry}
use Rattle.sumcheck.specs.declared.entry.Entry.TheVariants.{Message, Draw}
use Rattle.sumcheck.specs.Column.{ColumnFits, ColumnHolds}
use Rattle.sumcheck.specs.Machine.{Filling, Lawful, AtMessage, AtDraw, RoundIsClaimed}
use Rattle.sumcheck.proofs.Entries.{same_message}
use Rattle.sumcheck.proofs.Lawful.{checks_equal, equal_checks}
use Rattle.table_shape.specs.declared.shape.ShapeTerm.{ShapeTerm}
use Rattle.eval_reduce.specs.Linear.{Combination, Linear, waiting, stated, told, IsLinear, coefficients, linear_entries, linear_step, term_claims, term_lists}

abbrev at_point : List ℕ → List ℕ → ℕ
at_point z c = extension c z

-- the column's extension by those of the terms' columns
pub linear_at : (F : Filling) (f : Combination) (claim : ColumnClaim) → IsLinear F f claim
    → extension (F claim.table claim.column) claim.point ≡ linear_value f.constant (coefficients f.terms) (map (λ c. extension c claim.point) (term_lists F f.table f.terms))
linear_at F f claim h =
    (λ i. extension (F (h.on.table_is i) (h.on.column_is i)) claim.point)
    ∙ ap (λ t. extension t claim.point) (h.column_is ∙ ap (λ n. linear (2 ^ n) f.constant (coefficients f.terms) (term_lists F f.table f.terms)) (sym h.on.long))
    ∙ linear_is f.constant (coefficients f.terms) claim.point (term_lists F f.table f.terms)

claims_fit : (F : Filling) (claim : ColumnClaim) (t : ℕ) (ts : List ShapeTerm) (vs : List ℕ) → claim.table ≡ t → AllLong (2 ^ length claim.point) (term_lists F t ts) → AllByRecursion (ColumnFits F) (term_claims claim ts vs)
claims_fit F claim t [] vs e h = tt
claims_fit F claim t (x ∷ ts) [] e h = tt
claims_fit F claim t (x ∷ ts) (v ∷ vs) e h = (ap (λ t. length (F t x.column)) e ∙ h.0, claims_fit F claim t ts vs e h.1)

pub claims_told : (F : Filling) (claim : ColumnClaim) (t : ℕ) (ts : List ShapeTerm) → claim.table ≡ t → AllByRecursion (ColumnHolds F) (term_claims claim ts (map (λ c. extension c claim.point) (term_lists F t ts)))
claims_told F claim t [] e = tt
claims_told F claim t (x ∷ ts) e = (ap (λ t. extension (F t x.column) claim.point) e, claims_told F claim t ts e)

claims_tell : (F : Filling) (claim : ColumnClaim) (t : ℕ) (ts : List ShapeTerm) (vs : List ℕ) → claim.table ≡ t → length vs ≡ length ts → AllByRecursion (ColumnHolds F) (term_claims claim ts vs)
    → map (λ c. extension c claim.point) (term_lists F t ts) ≡ vs
claims_tell F claim t [] [] e l h = refl
claims_tell F claim t [] (v ∷ vs) e l h = absurd (omega arith)
claims_tell F claim t (x ∷ ts) [] e l h = absurd (omega arith)
claims_tell F claim t (x ∷ ts) (v ∷ vs) e l h =
    (λ i. (sym (ap (λ t. extension (F t x.column) claim.point) e) ∙ h.0) i ∷ claims_tell F claim t ts vs e (omega arith) h.1 i)

pub length-values : (F : Filling) (z : List ℕ) (t : ℕ) (ts : List ShapeTerm) → length (map (λ c. extension c z) (term_lists F t ts)) ≡ length ts
length-values F z t [] = refl
length-values F z t (x ∷ ts) = ap suc (length-values F z t ts)

at_stated : (F : Filling) (f : Combination) (claim : ColumnClaim) → AtMessage linear_step (stated f claim) (length f.terms) [] F
at_stated F f claim = record {
  next = λ v l. refl;
  fits = λ v l h. claims_fit F claim f.table f.terms v h.on.table_is (subst (λ n. AllLong (2 ^ n) (term_lists F f.table f.terms)) (sym h.on.long) h.long);
  sound = λ v l h p w.
      linear_at F f claim h ∙ ap (linear_value f.constant (coefficients f.terms)) (claims_tell F claim f.table f.terms v h.on.table_is l w)
      ∙ checks_equal LinearCheck (linear_value f.constant (coefficients f.terms) v) claim.value p;
  size = length-values F claim.point f.table f.terms;
  passes = λ h w. equal_checks LinearCheck _ claim.value (sym (linear_at F f claim h) ∙ w);
  stays = λ h w. claims_told F claim f.table f.terms h.on.table_is;
}

at_message : (F : Filling) (s : Linear) (c : CheckKind) (n : ℕ) (es : List Entry) → linear_entries s ≡ Message c n ∷ es → AtMessage linear_step s n es F
at_message F (waiting f) c n es e = absurd (cc)
at_message F (stated f claim) c n es e = same_message linear_step _ F LinearCheck c (length f.terms) n [] es e (at_stated F f claim)
at_message F (told cs) c n es e = absurd (cc)

at_draw : (F : Filling) (s : Linear) (k : DrawKind) (n : ℕ) (es : List Entry) → linear_entries s ≡ Draw k n ∷ es → AtDraw linear_step s n es F
at_draw F (waiting f) k n es e = absurd (cc)
at_draw F (stated f claim) k n es e = absurd (cc)
at_draw F (told cs) k n es e = absurd (cc)

no_round : (s : Linear) → RoundIsClaimed (linear_entries s) None
no_round (waiting f) = refl
no_round (stated f claim) = refl
no_round (told cs) = refl

pub linear_lawful : Lawful linear_step
linear_lawful = record { message = at_message; draw = at_draw; round = no_round }
