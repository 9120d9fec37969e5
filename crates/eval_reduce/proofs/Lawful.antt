-- A merge keeps truth as it should.
use Rattle.std.proofs.Common.{◌≡◌, ◌∙◌, ℕ, suc, ◌+◌, ◌-◌, ◌^◌, List, [], ◌∷◌, ◌++◌, length, map, slice_index, refl, sym, ap, subst, arith}
use Rattle.std.specs.List.{AllByRecursion}
use Rattle.tower_laws.specs.Tower.{mul}
use Rattle.counting_laws.proofs.Bounds.{at_most_weaker}
use Rattle.poly_laws.specs.Polynomial.{horner}
use Rattle.poly_laws.proofs.Batches.{batches_differ}
use Rattle.cube_laws.specs.Extension.{eq_points, extension}
use Rattle.cube_laws.specs.SumClaim.{sum_at, AllLong}
use Rattle.batch_laws.proofs.Batching.{merge_sum as merge_is, merge_final}
use Rattle.poly_forms.specs.declared.check_kind.CheckKind.{CheckKind}
use Rattle.poly_forms.specs.declared.check_kind.CheckKind.TheVariants.{MergeFinal}
use Rattle.poly_forms.specs.declared.draw_kind.DrawKind.{DrawKind}
use Rattle.poly_forms.specs.declared.draw_kind.DrawKind.TheVariants.{Merge as MergeDraw, MergeRound}
use Rattle.sumcheck.specs.declared.column_claim.ColumnClaim.{ColumnClaim}
use Rattle.sumcheck.specs.declared.entry.Entry.{Entry}
use Rattle.sumcheck.specs.declared.entry.Entry.TheVariants.{Message, Draw}
use Rattle.sumcheck.specs.Column.{ColumnHolds}
use Rattle.sumcheck.specs.Machine.{Filling, Lawful, AtMessage, AtDraw, RoundIsClaimed}
use Rattle.sumcheck.specs.Rounds.{rounds}
use Rattle.sumcheck.specs.Summing.{LawfulSumming, KeepsTruth, adding, closed}
use Rattle.sumcheck.proofs.Entries.{same_draw}
use Rattle.sumcheck.proofs.Lawful.{keeps_truth}
use Rattle.eval_reduce.specs.Merge.{Merge, waiting, opening, summed, AllOn, Joined, joined_sum, points, values, eqs, merge_sum, merge, merge_entries, merge_round}

-- ---- the sum
one_value : (v : List ℕ) → length v ≡ 1 → v ≡ slice_index v 0 ∷ []
one_value [] l = absurd (omega arith)
one_value (x ∷ []) l = refl
one_value (x ∷ y ∷ v) l = absurd (omega arith)

eqs_are : (z : List ℕ) (cs : List ColumnClaim) → map (λ p. eq_points p z) (points cs) ≡ eqs z cs
eqs_are z [] = refl
eqs_are z (c ∷ cs) = ap (λ l. eq_points c.point z ∷ l) (eqs_are z cs)

sum_final : (F : Filling) (t : Joined) (z : List ℕ) → merge_sum.fits F t (length z) → sum_at (joined_sum F t) z 0 ≡ merge_sum.left t z (merge_sum.finals F t z)
sum_final F t z f =
    ap (λ n. sum_at (joined_sum F (record t { vars = n })) z 0) f.0 ∙ merge_final (length z) t.mu (points t.claims) (F t.table t.column) z f.1.1 refl ∙ ap (λ l. mul (horner l t.mu) (extension (F t.table t.column) z)) (eqs_are z t.claims)

pub sum_lawful : LawfulSumming merge_sum
sum_lawful = record {
  last = refl;
  final = sum_final;
  size = λ F t z. refl;
  told = λ F t z f. refl;
  tells = λ F t z v f l h. one_value v l ∙ ap (λ x. x ∷ []) (sym h);
  closed_fits = λ F t z v f l. f.1.0;
  next = λ t z v l. refl;
}

-- ---- the draw that joins
pub points_long : (t k n : ℕ) (cs : List ColumnClaim) → AllOn t k n cs → AllLong n (points cs)
points_long t k n [] h = tt
points_long t k n (c ∷ cs) h = (h.0.1.1, points_long t k n cs h.1)

length-values : (cs : List ColumnClaim) → length (values cs) ≡ length cs
length-values [] = refl
length-values (c ∷ cs) = ap suc (length-values cs)

length-extensions : (table : List ℕ) (cs : List ColumnClaim) → length (map (extension table) (points cs)) ≡ length cs
length-extensions table [] = refl
length-extensions table (c ∷ cs) = ap suc (length-extensions table cs)

-- claims on one column are true where their values are the extensions at their points
all_true : (F : Filling) (t k n : ℕ) (cs : List ColumnClaim) → AllOn t k n cs → map (extension (F t k)) (points cs) ≡ values cs → AllByRecursion (ColumnHolds F) cs
all_true F t k n [] o e = tt
all_true F t k n (c ∷ cs) o e =
    let a : extension (F t k) c.point ≡ c.value = cc in
    let r : map (extension (F t k)) (points cs) ≡ values cs = cc in
    ((λ i. extension (F (o.0.0 i) (o.0.1.0 i)) c.point) ∙ a, all_true F t k n cs o.1 r)

true_values : (F : Filling) (t k n : ℕ) (cs : List ColumnClaim) → AllOn t k n cs → AllByRecursion (ColumnHolds F) cs → map (extension (F t k)) (points cs) ≡ values cs
true_values F t k n [] o h = refl
true_values F t k n (c ∷ cs) o h =
    let a : extension (F t k) c.point ≡ c.value = sym (λ i. extension (F (o.0.0 i) (o.0.1.0 i)) c.point) ∙ h.0 in
    let r = true_values F t k n cs o.1 h.1 in cc

from_none : (n : ℕ) → n ≡ 0 + n
from_none n = omega arith

abbrev joined : ℕ → ℕ → ℕ → List ColumnClaim → ℕ → Joined
joined t k n cs r = record { table = t; column = k; vars = n; claims = cs; mu = r }

at_opening : (F : Filling) (t k n : ℕ) (cs : List ColumnClaim)
    → AtDraw merge (opening t k n cs) (length cs - 1) (rounds MergeRound 2 n ++ Message MergeFinal 1 ∷ []) F
at_opening F t k n cs =
    let first : (r : ℕ) → length (F t k) ≡ 2 ^ n → AllOn t k n cs → sum_at (joined_sum F (joined t k n cs r)) [] n ≡ horner (map (extension (F t k)) (points cs)) r
    = λ r l o. merge_is n r (points cs) (F t k) (points_long t k n cs o) l in
    record {
      next = λ r. refl;
      fits = λ r e f. (subst (merge_sum.fits F (joined t k n cs r)) (from_none n) (refl, (f.0, points_long t k n cs f.1)), (omega arith, omega arith));
      counted = λ f wrong.
          at_most_weaker _ _ (length (map (extension (F t k)) (points cs)) - 1) (length cs - 1) (λ r h. sym (first r f.0 f.1) ∙ h)
          (let e = length-extensions (F t k) cs in omega arith)
          (batches_differ (map (extension (F t k)) (points cs)) (values cs) (length-extensions (F t k) cs ∙ sym (length-values cs)) (λ e. wrong (all_true F t k n cs f.1 e)));
      stays = λ r f h. first r f.0 f.1 ∙ ap (λ l. horner l r) (true_values F t k n cs f.1 h);
    }

-- ---- at each entry
abbrev sum_keeps : KeepsTruth merge_sum
sum_keeps = keeps_truth merge_sum sum_lawful

at_message : (F : Filling) (s : Merge) (c : CheckKind) (n : ℕ) (es : List Entry) → merge_entries s ≡ Message c n ∷ es → AtMessage merge s n es F
at_message F (waiting m o) c n es e = absurd (cc)
at_message F (opening t k m cs) c n es e = absurd (cc)
at_message F (summed (closed x)) c n es e = absurd (cc)
at_message F (summed (adding t r)) c n es e =
    let h = sum_keeps.message F t r c n es e in
    record { next = h.next; fits = h.fits; sound = h.sound; size = h.size; passes = h.passes; stays = h.stays }

at_draw : (F : Filling) (s : Merge) (k : DrawKind) (n : ℕ) (es : List Entry) → merge_entries s ≡ Draw k n ∷ es → AtDraw merge s n es F
at_draw F (waiting m o) k n es e = absurd (cc)
at_draw F (opening t j m cs) k n es e = same_draw merge _ F MergeDraw k _ n _ es e (at_opening F t j m cs)
at_draw F (summed (closed x)) k n es e = absurd (cc)
at_draw F (summed (adding t r)) k n es e =
    let h = sum_keeps.draw F t r k n es e in
    record { next = h.next; fits = h.fits; counted = h.counted; stays = h.stays }

round_claimed : (s : Merge) → RoundIsClaimed (merge_entries s) (merge_round s)
round_claimed (waiting n o) = refl
round_claimed (opening t k n cs) = refl
round_claimed (summed (adding t r)) = sum_keeps.round t r
round_claimed (summed (closed c)) = refl

pub merge_lawful : Lawful merge
merge_lawful = record { message = at_message; draw = at_draw; round = round_claimed }
