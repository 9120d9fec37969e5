-- Claims on columns become one on the table of bits, and keep truth as they should.
use Rattle.std.proofs.Common.{◌≡◌, ◌∙◌, ℕ, zero, suc, ◌+◌, ◌-◌, ◌^◌, List, [], ◌∷◌, ◌++◌, length, map, take, drop, slice_index, refl, sym, ap, subst, arith}
use Rattle.std.proofs.lemmas.List.{append_assoc, drop-drop, length-drop, length-take-le, take-append-drop}
use Rattle.std.specs.List.{AllByRecursion}
use Rattle.tower_laws.specs.Tower.{Fits, mul}
use Rattle.tower_laws.specs.Lists.{AllFit}
use Rattle.counting_laws.proofs.Bounds.{at_most_weaker}
use Rattle.poly_laws.specs.Polynomial.{horner}
use Rattle.poly_laws.proofs.Batches.{batches_differ}
use Rattle.cube_laws.specs.Extension.{dot, extension}
use Rattle.cube_laws.specs.SumClaim.{sum_at, AllLong}
use Rattle.batch_laws.proofs.Batching.{batch_sum as batch_is, batch_final}
use Rattle.column_laws.proofs.Placing.{length-placed, placed_point, placed_truth}
use Rattle.poly_forms.specs.declared.check_kind.CheckKind.{CheckKind}
use Rattle.poly_forms.specs.declared.check_kind.CheckKind.TheVariants.{BitFinal}
use Rattle.poly_forms.specs.declared.draw_kind.DrawKind.{DrawKind}
use Rattle.poly_forms.specs.declared.draw_kind.DrawKind.TheVariants.{BitBatch, BitRound}
use Rattle.sumcheck.specs.declared.column_claim.ColumnClaim.{ColumnClaim}
use Rattle.sumcheck.specs.declared.entry.Entry.{Entry}
use Rattle.sumcheck.specs.declared.entry.Entry.TheVariants.{Message, Draw}
use Rattle.sumcheck.specs.Column.{ColumnHolds}
use Rattle.sumcheck.specs.Machine.{Filling, Lawful, AtMessage, AtDraw, RoundIsClaimed}
use Rattle.sumcheck.specs.Rounds.{Rounds, sum_claim, round_claim, bound, rounds, rounds_draw}
use Rattle.sumcheck.specs.Summing.{LawfulSumming, KeepsTruth, adding, closed, summed_message}
use Rattle.sumcheck.proofs.Entries.{same_draw}
use Rattle.sumcheck.proofs.Lawful.{keeps_truth}
use Rattle.table_shape.specs.Placement.{Block, places_log}
use Rattle.bit_claim.specs.Bits.{above_in, bits, claim_at, claim_table, level_in, part_in, size_in, Stands}
use Rattle.bit_claim.specs.Batching.{AllStand, Batched, Batching, PointFits, waiting, opening, summed, batch_sum, batching, batching_entries, batching_round, values}

-- ---- a claim's table
-- a point in three pieces: of a value's bits, of the position, of the part
pieces : (i m : ℕ) (z : List ℕ) → (take i z ++ take m (drop i z)) ++ drop (i + m) z ≡ z
pieces i m z =
    ap (λ rest. (take i z ++ take m (drop i z)) ++ rest) (sym (drop-drop m i z))
    ∙ append_assoc (take i z) (take m (drop i z)) (drop m (drop i z))
    ∙ ap (λ rest. take i z ++ rest) (take-append-drop m (drop i z))
    ∙ take-append-drop i z

pub claim_point : (F : Filling) (bs : List Block) (c : ColumnClaim) (z : List ℕ) → length z ≡ places_log bs → Stands F bs c → extension (claim_table bs c) z ≡ claim_at bs z c
claim_point F bs c z l s =
    let i = level_in bs c in
    let m = length c.point in
    let low = take i z in
    let mid = take m (drop i z) in
    let top = drop (i + m) z in
    let within = s.within in
    let a : length low ≡ i = length-take-le i z (omega arith) in
    let r : length (drop i z) ≡ length z - i = length-drop i z in
    let b : length mid ≡ m = length-take-le m (drop i z) (omega arith) in
    let d : length top ≡ above_in bs c = length-drop (i + m) z ∙ ap (λ n. n - size_in bs c) l in
    ap (extension (claim_table bs c)) (sym (pieces i m z)) ∙ placed_point i (above_in bs c) (part_in bs c) c.point low mid top a b d

claims_at : (F : Filling) (bs : List Block) (cs : List ColumnClaim) (z : List ℕ) → length z ≡ places_log bs → AllByRecursion (Stands F bs) cs → map (λ t. extension t z) (map (claim_table bs) cs) ≡ map (claim_at bs z) cs
claims_at F bs [] z l s = refl
claims_at F bs (c ∷ cs) z l s = λ i. claim_point F bs c z l s.0 i ∷ claims_at F bs cs z l s.1 i

pub claim_long : (F : Filling) (bs : List Block) (c : ColumnClaim) → Stands F bs c → length (claim_table bs c) ≡ 2 ^ places_log bs
claim_long F bs c s =
    let within = s.within in
    let all : level_in bs c + length c.point + above_in bs c ≡ places_log bs = omega arith in
    length-placed (level_in bs c) (above_in bs c) (part_in bs c) c.point ∙ ap (λ n. 2 ^ n) all

claims_long : (F : Filling) (bs : List Block) (cs : List ColumnClaim) → AllByRecursion (Stands F bs) cs → AllLong (2 ^ places_log bs) (map (claim_table bs) cs)
claims_long F bs [] s = tt
claims_long F bs (c ∷ cs) s = (claim_long F bs c s.0, claims_long F bs cs s.1)

-- the sum over B times t is the column's extension
abbrev true_value : Filling → ColumnClaim → ℕ
true_value F c = extension (F c.table c.column) c.point

claim_sum : (F : Filling) (bs : List Block) (c : ColumnClaim) → Stands F bs c → dot (bits F bs) (claim_table bs c) ≡ true_value F c
claim_sum F bs c s = placed_truth (level_in bs c) (above_in bs c) (part_in bs c) (bits F bs) (F c.table c.column) c.point s.level s.part s.there

claim_sums : (F : Filling) (bs : List Block) (cs : List ColumnClaim) → AllByRecursion (Stands F bs) cs → map (dot (bits F bs)) (map (claim_table bs) cs) ≡ map (true_value F) cs
claim_sums F bs [] s = refl
claim_sums F bs (c ∷ cs) s = λ i. claim_sum F bs c s.0 i ∷ claim_sums F bs cs s.1 i

-- ---- the sum
one_value : (v : List ℕ) → length v ≡ 1 → v ≡ slice_index v 0 ∷ []
one_value [] l = absurd (omega arith)
one_value (x ∷ []) l = refl
one_value (x ∷ y ∷ v) l = absurd (omega arith)

sum_final : (F : Filling) (t : Batched) (z : List ℕ) → batch_sum.fits F t (length z) → sum_at (batch_sum.sum F t) z 0 ≡ batch_sum.left t z (batch_sum.finals F t z)
sum_final F t z f =
    batch_final (2 ^ places_log t.blocks) t.lambda (map (claim_table t.blocks) t.claims) (bits F t.blocks) z
    ∙ ap (λ l. mul (horner l t.lambda) (extension (bits F t.blocks) z)) (claims_at F t.blocks t.claims z (sym f.0) f.1.1)

pub sum_lawful : LawfulSumming batch_sum
sum_lawful = record {
  last = refl;
  final = sum_final;
  size = λ F t z. refl;
  told = λ F t z f. refl;
  tells = λ F t z v f l h. one_value v l ∙ ap (λ x. x ∷ []) (sym h);
  closed_fits = λ F t z v f l. (f.1.0 ∙ ap (λ n. 2 ^ n) f.0, f.0);
  next = λ t z v l. refl;
}

-- ---- the draw that joins
length-values : (cs : List ColumnClaim) → length (values cs) ≡ length cs
length-values [] = refl
length-values (c ∷ cs) = ap suc (length-values cs)

length-true_values : (F : Filling) (cs : List ColumnClaim) → length (map (true_value F) cs) ≡ length cs
length-true_values F [] = refl
length-true_values F (c ∷ cs) = ap suc (length-true_values F cs)

all_true : (F : Filling) (cs : List ColumnClaim) → map (true_value F) cs ≡ values cs → AllByRecursion (ColumnHolds F) cs
all_true F [] e = tt
all_true F (c ∷ cs) e =
    let a : true_value F c ≡ c.value = cc in
    let r : map (true_value F) cs ≡ values cs = cc in
    (a, all_true F cs r)

values_true : (F : Filling) (cs : List ColumnClaim) → AllByRecursion (ColumnHolds F) cs → map (true_value F) cs ≡ values cs
values_true F [] h = refl
values_true F (c ∷ cs) h = λ i. h.0 i ∷ values_true F cs h.1 i

abbrev batched_claims : List Block → List ColumnClaim → ℕ → Batched
batched_claims bs cs r = record { blocks = bs; claims = cs; lambda = r }

from_none : (n : ℕ) → n ≡ 0 + n
from_none n = omega arith

at_opening : (F : Filling) (bs : List Block) (cs : List ColumnClaim)
    → AtDraw batching (opening bs cs) (length cs - 1) (rounds BitRound 2 (places_log bs) ++ Message BitFinal 1 ∷ []) F
at_opening F bs cs =
    let n = places_log bs in
    let first : (r : ℕ) → AllStand F bs cs → sum_at (batch_sum.sum F (batched_claims bs cs r)) [] n ≡ horner (map (true_value F) cs) r
    = λ r f. batch_is n r (map (claim_table bs) cs) (bits F bs) (claims_long F bs cs f.1) f.0 ∙ ap (λ l. horner l r) (claim_sums F bs cs f.1) in
    record {
      next = λ r. refl;
      fits = λ r e f. ((subst (batch_sum.fits F (batched_claims bs cs r)) (from_none n) (refl, f), (omega arith, omega arith)), tt);
      counted = λ f wrong.
          at_most_weaker _ _ (length (map (true_value F) cs) - 1) (length cs - 1) (λ r h. sym (first r f) ∙ h)
          (let e = length-true_values F cs in omega arith)
          (batches_differ (map (true_value F) cs) (values cs) (length-true_values F cs ∙ sym (length-values cs)) (λ e. wrong (all_true F cs e)));
      stays = λ r f h. first r f ∙ ap (λ l. horner l r) (values_true F cs h);
    }

-- ---- the point
all_fit-push : (l x : ℕ) (xs : List ℕ) → AllFit l xs → Fits l x → AllFit l (xs ++ x ∷ [])
all_fit-push l x [] a f = (f, tt)
all_fit-push l x (y ∷ ys) a f = (a.0, all_fit-push l x ys a.1 f)

point_drawn : (t : Batched) (r : Rounds) (x : ℕ) → Fits 7 x → AllFit 7 (bound r) → AllFit 7 (bound (rounds_draw r x))
point_drawn t (sum_claim d n z c) x f a = a
point_drawn t (round_claim d n z v) x f a = all_fit-push 7 x z a f

point_kept : (t : Batched) (r : Rounds) (v : List ℕ) → PointFits (adding t r) → PointFits (summed_message batch_sum (adding t r) v)
point_kept t (sum_claim d zero z c) v a = a
point_kept t (sum_claim d (suc n) z c) v a = a
point_kept t (round_claim d n z w) v a = a

-- ---- at each entry
abbrev sum_keeps : KeepsTruth batch_sum
sum_keeps = keeps_truth batch_sum sum_lawful

at_message : (F : Filling) (s : Batching) (c : CheckKind) (n : ℕ) (es : List Entry) → batching_entries s ≡ Message c n ∷ es → AtMessage batching s n es F
at_message F (waiting bs m) c n es e = absurd (cc)
at_message F (opening bs cs) c n es e = absurd (cc)
at_message F (summed (closed x)) c n es e = absurd (cc)
at_message F (summed (adding t r)) c n es e =
    let h = sum_keeps.message F t r c n es e in
    record {
      next = h.next;
      fits = λ v l f. (h.fits v l f.0, point_kept t r v f.1);
      sound = λ v l f. h.sound v l f.0;
      size = h.size;
      passes = λ f. h.passes f.0;
      stays = λ f. h.stays f.0;
    }

at_draw : (F : Filling) (s : Batching) (k : DrawKind) (n : ℕ) (es : List Entry) → batching_entries s ≡ Draw k n ∷ es → AtDraw batching s n es F
at_draw F (waiting bs m) k n es e = absurd (cc)
at_draw F (opening bs cs) k n es e = same_draw batching _ F BitBatch k _ n _ es e (at_opening F bs cs)
at_draw F (summed (closed x)) k n es e = absurd (cc)
at_draw F (summed (adding t r)) k n es e =
    let h = sum_keeps.draw F t r k n es e in
    record {
      next = h.next;
      fits = λ x l f. (h.fits x l f.0, point_drawn t r x l f.1);
      counted = λ f. h.counted f.0;
      stays = λ x f. h.stays x f.0;
    }

round_claimed : (s : Batching) → RoundIsClaimed (batching_entries s) (batching_round s)
round_claimed (waiting bs m) = refl
round_claimed (opening bs cs) = refl
round_claimed (summed (adding t r)) = sum_keeps.round t r
round_claimed (summed (closed c)) = refl

pub batching_lawful : Lawful batching
batching_lawful = record { message = at_message; draw = at_draw; round = round_claimed }
