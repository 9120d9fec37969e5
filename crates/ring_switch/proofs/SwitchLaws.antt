-- The ring switch keeps truth.
use Rattle.std.proofs.Common.{◌≡◌, ◌∙◌, ℕ, zero, suc, ◌+◌, ◌*◌, ◌^◌, ◌<◌, ◌≤◌, List, [], ◌∷◌, ◌++◌, map, length, slice_index, refl, sym, ap, subst, arith, length-append, length-take}
use Rattle.std.proofs.lemmas.List.{take-append-drop}
use Rattle.std.proofs.lemmas.Nat.{pow-add}
use Rattle.std.proofs.lemmas.Nat.Bits.{bit_at-lt}
use Rattle.std.proofs.Math.Nat.{pow-succ', pow-zero}
use Rattle.std.specs.List.{AllByRecursion}
use Rattle.counting_laws.specs.Counting.{AtMost}
use Rattle.counting_laws.proofs.Bounds.{at_most_weaker}
use Rattle.counting_laws.proofs.Chains.{Vector, vector_of}
use Rattle.tower_laws.specs.Lists.{AllFit}
use Rattle.cube_laws.specs.Sums.{tabulate}
use Rattle.cube_laws.specs.Extension.{bit, dot, extension, weights, fold_low, fold_all}
use Rattle.cube_laws.specs.SumClaim.{sum_at}
use Rattle.cube_laws.proofs.Coordinates.{fold_all-last, fold_all_is, length-fold_all, sum_at-all}
use Rattle.cube_laws.proofs.Draws.{coordinate}
use Rattle.cube_laws.proofs.Folding.{length-fold_low}
use Rattle.cube_laws.proofs.Tabulate.{get_or-tabulate}
use Rattle.cube_laws.proofs.Vectors.{vector_bound}
use Rattle.cube_laws.proofs.Weights.{length-tabulate}
use Rattle.batch_laws.specs.Batch.{pair_sum}
use Rattle.batch_laws.proofs.Batching.{pair_sum_is}
use Rattle.batch_laws.proofs.Fits.{all_fit-tabulate, all_fit-weights}
use Rattle.tensor_laws.specs.Tensor.{across, column, row, bits_of_table}
use Rattle.tensor_laws.specs.Switch.{transposed, combined}
use Rattle.tensor_laws.proofs.Crossing.{across_lt, bit-across, dot_bits_lt, tensor_together}
use Rattle.tensor_laws.proofs.Switching.{message_tells, switched, transposed_is}
use Rattle.poly_forms.specs.declared.check_kind.CheckKind.{CheckKind}
use Rattle.poly_forms.specs.declared.check_kind.CheckKind.TheVariants.{Tensor}
use Rattle.poly_forms.specs.declared.draw_kind.DrawKind.{DrawKind}
use Rattle.poly_forms.specs.declared.draw_kind.DrawKind.TheVariants.{TensorCoordinate}
use Rattle.sumcheck.specs.declared.entry.Entry.{Entry}
use Rattle.sumcheck.specs.declared.entry.Entry.TheVariants.{Message, Draw}
use Rattle.sumcheck.specs.Machine.{Filling, Lawful, AtMessage, AtDraw, RoundIsClaimed}
use Rattle.sumcheck.specs.Summing.{LawfulSumming, KeepsTruth, adding, closed}
use Rattle.sumcheck.proofs.Entries.{same_draw, same_message}
use Rattle.sumcheck.proofs.Lawful.{checks_equal, equal_checks, keeps_truth}
use Rattle.ring_switch.specs.Switching.{IsPacked, RowsFit, RowsTellColumns, Switching, SwitchingFits, SwitchingHolds, VectorsAreCounted, after_draws, columns_of, coordinate_entries, high_of, low_of, packed, rowed, rows_of, setting, summed, switch_sum, switching, switching_entries, switching_round, true_columns, true_rows, valued, waiting}

-- ---- the sum
one_value : (v : List ℕ) → length v ≡ 1 → v ≡ slice_index v 0 ∷ []
one_value [] l = absurd (omega arith)
one_value (x ∷ []) l = refl
one_value (x ∷ y ∷ v) l = absurd (omega arith)

pub length-combined : (high combine : List ℕ) → length (combined high combine) ≡ 2 ^ length high
length-combined high combine = length-tabulate (2 ^ length high) _

pub sum_lawful : LawfulSumming switch_sum
sum_lawful = record {
  last = refl;
  final = λ F t z f. sum_at-all (pair_sum (combined t.high t.combine) (packed F)) z;
  size = λ F t z. refl;
  told = λ F t z f. refl;
  tells = λ F t z v f l h. one_value v l ∙ ap (λ x. x ∷ []) (sym h);
  closed_fits = λ F t z v f l. f.1;
  next = λ t z v l. refl;
}

-- ---- rows and columns
transposed-fits : (cs : List ℕ) → length cs ≡ 128 → AllFit 7 (transposed 128 cs)
transposed-fits cs l = all_fit-tabulate 7 128 (across cs) (λ u. across_lt cs u 128 l)

-- what is read across twice is as before
transposed-twice : (cs : List ℕ) → length cs ≡ 128 → AllFit 7 cs → cs ≡ transposed 128 (transposed 128 cs)
transposed-twice cs l fit =
    transposed_is 128 (transposed 128 cs) cs (length-tabulate 128 (across cs)) l fit
    (λ u v h k. sym (bit-across cs v u) ∙ ap (λ w. bit w u) (sym (get_or-tabulate 128 v (across cs) k)))

each_bit : (ts : List ℕ) (v : ℕ) → AllByRecursion (λ b. b < 2) (map (λ t. bit t v) ts)
each_bit [] v = tt
each_bit (t ∷ ts) v = (bit_at-lt t v, each_bit ts v)

true_columns-fit : (F : Filling) (high : List ℕ) → IsPacked F high → AllFit 7 (true_columns high (packed F))
true_columns-fit F high h =
    all_fit-tabulate 7 128 (column (weights high) (packed F)) (λ v. dot_bits_lt 128 (map (λ t. bit t v) (packed F)) (weights high) (each_bit (packed F) v) (all_fit-weights 7 high h.elements))

length-columns : (high table : List ℕ) → length (true_columns high table) ≡ 128
length-columns high table = length-tabulate 128 (column (weights high) table)

length-rows : (high table : List ℕ) → length (true_rows high table) ≡ 128
length-rows high table = length-tabulate 128 (row (weights high) table)

pub rows_tell : RowsTellColumns
rows_tell F high v h fit l = tensor_together 128 (weights high) (packed F) v l (all_fit-weights 7 high h.elements) h.words fit

true_together : (F : Filling) (high : List ℕ) → IsPacked F high → true_rows high (packed F) ≡ rows_of (true_columns high (packed F))
true_together F high h = sym ((rows_tell F high (true_columns high (packed F)) h (true_columns-fit F high h) (length-columns high (packed F))).0 refl)

-- ---- rows with some variables set, also where all are
record IsSet (F : Filling) (h p rows : List ℕ) (n : ℕ) : Type 0 where
  packed : IsPacked F h
  set : length p + n ≡ 7
  long : length rows ≡ 2 ^ n

setting_entries : (h p rows : List ℕ) (n : ℕ) → switching_entries (setting h p rows n) ≡ coordinate_entries n (length h)
setting_entries h p rows zero = refl
setting_entries h p rows (suc n) = refl

from_none : (n : ℕ) → n ≡ 0 + n
from_none n = omega arith

all_set : (F : Filling) (h p : List ℕ) → length p ≡ 7 → IsPacked F h
    → fold_all p (true_rows h (packed F)) ≡ sum_at (pair_sum (combined h p) (packed F)) [] (length h) ∷ []
all_set F h p l k =
    fold_all_is (true_rows h (packed F)) p (length-rows h (packed F) ∙ ap (λ n. 2 ^ n) (sym l))
    ∙ ap (λ v. v ∷ []) (
    ap (λ n. extension (tabulate (2 ^ n) (row (weights h) (packed F))) p) (sym l)
    ∙ switched h p (packed F)
    ∙ sym (pair_sum_is (length h) (combined h p) (packed F) (length-combined h p) k.size)
    )

setting_fits : (F : Filling) (h p rows : List ℕ) (n : ℕ) → IsSet F h p rows n → SwitchingFits F (setting h p rows n)
setting_fits F h p rows zero k = (
  subst (switch_sum.fits F (record { high = h; combine = p })) (from_none (length h)) (refl, k.packed.size),
  (omega arith, omega arith),
)
setting_fits F h p rows (suc n) k = record { packed = k.packed; set = k.set; long = k.long }

setting_holds : (F : Filling) (h p rows : List ℕ) (n : ℕ) → IsSet F h p rows n → fold_all p (true_rows h (packed F)) ≡ rows → SwitchingHolds F (setting h p rows n)
setting_holds F h p rows zero k e = ap (λ t. slice_index t 0) (sym (all_set F h p (let s = k.set in omega arith) k.packed) ∙ e)
setting_holds F h p rows (suc n) k e = e

setting_tells : (F : Filling) (h p rows : List ℕ) (n : ℕ) → IsSet F h p rows n → SwitchingHolds F (setting h p rows n) → fold_all p (true_rows h (packed F)) ≡ rows
setting_tells F h p rows zero k e = all_set F h p (let s = k.set in omega arith) k.packed ∙ ap (λ x. x ∷ []) e ∙ sym (one_value rows k.long)
setting_tells F h p rows (suc n) k e = e

-- ---- the tensor
first_rows : (F : Filling) (h v : List ℕ) → IsPacked F h → IsSet F h [] (rows_of v) 7
first_rows F h v k = record { packed = k; set = refl; long = length-tabulate 128 (across v) }

length-low : (z : List ℕ) → 7 ≤ length z → length (low_of z) ≡ 7
length-low z l = let t = length-take 7 z in omega arith

at_valued : (F : Filling) (z : List ℕ) (s : ℕ) → AtMessage switching (valued z s) 128 (coordinate_entries 7 (length (high_of z))) F
at_valued F z s =
    let cs = true_columns (high_of z) (packed F) in
    record {
      next = λ v l. setting_entries (high_of z) [] (rows_of v) 7;
      fits = λ v l h. setting_fits F (high_of z) [] (rows_of v) 7 (first_rows F (high_of z) v h.1);
      sound = λ v l h p w.
          let rows = length-tabulate 128 (across v) in
          let true_is = setting_tells F (high_of z) [] (rows_of v) 7 (first_rows F (high_of z) v h.1) w in
          ap (extension (bits_of_table 128 (packed F))) (sym (take-append-drop 7 z))
          ∙ sym (message_tells 7 (high_of z) (low_of z) (packed F) (columns_of (rows_of v)) (length-low z h.0) (length-tabulate 128 (across (rows_of v))) h.1.elements h.1.words (transposed-fits (rows_of v) rows)
          (sym (transposed-twice (rows_of v) rows (transposed-fits v l)) ∙ sym true_is))
          ∙ checks_equal Tensor (dot (columns_of (rows_of v)) (weights (low_of z))) s p;
      size = length-columns (high_of z) (packed F);
      passes = λ h w.
          equal_checks Tensor (dot (columns_of (rows_of cs)) (weights (low_of z))) s
          (ap (λ c. dot c (weights (low_of z))) (sym (transposed-twice cs (length-columns (high_of z) (packed F)) (true_columns-fit F (high_of z) h.1)))
          ∙ message_tells 7 (high_of z) (low_of z) (packed F) cs (length-low z h.0) (length-columns (high_of z) (packed F)) h.1.elements h.1.words (true_columns-fit F (high_of z) h.1) (sym (true_together F (high_of z) h.1))
          ∙ ap (extension (bits_of_table 128 (packed F))) (take-append-drop 7 z) ∙ w);
      stays = λ h w. setting_holds F (high_of z) [] (rows_of cs) 7 (first_rows F (high_of z) cs h.1) (true_together F (high_of z) h.1);
    }

-- ---- a draw
next_set : (F : Filling) (h p rows : List ℕ) (n r : ℕ) → IsSet F h p rows (suc n) → IsSet F h (p ++ r ∷ []) (fold_low r rows) n
next_set F h p rows n r k = record {
  packed = k.packed;
  set = let s = k.set in let a = length-append p (r ∷ []) in omega arith;
  long = length-fold_low r (2 ^ n) rows (k.long ∙ (let e : 2 ^ suc n ≡ 2 * 2 ^ n = omega arith in e));
}

length-set : (F : Filling) (h p rows : List ℕ) (n : ℕ) → IsSet F h p rows n → length (fold_all p (true_rows h (packed F))) ≡ 2 ^ n
length-set F h p rows n k =
    length-fold_all (2 ^ n) p (true_rows h (packed F))
    (length-rows h (packed F) ∙ (let s = k.set in let e : 7 ≡ n + length p = omega arith in ap (λ m. 2 ^ m) e) ∙ pow-add 2 n (length p))

of_rows : (F : Filling) (h p rows : List ℕ) (n : ℕ) → RowsFit F h p rows n → IsSet F h p rows (suc n)
of_rows F h p rows n k = record { packed = k.packed; set = k.set; long = k.long }

at_rows : (F : Filling) (h p rows : List ℕ) (n : ℕ) → AtDraw switching (rowed h p rows n) 1 (coordinate_entries n (length h)) F
at_rows F h p rows n =
    let list = true_rows h (packed F) in
    record {
      next = λ r. setting_entries h (p ++ r ∷ []) (fold_low r rows) n;
      fits = λ r e k. setting_fits F h (p ++ r ∷ []) (fold_low r rows) n (next_set F h p rows n r (of_rows F h p rows n k));
      counted = λ k wrong.
          at_most_weaker _ (λ r. fold_low r (fold_all p list) ≡ fold_low r rows) 1 1
          (λ r w. sym (fold_all-last p list r) ∙ setting_tells F h (p ++ r ∷ []) (fold_low r rows) n (next_set F h p rows n r (of_rows F h p rows n k)) w) (omega arith)
          (coordinate (fold_all p list) rows (length-set F h p rows (suc n) (of_rows F h p rows n k) ∙ sym k.long) wrong);
      stays = λ r k w.
          setting_holds F h (p ++ r ∷ []) (fold_low r rows) n (next_set F h p rows n r (of_rows F h p rows n k)) (fold_all-last p list r ∙ ap (fold_low r) w);
    }

-- ---- at each entry
abbrev sum_keeps : KeepsTruth switch_sum
sum_keeps = keeps_truth switch_sum sum_lawful

at_message : (F : Filling) (s : Switching) (c : CheckKind) (n : ℕ) (es : List Entry) → switching_entries s ≡ Message c n ∷ es → AtMessage switching s n es F
at_message F (waiting m) c n es e = absurd (cc)
at_message F (valued z s) c n es e = same_message switching _ F Tensor c 128 n _ es e (at_valued F z s)
at_message F (rowed h p rows m) c n es e = absurd (cc)
at_message F (summed (closed x)) c n es e = absurd (cc)
at_message F (summed (adding t r)) c n es e =
    let h = sum_keeps.message F t r c n es e in
    record { next = h.next; fits = h.fits; sound = h.sound; size = h.size; passes = h.passes; stays = h.stays }

at_draw : (F : Filling) (s : Switching) (k : DrawKind) (n : ℕ) (es : List Entry) → switching_entries s ≡ Draw k n ∷ es → AtDraw switching s n es F
at_draw F (waiting m) k n es e = absurd (cc)
at_draw F (valued z s) k n es e = absurd (cc)
at_draw F (rowed h p rows m) k n es e = same_draw switching _ F TensorCoordinate k 1 n _ es e (at_rows F h p rows m)
at_draw F (summed (closed x)) k n es e = absurd (cc)
at_draw F (summed (adding t r)) k n es e =
    let h = sum_keeps.draw F t r k n es e in
    record { next = h.next; fits = h.fits; counted = h.counted; stays = h.stays }

round_claimed : (s : Switching) → RoundIsClaimed (switching_entries s) (switching_round s)
round_claimed (waiting n) = refl
round_claimed (valued z s) = refl
round_claimed (rowed h p rows n) = refl
round_claimed (summed (adding t r)) = sum_keeps.round t r
round_claimed (summed (closed c)) = refl

pub switching_lawful : Lawful switching
switching_lawful = record { message = at_message; draw = at_draw; round = round_claimed }

-- ---- several draws
all_drawn : (F : Filling) (h p rows rs : List ℕ) (n : ℕ) → length rs ≡ n → IsSet F h p rows n → SwitchingHolds F (after_draws (setting h p rows n) rs)
    → fold_all rs (fold_all p (true_rows h (packed F))) ≡ fold_all rs rows
all_drawn F h p rows [] zero l k w = setting_tells F h p rows zero k w
all_drawn F h p rows [] (suc n) l k w = absurd (omega arith)
all_drawn F h p rows (r ∷ rs) zero l k w = absurd (omega arith)
all_drawn F h p rows (r ∷ rs) (suc n) l k w =
    ap (fold_all rs) (sym (fold_all-last p (true_rows h (packed F)) r))
    ∙ all_drawn F h (p ++ r ∷ []) (fold_low r rows) rs n (omega arith) (next_set F h p rows n r k) w

power_of_power : (q k m : ℕ) → (q ^ k) ^ m ≡ q ^ (k * m)
power_of_power q k zero = let e : k * 0 ≡ 0 = grind arith in pow-zero (q ^ k) ∙ sym (ap (λ n. q ^ n) e ∙ pow-zero q)
power_of_power q k (suc m) =
    let e : k + k * m ≡ k * suc m = grind arith in
    pow-succ' (q ^ k) m ∙ ap (λ w. q ^ k * w) (power_of_power q k m) ∙ sym (pow-add q k (k * m)) ∙ ap (λ n. q ^ n) e

pub vectors_counted : VectorsAreCounted
vectors_counted F high rows f l wrong =
    let h : IsSet F high [] rows 7 = record { packed = f; set = refl; long = l } in
    subst (λ q. AtMost (7 * q) (λ rs. (length rs ≡ 7) × AllByRecursion (λ r. r < 2 ^ 128) rs × SwitchingHolds F (after_draws (setting high [] rows 7) rs))) (power_of_power 2 128 6)
    (at_most_weaker _ (λ rs. Vector (2 ^ 128) 7 rs × (fold_all rs (true_rows high (packed F)) ≡ fold_all rs rows)) (7 * (2 ^ 128) ^ 6) (7 * (2 ^ 128) ^ 6)
    (λ rs w. (vector_of (2 ^ 128) 7 rs w.0 w.1, all_drawn F high [] rows rs 7 w.0 h w.2)) (omega arith)
    (vector_bound (2 ^ 128) 7 (true_rows high (packed F)) rows (length-rows high (packed F)) l wrong))
