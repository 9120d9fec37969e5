-- The claim of a group keeps its truth.
use Rattle.std.proofs.Common.{◌≡◌, ◌∙◌, ℕ, zero, suc, ◌+◌, ◌*◌, ◌-◌, ◌^◌, ◌<◌, ◌≤◌, ltb, List, [], ◌∷◌, ◌++◌, take, drop, length, map, slice_index, refl, sym, ap, subst, arith, length-append, length-take, bit_xor}
use Rattle.std.proofs.lemmas.List.{length-map, take-append-drop}
use Rattle.std.proofs.lemmas.Nat.{pow-add}
use Rattle.std.proofs.Math.Nat.{pow-succ', pow-zero}
use Rattle.std.specs.List.{AllByRecursion}
use Rattle.counting_laws.proofs.Bounds.{at_most_weaker}
use Rattle.counting_laws.proofs.Chains.{Vector, vector_of}
use Rattle.counting_laws.specs.Counting.{AtMost}
use Rattle.tower_laws.specs.Tower.{mul}
use Rattle.tower_laws.specs.Lists.{sums}
use Rattle.tower_laws.proofs.Field.{identity, field_terms}
use Rattle.tower_laws.proofs.Rules.{times_zero}
use Rattle.cube_laws.specs.Sums.{tabulate}
use Rattle.cube_laws.specs.Extension.{eq_points, extension, fold_low, fold_all}
use Rattle.cube_laws.specs.Form.{Form, moved, value, degree}
use Rattle.cube_laws.specs.SumClaim.{sum_at, row, AllLong}
use Rattle.cube_laws.proofs.Coordinates.{fold_all-last, length-fold_all}
use Rattle.cube_laws.proofs.Positions.{value-moved}
use Rattle.cube_laws.proofs.Weights.{length-tabulate}
use Rattle.batch_laws.specs.Batch.{zeros, batched, batch_form, values_of, eq_sum}
use Rattle.batch_laws.proofs.Batching.{batch_form_degree, batch_form_value, batch_form_values, batch_zero}
use Rattle.batch_laws.proofs.Zeros.{coordinate_zero, degree-eq_sum, degree-moved, eq_sum_final, fold_low-zeros, vectors_zero, zero_to_sum}
use Rattle.shift_laws.specs.Shifts.{flag, step_down}
use Rattle.shift_laws.proofs.Steps.{step_rows}
use Rattle.poly_forms.specs.declared.check_kind.CheckKind.{CheckKind}
use Rattle.poly_forms.specs.Form.{form_of}
use Rattle.poly_forms.specs.declared.draw_kind.DrawKind.{DrawKind}
use Rattle.poly_forms.specs.declared.draw_kind.DrawKind.TheVariants.{ConstraintBatch, ZeroCoordinate}
use Rattle.sumcheck.specs.declared.entry.Entry.{Entry}
use Rattle.sumcheck.specs.declared.entry.Entry.TheVariants.{Message, Draw}
use Rattle.sumcheck.specs.Column.{ColumnFits, ColumnHolds}
use Rattle.sumcheck.specs.Machine.{Filling, Lawful, AtMessage, AtDraw, RoundIsClaimed}
use Rattle.sumcheck.specs.Summing.{LawfulSumming, KeepsTruth, adding, closed}
use Rattle.sumcheck.proofs.Entries.{same_draw}
use Rattle.sumcheck.proofs.Lawful.{keeps_truth}
use Rattle.sumcheck.proofs.Told.{claims_fit, claims_tell, claims_told}
use Rattle.zerocheck.specs.Group.{Group, forms}
use Rattle.zerocheck.specs.Zero.{GroupFits, VectorsAreCounted, Zero, ZeroFits, ZeroHolds, Zeroed, after_draws, columns_of, coordinate_entries, lists, on_rows, row_steps, stated, summed, values_on_rows, vector, waiting, zero_entries, zero_list, zero_round, zero_sum, zerocheck, zeroed_sum, zeroing}

-- ---- S times a batch
scaled_step : (s p a q : ℕ) → mul s (bit_xor p (mul a q)) ≡ bit_xor (mul s p) (mul a (mul s q))
scaled_step s p a q = identity (s ∷ p ∷ a ∷ q ∷ []) (search field_terms depth 60 fits 20000) refl

batch_on_rows : (a : ℕ) (fs : List Form) (xs : List ℕ) → value (on_rows (batch_form a fs)) xs ≡ value (batch_form a (map on_rows fs)) xs
batch_on_rows a [] xs = sym (times_zero (slice_index xs 0))
batch_on_rows a (f ∷ fs) xs =
    scaled_step (slice_index xs 0) (value (moved f) xs) a (value (moved (batch_form a fs)) xs)
    ∙ ap (λ w. bit_xor (value (on_rows f) xs) (mul a w)) (batch_on_rows a fs xs)

-- the tables S · C of all constraints
tables : Filling → Group → List Form → List (List ℕ)
tables F g fs = map (λ f. values_of (2 ^ g.vars) f (lists F g)) (map on_rows fs)

zero_list_is : (F : Filling) (g : Group) (a : ℕ) → zero_list F g a ≡ batched (2 ^ g.vars) a (tables F g (forms g))
unfolding tables
zero_list_is F g a = (λ i. tabulate (2 ^ g.vars) (λ p. batch_on_rows a (forms g) (row (lists F g) p) i)) ∙ batch_form_values (2 ^ g.vars) a (map on_rows (forms g)) (lists F g)

tables_long : (F : Filling) (g : Group) (fs : List Form) → AllLong (2 ^ g.vars) (tables F g fs)
unfolding tables
tables_long F g [] = tt
tables_long F g (f ∷ fs) = (length-tabulate (2 ^ g.vars) (λ p. value (on_rows f) (row (lists F g) p)), tables_long F g fs)

length-tables : (F : Filling) (g : Group) (fs : List Form) → length (tables F g fs) ≡ length fs
unfolding tables
length-tables F g [] = refl
length-tables F g (f ∷ fs) = ap suc (length-tables F g fs)

to_tables : (F : Filling) (g : Group) (fs : List Form) → AllByRecursion (λ form. values_on_rows F g form ≡ zeros (2 ^ g.vars)) fs → AllByRecursion (λ t. t ≡ zeros (2 ^ g.vars)) (tables F g fs)
unfolding tables
to_tables F g [] h = tt
to_tables F g (f ∷ fs) h = (h.0, to_tables F g fs h.1)

from_tables : (F : Filling) (g : Group) (fs : List Form) → AllByRecursion (λ t. t ≡ zeros (2 ^ g.vars)) (tables F g fs) → AllByRecursion (λ form. values_on_rows F g form ≡ zeros (2 ^ g.vars)) fs
unfolding tables
from_tables F g [] h = tt
from_tables F g (f ∷ fs) h = (h.0, from_tables F g fs h.1)

zero_more : (n a : ℕ) → sums (zeros n) (map (mul a) (zeros n)) ≡ zeros n
zero_more zero a = refl
zero_more (suc n) a = (λ i. bit_xor 0 (sym (times_zero a) i) ∷ zero_more n a i)

batched-zeros : (n a : ℕ) (ts : List (List ℕ)) → AllByRecursion (λ t. t ≡ zeros n) ts → batched n a ts ≡ zeros n
batched-zeros n a [] h = refl
batched-zeros n a (t ∷ ts) h = (λ i. sums (h.0 i) (map (mul a) (batched-zeros n a ts h.1 i))) ∙ zero_more n a

-- ---- the list with some variables set, also where all are
record IsDrawn (F : Filling) (g : Group) (p : List ℕ) (n : ℕ) : Type 0 where
  left : length p + n ≡ g.vars
  fits : GroupFits F g

zeroing_entries : (g : Group) (a : ℕ) (p : List ℕ) (n : ℕ) → zero_entries (zeroing g a p n) ≡ coordinate_entries g n
zeroing_entries g a p zero = refl
zeroing_entries g a p (suc n) = refl

lists_long : (F : Filling) (g : Group) → GroupFits F g → AllLong (2 ^ g.vars) (lists F g)
lists_long F g h = (length-tabulate (2 ^ g.vars) (λ p. flag (ltb p (g.rows * 2 ^ g.log_values))), h.long)

length-zero_list : (F : Filling) (g : Group) (a : ℕ) → length (zero_list F g a) ≡ 2 ^ g.vars
length-zero_list F g a = length-tabulate (2 ^ g.vars) (λ p. value (on_rows (batch_form a (forms g))) (row (lists F g) p))

all_set : (F : Filling) (g : Group) (a : ℕ) (p : List ℕ) → length p ≡ g.vars → GroupFits F g
    → fold_all p (zero_list F g a) ≡ sum_at (zeroed_sum F (record { group = g; beta = a; point = p })) [] g.vars ∷ []
all_set F g a p l h =
    ap (λ k. fold_all p (values_of (2 ^ k) (on_rows (batch_form a (forms g))) (lists F g))) (sym l)
    ∙ zero_to_sum p (on_rows (batch_form a (forms g))) (lists F g) (subst (λ k. AllLong (2 ^ k) (lists F g)) (sym l) (lists_long F g h))
    ∙ ap (λ k. sum_at (eq_sum p (on_rows (batch_form a (forms g))) (lists F g)) [] k ∷ []) l

from_none : (n : ℕ) → n ≡ 0 + n
from_none n = omega arith

low_degree : (F : Filling) (g : Group) (a : ℕ) (p : List ℕ) → GroupFits F g → degree (zeroed_sum F (record { group = g; beta = a; point = p })).form ≤ g.degree + 2
low_degree F g a p h =
    let e = degree-eq_sum p (on_rows (batch_form a (forms g))) (lists F g) in
    let m = degree-moved (batch_form a (forms g)) in
    let b = batch_form_degree a g.degree (forms g) h.low in
    omega arith

zeroing_fits : (F : Filling) (g : Group) (a : ℕ) (p : List ℕ) (n : ℕ) → IsDrawn F g p n → ZeroFits F (zeroing g a p n)
zeroing_fits F g a p zero h = (
  subst (zero_sum.fits F (record { group = g; beta = a; point = p })) (from_none g.vars) (refl, ((let l = h.left in omega arith), h.fits)),
  (omega arith, low_degree F g a p h.fits),
)
zeroing_fits F g a p (suc n) h = (h.left, h.fits)

zeroing_holds : (F : Filling) (g : Group) (a : ℕ) (p : List ℕ) (n : ℕ) → IsDrawn F g p n → fold_all p (zero_list F g a) ≡ zeros (2 ^ n) → ZeroHolds F (zeroing g a p n)
zeroing_holds F g a p zero h e = ap (λ t. slice_index t 0) (sym (all_set F g a p (let l = h.left in omega arith) h.fits) ∙ e)
zeroing_holds F g a p (suc n) h e = e

zeroing_tells : (F : Filling) (g : Group) (a : ℕ) (p : List ℕ) (n : ℕ) → IsDrawn F g p n → ZeroHolds F (zeroing g a p n) → fold_all p (zero_list F g a) ≡ zeros (2 ^ n)
zeroing_tells F g a p zero h e = all_set F g a p (let l = h.left in omega arith) h.fits ∙ ap (λ x. x ∷ []) e
zeroing_tells F g a p (suc n) h e = e

-- ---- the draw that joins the constraints
at_stated : (F : Filling) (g : Group) → AtDraw zerocheck (stated g) (length g.constraints - 1) (coordinate_entries g g.vars) F
at_stated F g =
    let first : GroupFits F g → IsDrawn F g [] g.vars = λ f. record { left = omega arith; fits = f } in
    let ts = tables F g (forms g) in
    record {
      next = λ r. zeroing_entries g r [] g.vars;
      fits = λ r e f. zeroing_fits F g r [] g.vars (first f);
      counted = λ f wrong.
          at_most_weaker _ (λ r. batched (2 ^ g.vars) r ts ≡ zeros (2 ^ g.vars)) (length ts - 1) (length g.constraints - 1)
          (λ r h. sym (zero_list_is F g r) ∙ zeroing_tells F g r [] g.vars (first f) h)
          (let e = length-tables F g (forms g) in let m = length-map g.constraints form_of in omega arith)
          (batch_zero (2 ^ g.vars) ts (tables_long F g (forms g)) (λ all. wrong (from_tables F g (forms g) all)));
      stays = λ r f h. zeroing_holds F g r [] g.vars (first f) (zero_list_is F g r ∙ batched-zeros (2 ^ g.vars) r ts (to_tables F g (forms g) h));
    }

-- ---- the draw of a coordinate
next_drawn : (F : Filling) (g : Group) (p : List ℕ) (n r : ℕ) → IsDrawn F g p (suc n) → IsDrawn F g (p ++ r ∷ []) n
next_drawn F g p n r h = record { left = let l = h.left in let a = length-append p (r ∷ []) in omega arith; fits = h.fits }

length-set : (F : Filling) (g : Group) (a : ℕ) (p : List ℕ) (n : ℕ) → IsDrawn F g p n → length (fold_all p (zero_list F g a)) ≡ 2 ^ n
length-set F g a p n h =
    length-fold_all (2 ^ n) p (zero_list F g a)
    (length-zero_list F g a ∙ (let l = h.left in let e : g.vars ≡ n + length p = omega arith in ap (λ k. 2 ^ k) e) ∙ pow-add 2 n (length p))

two_halves : (n : ℕ) → 2 ^ suc n ≡ 2 * 2 ^ n
two_halves n = omega arith

at_vector : (F : Filling) (g : Group) (a : ℕ) (p : List ℕ) (n : ℕ) → AtDraw zerocheck (vector g a p n) 1 (coordinate_entries g n) F
at_vector F g a p n =
    let list = zero_list F g a in
    let drawn : ZeroFits F (vector g a p n) → IsDrawn F g p (suc n) = λ f. record { left = f.0; fits = f.1 } in
    record {
      next = λ r. zeroing_entries g a (p ++ r ∷ []) n;
      fits = λ r e f. zeroing_fits F g a (p ++ r ∷ []) n (next_drawn F g p n r (drawn f));
      counted = λ f wrong.
          at_most_weaker _ (λ r. fold_low r (fold_all p list) ≡ zeros (2 ^ n)) 1 1
          (λ r w. sym (fold_all-last p list r) ∙ zeroing_tells F g a (p ++ r ∷ []) n (next_drawn F g p n r (drawn f)) w) (omega arith)
          (coordinate_zero (2 ^ n) (fold_all p list) (length-set F g a p (suc n) (drawn f) ∙ two_halves n) (λ e. wrong (e ∙ ap zeros (sym (two_halves n)))));
      stays = λ r f w.
          zeroing_holds F g a (p ++ r ∷ []) n (next_drawn F g p n r (drawn f))
          (fold_all-last p list r ∙ ap (fold_low r) (w ∙ ap zeros (two_halves n)) ∙ fold_low-zeros r (2 ^ n));
    }

-- ---- the last message
steps_at : (F : Filling) (g : Group) (z : List ℕ) → g.vars ≡ length z → g.log_values ≤ g.vars → extension (row_steps g) z ≡ step_down g.rows (drop g.log_values z)
steps_at F g z l w =
    let v = g.log_values in
    let t : length (take v z) ≡ v = length-take v z ∙ (omega arith) in
    ap (λ n. extension (tabulate (2 ^ n) (λ p. flag (ltb p (g.rows * 2 ^ v)))) z) l
    ∙ (λ i. step_down (g.rows * 2 ^ (sym t i)) (sym (take-append-drop v z) i))
    ∙ step_rows g.rows (take v z) (drop v z)

sum_final : (F : Filling) (t : Zeroed) (z : List ℕ) → zero_sum.fits F t (length z) → sum_at (zeroed_sum F t) z 0 ≡ zero_sum.left t z (zero_sum.finals F t z)
sum_final F t z f =
    let g = t.group in
    let ends = map (λ list. extension list z) (columns_of F g) in
    eq_sum_final t.point z (on_rows (batch_form t.beta (forms g))) (lists F g) f.1.0
    ∙ ap (mul (eq_points t.point z))
    ((λ i. mul (steps_at F g z f.0 f.1.1.within i) (value-moved (batch_form t.beta (forms g)) (extension (row_steps g) z) ends i))
    ∙ ap (mul (step_down g.rows (drop g.log_values z))) (batch_form_value t.beta (forms g) ends))

pub sum_lawful : LawfulSumming zero_sum
sum_lawful = record {
  last = refl;
  final = sum_final;
  size = λ F t z. length-map (columns_of F t.group) (λ list. extension list z) ∙ length-map t.group.columns (F t.group.table);
  told = λ F t z f. claims_told F t.group.table z t.group.columns;
  tells = λ F t z v f l h. claims_tell F t.group.table z t.group.columns v l h;
  closed_fits = λ F t z v f l. claims_fit F t.group.table t.group.vars z t.group.columns v l f.0 f.1.1.long;
  next = λ t z v l. refl;
}

-- ---- at each entry
abbrev sum_keeps : KeepsTruth zero_sum
sum_keeps = keeps_truth zero_sum sum_lawful

at_message : (F : Filling) (s : Zero) (c : CheckKind) (n : ℕ) (es : List Entry) → zero_entries s ≡ Message c n ∷ es → AtMessage zerocheck s n es F
at_message F (waiting g) c n es e = absurd (cc)
at_message F (stated g) c n es e = absurd (cc)
at_message F (vector g a p m) c n es e = absurd (cc)
at_message F (summed (closed x)) c n es e = absurd (cc)
at_message F (summed (adding t r)) c n es e =
    let h = sum_keeps.message F t r c n es e in
    record { next = h.next; fits = h.fits; sound = h.sound; size = h.size; passes = h.passes; stays = h.stays }

at_draw : (F : Filling) (s : Zero) (k : DrawKind) (n : ℕ) (es : List Entry) → zero_entries s ≡ Draw k n ∷ es → AtDraw zerocheck s n es F
at_draw F (waiting g) k n es e = absurd (cc)
at_draw F (stated g) k n es e = same_draw zerocheck _ F ConstraintBatch k _ n _ es e (at_stated F g)
at_draw F (vector g a p m) k n es e = same_draw zerocheck _ F ZeroCoordinate k 1 n _ es e (at_vector F g a p m)
at_draw F (summed (closed x)) k n es e = absurd (cc)
at_draw F (summed (adding t r)) k n es e =
    let h = sum_keeps.draw F t r k n es e in
    record { next = h.next; fits = h.fits; counted = h.counted; stays = h.stays }

round_claimed : (s : Zero) → RoundIsClaimed (zero_entries s) (zero_round s)
round_claimed (waiting g) = refl
round_claimed (stated g) = refl
round_claimed (vector g a p n) = refl
round_claimed (summed (adding t r)) = sum_keeps.round t r
round_claimed (summed (closed c)) = refl

pub zero_lawful : Lawful zerocheck
zero_lawful = record { message = at_message; draw = at_draw; round = round_claimed }

-- ---- several draws
all_drawn : (F : Filling) (g : Group) (a : ℕ) (p rs : List ℕ) (n : ℕ) → length rs ≡ n → IsDrawn F g p n → ZeroHolds F (after_draws (zeroing g a p n) rs)
    → fold_all rs (fold_all p (zero_list F g a)) ≡ zeros 1
all_drawn F g a p [] zero l h w = zeroing_tells F g a p zero h w
all_drawn F g a p [] (suc n) l h w = absurd (omega arith)
all_drawn F g a p (r ∷ rs) zero l h w = absurd (omega arith)
all_drawn F g a p (r ∷ rs) (suc n) l h w = ap (fold_all rs) (sym (fold_all-last p (zero_list F g a) r)) ∙ all_drawn F g a (p ++ r ∷ []) rs n (omega arith) (next_drawn F g p n r h) w

power_of_power : (q k m : ℕ) → (q ^ k) ^ m ≡ q ^ (k * m)
power_of_power q k zero = let e : k * 0 ≡ 0 = grind arith in pow-zero (q ^ k) ∙ sym (ap (λ n. q ^ n) e ∙ pow-zero q)
power_of_power q k (suc m) =
    let e : k + k * m ≡ k * suc m = grind arith in
    pow-succ' (q ^ k) m ∙ ap (λ w. q ^ k * w) (power_of_power q k m) ∙ sym (pow-add q k (k * m)) ∙ ap (λ n. q ^ n) e

pub vectors_counted : VectorsAreCounted
vectors_counted F g a f wrong =
    let h : IsDrawn F g [] g.vars = record { left = omega arith; fits = f } in
    subst (λ q. AtMost (g.vars * q) (λ rs. (length rs ≡ g.vars) × AllByRecursion (λ r. r < 2 ^ 128) rs × ZeroHolds F (after_draws (zeroing g a [] g.vars) rs))) (power_of_power 2 128 (g.vars - 1))
    (at_most_weaker _ (λ rs. Vector (2 ^ 128) g.vars rs × (fold_all rs (zero_list F g a) ≡ zeros 1)) (g.vars * (2 ^ 128) ^ (g.vars - 1)) (g.vars * (2 ^ 128) ^ (g.vars - 1))
    (λ rs w. (vector_of (2 ^ 128) g.vars rs w.0 w.1, all_drawn F g a [] rs g.vars w.0 h w.2)) (omega arith)
    (vectors_zero (2 ^ 128) g.vars (zero_list F g a) (length-zero_list F g a) (λ e. wrong (zeroing_holds F g a [] g.vars h e))))
