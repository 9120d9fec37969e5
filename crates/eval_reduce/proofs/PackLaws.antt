-- A claim on a packed column keeps its truth.
use Rattle.std.proofs.Common.{◌≡◌, ◌∙◌, ℕ, zero, suc, ◌+◌, ◌*◌, ◌-◌, ◌^◌, ◌<◌, List, [], ◌∷◌, ◌++◌, length, slice_index, None, refl, sym, ap, subst, arith, length-append}
use Rattle.std.proofs.lemmas.Nat.{pow-add}
use Rattle.std.proofs.Math.Nat.{pow-succ', pow-zero}
use Rattle.std.specs.List.{AllByRecursion}
use Rattle.counting_laws.specs.Counting.{AtMost}
use Rattle.counting_laws.proofs.Bounds.{at_most_weaker}
use Rattle.counting_laws.proofs.Chains.{Vector, vector_of}
use Rattle.tower_laws.specs.Tower.{mul}
use Rattle.cube_laws.specs.Extension.{extension, bits_of, fold_low, fold_all}
use Rattle.cube_laws.proofs.Coordinates.{fold_all-last, length-fold_all}
use Rattle.cube_laws.proofs.Draws.{coordinate}
use Rattle.cube_laws.proofs.Folding.{length-fold_low}
use Rattle.cube_laws.proofs.Tabulate.{get_or-tabulate}
use Rattle.cube_laws.proofs.Vectors.{vector_bound}
use Rattle.cube_laws.proofs.Weights.{length-tabulate, sum_to-same}
use Rattle.batch_laws.proofs.Parts.{fold_list}
use Rattle.column_laws.specs.Columns.{packed}
use Rattle.column_laws.proofs.Making.{packed_is}
use Rattle.poly_forms.specs.declared.check_kind.CheckKind.{CheckKind}
use Rattle.poly_forms.specs.declared.check_kind.CheckKind.TheVariants.{Pack as PackCheck}
use Rattle.poly_forms.specs.declared.draw_kind.DrawKind.{DrawKind}
use Rattle.poly_forms.specs.declared.draw_kind.DrawKind.TheVariants.{PackCoordinate}
use Rattle.sumcheck.specs.declared.column_claim.ColumnClaim.{ColumnClaim}
use Rattle.sumcheck.specs.declared.entry.Entry.{Entry}
use Rattle.sumcheck.specs.declared.entry.Entry.TheVariants.{Message, Draw}
use Rattle.sumcheck.specs.Machine.{Filling, Lawful, AtMessage, AtDraw, RoundIsClaimed}
use Rattle.sumcheck.proofs.Entries.{same_message, same_draw}
use Rattle.sumcheck.proofs.Lawful.{checks_equal, equal_checks}
use Rattle.eval_reduce.specs.declared.packing.Packing.{Packing}
use Rattle.eval_reduce.specs.Pack.{Pack, waiting, stated, listed, closed, IsPacked, IsList, PackFits, PackHolds, VectorsAreCounted, after_draws, corner_values, listing, pack, pack_draws, pack_entries, pack_value}

-- ---- the message
-- the column's extension by those of its source at the corners
packed_at : (F : Filling) (f : Packing) (claim : ColumnClaim) → IsPacked F f claim → extension (F claim.table claim.column) claim.point ≡ pack_value f.level f.log (corner_values (F f.table f.source) f.log claim.point)
packed_at F f claim h =
    (λ i. extension (F (h.on.table_is i) (h.on.column_is i)) claim.point)
    ∙ ap (λ t. extension t claim.point) (h.column_is ∙ ap (λ n. packed f.level f.log (2 ^ n) (F f.table f.source)) (sym h.on.long))
    ∙ packed_is f.level f.log (F f.table f.source) claim.point
    ∙ sum_to-same (2 ^ f.log) _ _ (λ u l. ap (mul (2 ^ (u * 2 ^ f.level))) (sym (get_or-tabulate (2 ^ f.log) u (λ u. extension (F f.table f.source) (bits_of f.log u ++ claim.point)) l)))

listing_entries : (f : Packing) (z p v : List ℕ) (n : ℕ) → pack_entries (listing f z p v n) ≡ pack_draws n
listing_entries f z p v zero = refl
listing_entries f z p v (suc n) = refl

pub length-corners : (table : List ℕ) (k : ℕ) (z : List ℕ) → length (corner_values table k z) ≡ 2 ^ k
length-corners table k z = length-tabulate (2 ^ k) (λ u. extension table (bits_of k u ++ z))

-- what a list owes, also at its end
record IsListed (F : Filling) (f : Packing) (z p v : List ℕ) (n : ℕ) : Type 0 where
  left : length p + n ≡ f.log
  long : length v ≡ 2 ^ n
  source_long : length (F f.table f.source) ≡ 2 ^ (f.log + length z)

listing_fits : (F : Filling) (f : Packing) (z p v : List ℕ) (n : ℕ) → IsListed F f z p v n → PackFits F (listing f z p v n)
listing_fits F f z p v zero h = h.source_long ∙ ap (λ k. 2 ^ k) (let l = h.left in let a = length-append p z in omega arith)
listing_fits F f z p v (suc n) h = record { left = h.left; long = h.long; source_long = h.source_long }

one_value : (v : List ℕ) → length v ≡ 1 → v ≡ slice_index v 0 ∷ []
one_value [] l = absurd (omega arith)
one_value (x ∷ []) l = refl
one_value (x ∷ y ∷ v) l = absurd (omega arith)

-- a list is true where its values are those at the corners, folded
pub all_set : (F : Filling) (f : Packing) (z p : List ℕ) → length p ≡ f.log → fold_all p (corner_values (F f.table f.source) f.log z) ≡ extension (F f.table f.source) (p ++ z) ∷ []
all_set F f z p l = ap (λ k. fold_all p (corner_values (F f.table f.source) k z)) (sym l) ∙ fold_list (F f.table f.source) p z

listing_holds : (F : Filling) (f : Packing) (z p v : List ℕ) (n : ℕ) → IsListed F f z p v n → fold_all p (corner_values (F f.table f.source) f.log z) ≡ v → PackHolds F (listing f z p v n)
listing_holds F f z p v zero h e = ap (λ t. slice_index t 0) (sym (all_set F f z p (let l = h.left in omega arith)) ∙ e)
listing_holds F f z p v (suc n) h e = e

listing_tells : (F : Filling) (f : Packing) (z p v : List ℕ) (n : ℕ) → IsListed F f z p v n → PackHolds F (listing f z p v n) → fold_all p (corner_values (F f.table f.source) f.log z) ≡ v
listing_tells F f z p v zero h e = all_set F f z p (let l = h.left in omega arith) ∙ ap (λ x. x ∷ []) e ∙ sym (one_value v h.long)
listing_tells F f z p v (suc n) h e = e

first_list : (F : Filling) (f : Packing) (claim : ColumnClaim) (v : List ℕ) → length v ≡ 2 ^ f.log → IsPacked F f claim → IsListed F f claim.point [] v f.log
first_list F f claim v l h = record { left = omega arith; long = l; source_long = h.source_long ∙ ap (λ n. 2 ^ (f.log + n)) (sym h.on.long) }

at_stated : (F : Filling) (f : Packing) (claim : ColumnClaim) → AtMessage pack (stated f claim) (2 ^ f.log) (pack_draws f.log) F
at_stated F f claim =
    let true_list = corner_values (F f.table f.source) f.log claim.point in
    let whole = length-corners (F f.table f.source) f.log claim.point in
    record {
      next = λ v l. listing_entries f claim.point [] v f.log;
      fits = λ v l h. listing_fits F f claim.point [] v f.log (first_list F f claim v l h);
      sound = λ v l h p w.
          packed_at F f claim h ∙ ap (pack_value f.level f.log) (listing_tells F f claim.point [] v f.log (first_list F f claim v l h) w)
          ∙ checks_equal PackCheck (pack_value f.level f.log v) claim.value p;
      size = whole;
      passes = λ h w. equal_checks PackCheck (pack_value f.level f.log true_list) claim.value (sym (packed_at F f claim h) ∙ w);
      stays = λ h w. listing_holds F f claim.point [] true_list f.log (first_list F f claim true_list whole h) refl;
    }

-- ---- a draw
next_list : (F : Filling) (f : Packing) (z p v : List ℕ) (n r : ℕ) → IsListed F f z p v (suc n) → IsListed F f z (p ++ r ∷ []) (fold_low r v) n
next_list F f z p v n r h = record {
  left = let l = h.left in let a = length-append p (r ∷ []) in omega arith;
  long = length-fold_low r (2 ^ n) v (h.long ∙ (let e : 2 ^ suc n ≡ 2 * 2 ^ n = omega arith in e));
  source_long = h.source_long;
}

-- the true list after some draws
length-true : (F : Filling) (f : Packing) (z p v : List ℕ) (n : ℕ) → IsListed F f z p v n → length (fold_all p (corner_values (F f.table f.source) f.log z)) ≡ 2 ^ n
length-true F f z p v n h =
    length-fold_all (2 ^ n) p (corner_values (F f.table f.source) f.log z)
    (length-corners (F f.table f.source) f.log z ∙ (let l = h.left in let e : f.log ≡ n + length p = omega arith in ap (λ k. 2 ^ k) e) ∙ pow-add 2 n (length p))

of_list : (F : Filling) (f : Packing) (z p v : List ℕ) (n : ℕ) → IsList F f z p v n → IsListed F f z p v (suc n)
of_list F f z p v n h = record { left = h.left; long = h.long; source_long = h.source_long }

at_list : (F : Filling) (f : Packing) (z p v : List ℕ) (n : ℕ) → AtDraw pack (listed f z p v n) 1 (pack_draws n) F
at_list F f z p v n =
    let true_list = corner_values (F f.table f.source) f.log z in
    record {
      next = λ r. listing_entries f z (p ++ r ∷ []) (fold_low r v) n;
      fits = λ r e h. listing_fits F f z (p ++ r ∷ []) (fold_low r v) n (next_list F f z p v n r (of_list F f z p v n h));
      counted = λ h wrong.
          at_most_weaker _ (λ r. fold_low r (fold_all p true_list) ≡ fold_low r v) 1 1
          (λ r w. sym (fold_all-last p true_list r) ∙ listing_tells F f z (p ++ r ∷ []) (fold_low r v) n (next_list F f z p v n r (of_list F f z p v n h)) w) (omega arith)
          (coordinate (fold_all p true_list) v (length-true F f z p v (suc n) (of_list F f z p v n h) ∙ sym h.long) wrong);
      stays = λ r h w.
          listing_holds F f z (p ++ r ∷ []) (fold_low r v) n (next_list F f z p v n r (of_list F f z p v n h)) (fold_all-last p true_list r ∙ ap (fold_low r) w);
    }

-- ---- at each entry
at_message : (F : Filling) (s : Pack) (c : CheckKind) (n : ℕ) (es : List Entry) → pack_entries s ≡ Message c n ∷ es → AtMessage pack s n es F
at_message F (waiting f) c n es e = absurd (cc)
at_message F (stated f claim) c n es e = same_message pack _ F PackCheck c (2 ^ f.log) n (pack_draws f.log) es e (at_stated F f claim)
at_message F (listed f z p v m) c n es e = absurd (cc)
at_message F (closed claim) c n es e = absurd (cc)

at_draw : (F : Filling) (s : Pack) (k : DrawKind) (n : ℕ) (es : List Entry) → pack_entries s ≡ Draw k n ∷ es → AtDraw pack s n es F
at_draw F (waiting f) k n es e = absurd (cc)
at_draw F (stated f claim) k n es e = absurd (cc)
at_draw F (listed f z p v m) k n es e = same_draw pack _ F PackCoordinate k 1 n (pack_draws m) es e (at_list F f z p v m)
at_draw F (closed claim) k n es e = absurd (cc)

no_round : (s : Pack) → RoundIsClaimed (pack_entries s) None
no_round (waiting f) = refl
no_round (stated f claim) = refl
no_round (listed f z p v n) = refl
no_round (closed claim) = refl

pub pack_lawful : Lawful pack
pack_lawful = record { message = at_message; draw = at_draw; round = no_round }

-- ---- several draws
all_drawn : (F : Filling) (f : Packing) (z p v rs : List ℕ) (n : ℕ) → length rs ≡ n → IsListed F f z p v n → PackHolds F (after_draws (listing f z p v n) rs)
    → fold_all rs (fold_all p (corner_values (F f.table f.source) f.log z)) ≡ fold_all rs v
all_drawn F f z p v [] zero l h w = listing_tells F f z p v zero h w
all_drawn F f z p v [] (suc n) l h w = absurd (omega arith)
all_drawn F f z p v (r ∷ rs) zero l h w = absurd (omega arith)
all_drawn F f z p v (r ∷ rs) (suc n) l h w =
    ap (fold_all rs) (sym (fold_all-last p (corner_values (F f.table f.source) f.log z) r))
    ∙ all_drawn F f z (p ++ r ∷ []) (fold_low r v) rs n (omega arith) (next_list F f z p v n r h) w

power_of_power : (q k m : ℕ) → (q ^ k) ^ m ≡ q ^ (k * m)
power_of_power q k zero = let e : k * 0 ≡ 0 = grind arith in pow-zero (q ^ k) ∙ sym (ap (λ n. q ^ n) e ∙ pow-zero q)
power_of_power q k (suc m) =
    let e : k + k * m ≡ k * suc m = grind arith in
    pow-succ' (q ^ k) m ∙ ap (λ w. q ^ k * w) (power_of_power q k m) ∙ sym (pow-add q k (k * m)) ∙ ap (λ n. q ^ n) e

pub vectors_counted : VectorsAreCounted
vectors_counted F f z v l s wrong =
    let true_list = corner_values (F f.table f.source) f.log z in
    let h : IsListed F f z [] v f.log = record { left = omega arith; long = l; source_long = s } in
    subst (λ q. AtMost (f.log * q) (λ rs. (length rs ≡ f.log) × AllByRecursion (λ r. r < 2 ^ 128) rs × PackHolds F (after_draws (listing f z [] v f.log) rs))) (power_of_power 2 128 (f.log - 1))
    (at_most_weaker _ (λ rs. Vector (2 ^ 128) f.log rs × (fold_all rs true_list ≡ fold_all rs v)) (f.log * (2 ^ 128) ^ (f.log - 1)) (f.log * (2 ^ 128) ^ (f.log - 1))
    (λ rs w. (vector_of (2 ^ 128) f.log rs w.0 w.1, all_drawn F f z [] v rs f.log w.0 h w.2)) (omega arith)
    (vector_bound (2 ^ 128) f.log true_list v (length-corners (F f.table f.source) f.log z) l (λ e. wrong (listing_holds F f z [] v f.log h e))))
