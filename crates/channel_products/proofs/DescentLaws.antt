-- The claim of a flush's product keeps its truth.
use Rattle.std.proofs.Common.{◌≡◌, ◌∙◌, ℕ, zero, suc, ◌+◌, ◌^◌, ◌<◌, ◌≤◌, List, [], ◌∷◌, ◌++◌, Option, None, Some, length, map, slice_index, refl, sym, ap, subst, arith, length-append, bit_xor}
use Rattle.std.proofs.lemmas.List.{length-map}
use Rattle.counting_laws.proofs.Bounds.{at_most_weaker}
use Rattle.tower_laws.specs.Tower.{mul}
use Rattle.cube_laws.specs.Sums.{tabulate}
use Rattle.cube_laws.specs.Extension.{eq_points, extension, fold_all}
use Rattle.cube_laws.specs.Form.{degree, value}
use Rattle.cube_laws.specs.SumClaim.{sum_at, row, AllLong}
use Rattle.cube_laws.proofs.Coordinates.{fold_all_is}
use Rattle.cube_laws.proofs.Linear.{extension-constant}
use Rattle.cube_laws.proofs.Tabulate.{get_or-tabulate}
use Rattle.cube_laws.proofs.Weights.{length-tabulate, tabulate-same}
use Rattle.batch_laws.specs.Batch.{eq_sum, values_of}
use Rattle.batch_laws.proofs.Zeros.{degree-eq_sum, eq_sum_final, zero_to_sum}
use Rattle.shift_laws.specs.Shifts.{step_down}
use Rattle.multiset_laws.specs.Fingerprint.{fingerprint, leaf}
use Rattle.layer_laws.specs.Layers.{layer, layer_sum}
use Rattle.layer_laws.specs.LeafForm.{leaf_form}
use Rattle.layer_laws.proofs.LayerSteps.{layer_claim, layer_last, layer_zero, pair_counted, pair_joined}
use Rattle.layer_laws.proofs.LeafSteps.{leaf_degree, leaf_is}
use Rattle.poly_forms.specs.declared.check_kind.CheckKind.{CheckKind}
use Rattle.poly_forms.specs.declared.draw_kind.DrawKind.{DrawKind}
use Rattle.poly_forms.specs.declared.draw_kind.DrawKind.TheVariants.{LayerJoin}
use Rattle.sumcheck.specs.declared.entry.Entry.{Entry}
use Rattle.sumcheck.specs.declared.entry.Entry.TheVariants.{Message, Draw}
use Rattle.sumcheck.specs.Machine.{Filling, Lawful, AtMessage, AtDraw, RoundIsClaimed}
use Rattle.sumcheck.specs.Summing.{LawfulSumming, KeepsTruth, adding, closed}
use Rattle.sumcheck.proofs.Entries.{same_draw}
use Rattle.sumcheck.proofs.Lawful.{keeps_truth}
use Rattle.sumcheck.proofs.Told.{claims_fit, claims_tell, claims_told}
use Rattle.table_shape.specs.Lowering.{leaf_at, selector_at, step}
use Rattle.channel_products.specs.declared.flushed.Flushed.{Flushed}
use Rattle.channel_products.specs.Channels.{leaves_of}
use Rattle.channel_products.specs.Given.{selector_columns}
use Rattle.channel_products.specs.Descent.{Descent, DescentFits, DescentHolds, HasRows, Layered, LayeredFits, LeavesFit, Paired, Pointed, ProductsAreMeant, descending, descent, descent_entries, descent_round, joined, layer_entries, layered_sum, layers, leaf_columns, leaf_lists, leaf_value, leaves, leaves_sum, next_layer, row_steps, row_vars, selector_list, sum_of_leaves, waiting}

-- ---- leaves as values of a form
pub length-leaves : (F : Filling) (a g : ℕ) (f : Flushed) → length (leaves_of F a g f) ≡ 2 ^ row_vars f
length-leaves F a g f = length-tabulate (2 ^ row_vars f) (leaf_at a g (F f.table) f.rows f.shape)

tuple_row : (values : ℕ → List ℕ) (cs : List ℕ) (p : ℕ) → map (λ c. slice_index (values c) p) cs ≡ row (map values cs) p
tuple_row values [] p = refl
tuple_row values (c ∷ cs) p = ap (λ xs. slice_index (values c) p ∷ xs) (tuple_row values cs p)

selector_row : (values : ℕ → List ℕ) (n p : ℕ) (s : Option ℕ) → p < 2 ^ n → selector_at values s p ≡ slice_index (selector_list values n s) p
selector_row values n p None h = sym (get_or-tabulate (2 ^ n) p (λ _. 1) h)
selector_row values n p (Some s) h = refl

leaf_row : (F : Filling) (a g : ℕ) (f : Flushed) (p : ℕ) → p < 2 ^ row_vars f
    → leaf_at a g (F f.table) f.rows f.shape p ≡ value (leaf_form a g (length f.shape.columns)) (row (leaf_lists F f) p)
leaf_row F a g f p h =
    let w = length f.shape.columns in
    let tuple = row (map (F f.table) f.shape.columns) p in
    let long : length tuple ≡ w = length-map (map (F f.table) f.shape.columns) (λ list. slice_index list p) ∙ length-map f.shape.columns (F f.table) in
    (λ i. leaf (sym (get_or-tabulate (2 ^ row_vars f) p (step f.rows) h) i) (selector_row (F f.table) (row_vars f) p f.shape.selector h i) (fingerprint a g (tuple_row (F f.table) f.shape.columns p i)))
    ∙ sym (leaf_is a g w (slice_index (row_steps f) p) (slice_index (selector_list (F f.table) (row_vars f) f.shape.selector) p) tuple long)

leaves_are : (F : Filling) (a g : ℕ) (f : Flushed) → leaves_of F a g f ≡ values_of (2 ^ row_vars f) (leaf_form a g (length f.shape.columns)) (leaf_lists F f)
leaves_are F a g f =
    tabulate-same (2 ^ row_vars f) (leaf_at a g (F f.table) f.rows f.shape) (λ p. value (leaf_form a g (length f.shape.columns)) (row (leaf_lists F f) p)) (λ p h. leaf_row F a g f p h)

-- the selector's list is there
selector_long : (values : ℕ → List ℕ) (n : ℕ) (s : Option ℕ) (cs : List ℕ) → AllLong (2 ^ n) (map values (selector_columns s ++ cs)) → (length (selector_list values n s) ≡ 2 ^ n) × AllLong (2 ^ n) (map values cs)
selector_long values n None cs h = (length-tabulate (2 ^ n) (λ _. 1), h)
selector_long values n (Some s) cs h = h

pub lists_long : (F : Filling) (f : Flushed) → HasRows F f → AllLong (2 ^ row_vars f) (leaf_lists F f)
lists_long F f h = (length-tabulate (2 ^ row_vars f) (step f.rows), selector_long (F f.table) (row_vars f) f.shape.selector f.shape.columns h)

-- a value of the leaves is a sum
leaves_claim : (F : Filling) (f : Flushed) (a g : ℕ) (z : List ℕ) → length z ≡ row_vars f → HasRows F f
    → extension (leaves_of F a g f) z ≡ sum_at (sum_of_leaves F (record { flushed = f; alpha = a; gamma = g; point = z })) [] (row_vars f)
leaves_claim F f a g z l h =
    let form = leaf_form a g (length f.shape.columns) in
    let lists = leaf_lists F f in
    let long : AllLong (2 ^ length z) lists = subst (λ n. AllLong (2 ^ n) lists) (sym l) (lists_long F f h) in
    let folded : fold_all z (leaves_of F a g f) ≡ sum_at (eq_sum z form lists) [] (length z) ∷ [] =
    ap (fold_all z) (leaves_are F a g f) ∙ ap (λ n. fold_all z (values_of (2 ^ n) form lists)) (sym l) ∙ zero_to_sum z form lists long in
    let both : extension (leaves_of F a g f) z ∷ [] ≡ sum_at (eq_sum z form lists) [] (length z) ∷ [] =
    sym (fold_all_is (leaves_of F a g f) z (length-leaves F a g f ∙ ap (λ n. 2 ^ n) (sym l))) ∙ folded in
    ap (λ t. slice_index t 0) both ∙ ap (sum_at (eq_sum z form lists) []) l

-- ---- the sums
both_values : (x y : ℕ) (v : List ℕ) → length v ≡ 2 → x ≡ slice_index v 0 → y ≡ slice_index v 1 → v ≡ x ∷ y ∷ []
both_values x y [] l a b = absurd (omega arith)
both_values x y (c ∷ []) l a b = absurd (omega arith)
both_values x y (c ∷ d ∷ []) l a b = λ i. sym a i ∷ sym b i ∷ []
both_values x y (c ∷ d ∷ e ∷ v) l a b = absurd (omega arith)

layered_lawful : LawfulSumming layered_sum
layered_lawful = record {
  last = refl;
  final = λ F t z f. layer_last t.layer t.at.point z (next_layer F t) (f.point ∙ sym f.layer_is) (sym f.layer_is);
  size = λ F t z. refl;
  told = λ F t z f. (refl, refl);
  tells = λ F t z v f l h. both_values (extension (next_layer F t) (z ++ 0 ∷ [])) (extension (next_layer F t) (z ++ 1 ∷ [])) v l h.0 h.1;
  closed_fits = λ F t z v f l. f;
  next = λ t z v l. refl;
}

-- the leaf of the extensions at a point
leaf_at_point : (values : ℕ → List ℕ) (a g s n : ℕ) (z cs : List ℕ) (o : Option ℕ) → n ≡ length z
    → value (leaf_form a g (length cs)) (s ∷ extension (selector_list values n o) z ∷ map (λ list. extension list z) (map values cs))
    ≡ leaf_value a g s o (map (λ list. extension list z) (map values (selector_columns o ++ cs)))
leaf_at_point values a g s n z cs None e =
    let ends = map (λ list. extension list z) (map values cs) in
    let long : length ends ≡ length cs = length-map (map values cs) (λ list. extension list z) ∙ length-map cs values in
    leaf_is a g (length cs) s (extension (tabulate (2 ^ n) (λ _. 1)) z) ends long
    ∙ ap (λ x. leaf s x (fingerprint a g ends)) (ap (λ k. extension (tabulate (2 ^ k) (λ _. 1)) z) e ∙ extension-constant 1 z)
leaf_at_point values a g s n z cs (Some c) e =
    let ends = map (λ list. extension list z) (map values cs) in
    let long : length ends ≡ length cs = length-map (map values cs) (λ list. extension list z) ∙ length-map cs values in
    leaf_is a g (length cs) s (extension (values c) z) ends long

leaves_final : (F : Filling) (t : Pointed) (z : List ℕ) → LeavesFit F t (length z) → sum_at (sum_of_leaves F t) z 0 ≡ leaves_sum.left t z (leaves_sum.finals F t z)
leaves_final F t z h =
    let f = t.flushed in
    let form = leaf_form t.alpha t.gamma (length f.shape.columns) in
    let ends = map (λ list. extension list z) (map (F f.table) f.shape.columns) in
    let selector = extension (selector_list (F f.table) (row_vars f) f.shape.selector) z in
    eq_sum_final t.point z form (leaf_lists F f) h.point
    ∙ ap (mul (eq_points t.point z))
    (ap (λ n. value form (extension (tabulate (2 ^ n) (step f.rows)) z ∷ selector ∷ ends)) h.vars
    ∙ leaf_at_point (F f.table) t.alpha t.gamma (step_down f.rows z) (row_vars f) z f.shape.columns f.shape.selector h.vars)

leaves_lawful : LawfulSumming leaves_sum
leaves_lawful = record {
  last = refl;
  final = leaves_final;
  size = λ F t z. length-map (map (F t.flushed.table) (leaf_columns t.flushed)) (λ list. extension list z) ∙ length-map (leaf_columns t.flushed) (F t.flushed.table);
  told = λ F t z f. claims_told F t.flushed.table z (leaf_columns t.flushed);
  tells = λ F t z v f l h. claims_tell F t.flushed.table z (leaf_columns t.flushed) v l h;
  closed_fits = λ F t z v f l. claims_fit F t.flushed.table (row_vars t.flushed) z (leaf_columns t.flushed) v l f.vars f.rows;
  next = λ t z v l. refl;
}

-- ---- from a claim on a layer to its sum, and back
-- layer k at a point, with d layers down to the leaves
record IsAt (F : Filling) (f : Flushed) (k d : ℕ) (z : List ℕ) : Type 0 where
  point : length z ≡ k
  vars : row_vars f ≡ k + d
  rows : HasRows F f

descending_entries : (f : Flushed) (a g k d : ℕ) (z : List ℕ) (c : ℕ) → descent_entries (descending f a g k d z c) ≡ layer_entries f k d
descending_entries f a g k zero z c = refl
descending_entries f a g k (suc d) z c = refl

from_none : (n : ℕ) → n ≡ 0 + n
from_none n = omega arith

layer_degree : (F : Filling) (t : Layered) → degree (layered_sum.sum F t).form ≤ 3
layer_degree F t = omega arith

leaves_degree : (F : Filling) (t : Pointed) → degree (sum_of_leaves F t).form ≤ 4
leaves_degree F t =
    let form = leaf_form t.alpha t.gamma (length t.flushed.shape.columns) in
    let e = degree-eq_sum t.point form (leaf_lists F t.flushed) in
    let m = leaf_degree t.alpha t.gamma (length t.flushed.shape.columns) in
    omega arith

descending_fits : (F : Filling) (f : Flushed) (a g k d : ℕ) (z : List ℕ) (c : ℕ) → IsAt F f k d z → DescentFits F (descending f a g k d z c)
descending_fits F f a g k zero z c h =
    let t : Pointed = record { flushed = f; alpha = a; gamma = g; point = z } in (
      subst (LeavesFit F t) (from_none (row_vars f)) (record { vars = refl; point = (let p = h.point in let v = h.vars in omega arith); rows = h.rows }),
      (omega arith, leaves_degree F t),
    )
descending_fits F f a g k (suc d) z c h =
    let t : Layered = record { at = record { flushed = f; alpha = a; gamma = g; point = z }; layer = k; below = d } in (
      subst (LayeredFits F t) (from_none k) (record { layer_is = refl; point = h.point; vars = h.vars; rows = h.rows }),
      (omega arith, layer_degree F t),
    )

-- the claim is the sum's
sum_is : (F : Filling) (f : Flushed) (a g k d : ℕ) (z : List ℕ) → IsAt F f k (suc d) z
    → extension (layer k (suc d) (leaves_of F a g f)) z ≡ sum_at (layer_sum k z (layer (suc k) d (leaves_of F a g f))) [] k
sum_is F f a g k d z h = layer_claim k d (leaves_of F a g f) z h.point (length-leaves F a g f ∙ ap (λ n. 2 ^ n) h.vars)

leaves_sum_is : (F : Filling) (f : Flushed) (a g k : ℕ) (z : List ℕ) → IsAt F f k 0 z
    → extension (leaves_of F a g f) z ≡ sum_at (sum_of_leaves F (record { flushed = f; alpha = a; gamma = g; point = z })) [] (row_vars f)
leaves_sum_is F f a g k z h = leaves_claim F f a g z (let p = h.point in let v = h.vars in omega arith) h.rows

descending_holds : (F : Filling) (f : Flushed) (a g k d : ℕ) (z : List ℕ) (c : ℕ) → IsAt F f k d z → extension (layer k d (leaves_of F a g f)) z ≡ c → DescentHolds F (descending f a g k d z c)
descending_holds F f a g k zero z c h e = sym (leaves_sum_is F f a g k z h) ∙ e
descending_holds F f a g k (suc d) z c h e = sym (sum_is F f a g k d z h) ∙ e

descending_tells : (F : Filling) (f : Flushed) (a g k d : ℕ) (z : List ℕ) (c : ℕ) → IsAt F f k d z → DescentHolds F (descending f a g k d z c) → extension (layer k d (leaves_of F a g f)) z ≡ c
descending_tells F f a g k zero z c h e = leaves_sum_is F f a g k z h ∙ e
descending_tells F f a g k (suc d) z c h e = sum_is F f a g k d z h ∙ e

-- ---- the draw that joins two values
after_join : (F : Filling) (p : Paired) (r : ℕ) → LayeredFits F p.layered (length p.point) → IsAt F p.layered.at.flushed (suc p.layered.layer) p.layered.below (p.point ++ r ∷ [])
after_join F p r h = record {
  point = let l = h.layer_is in let a = length-append p.point (r ∷ []) in omega arith;
  vars = let v = h.vars in omega arith;
  rows = h.rows;
}

at_join : (F : Filling) (p : Paired) → AtDraw descent (layers (closed p)) 1 (layer_entries p.layered.at.flushed (suc p.layered.layer) p.layered.below) F
at_join F p =
    let t = p.layered in
    let f = t.at.flushed in
    let below = next_layer F t in
    let line : ℕ → ℕ = λ c. bit_xor (mul p.low (bit_xor 1 c)) (mul p.high c) in
    record {
      next = λ r. descending_entries f t.at.alpha t.at.gamma (suc t.layer) t.below (p.point ++ r ∷ []) (line r);
      fits = λ r e h. descending_fits F f t.at.alpha t.at.gamma (suc t.layer) t.below (p.point ++ r ∷ []) (line r) (after_join F p r h);
      counted = λ h wrong.
          at_most_weaker (λ r. DescentHolds F (joined p r)) (λ r. extension below (p.point ++ r ∷ []) ≡ line r) 1 1
          (λ r w. descending_tells F f t.at.alpha t.at.gamma (suc t.layer) t.below (p.point ++ r ∷ []) (line r) (after_join F p r h) w) (omega arith)
          (pair_counted below p.point p.low p.high wrong);
      stays = λ r h w.
          descending_holds F f t.at.alpha t.at.gamma (suc t.layer) t.below (p.point ++ r ∷ []) (line r) (after_join F p r h)
          (pair_joined below p.point r ∙ (λ i. bit_xor (mul (w.0 i) (bit_xor 1 r)) (mul (w.1 i) r)));
    }

-- ---- at each entry
abbrev layers_keep : KeepsTruth layered_sum
layers_keep = keeps_truth layered_sum layered_lawful

abbrev leaves_keep : KeepsTruth leaves_sum
leaves_keep = keeps_truth leaves_sum leaves_lawful

at_message : (F : Filling) (s : Descent) (c : CheckKind) (n : ℕ) (es : List Entry) → descent_entries s ≡ Message c n ∷ es → AtMessage descent s n es F
at_message F (waiting f) c n es e = absurd (cc)
at_message F (layers (closed p)) c n es e = absurd (cc)
at_message F (layers (adding t r)) c n es e =
    let h = layers_keep.message F t r c n es e in
    record { next = h.next; fits = h.fits; sound = h.sound; size = h.size; passes = h.passes; stays = h.stays }
at_message F (leaves (closed x)) c n es e = absurd (cc)
at_message F (leaves (adding t r)) c n es e =
    let h = leaves_keep.message F t r c n es e in
    record { next = h.next; fits = h.fits; sound = h.sound; size = h.size; passes = h.passes; stays = h.stays }

at_draw : (F : Filling) (s : Descent) (k : DrawKind) (n : ℕ) (es : List Entry) → descent_entries s ≡ Draw k n ∷ es → AtDraw descent s n es F
at_draw F (waiting f) k n es e = absurd (cc)
at_draw F (layers (closed p)) k n es e = same_draw descent _ F LayerJoin k 1 n _ es e (at_join F p)
at_draw F (layers (adding t r)) k n es e =
    let h = layers_keep.draw F t r k n es e in
    record { next = h.next; fits = h.fits; counted = h.counted; stays = h.stays }
at_draw F (leaves (closed x)) k n es e = absurd (cc)
at_draw F (leaves (adding t r)) k n es e =
    let h = leaves_keep.draw F t r k n es e in
    record { next = h.next; fits = h.fits; counted = h.counted; stays = h.stays }

round_claimed : (s : Descent) → RoundIsClaimed (descent_entries s) (descent_round s)
round_claimed (waiting f) = refl
round_claimed (layers (adding t r)) = layers_keep.round t r
round_claimed (layers (closed p)) = refl
round_claimed (leaves (adding t r)) = leaves_keep.round t r
round_claimed (leaves (closed c)) = refl

pub descent_lawful : Lawful descent
descent_lawful = record { message = at_message; draw = at_draw; round = round_claimed }

-- ---- what is stated
pub product_means : ProductsAreMeant
product_means F f a g product h =
    let at : IsAt F f 0 (row_vars f) [] = record { point = refl; vars = from_none (row_vars f); rows = h } in
    let zeroth = layer_zero (row_vars f) (leaves_of F a g f) (length-leaves F a g f) in
    record {
      fits = descending_fits F f a g 0 (row_vars f) [] product at;
      told = λ w. sym zeroth ∙ descending_tells F f a g 0 (row_vars f) [] product at w;
      holds = λ e. descending_holds F f a g 0 (row_vars f) [] product at (zeroth ∙ e);
    }
