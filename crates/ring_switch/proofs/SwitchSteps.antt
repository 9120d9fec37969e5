-- Steps of the walk.
use Rattle.std.proofs.Common.{◌≡◌, ◌∙◌, ℕ, zero, suc, ◌-◌, ◌*◌, ◌<◌, ◌^◌, ◌++◌, Bool, true, false, not, eqb, Some, None, List, [], ◌∷◌, take, length, get_or, set, slice_index, refl, sym, ap, subst, arith}
use Rattle.std.proofs.Math.ListN.{length-set}
use Rattle.std.proofs.lemmas.List.{get_or_default, take_all}
use Rattle.cube_laws.specs.Extension.{dot, fold_low, weights}
use Rattle.cube_laws.proofs.Folding.{length-fold_low}
use Rattle.poly_forms.specs.declared.check_kind.CheckKind.TheVariants.{Tensor}
use Rattle.sumcheck.specs.declared.refused.Refused.{Refused}
use Rattle.sumcheck.specs.Machine.{AwaitsDraw}
use Rattle.sumcheck.specs.Rounds.{Rounds, DrawIsDue, checked, sum_claim, unless_equal, with_claim}
use Rattle.sumcheck.specs.Summing.{adding}
use Rattle.sumcheck.proofs.Lawful.{draw_due}
use Rattle.ring_switch.specs.declared.switch_walk.Stage.{Stage}
use Rattle.ring_switch.specs.declared.switch_walk.Stage.TheVariants.{Waiting, Valued, Setting, Adding, Done}
use Rattle.ring_switch.specs.Switching.{PackedValue, Switched, Switching, columns_of, low_of, rowed, rows_of, summed, switch_sum, switching_draw, switching_entries, switching_refusal}
use Rattle.ring_switch.specs.SwitchFields.{IsBeforeRows, StageFits, switching_of}

-- ---- the tensor
pub tensor_checked : (g : Stage) (n : ℕ) (z : List ℕ) (s : ℕ) (t : Switched) (rows : List ℕ) (left : ℕ) (r : Rounds) (p : PackedValue) (m : Switching) (v tensor point : List ℕ) (x : ℕ)
    → switching_of g n z s t rows left r p ≡ m → g ≡ Valued → tensor ≡ rows_of v → point ≡ z → x ≡ dot (columns_of tensor) (weights (low_of point)) → switching_refusal m v ≡ checked Tensor x s
tensor_checked g n z s t rows left r p m v tensor point x e valued_is te pe xe =
    ap (λ m. switching_refusal m v) (sym e ∙ ap (λ (g : Stage). switching_of g n z s t rows left r p) valued_is)
    ∙ ap (λ y. checked Tensor y s) (sym (xe ∙ (λ i. dot (columns_of (te i)) (weights (low_of (pe i))))))

unequal_sides : (b : Bool) (e : Refused) → not b ≡ true → unless_equal b e ≡ Some e
unequal_sides true e h = absurd (cc)
unequal_sides false e h = refl

equal_sides : (b : Bool) (e : Refused) → not b ≡ false → unless_equal b e ≡ None
equal_sides true e h = refl
equal_sides false e h = absurd (cc)

pub where_unequal : (x s : ℕ) (b : Bool) → b ≡ not (eqb x s) → b ≡ true → checked Tensor x s ≡ Some (record { check = Tensor; left = x; right = s })
where_unequal x s b h e = unequal_sides (eqb x s) (record { check = Tensor; left = x; right = s }) (sym h ∙ e)

pub where_equal : (x s : ℕ) (b : Bool) → b ≡ not (eqb x s) → b ≡ false → checked Tensor x s ≡ None
where_equal x s b h e = equal_sides (eqb x s) (record { check = Tensor; left = x; right = s }) (sym h ∙ e)

-- ---- a draw of a coordinate
pub set_last : (xs : List ℕ) (k v : ℕ) → k < length xs → take (suc k) (set xs k v) ≡ take k xs ++ v ∷ []
set_last [] k v l = absurd (omega arith)
set_last (x ∷ xs) zero v l = refl
set_last (x ∷ xs) (suc k) v l = ap (λ w. x ∷ w) (set_last xs k v (omega arith))

-- with more draws to come
pub more_set : (n s left : ℕ) (z rows next : List ℕ) (t u : Switched) (r : Rounds) (p : PackedValue) (c : ℕ) → u ≡ record t { combine = set t.combine (6 - left) c } → next ≡ fold_low c rows → length t.combine ≡ 7 → 0 < left
    → StageFits Setting n z s t rows left r p → switching_of Setting n z s u next (left - 1) r p ≡ switching_draw (switching_of Setting n z s t rows left r p) c
more_set n s zero z rows next t u r p c e f seven more h = absurd (omega arith)
more_set n s (suc left) z rows next t u r p c e f seven more h =
    let less : suc left - 1 ≡ left = omega arith in
    let within = h.0.0 in
    let up : 6 - left ≡ suc (6 - suc left) = omega arith in
    (λ i. rowed (e i).high (take (6 - less i) (e i).combine) (f i) (less i))
    ∙ ap (λ k. rowed t.high (take k (set t.combine (6 - suc left) c)) (fold_low c rows) left) up
    ∙ ap (λ w. rowed t.high w (fold_low c rows) left) (set_last t.combine (6 - suc left) c (omega arith))

-- and with none
pub all_set : (n s left : ℕ) (z rows next : List ℕ) (t u : Switched) (r q : Rounds) (p : PackedValue) (c v : ℕ) → u ≡ record t { combine = set t.combine (6 - left) c } → next ≡ fold_low c rows → length t.combine ≡ 7 → left ≡ 0
    → v ≡ get_or next 0 v → q ≡ with_claim v r → StageFits Setting n z s t rows left r p → summed (adding u q) ≡ switching_draw (switching_of Setting n z s t rows left r p) c
all_set n s (suc left) z rows next t u r q p c v e f seven none ve qe h = absurd (omega arith)
all_set n s zero z rows next t u r q p c v e f seven none ve qe h =
    let long = length-set t.combine 6 c in
    let one : length next ≡ 1 = ap length f ∙ length-fold_low c 1 rows h.0.1 in
    let first = ve ∙ get_or_default next 0 v 0 (omega arith) in
    let claim = qe ∙ ap (with_claim v) h.1 ∙ ap (sum_claim 2 (length t.high) []) (first ∙ ap (λ w. slice_index w 0) f) in
    let last : set t.combine 6 c ≡ take 6 t.combine ++ c ∷ [] = sym (take_all 7 (set t.combine 6 c) (omega arith)) ∙ set_last t.combine 6 c (omega arith) in
    (λ i. summed (adding (e i) (claim i)))
    ∙ ap (λ w. summed (adding (record { high = t.high; combine = w }) (sum_claim 2 (length t.high) [] (slice_index (fold_low c rows) 0)))) last

pub more_fits : (n s left : ℕ) (z rows next : List ℕ) (t u : Switched) (r : Rounds) (p : PackedValue) (g : Stage) (c : ℕ) → g ≡ Setting → u ≡ record t { combine = set t.combine (6 - left) c } → next ≡ fold_low c rows → 0 < left
    → StageFits g n z s t rows left r p → StageFits g n z s u next (left - 1) r p
more_fits n s left z rows next t u r p g c ge e f more h =
    let k = subst (λ (g : Stage). StageFits g n z s t rows left r p) ge h in
    let up : suc (left - 1) ≡ left = omega arith in
    let double : 2 ^ suc left ≡ 2 * 2 ^ left = omega arith in
    let within = k.0.0 in
    subst (λ (g : Stage). StageFits g n z s u next (left - 1) r p) (sym ge)
    (((omega arith), ap length f ∙ length-fold_low c (2 ^ left) rows (k.0.1 ∙ double) ∙ ap (λ m. 2 ^ m) (sym up)), k.1 ∙ ap (λ (w : Switched). sum_claim 2 (length w.high) [] 0) (sym e))

pub not_before : (g : Stage) → g ≡ Setting → IsBeforeRows g → ⊥
not_before g e h = subst (λ (g : Stage). IsBeforeRows g) e h

pub length-drawn : (t u : Switched) (k c : ℕ) → u ≡ record t { combine = set t.combine k c } → length t.combine ≡ 7 → length u.combine ≡ 7
length-drawn t u k c e l = ap (λ (w : Switched). length w.combine) e ∙ length-set t.combine k c ∙ l

-- ---- a draw after a round
at_stage : (g : Stage) (n : ℕ) (z : List ℕ) (s : ℕ) (t : Switched) (rows : List ℕ) (left : ℕ) (r : Rounds) (p : PackedValue) → g ≡ Adding → AwaitsDraw (switching_entries (switching_of g n z s t rows left r p)) → DrawIsDue r
at_stage Waiting n z s t rows left r p e h = absurd (cc)
at_stage Valued n z s t rows left r p e h = absurd (cc)
at_stage Setting n z s t rows left r p e h = absurd (cc)
at_stage Adding n z s t rows left r p e h = draw_due switch_sum t r h
at_stage Done n z s t rows left r p e h = absurd (cc)

pub bind_due : (g : Stage) (n : ℕ) (z : List ℕ) (s : ℕ) (t : Switched) (rows : List ℕ) (left : ℕ) (r : Rounds) (p : PackedValue) (m : Switching) → switching_of g n z s t rows left r p ≡ m → g ≡ Adding → AwaitsDraw (switching_entries m) → DrawIsDue r
bind_due g n z s t rows left r p m v e h = at_stage g n z s t rows left r p e (rw v h)
