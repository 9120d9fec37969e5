-- The rounds of a sum claim and the message that ends them keep truth as they should.
use Rattle.std.proofs.Common.{◌≡◌, ◌∙◌, ℕ, zero, suc, ◌+◌, ◌<◌, ◌≤◌, List, [], ◌∷◌, ◌++◌, length, slice_index, eqb, true, false, Bool, Some, None, refl, sym, ap, subst, arith, eq-eqb, eqb-true}
use Rattle.std.proofs.lemmas.List.{length-append}
use Rattle.cube_laws.specs.Sums.{tabulate}
use Rattle.cube_laws.specs.Form.{degree}
use Rattle.cube_laws.specs.SumClaim.{Sum, round_at, IsRound}
use Rattle.cube_laws.proofs.Weights.{length-tabulate}
use Rattle.cube_laws.proofs.Rounds.{round_tells, draws_counted, round_by_values, honest_passes, honest_draw}
use Rattle.sumcheck.specs.declared.entry.Entry.{Entry}
use Rattle.sumcheck.specs.declared.entry.Entry.TheVariants.{Message, Draw}
use Rattle.poly_forms.specs.declared.check_kind.CheckKind.{CheckKind}
use Rattle.poly_forms.specs.declared.check_kind.CheckKind.TheVariants.{RoundSum}
use Rattle.poly_forms.specs.declared.draw_kind.DrawKind.{DrawKind}
use Rattle.sumcheck.specs.Machine.{Filling, AtMessage, AtDraw, AwaitsDraw, RoundIsClaimed, first_entry}
use Rattle.sumcheck.proofs.Entries.{same_message, same_draw}
use Rattle.sumcheck.specs.Rounds.{Rounds, sum_claim, round_claim, unless_equal, checked, true_round, DrawIsDue, has_passed, left_over, round_degree, due_claim}
use Rattle.sumcheck.specs.Summing.{Summing, Summed, LawfulSumming, KeepsTruth, adding, closed, summed_entries, summing}

-- ---- checks
pub checks_equal : (k : CheckKind) (x c : ℕ) → checked k x c ≡ None → x ≡ c
checks_equal k x c h = go (eqb x c) refl h
  where
    go : (b : Bool) → eqb x c ≡ b → unless_equal b (record { check = k; left = x; right = c }) ≡ None → x ≡ c
    go true t h = eqb-true x c t
    go false t h = cc

pub equal_checks : (k : CheckKind) (x c : ℕ) → x ≡ c → checked k x c ≡ None
equal_checks k x c h = rw (eq-eqb x c h) refl

-- ---- true rounds
pub slice-tabulate : (n k : ℕ) (f : ℕ → ℕ) → k < n → slice_index (tabulate n f) k ≡ f k
slice-tabulate zero k f l = absurd (omega arith)
slice-tabulate (suc n) zero f l = refl
slice-tabulate (suc n) (suc k) f l = slice-tabulate n k (λ k. f (suc k)) (omega arith)

pub true_round-is : (s : Sum) (d n : ℕ) (z : List ℕ) → degree s.form ≤ d → IsRound s z n (true_round s d n z)
true_round-is s d n z h = round_by_values s z n d (true_round s d n z) h (length-tabulate (suc d) (round_at s z n)) (λ k l. slice-tabulate (suc d) k (round_at s z n) l)

one_more : (z : List ℕ) (r n : ℕ) → length z + suc n ≡ length (z ++ r ∷ []) + n
one_more z r n = let l = length-append z (r ∷ []) in omega arith

none_left : (n : ℕ) → n + 0 ≡ n
none_left n = omega arith

-- ---- the three steps
pub at_round : {T C : Type 0} (X : Summing T C) (F : Filling) (t : T) (d n : ℕ) (z : List ℕ) (c : ℕ)
    → AtMessage (summing X) (adding t (sum_claim d (suc n) z c)) (suc d) (summed_entries X (adding t (round_claim d n z []))) F
at_round X F t d n z c =
    let s = X.sum F t in
    record {
      next = λ v l. refl;
      fits = λ v l f. (f.0, (f.1, l));
      sound = λ v l f p h. let a = f.1.0 in round_tells s z n c v (omega arith) (checks_equal RoundSum _ c p) h;
      size = length-tabulate (suc d) (round_at s z n);
      passes = λ f h.
          let a = f.1.0 in
          let l = length-tabulate (suc d) (round_at s z n) in
          equal_checks RoundSum _ c (honest_passes s z n c (true_round s d n z) (omega arith) (true_round-is s d n z f.1.1) h);
      stays = λ f h. true_round-is s d n z f.1.1;
    }

pub at_bind : {T C : Type 0} (X : Summing T C) (F : Filling) (t : T) (d n : ℕ) (z v : List ℕ)
    → AtDraw (summing X) (adding t (round_claim d n z v)) d (summed_entries X (adding t (sum_claim d n z 0))) F
at_bind X F t d n z v =
    let s = X.sum F t in
    record {
      next = λ r. refl;
      fits = λ r e f. (subst (X.fits F t) (one_more z r n) f.0, f.1.0);
      counted = λ f wrong. draws_counted s z n d v f.1.0.1 f.1.1 wrong;
      stays = λ r f h. honest_draw s z n r v h;
    }

pub at_final : {T C : Type 0} (X : Summing T C) → LawfulSumming X → (F : Filling) (t : T) (d : ℕ) (z : List ℕ) (c : ℕ)
    → AtMessage (summing X) (adding t (sum_claim d zero z c)) (X.count t) (X.rest t) F
at_final X L F t d z c = record {
  next = λ v l. L.next t z v l;
  fits = λ v l f. L.closed_fits F t z v (subst (X.fits F t) (none_left (length z)) f.0) l;
  sound = λ v l f p h.
      let g = subst (X.fits F t) (none_left (length z)) f.0 in
      L.final F t z g ∙ ap (X.left t z) (sym (L.tells F t z v g l h)) ∙ checks_equal X.check (X.left t z v) c p;
  size = L.size F t z;
  passes = λ f h. equal_checks X.check (X.left t z (X.finals F t z)) c (sym (L.final F t z (subst (X.fits F t) (none_left (length z)) f.0)) ∙ h);
  stays = λ f h. L.told F t z (subst (X.fits F t) (none_left (length z)) f.0);
}

-- ---- at each entry of the sum
pub summing_message : {T C : Type 0} (X : Summing T C) → LawfulSumming X → (F : Filling) (t : T) (r : Rounds) (c : CheckKind) (n : ℕ) (es : List Entry)
    → summed_entries X (adding t r) ≡ Message c n ∷ es → AtMessage (summing X) (adding t r) n es F
summing_message X L F t (sum_claim d zero z x) c n es e = same_message (summing X) _ F X.check c (X.count t) n _ es e (at_final X L F t d z x)
summing_message X L F t (sum_claim d (suc m) z x) c n es e = same_message (summing X) _ F RoundSum c (suc d) n _ es e (at_round X F t d m z x)
summing_message X L F t (round_claim d m z v) c n es e = absurd (cc)

pub summing_draw : {T C : Type 0} (X : Summing T C) (F : Filling) (t : T) (r : Rounds) (k : DrawKind) (n : ℕ) (es : List Entry)
    → summed_entries X (adding t r) ≡ Draw k n ∷ es → AtDraw (summing X) (adding t r) n es F
summing_draw X F t (sum_claim d zero z x) k n es e = absurd (cc)
summing_draw X F t (sum_claim d (suc m) z x) k n es e = absurd (cc)
summing_draw X F t (round_claim d m z v) k n es e = same_draw (summing X) _ F X.kind k d n _ es e (at_bind X F t d m z v)

pub summing_round : {T C : Type 0} (X : Summing T C) → LawfulSumming X → (t : T) (r : Rounds) → RoundIsClaimed (summed_entries X (adding t r)) (due_claim r)
summing_round X L t (sum_claim d zero z x) = sym L.last
summing_round X L t (sum_claim d (suc m) z x) = refl
summing_round X L t (round_claim d m z v) = refl

-- ---- where nothing remains after the last message
whole_message : {T C : Type 0} (X : Summing T C) → LawfulSumming X → ((c : C) → X.afterwards c ≡ []) → (F : Filling) (s : Summed T C) (c : CheckKind) (n : ℕ) (es : List Entry)
    → summed_entries X s ≡ Message c n ∷ es → AtMessage (summing X) s n es F
whole_message X L none F (adding t r) c n es e = summing_message X L F t r c n es e
whole_message X L none F (closed x) c n es e = absurd (let o = none x in cc)

whole_draw : {T C : Type 0} (X : Summing T C) → ((c : C) → X.afterwards c ≡ []) → (F : Filling) (s : Summed T C) (k : DrawKind) (n : ℕ) (es : List Entry)
    → summed_entries X s ≡ Draw k n ∷ es → AtDraw (summing X) s n es F
whole_draw X none F (adding t r) k n es e = summing_draw X F t r k n es e
whole_draw X none F (closed x) k n es e = absurd (let o = none x in cc)

whole_round : {T C : Type 0} (X : Summing T C) → LawfulSumming X → ((c : C) → X.afterwards c ≡ []) → (s : Summed T C) → RoundIsClaimed (summed_entries X s) ((summing X).round_claim s)
whole_round X L none (adding t r) = summing_round X L t r
whole_round X L none (closed x) = subst (λ es. RoundIsClaimed es None) (sym (none x)) refl

pub keeps_truth : {T C : Type 0} (X : Summing T C) → LawfulSumming X → KeepsTruth X
keeps_truth X L = record {
  message = summing_message X L;
  draw = summing_draw X;
  round = summing_round X L;
  whole = λ none. record { message = whole_message X L none; draw = whole_draw X none; round = whole_round X L none };
}

-- ---- what is due in the code
pub draw_due : {T C : Type 0} (X : Summing T C) (t : T) (r : Rounds) → AwaitsDraw (summed_entries X (adding t r)) → DrawIsDue r
draw_due X t (sum_claim d zero z c) h = absurd h
draw_due X t (sum_claim d (suc n) z c) h = absurd h
draw_due X t (round_claim d n z v) h = tt

pub next_round : {T C : Type 0} (X : Summing T C) (t : T) (r : Rounds) (m d : ℕ) → has_passed r ≡ false → m ≡ left_over r → 0 < m → d ≡ round_degree r → first_entry (summed_entries X (adding t r)) ≡ Some (Message RoundSum (d + 1))
next_round X t (sum_claim e zero z c) m d p q l h = absurd (omega arith)
next_round X t (sum_claim e (suc n) z c) m d p q l h = let s : suc e ≡ d + 1 = omega arith in ap (λ k. Some (Message RoundSum k)) s
next_round X t (round_claim e n z v) m d p q l h = absurd (cc)
