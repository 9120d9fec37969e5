-- A walk and its prover, side by side.
use Rattle.std.proofs.Common.{◌≡◌, ℕ, List, [], ◌∷◌, length, Some, refl, sym, ◌∙◌, ap, subst}
use Rattle.tower_laws.specs.Tower.{Fits}
use Rattle.sumcheck.specs.declared.entry.Entry.{Entry}
use Rattle.sumcheck.specs.declared.entry.Entry.TheVariants.{Message, Draw}
use Rattle.poly_forms.specs.declared.check_kind.CheckKind.{CheckKind}
use Rattle.poly_forms.specs.declared.draw_kind.DrawKind.{DrawKind}
use Rattle.sumcheck.specs.Machine.{first_entry, Machine, Lawful, Filling, AwaitsMessage, AwaitsSome, AwaitsDraw}
use Rattle.walk_example.specs.Meeting.{IsTrueOf}

pub message_due : (es : List Entry) (c : CheckKind) (n : ℕ) → first_entry es ≡ Some (Message c n) → AwaitsSome es
message_due [] c n h = absurd (cc)
message_due (Message d m ∷ es) c n h = tt
message_due (Draw k m ∷ es) c n h = absurd (cc)

pub draw_due_first : (es : List Entry) (k : DrawKind) (n : ℕ) → first_entry es ≡ Some (Draw k n) → AwaitsDraw es
draw_due_first [] c n h = absurd (cc)
draw_due_first (Message d m ∷ es) c n h = absurd (cc)
draw_due_first (Draw k m ∷ es) c n h = tt

at_head : {S : Type 0} (M : Machine S) → Lawful M → (F : Filling) (s : S) (es : List Entry) → M.entries s ≡ es → AwaitsSome es → AwaitsMessage (length (M.honest F s)) es
at_head M law F s [] e h = absurd h
at_head M law F s (Message c n ∷ es) e h = (law.message F s c n es e).size
at_head M law F s (Draw k n ∷ es) e h = absurd h

-- the honest numbers are as many as are due
pub honest_due : {S : Type 0} (M : Machine S) → Lawful M → (F : Filling) (s : S) (vs : List ℕ) → AwaitsSome (M.entries s) → vs ≡ M.honest F s → AwaitsMessage (length vs) (M.entries s)
honest_due M law F s vs h e = subst (λ (v : List ℕ). AwaitsMessage (length v) (M.entries s)) (sym e) (at_head M law F s (M.entries s) refl h)

-- ---- a draw that is due
due_draw : {S : Type 0} (M : Machine S) (s : S) (e : Entry) (k : DrawKind) (n : ℕ) (es : List Entry) → M.entries s ≡ es → e ≡ Draw k n → first_entry es ≡ Some e → (ds : List Entry) × (M.entries s ≡ Draw k n ∷ ds)
due_draw M s e k n [] a b h = absurd (cc)
due_draw M s e k n (x ∷ es) a b h = let y : x ≡ Draw k n = cc in (es, a ∙ ap (λ z. z ∷ es) y)

pub draw_passes : {S : Type 0} (M : Machine S) → Lawful M → (s t : S) (r : ℕ) (e : Entry) (k : DrawKind) (n : ℕ) → e ≡ Draw k n → first_entry (M.entries s) ≡ Some e → t ≡ M.after_draw s r → M.entries s ≡ e ∷ M.entries t
draw_passes M law s t r e k n b h d =
    let due = due_draw M s e k n (M.entries s) refl b h in
    due.1 ∙ (λ i. sym b i ∷ sym (ap M.entries d ∙ (law.draw (λ t c. []) s k n due.0 due.1).next r) i)

pub draw_stays : {S : Type 0} (M : Machine S) → Lawful M → (F : Filling) (s t : S) (r : ℕ) → Fits 7 r → (e : Entry) (k : DrawKind) (n : ℕ) → e ≡ Draw k n → first_entry (M.entries s) ≡ Some e → t ≡ M.after_draw s r → IsTrueOf M F s → IsTrueOf M F t
draw_stays M law F s t r small e k n b h d w =
    let due = due_draw M s e k n (M.entries s) refl b h in
    let at = law.draw F s k n due.0 due.1 in
    subst (IsTrueOf M F) (sym d) (record { fits = at.fits r small w.fits; holds = at.stays r w.fits w.holds })
