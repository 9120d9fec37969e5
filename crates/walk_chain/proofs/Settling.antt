-- A chain of lawful reductions is lawful, and a hand-over keeps the truth.
use Rattle.std.proofs.Common.{◌≡◌, ◌∙◌, ◌↔◌, ℕ, List, [], ◌∷◌, ◌++◌, refl, sym, ap, subst, append-nil, arith, Option, length}
use Rattle.std.specs.List.{AllByRecursion}
use Rattle.counting_laws.specs.Counting.{AtMost}
use Rattle.poly_forms.specs.declared.check_kind.CheckKind.{CheckKind}
use Rattle.poly_forms.specs.declared.draw_kind.DrawKind.{DrawKind}
use Rattle.sumcheck.specs.declared.entry.Entry.{Entry}
use Rattle.sumcheck.specs.declared.entry.Entry.TheVariants.{Message, Draw}
use Rattle.sumcheck.specs.Machine.{AwaitsMessage, Filling, Lawful, AtMessage, AtDraw, RoundIsClaimed}
use Rattle.walk_chain.specs.Chain.{Chain, Chained, plan_of, unless_done, settle, continued, chained}
use Rattle.walk_chain.specs.LawfulChain.{LawfulChain}

-- ---- the hand-over step by step
-- a chain over a walk as it stands before any hand-over
abbrev pub unsettled : {A W : Type 0} → List A → A → W → Chained A W
unsettled gs a w = record { active = a; todo = gs; kept = w }

-- a walk that is done hands over
pub goes_on : {A W K : Type 0} (X : Chain A W K) (g : A) (gs : List A) (a : A) (w : W) → X.walk.entries a ≡ []
    → settle X (g ∷ gs) a w ≡ settle X gs (X.enter g (X.leaves a w)) (X.stays g (X.leaves a w))
goes_on X g gs a w e = ap (λ es. unless_done es (unsettled (g ∷ gs) a w) (settle X gs (X.enter g (X.leaves a w)) (X.stays g (X.leaves a w)))) e

-- one that isn't goes on
pub stays_here : {A W K : Type 0} (X : Chain A W K) (gs : List A) (a : A) (w : W) → (X.walk.entries a ≡ [] → ⊥) → unsettled gs a w ≡ settle X gs a w
stays_here X [] a w n = refl
stays_here X (g ∷ gs) a w n =
    elim (X.walk.entries a) as (λ es. X.walk.entries a ≡ es → unsettled (g ∷ gs) a w ≡ unless_done es (unsettled (g ∷ gs) a w) (settle X gs (X.enter g (X.leaves a w)) (X.stays g (X.leaves a w)))) [
      | [] ↦ λ e. absurd (n e)
      | p ∷ es ↦ λ e. refl
    ] refl

-- ---- entries
continued-nil : (es : List Entry) → continued es [] ≡ es
continued-nil [] = refl
continued-nil (e ∷ es) = append-nil (e ∷ es)

abbrev entries_of : {A W K : Type 0} → Chain A W K → Chained A W → List Entry
entries_of X s = continued (X.walk.entries s.active) (plan_of X (X.left_key s.active (X.key s.kept)) s.todo)

settled_entries : {A W K : Type 0} (X : Chain A W K) → LawfulChain X → (gs : List A) (a : A) (w : W)
    → entries_of X (settle X gs a w) ≡ X.walk.entries a ++ plan_of X (X.left_key a (X.key w)) gs
settled_entries X law [] a w = continued-nil (X.walk.entries a) ∙ sym (append-nil (X.walk.entries a))
settled_entries {A} {W} {K} X law (g ∷ gs) a w =
    let left = X.leaves a w in
    let here : Chained A W = record { active = a; todo = g ∷ gs; kept = w } in
    let after = settle X gs (X.enter g left) (X.stays g left) in
    let rest = plan_of X (X.left_key a (X.key w)) (g ∷ gs) in
    let h = settled_entries X law gs (X.enter g left) (X.stays g left) in
    elim (X.walk.entries a) as (λ es. X.walk.entries a ≡ es → entries_of X (unless_done es here after) ≡ es ++ rest) [
      | [] ↦ λ e. h ∙ ap (λ ps. ps ++ plan_of X (X.left_key (X.enter g left) (X.key (X.stays g left))) gs) (law.enter_plan g left)
          ∙ ap (λ k. X.plan g (X.key left) ++ plan_of X k gs) (law.enter_key g left)
          ∙ ap (λ k. plan_of X k (g ∷ gs)) (law.leave_key a w e)
      | p ∷ es ↦ λ e. ap (λ es. continued es rest) e
    ] refl

-- the entries of a chain from its first walk are the plan
pub settle_entries : {A W K : Type 0} (X : Chain A W K) → LawfulChain X → (gs : List A) (a : A) (w : W)
    → (chained X).entries (settle X gs a w) ≡ X.walk.entries a ++ plan_of X (X.left_key a (X.key w)) gs
unfolding chained
settle_entries X law gs a w = settled_entries X law gs a w

-- ---- what fits
abbrev fits_of : {A W K : Type 0} → Chain A W K → Filling → Chained A W → Type 0
fits_of X F s = (X.walk.fits F s.active × X.kept_fits F s.kept) × AllByRecursion (X.stage_fits F) s.todo

abbrev holds_of : {A W K : Type 0} → Chain A W K → Filling → Chained A W → Type 0
holds_of X F s = (X.walk.holds F s.active × X.kept_holds F s.kept) × AllByRecursion (X.waits F) s.todo

settled_fits : {A W K : Type 0} (X : Chain A W K) → LawfulChain X → (F : Filling) (gs : List A) (a : A) (w : W)
    → fits_of X F (unsettled gs a w) → fits_of X F (settle X gs a w)
settled_fits X law F [] a w f = f
settled_fits {A} {W} {K} X law F (g ∷ gs) a w f =
    let left = X.leaves a w in
    let here = unsettled (g ∷ gs) a w in
    elim (X.walk.entries a) as (λ es. X.walk.entries a ≡ es → fits_of X F (unless_done es here (settle X gs (X.enter g left) (X.stays g left)))) [
      | [] ↦ λ e. settled_fits X law F gs (X.enter g left) (X.stays g left) (law.enter_fits F g left f.1.0 (law.leave_fits F a w e f.0.0 f.0.1), f.1.1)
      | p ∷ es ↦ λ e. f
    ] refl

-- ---- a hand-over keeps the truth, both ways
settled_holds : {A W K : Type 0} (X : Chain A W K) → LawfulChain X → (F : Filling) (gs : List A) (a : A) (w : W)
    → fits_of X F (unsettled gs a w) → holds_of X F (settle X gs a w) ↔ holds_of X F (unsettled gs a w)
settled_holds X law F [] a w f = (λ h. h, λ h. h)
settled_holds {A} {W} {K} X law F (g ∷ gs) a w f =
    let left = X.leaves a w in
    let here = unsettled (g ∷ gs) a w in
    elim (X.walk.entries a) as (λ es. X.walk.entries a ≡ es
    → holds_of X F (unless_done es here (settle X gs (X.enter g left) (X.stays g left))) ↔ holds_of X F here) [
      | [] ↦ λ e.
          let fit = law.leave_fits F a w e f.0.0 f.0.1 in
          let l = law.leave_holds F a w e f.0.0 f.0.1 in
          let m = law.enter_holds F g left f.1.0 fit in
          let r = settled_holds X law F gs (X.enter g left) (X.stays g left) (law.enter_fits F g left f.1.0 fit, f.1.1) in (
            λ h. let x = r.0 h in let y = m.0 x.0 in (l.1 y.1, (y.0, x.1)),
            λ h. r.1 (m.1 (h.1.0, l.0 h.0), h.1.1),
          )
      | p ∷ es ↦ λ e. (λ h. h, λ h. h)
    ] refl

pub settle_fits : {A W K : Type 0} (X : Chain A W K) → LawfulChain X → (F : Filling) (gs : List A) (a : A) (w : W)
    → (chained X).fits F (unsettled gs a w) → (chained X).fits F (settle X gs a w)
unfolding chained
settle_fits X law F gs a w f = settled_fits X law F gs a w f

pub settle_holds : {A W K : Type 0} (X : Chain A W K) → LawfulChain X → (F : Filling) (gs : List A) (a : A) (w : W)
    → (chained X).fits F (unsettled gs a w) → (chained X).holds F (settle X gs a w) ↔ (chained X).holds F (unsettled gs a w)
unfolding chained
settle_holds X law F gs a w f = settled_holds X law F gs a w f

-- ---- the laws of the whole
-- the first entry is the active walk's
first_is : (es ps rest : List Entry) (p : Entry) → continued es ps ≡ p ∷ rest → (ds : List Entry) × (es ≡ p ∷ ds) × (rest ≡ ds ++ ps)
first_is [] ps rest p e = cc
first_is (q ∷ ds) ps rest p e = (ds, cc, cc)

round_first : (es ps : List Entry) (claim : Option ℕ) → RoundIsClaimed es claim → RoundIsClaimed (continued es ps) claim
round_first [] ps claim h = h
round_first (Message c n ∷ es) ps claim h = h
round_first (Draw k n ∷ es) ps claim h = h

within : {X : Type 0} (n : ℕ) (P Q : X → Type 0) → ((x : X) → P x → Q x) → AtMost n Q → AtMost n P
within {X} n P Q h m xs d e = m xs d (each xs e)
  where
    each : (ys : List X) → AllByRecursion P ys → AllByRecursion Q ys
    each [] e = tt
    each (y ∷ ys) e = (h y e.0, each ys e.1)

-- what stays adds no escape
beside : {X : Type 0} (n : ℕ) (P K : Type 0) (Q : X → Type 0) → (¬ P → AtMost n Q) → ¬ (P × K) → AtMost n (λ x. Q x × K)
beside n P K Q h wrong [] d e = omega arith
beside n P K Q h wrong (x ∷ xs) d e = within n (λ x. Q x × K) Q (λ x q. q.0) (h (λ p. wrong (p, e.0.1))) (x ∷ xs) d e

message_lawful : {A W K : Type 0} (X : Chain A W K) → LawfulChain X → (F : Filling) (s : Chained A W) (c : CheckKind) (n : ℕ) (es ds : List Entry)
    → X.walk.entries s.active ≡ Message c n ∷ ds → es ≡ ds ++ plan_of X (X.left_key s.active (X.key s.kept)) s.todo → AtMessage (chained X) s n es F
unfolding chained
message_lawful X law F s c n es ds d r =
    let m = law.walk.message F s.active c n ds d in
    let after = X.walk.after_message s.active in
    record {
      next = λ v l. settled_entries X law s.todo (after v) s.kept ∙ ap (λ es. es ++ plan_of X (X.left_key (after v) (X.key s.kept)) s.todo) (m.next v l)
          ∙ ap (λ k. ds ++ plan_of X k s.todo) (law.message_key s.active v (X.key s.kept) (subst (AwaitsMessage (length v)) (sym d) l)) ∙ sym r;
      fits = λ v l f. settled_fits X law F s.todo (after v) s.kept ((m.fits v l f.0.0, f.0.1), f.1);
      sound = λ v l f p h.
          let k = (settled_holds X law F s.todo (after v) s.kept ((m.fits v l f.0.0, f.0.1), f.1)).0 h in
          ((m.sound v l f.0.0 p k.0.0, k.0.1), k.1);
      size = m.size;
      passes = λ f h. m.passes f.0.0 h.0.0;
      stays = λ f h.
          let v = X.walk.honest F s.active in
          (settled_holds X law F s.todo (after v) s.kept ((m.fits v m.size f.0.0, f.0.1), f.1)).1 ((m.stays f.0.0 h.0.0, h.0.1), h.1);
    }

-- a draw keeps the truth as far as the hand-over after it
drawn_holds : {A W K : Type 0} (X : Chain A W K) → LawfulChain X → (F : Filling) (s : Chained A W) (k : DrawKind) (n c : ℕ) (ds : List Entry)
    → X.walk.entries s.active ≡ Draw k n ∷ ds → X.walk.entries (X.walk.after_draw s.active c) ≡ ds → fits_of X F s
    → holds_of X F (settle X s.todo (X.walk.after_draw s.active c) s.kept) ↔ holds_of X F (unsettled s.todo (X.walk.after_draw s.active c) s.kept)
drawn_holds X law F s k n c [] d e f = settled_holds X law F s.todo (X.walk.after_draw s.active c) s.kept ((law.ending_draw F s.active k n c d f.0.0, f.0.1), f.1)
drawn_holds X law F s k n c (p ∷ ds) d e f =
    let same = stays_here X s.todo (X.walk.after_draw s.active c) s.kept (λ done. let wrong = sym e ∙ done in cc) in
    (subst (holds_of X F) (sym same), subst (holds_of X F) same)

draw_lawful : {A W K : Type 0} (X : Chain A W K) → LawfulChain X → (F : Filling) (s : Chained A W) (k : DrawKind) (n : ℕ) (es ds : List Entry)
    → X.walk.entries s.active ≡ Draw k n ∷ ds → es ≡ ds ++ plan_of X (X.left_key s.active (X.key s.kept)) s.todo → AtDraw (chained X) s n es F
unfolding chained
draw_lawful X law F s k n es ds d r =
    let m = law.walk.draw F s.active k n ds d in
    let after = X.walk.after_draw s.active in
    let others = X.kept_holds F s.kept × AllByRecursion (X.waits F) s.todo in
    record {
      next = λ c. settled_entries X law s.todo (after c) s.kept ∙ ap (λ es. es ++ plan_of X (X.left_key (after c) (X.key s.kept)) s.todo) (m.next c)
          ∙ ap (λ k. ds ++ plan_of X k s.todo) (law.draw_key s.active c (X.key s.kept)) ∙ sym r;
      fits = λ c in_level f. settled_fits X law F s.todo (after c) s.kept ((m.fits c in_level f.0.0, f.0.1), f.1);
      counted = λ f wrong. within n (λ c. holds_of X F (settle X s.todo (after c) s.kept)) (λ c. X.walk.holds F (after c) × others)
          (λ c h. let k = (drawn_holds X law F s k n c ds d (m.next c) f).0 h in (k.0.0, (k.0.1, k.1)))
          (beside n (X.walk.holds F s.active) others (λ c. X.walk.holds F (after c)) (m.counted f.0.0) (λ h. wrong ((h.0, h.1.0), h.1.1)));
      stays = λ c f h. (drawn_holds X law F s k n c ds d (m.next c) f).1 ((m.stays c f.0.0 h.0.0, h.0.1), h.1);
    }

pub chained_lawful : {A W K : Type 0} (X : Chain A W K) → LawfulChain X → Lawful (chained X)
unfolding chained
chained_lawful X law = record {
  message = λ F s c n es e. let f = first_is _ _ es (Message c n) e in message_lawful X law F s c n es f.0 f.1 f.2;
  draw = λ F s k n es e. let f = first_is _ _ es (Draw k n) e in draw_lawful X law F s k n es f.0 f.1 f.2;
  round = λ s. round_first (X.walk.entries s.active) _ (X.walk.round_claim s.active) (law.walk.round s.active);
}
