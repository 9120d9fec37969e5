-- The hand-over in the terms of the code.
use Rattle.std.proofs.Common.{◌≡◌, ◌∙◌, ℕ, Bool, false, not, List, [], ◌∷◌, ◌++◌, reverse, refl, sym, ap, subst, Option, is_some, length}
use Rattle.std.proofs.lemmas.List.{reverse-append}
use Rattle.sumcheck.specs.declared.entry.Entry.{Entry}
use Rattle.sumcheck.specs.declared.entry.Entry.TheVariants.{Message, Draw}
use Rattle.sumcheck.specs.declared.refused.Refused.{Refused}
use Rattle.sumcheck.specs.Machine.{Filling, Machine, first_entry, AwaitsMessage, AwaitsDraw, AwaitsSome}
use Rattle.walk_chain.specs.Chain.{Chain, Chained, Suits, settle, continued, chained}
use Rattle.walk_chain.specs.SameSteps.{SameSteps}
use Rattle.walk_chain.specs.Following.{AllMade}
use Rattle.walk_chain.specs.LawfulChain.{LawfulChain}
use Rattle.walk_chain.proofs.Settling.{goes_on}

pub suits_now : {A W K : Type 0} (X : Chain A W K) (k : K) (gs : List A) → Suits X k gs → X.has_room k
suits_now X k [] h = h
suits_now X k (g ∷ gs) h = h.0

-- the next stands last in the code
pub next_last : {A : Type 0} (stack popped : List A) (g : A) → stack ≡ popped ++ g ∷ [] → reverse stack ≡ g ∷ reverse popped
next_last stack popped g e = ap reverse e ∙ reverse-append popped (g ∷ [])

pub suits_next : {A W K : Type 0} (X : Chain A W K) (k : K) (stack popped : List A) (g : A) → stack ≡ popped ++ g ∷ []
    → Suits X k (reverse stack) → Suits X k (g ∷ reverse popped)
suits_next X k stack popped g e h = subst (Suits X k) (next_last stack popped g e) h

-- a walk that is left can be followed by the next
pub takes_left : {A W K : Type 0} (X : Chain A W K) → LawfulChain X → (stack popped : List A) (g a : A) (w left : W)
    → stack ≡ popped ++ g ∷ [] → X.walk.entries a ≡ [] → left ≡ X.leaves a w
    → Suits X (X.left_key a (X.key w)) (reverse stack) → X.takes g (X.key left)
takes_left X law stack popped g a w left e d l h =
    subst (X.takes g) (sym (law.leave_key a w d) ∙ ap X.key (sym l)) (suits_next X _ stack popped g e h).1.0

pub suits_after : {A W K : Type 0} (X : Chain A W K) → LawfulChain X → (stack popped : List A) (g a b : A) (w left stay : W)
    → stack ≡ popped ++ g ∷ [] → X.walk.entries a ≡ [] → left ≡ X.leaves a w → b ≡ X.enter g left → stay ≡ X.stays g left
    → Suits X (X.left_key a (X.key w)) (reverse stack) → Suits X (X.left_key b (X.key stay)) (reverse popped)
suits_after X law stack popped g a b w left stay e d l n s h =
    subst (λ k. Suits X k (reverse popped))
    (ap (X.key_after g) (sym (law.leave_key a w d) ∙ ap X.key (sym l)) ∙ sym (law.enter_key g left) ∙ (λ i. X.left_key (sym n i) (X.key (sym s i))))
    (suits_next X _ stack popped g e h).1.1

pub went_on : {A W K : Type 0} (X : Chain A W K) (stack popped : List A) (g a b : A) (w left stay : W)
    → stack ≡ popped ++ g ∷ [] → X.walk.entries a ≡ [] → left ≡ X.leaves a w → b ≡ X.enter g left → stay ≡ X.stays g left
    → settle X (reverse popped) b stay ≡ settle X (reverse stack) a w
went_on X stack popped g a b w left stay e d l n s =
    (λ i. settle X (reverse popped) (n i) (s i))
    ∙ ap (λ left. settle X (reverse popped) (X.enter g left) (X.stays g left)) l
    ∙ sym (goes_on X g (reverse popped) a w d) ∙ ap (λ gs. settle X gs a w) (sym (next_last stack popped g e))

-- where something is due, a walk isn't done
pub not_done : (es fs : List Entry) (due : Option Entry) (none : Bool) → es ≡ fs → due ≡ first_entry fs → is_some due ≡ not none → none ≡ false → es ≡ [] → ⊥
not_done es fs due none e d n f h = let a = d ∙ ap first_entry (sym e ∙ h) in let t = sym n ∙ ap is_some a in let u = ap not f in cc

-- ---- the chain as one walk: v is what its fields say, and s its value
first_continued : (es ps : List Entry) → first_entry es ≡ first_entry (continued es ps)
first_continued [] ps = refl
first_continued (e ∷ es) ps = refl

awaits_draw_first : (es ps : List Entry) → AwaitsDraw (continued es ps) → AwaitsDraw es
awaits_draw_first [] ps h = h
awaits_draw_first (Message c n ∷ es) ps h = h
awaits_draw_first (Draw k n ∷ es) ps h = h

awaits_message_first : (n : ℕ) (es ps : List Entry) → AwaitsMessage n (continued es ps) → AwaitsMessage n es
awaits_message_first n [] ps h = h
awaits_message_first n (Message c m ∷ es) ps h = h
awaits_message_first n (Draw k m ∷ es) ps h = h

pub due_on : {A W K : Type 0} (X : Chain A W K) (M : Machine A) → SameSteps X.walk M → (v s : Chained A W) (due : Option Entry) → v ≡ s
    → due ≡ first_entry (M.entries v.active) → due ≡ first_entry ((chained X).entries s)
unfolding chained
due_on X M same v s due e h = h ∙ ap first_entry (sym (same.entries v.active)) ∙ first_continued (X.walk.entries v.active) _ ∙ ap (λ s. first_entry ((chained X).entries s)) e

pub draw_awaited : {A W K : Type 0} (X : Chain A W K) (M : Machine A) → SameSteps X.walk M → (v s : Chained A W) → v ≡ s
    → AwaitsDraw ((chained X).entries s) → AwaitsDraw (M.entries v.active)
unfolding chained
draw_awaited X M same v s e h = subst AwaitsDraw (same.entries v.active) (awaits_draw_first (X.walk.entries v.active) _ (subst (λ s. AwaitsDraw ((chained X).entries s)) (sym e) h))

pub message_awaited : {A W K : Type 0} (X : Chain A W K) (M : Machine A) → SameSteps X.walk M → (n : ℕ) (v s : Chained A W) → v ≡ s
    → AwaitsMessage n ((chained X).entries s) → AwaitsMessage n (M.entries v.active)
unfolding chained
message_awaited X M same n v s e h =
    subst (AwaitsMessage n) (same.entries v.active) (awaits_message_first n (X.walk.entries v.active) _ (subst (λ s. AwaitsMessage n ((chained X).entries s)) (sym e) h))

pub suits_told : {A W K : Type 0} (X : Chain A W K) (M : Machine A) → LawfulChain X → SameSteps X.walk M → (a b : A) (v : List ℕ) (k : K) (gs : List A)
    → AwaitsMessage (length v) (M.entries a) → b ≡ M.after_message a v → Suits X (X.left_key a k) gs → Suits X (X.left_key b k) gs
suits_told X M law same a b v k gs d e h =
    let due = subst (AwaitsMessage (length v)) (sym (same.entries a)) d in
    subst (λ k. Suits X k gs) (sym (ap (λ b. X.left_key b k) (e ∙ sym (same.after_message a v)) ∙ law.message_key a v k due)) h

pub suits_drawn : {A W K : Type 0} (X : Chain A W K) (M : Machine A) → LawfulChain X → SameSteps X.walk M → (a b : A) (r : ℕ) (k : K) (gs : List A)
    → b ≡ M.after_draw a r → Suits X (X.left_key a k) gs → Suits X (X.left_key b k) gs
suits_drawn X M law same a b r k gs e h = subst (λ k. Suits X k gs) (sym (ap (λ b. X.left_key b k) (e ∙ sym (same.after_draw a r)) ∙ law.draw_key a r k)) h

pub drawn_on : {A W K : Type 0} (X : Chain A W K) (M : Machine A) → SameSteps X.walk M → (v s after : Chained A W) (b : A) (r : ℕ) → v ≡ s
    → b ≡ M.after_draw v.active r → after ≡ settle X v.todo b v.kept → after ≡ (chained X).after_draw s r
unfolding chained
drawn_on X M same v s after b r e d h = h ∙ ap (λ b. settle X v.todo b v.kept) (d ∙ sym (same.after_draw v.active r)) ∙ ap (λ s. (chained X).after_draw s r) e

pub told_on : {A W K : Type 0} (X : Chain A W K) (M : Machine A) → SameSteps X.walk M → (v s after : Chained A W) (b : A) (vs : List ℕ) → v ≡ s
    → b ≡ M.after_message v.active vs → after ≡ settle X v.todo b v.kept → after ≡ (chained X).after_message s vs
unfolding chained
told_on X M same v s after b vs e d h = h ∙ ap (λ b. settle X v.todo b v.kept) (d ∙ sym (same.after_message v.active vs)) ∙ ap (λ s. (chained X).after_message s vs) e

pub refusal_on : {A W K : Type 0} (X : Chain A W K) (M : Machine A) → SameSteps X.walk M → (v s : Chained A W) (vs : List ℕ) (o : Option Refused) → v ≡ s
    → M.refusal v.active vs ≡ o → (chained X).refusal s vs ≡ o
unfolding chained
refusal_on X M same v s vs o e h = ap (λ s. (chained X).refusal s vs) (sym e) ∙ same.refusal v.active vs ∙ h

pub round_on : {A W K : Type 0} (X : Chain A W K) (M : Machine A) → SameSteps X.walk M → (v s : Chained A W) (claim : Option ℕ) → v ≡ s
    → claim ≡ M.round_claim v.active → claim ≡ (chained X).round_claim s
unfolding chained
round_on X M same v s claim e h = h ∙ sym (same.round_claim v.active) ∙ ap (λ s. (chained X).round_claim s) e

awaits_some_first : (es ps : List Entry) → AwaitsSome (continued es ps) → AwaitsSome es
awaits_some_first [] ps h = h
awaits_some_first (Message c n ∷ es) ps h = h
awaits_some_first (Draw k n ∷ es) ps h = h

pub some_awaited : {A W K : Type 0} (X : Chain A W K) (M : Machine A) → SameSteps X.walk M → (s : Chained A W) → AwaitsSome ((chained X).entries s) → AwaitsSome (M.entries s.active)
unfolding chained
some_awaited X M same s h = subst AwaitsSome (same.entries s.active) (awaits_some_first (X.walk.entries s.active) _ h)

pub honest_is : {A W K : Type 0} (X : Chain A W K) (M : Machine A) → SameSteps X.walk M → (F : Filling) (s : Chained A W) → M.honest F s.active ≡ (chained X).honest F s
unfolding chained
honest_is X M same F s = sym (same.honest F s.active)

pub after_honest : {A W K : Type 0} (X : Chain A W K) (M : Machine A) → SameSteps X.walk M → (F : Filling) (s : Chained A W)
    → settle X s.todo (M.after_message s.active (M.honest F s.active)) s.kept ≡ (chained X).after_message s ((chained X).honest F s)
unfolding chained
after_honest X M same F s =
    ap (λ a. settle X s.todo a s.kept) (sym (same.after_message s.active (M.honest F s.active)) ∙ ap (X.walk.after_message s.active) (sym (same.honest F s.active)))

pub after_draw_is : {A W K : Type 0} (X : Chain A W K) (M : Machine A) → SameSteps X.walk M → (s : Chained A W) (r : ℕ)
    → settle X s.todo (M.after_draw s.active r) s.kept ≡ (chained X).after_draw s r
unfolding chained
after_draw_is X M same s r = ap (λ a. settle X s.todo a s.kept) (sym (same.after_draw s.active r))

-- ---- provers
made_first : {P A : Type 0} (R : P → A → Type 0) (p : P) (ps : List P) (gs : List A) → AllMade R (p ∷ ps) gs → (h : A) × (hs : List A) × (_ : gs ≡ h ∷ hs) × (_ : R p h) × AllMade R ps hs
made_first R p ps [] m = absurd m
made_first R p ps (g ∷ gs) m = (g, gs, refl, m.0, m.1)

pub made_last : {P A : Type 0} (R : P → A → Type 0) (stack popped : List P) (p : P) (gs : List A) → stack ≡ popped ++ p ∷ [] → AllMade R (reverse stack) gs
    → (h : A) × (hs : List A) × (_ : gs ≡ h ∷ hs) × (_ : R p h) × AllMade R (reverse popped) hs
made_last R stack popped p gs e m = made_first R p (reverse popped) gs (subst (λ ps. AllMade R ps gs) (next_last stack popped p e) m)
