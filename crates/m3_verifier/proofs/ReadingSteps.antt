-- Steps of the reading of a proof.
use Rattle.std.proofs.Common.{◌≡◌, ◌∙◌, ℕ, zero, suc, ◌+◌, ◌*◌, ◌/◌, ◌≤◌, List, [], ◌∷◌, length, take, drop, slice_get, None, Some, refl, sym, ap, subst, arith}
use Rattle.std.proofs.lemmas.List.{drop_all}
use Rattle.poly_forms.specs.declared.check_kind.CheckKind.TheVariants as check
use Rattle.sumcheck.specs.Machine.{AwaitsDraw, AwaitsMessage, Filling, Lawful, Machine}
use Rattle.proof_plan.specs.declared.plan_entry.PlanEntry.{PlanEntry}
use Rattle.proof_plan.specs.declared.plan_entry.PlanEntry.TheVariants.{Root, Message, Draw, Constant, Queries}
use Rattle.proof_format.specs.Values.{values_of}
use Rattle.m3_walk.specs.Course.{walked}
use Rattle.m3_walk.proofs.StageSteps.{drop_at}
use Rattle.m3_verifier.specs.declared.halt.Halt.{Halt}
use Rattle.m3_verifier.specs.declared.halt.Halt.TheVariants as halt
use Rattle.m3_verifier.specs.Progress.{Progress, challenge, said}
use Rattle.m3_verifier.specs.Reading.{Ending, IsDue, after_entry, entry_halt, reading}
use Rattle.m3_verifier.specs.Stops.{HaltsFor, Stops}

pub length-values : (n : ℕ) (bytes : List ℕ) → length (values_of n bytes) ≡ n
length-values zero bytes = refl
length-values (suc n) bytes = ap suc (length-values n (drop 16 bytes))

-- a piece of n values
pub values_in : (n : ℕ) (piece : List ℕ) → length piece ≡ 16 * n → length piece / 16 ≡ n
values_in n piece e = omega arith

-- ---- what is due
no_filling : Filling
no_filling t c = []

pub is_due : {S : Type 0} (M : Machine S) (e : PlanEntry) (es : List PlanEntry) (s : S) → walked (e ∷ es) ≡ M.entries s → IsDue M e s
is_due M Root es s h = tt
is_due M (Message check n) es s h = subst (AwaitsMessage n) h refl
is_due M (Draw kind n) es s h = subst AwaitsDraw h tt
is_due M Constant es s h = subst (AwaitsMessage 1) h refl
is_due M Queries es s h = tt

pub next_due : {S : Type 0} (M : Machine S) → Lawful M → (e : PlanEntry) (es : List PlanEntry) (p next : Progress S) → next ≡ after_entry M e p → walked (e ∷ es) ≡ M.entries p.state → walked es ≡ M.entries next.state
next_due M law Root es p next n h = h ∙ ap (λ (p : Progress _). M.entries p.state) (sym n)
next_due M law (Message check k) es p next n h = sym ((law.message no_filling p.state check k (walked es) (sym h)).next (said k p) (length-values k (take (16 * k) p.bytes))) ∙ ap (λ (p : Progress _). M.entries p.state) (sym n)
next_due M law (Draw kind k) es p next n h = sym ((law.draw no_filling p.state kind k (walked es) (sym h)).next (challenge p)) ∙ ap (λ (p : Progress _). M.entries p.state) (sym n)
next_due M law Constant es p next n h = sym ((law.message no_filling p.state check.Constant 1 (walked es) (sym h)).next (said 1 p) (length-values 1 (take 16 p.bytes))) ∙ ap (λ (p : Progress _). M.entries p.state) (sym n)
next_due M law Queries es p next n h = h ∙ ap (λ (p : Progress _). M.entries p.state) (sym n)

-- ---- the reading goes on, or stops
abbrev pub Alike : {S : Type 0} → Ending S → Ending S → Type 0
Alike a b = (a.stopped ≡ b.stopped) × (a.last ≡ b.last)

pub goes_on : {S : Type 0} (M : Machine S) (e : PlanEntry) (es : List PlanEntry) (i : ℕ) (p : Progress S) → entry_halt M e p ≡ None → Alike (reading M (e ∷ es) i p) (reading M es (suc i) (after_entry M e p))
unfolding reading
goes_on M e es i p h = (rw h refl, rw h refl)

pub stops : {S : Type 0} (M : Machine S) (e : PlanEntry) (es : List PlanEntry) (i : ℕ) (p : Progress S) (h : Halt) → entry_halt M e p ≡ Some h → (reading M (e ∷ es) i p).stopped ≡ Some (record { entry = i; halt = h })
unfolding reading
stops M e es i p h due = rw due refl

pub ends : {S : Type 0} (M : Machine S) (i : ℕ) (p : Progress S) → Alike (reading M [] i p) (record { stopped = None; reached = []; last = p })
unfolding reading
ends M i p = (refl, refl)

-- ---- entry i of a plan
pub due_at : {S : Type 0} (M : Machine S) (es : List PlanEntry) (i : ℕ) (e : PlanEntry) (s : S) → slice_get es i ≡ Some e → walked (drop i es) ≡ M.entries s → walked (e ∷ drop (i + 1) es) ≡ M.entries s
due_at M es i e s at h = ap walked (sym (drop_at es i e at)) ∙ h

pub on_at : {S : Type 0} (M : Machine S) (es : List PlanEntry) (i : ℕ) (e : PlanEntry) (p next : Progress S) (whole : Ending S) → slice_get es i ≡ Some e → entry_halt M e p ≡ None → next ≡ after_entry M e p
    → Alike whole (reading M (drop i es) i p) → Alike whole (reading M (drop (i + 1) es) (i + 1) next)
on_at M es i e p next whole at h n a =
    let step = goes_on M e (drop (i + 1) es) i p h in
    let s : suc i ≡ i + 1 = omega arith in
    let here = ap (λ es. reading M es i p) (drop_at es i e at) in
    let there : reading M (drop (i + 1) es) (suc i) (after_entry M e p) ≡ reading M (drop (i + 1) es) (i + 1) next = λ j. reading M (drop (i + 1) es) (s j) (sym n j) in
    (a.0 ∙ ap (λ (e : Ending _). e.stopped) here ∙ step.0 ∙ ap (λ (e : Ending _). e.stopped) there, a.1 ∙ ap (λ (e : Ending _). e.last) here ∙ step.1 ∙ ap (λ (e : Ending _). e.last) there)

stopped_at : {S : Type 0} (M : Machine S) (es : List PlanEntry) (i : ℕ) (e : PlanEntry) (p : Progress S) (whole : Ending S) (h : Halt) → slice_get es i ≡ Some e → entry_halt M e p ≡ Some h
    → Alike whole (reading M (drop i es) i p) → whole.stopped ≡ Some (record { entry = i; halt = h })
stopped_at M es i e p whole h at f a = a.0 ∙ ap (λ es. (reading M es i p).stopped) (drop_at es i e at) ∙ stops M e (drop (i + 1) es) i p h f

pub halts_at : {S : Type 0} (M : Machine S) (es : List PlanEntry) (i : ℕ) (e : PlanEntry) (p : Progress S) (whole : Ending S) (h : Halt) → slice_get es i ≡ Some e → HaltsFor h (entry_halt M e p)
    → Alike whole (reading M (drop i es) i p) → Stops (record { entry = i; halt = h }) whole.stopped
halts_at M es i e p whole halt.Short at f a = stopped_at M es i e p whole halt.Short at f a
halts_at M es i e p whole (halt.Refused r) at f a = stopped_at M es i e p whole (halt.Refused r) at f a
halts_at M es i e p whole (halt.Query q) at f a = stopped_at M es i e p whole (halt.Query q) at f a
halts_at M es i e p whole halt.NoMemory at f a = tt

pub at_end : {S : Type 0} (M : Machine S) (es : List PlanEntry) (i : ℕ) (p : Progress S) (whole : Ending S) → length es ≤ i → Alike whole (reading M (drop i es) i p) → (whole.stopped ≡ None) × (whole.last ≡ p)
at_end M es i p whole l a =
    let none = drop_all i es l in
    let here = ap (λ es. reading M es i p) none in
    let e = ends M i p in
    (a.0 ∙ ap (λ (e : Ending _). e.stopped) here ∙ e.0, a.1 ∙ ap (λ (e : Ending _). e.last) here ∙ e.1)
