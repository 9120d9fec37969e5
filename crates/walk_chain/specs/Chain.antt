-- Reductions one after another: each takes some of the claims that wait, and leaves others.
-- Source: docs/REDUCTIONS.md, "One after another".
use Rattle.std.specs.Prelude.{◌≤◌, ◌^◌, List, [], ◌∷◌, ◌++◌, length, reverse}
use Rattle.std.specs.List.{AllByRecursion, flat_map}
use Rattle.sumcheck.specs.declared.entry.Entry.{Entry}
use Rattle.sumcheck.specs.Claim.{Claim}
use Rattle.sumcheck.specs.Machine.{Filling, Machine}

-- the walks have states A, before they are entered too; the claims that wait are a W, and K is what is known of these before any message
pub record Chain (A W K : Type 0) : Type 1 where
  pub walk : Machine A
  -- ---- the claims that wait
  pub key : W → K
  pub kept_fits : Filling → W → Type 0
  pub kept_holds : Filling → W → Type 0
  pub kept_pending : W → List Claim
  -- ---- a walk that isn't entered yet: what it claims by itself
  pub stage_fits : Filling → A → Type 0
  pub waits : Filling → A → Type 0
  pub stage_pending : A → List Claim
  -- ---- the walk once it is entered with claims that wait, and the others
  pub enter : A → W → A
  pub stays : A → W → W
  -- ---- the claims that wait, with those that a walk leaves once it is done
  pub leaves : A → W → W
  -- ---- all of this as far as it is known before any message
  pub plan : A → K → List Entry
  pub left_key : A → K → K
  pub key_after : A → K → K
  -- a walk can be entered with such claims, and such claims have room
  pub takes : A → K → Type 0
  pub has_room : K → Type 0

pub record Chained (A W : Type 0) : Type 0 where
  pub active : A
  pub todo : List A
  pub kept : W

-- the plan of the walks that are to come
abbrev pub plan_of : {A W K : Type 0} → Chain A W K → K → List A → List Entry
plan_of X k [] = []
plan_of X k (g ∷ gs) = X.plan g k ++ plan_of X (X.key_after g k) gs

-- each of them can be entered when its turn comes, and there is room for what waits
abbrev pub Suits : {A W K : Type 0} → Chain A W K → K → List A → Type 0
Suits X k [] = X.has_room k
Suits X k (g ∷ gs) = X.has_room k × (X.takes g k × Suits X (X.key_after g k) gs)

-- this state while its walk has entries, else the next
abbrev pub unless_done : {S : Type 0} → List Entry → S → S → S
unless_done [] here next = next
unless_done (e ∷ es) here next = here

-- a walk that is done hands over to the next
abbrev pub settle : {A W K : Type 0} → Chain A W K → List A → A → W → Chained A W
settle X [] a w = record { active = a; todo = []; kept = w }
settle X (g ∷ gs) a w =
    unless_done (X.walk.entries a) (record { active = a; todo = g ∷ gs; kept = w })
    (settle X gs (X.enter g (X.leaves a w)) (X.stays g (X.leaves a w)))

-- what remains of a walk, and then of those to come. Where nothing remains of the walk nothing is due: a
-- message or a draw goes to the active walk
abbrev pub continued : List Entry → List Entry → List Entry
continued [] ps = []
continued (e ∷ es) ps = (e ∷ es) ++ ps

-- the reductions one after another, as one. A chain whose active walk is done is settled: it has no entries
unfoldable pub chained : {A W K : Type 0} → Chain A W K → Machine (Chained A W)
chained X = record {
  entries = λ s. continued (X.walk.entries s.active) (plan_of X (X.left_key s.active (X.key s.kept)) s.todo);
  refusal = λ s v. X.walk.refusal s.active v;
  after_message = λ s v. settle X s.todo (X.walk.after_message s.active v) s.kept;
  after_draw = λ s r. settle X s.todo (X.walk.after_draw s.active r) s.kept;
  pending = λ s. X.walk.pending s.active ++ (X.kept_pending s.kept ++ flat_map X.stage_pending s.todo);
  round_claim = λ s. X.walk.round_claim s.active;
  fits = λ F s. (X.walk.fits F s.active × X.kept_fits F s.kept) × AllByRecursion (X.stage_fits F) s.todo;
  holds = λ F s. (X.walk.holds F s.active × X.kept_holds F s.kept) × AllByRecursion (X.waits F) s.todo;
  honest = λ F s. X.walk.honest F s.active;
}

-- what a chain at work keeps: its walks suit each other, and there are at most 2 ^ 17 to come, the next of which stands last
pub record Ready {A W K : Type 0} (X : Chain A W K) (active : A) (stack : List A) (kept : W) : Type 0 where
  pub suits : Suits X (X.left_key active (X.key kept)) (reverse stack)
  pub few : length stack ≤ 2 ^ 17
