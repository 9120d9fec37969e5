-- Lists that stand one after another: their lengths and their elements.
use Rattle.std.proofs.Common.{◌≡◌, ◌∙◌, ℕ, ◌+◌, ◌-◌, ◌<◌, ◌≤◌, List, [], ◌∷◌, ◌++◌, length, reverse, take, get_or, refl, sym, ap, arith, length-append, Some}
use Rattle.std.specs.Prelude.{zero, suc}
use Rattle.std.specs.List.{flat_map, slice_get}
use Rattle.std.proofs.lemmas.List.{reverse-append, take_all, take_more}
use Rattle.std.proofs.lemmas.List.Concat.{flat_map-cons}
use Rattle.std.proofs.lemmas.Grind.{flat_map-append}
use Rattle.sumcheck.specs.Claim.{Claim}
use Rattle.sumcheck.specs.Machine.{Machine}
use Rattle.walk_chain.specs.Chain.{Chain, Chained, chained}
use Rattle.walk_chain.specs.SameSteps.{SameSteps}

pub here : {X : Type 0} (xs ys : List X) (i : ℕ) (x : X) → slice_get xs i ≡ Some x → slice_get (xs ++ ys) i ≡ Some x
here [] ys i x h = cc
here (y ∷ xs) ys zero x h = h
here (y ∷ xs) ys (suc i) x h = here xs ys i x h

pub beyond : {X : Type 0} (xs ys : List X) (i j : ℕ) → i ≡ length xs + j → slice_get (xs ++ ys) i ≡ slice_get ys j
beyond [] ys i j e = let same : i ≡ j = omega arith in ap (slice_get ys) same
beyond (x ∷ xs) ys zero j e = let no : ⊥ = omega arith in absurd no
beyond (x ∷ xs) ys (suc i) j e = beyond xs ys i j (omega arith)

-- ---- pieces of a list of which the next stands last
pieces_reversed : {X Y : Type 0} (f : X → List Y) (xs : List X) → length (flat_map f (reverse xs)) ≡ length (flat_map f xs)
pieces_reversed f [] = refl
pieces_reversed f (x ∷ xs) =
    let h = pieces_reversed f xs in
    let a = ap (λ ys. length (flat_map f ys)) (reverse-append (x ∷ []) xs) ∙ ap length (flat_map-append f (reverse xs) (x ∷ [])) ∙ length-append (flat_map f (reverse xs)) (flat_map f (x ∷ [])) in
    let b = ap length (flat_map-cons f x xs) ∙ length-append (f x) (flat_map f xs) in
    let one = ap length (flat_map-cons f x []) ∙ length-append (f x) (flat_map f []) in
    let none : length (flat_map f []) ≡ 0 = refl in
    omega arith

pub counted_all : {X Y : Type 0} (f : X → List Y) (xs : List X) (n count : ℕ) → length xs ≤ n → count ≡ length (flat_map f (take n xs)) → count ≡ length (flat_map f (reverse xs))
counted_all f xs n count l h = h ∙ ap (λ ys. length (flat_map f ys)) (take_all n xs l) ∙ sym (pieces_reversed f xs)

pub piece_at : {X Y : Type 0} (f : X → List Y) (xs : List X) (k j : ℕ) (x : X) → j + 1 ≡ k → j < length xs → x ≡ get_or xs j x
    → flat_map f (reverse (take k xs)) ≡ f x ++ flat_map f (reverse (take j xs))
piece_at f xs k j x e lt at =
    ap (λ k. flat_map f (reverse (take k xs))) (sym e) ∙ ap (λ ys. flat_map f (reverse ys)) (take_more xs j x lt ∙ ap (λ y. take j xs ++ y ∷ []) (sym at))
    ∙ ap (flat_map f) (reverse-append (take j xs) (x ∷ [])) ∙ flat_map-cons f x (reverse (take j xs))

pub passed_within : {X Y : Type 0} (f : X → List Y) (xs : List X) (k j : ℕ) (x : X) (left count : ℕ) → j + 1 ≡ k → j < length xs → x ≡ get_or xs j x
    → count ≡ length (f x) → count ≤ left → left < length (flat_map f (reverse (take k xs))) → left - count < length (flat_map f (reverse (take j xs)))
passed_within f xs k j x left count e lt at c le h =
    let p = ap length (piece_at f xs k j x e lt at) ∙ length-append (f x) (flat_map f (reverse (take j xs))) in omega arith

pub passed_same : {X Y : Type 0} (f : X → List Y) (xs : List X) (k j : ℕ) (x : X) (left count : ℕ) → j + 1 ≡ k → j < length xs → x ≡ get_or xs j x
    → count ≡ length (f x) → count ≤ left → slice_get (flat_map f (reverse (take j xs))) (left - count) ≡ slice_get (flat_map f (reverse (take k xs))) left
passed_same f xs k j x left count e lt at c le =
    let sum : left ≡ length (f x) + (left - count) = omega arith in
    sym (ap (λ ys. slice_get ys left) (piece_at f xs k j x e lt at) ∙ beyond (f x) (flat_map f (reverse (take j xs))) left (left - count) sum)

-- ---- the claims of a chain: v is what its fields say, and s its value
pub counted_on : {A W K : Type 0} (X : Chain A W K) (M : Machine A) → SameSteps X.walk M → (v s : Chained A W) (own kept waiting : ℕ) → v ≡ s
    → own ≡ length (M.pending v.active) → kept ≡ length (X.kept_pending v.kept) → waiting ≡ length (flat_map X.stage_pending v.todo)
    → own + kept + waiting ≡ length ((chained X).pending s)
unfolding chained
counted_on X M same v s own kept waiting e o k w =
    let a = ap length (same.pending v.active) in
    let rest = X.kept_pending v.kept ++ flat_map X.stage_pending v.todo in
    let l = length-append (X.walk.pending v.active) rest in
    let m = length-append (X.kept_pending v.kept) (flat_map X.stage_pending v.todo) in
    let all : own + kept + waiting ≡ length (X.walk.pending v.active ++ rest) = omega arith in
    all ∙ ap (λ s. length ((chained X).pending s)) e

pub own_on : {A W K : Type 0} (X : Chain A W K) (M : Machine A) → SameSteps X.walk M → (v s : Chained A W) (i : ℕ) (claim : Claim) → v ≡ s
    → slice_get (M.pending v.active) i ≡ Some claim → slice_get ((chained X).pending s) i ≡ Some claim
unfolding chained
own_on X M same v s i claim e h =
    ap (λ s. slice_get ((chained X).pending s) i) (sym e) ∙ here (X.walk.pending v.active) _ i claim (ap (λ cs. slice_get cs i) (same.pending v.active) ∙ h)

pub kept_on : {A W K : Type 0} (X : Chain A W K) (M : Machine A) → SameSteps X.walk M → (v s : Chained A W) (i own : ℕ) (claim : Claim) → v ≡ s
    → own ≡ length (M.pending v.active) → own ≤ i → slice_get (X.kept_pending v.kept) (i - own) ≡ Some claim → slice_get ((chained X).pending s) i ≡ Some claim
unfolding chained
kept_on X M same v s i own claim e o le h =
    let a = ap length (same.pending v.active) in
    let sum : i ≡ length (X.walk.pending v.active) + (i - own) = omega arith in
    ap (λ s. slice_get ((chained X).pending s) i) (sym e) ∙ beyond (X.walk.pending v.active) _ i (i - own) sum ∙ here (X.kept_pending v.kept) _ (i - own) claim h

pub waiting_on : {A W K : Type 0} (X : Chain A W K) (M : Machine A) → SameSteps X.walk M → (v s : Chained A W) (i own kept : ℕ) (claim : Claim) → v ≡ s
    → own ≡ length (M.pending v.active) → kept ≡ length (X.kept_pending v.kept) → own ≤ i → kept ≤ i - own
    → slice_get (flat_map X.stage_pending v.todo) (i - own - kept) ≡ Some claim → slice_get ((chained X).pending s) i ≡ Some claim
unfolding chained
waiting_on X M same v s i own kept claim e o k le more h =
    let a = ap length (same.pending v.active) in
    let sum : i ≡ length (X.walk.pending v.active) + (i - own) = omega arith in
    let rest : i - own ≡ length (X.kept_pending v.kept) + (i - own - kept) = omega arith in
    ap (λ s. slice_get ((chained X).pending s) i) (sym e) ∙ beyond (X.walk.pending v.active) _ i (i - own) sum ∙ beyond (X.kept_pending v.kept) _ (i - own) (i - own - kept) rest ∙ h

pub waits_within : {A W K : Type 0} (X : Chain A W K) (M : Machine A) → SameSteps X.walk M → (v s : Chained A W) (i own kept : ℕ) → v ≡ s
    → own ≡ length (M.pending v.active) → kept ≡ length (X.kept_pending v.kept) → own ≤ i → kept ≤ i - own
    → i < length ((chained X).pending s) → i - own - kept < length (flat_map X.stage_pending v.todo)
waits_within X M same v s i own kept e o k le more h =
    let whole = counted_on X M same v s own kept (length (flat_map X.stage_pending v.todo)) e o k refl in omega arith
