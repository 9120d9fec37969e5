-- Claims of given sizes on one column, and the others.
use Rattle.std.proofs.Common.{◌≡◌, ◌∙◌, ◌+◌, ◌==◌, ◌&&◌, ℕ, Bool, true, false, not, cond, List, [], ◌∷◌, ◌++◌, length, map, Some, refl, sym, ap, arith}
use Rattle.std.proofs.lemmas.Bool.{and_parts, eq-eqb, eqb-true}
use Rattle.std.proofs.lemmas.List.{length-append, nil_from_length}
use Rattle.std.proofs.lemmas.List.Elements.{filter-append}
use Rattle.std.proofs.lemmas.List.Filters.{length-filter_both}
use Rattle.std.specs.List.{AllByRecursion, filter}
use Rattle.sumcheck.specs.declared.column_claim.ColumnClaim.{ColumnClaim}
use Rattle.proof_plan.specs.Plan.{times_in}
use Rattle.claim_lists.specs.OnColumn.{but_first_on, first_on, is_on, off_column, on_column}
use Rattle.m3_walk.specs.Linking.{AllOfVars, IsOne, Place, blank_claim, but_first_place, is_elsewhere, is_place, place_of, places_on}
use Rattle.m3_walk.proofs.CourseSteps.{blank_places}

abbrev pub place : (t c n : ℕ) → Place
place t c n = record { table = t; column = c; vars = n }

abbrev pub count_on : ℕ → ℕ → List Place → ℕ
count_on t c ps = length (filter (is_place t c) ps)

abbrev pub elsewhere : ℕ → ℕ → List Place → List Place
elsewhere t c ps = filter (is_elsewhere t c) ps

-- ---- two columns
pub is_here : (t c : ℕ) (p : Place) → is_place t c p ≡ true → (p.table ≡ t) × (p.column ≡ c)
is_here t c p e = let both = and_parts (p.table == t) (p.column == c) e in (eqb-true p.table t both.0, eqb-true p.column c both.1)

pub here : (t c : ℕ) (p : Place) → p.table ≡ t → p.column ≡ c → is_place t c p ≡ true
here t c p e f = (λ i. eq-eqb p.table t e i && eq-eqb p.column c f i)

not_here : (t c : ℕ) (p : Place) → (p.table ≡ t → p.column ≡ c → ⊥) → is_place t c p ≡ false
not_here t c p h = elim (is_place t c p) as (λ b. is_place t c p ≡ b → b ≡ false) [ true ↦ λ e. let both = is_here t c p e in absurd (h both.0 both.1) | false ↦ λ e. refl ] refl

-- ---- counts
pub count-append : (t c : ℕ) (ps qs : List Place) → count_on t c (ps ++ qs) ≡ count_on t c ps + count_on t c qs
count-append t c ps qs = ap length (filter-append (is_place t c) ps qs) ∙ length-append (filter (is_place t c) ps) (filter (is_place t c) qs)

one_more : (b : Bool) (p : Place) (ps : List Place) → length (cond b (p ∷ ps) ps) ≡ cond b 1 0 + length ps
one_more true p ps = omega arith
one_more false p ps = omega arith

-- on columns of one table
pub count-places_on : (t n c : ℕ) (cs : List ℕ) → count_on t c (places_on t n cs) ≡ times_in c cs
count-places_on t n c [] = refl
count-places_on t n c (k ∷ ks) =
    one_more (is_place t c (place t k n)) (place t k n) (filter (is_place t c) (places_on t n ks))
    ∙ (λ i. cond (eq-eqb t t refl i && (k == c)) 1 0 + count-places_on t n c ks i)

pub count-other_table : (t u n c : ℕ) (cs : List ℕ) → (t ≡ u → ⊥) → count_on u c (places_on t n cs) ≡ 0
count-other_table t u n c [] h = refl
count-other_table t u n c (k ∷ ks) h =
    one_more (is_place u c (place t k n)) (place t k n) (filter (is_place u c) (places_on t n ks))
    ∙ (λ i. cond (not_here u c (place t k n) (λ e f. h e) i) 1 0 + count-other_table t u n c ks h i)

pub times-append : (c : ℕ) (xs ys : List ℕ) → times_in c (xs ++ ys) ≡ times_in c xs + times_in c ys
times-append c [] ys = omega arith
times-append c (x ∷ xs) ys = let h = times-append c xs ys in omega arith

-- ---- the others
pub count-elsewhere : (t c u d : ℕ) (ps : List Place) → (t ≡ u → c ≡ d → ⊥) → count_on u d (elsewhere t c ps) ≡ count_on u d ps
count-elsewhere t c u d [] h = refl
count-elsewhere t c u d (p ∷ ps) h =
    elim (is_place t c p) as (λ b. is_place t c p ≡ b → count_on u d (cond (cond b false true) (p ∷ elsewhere t c ps) (elsewhere t c ps)) ≡ length (cond (is_place u d p) (p ∷ filter (is_place u d) ps) (filter (is_place u d) ps))) [
      | true ↦ λ e.
          let both = is_here t c p e in
          count-elsewhere t c u d ps h ∙ ap (λ b. length (cond b (p ∷ filter (is_place u d) ps) (filter (is_place u d) ps))) (sym (not_here u d p (λ f g. h (sym both.0 ∙ f) (sym both.1 ∙ g))))
      | false ↦ λ e.
          one_more (is_place u d p) p (filter (is_place u d) (elsewhere t c ps)) ∙ ap (λ n. cond (is_place u d p) 1 0 + n) (count-elsewhere t c u d ps h) ∙ sym (one_more (is_place u d p) p (filter (is_place u d) ps))
    ] refl

pub none-elsewhere : (t c : ℕ) (ps : List Place) → filter (is_place t c) (elsewhere t c ps) ≡ []
none-elsewhere t c [] = refl
none-elsewhere t c (p ∷ ps) =
    elim (is_place t c p) as (λ b. is_place t c p ≡ b → filter (is_place t c) (cond (cond b false true) (p ∷ elsewhere t c ps) (elsewhere t c ps)) ≡ []) [
      | true ↦ λ e. none-elsewhere t c ps
      | false ↦ λ e. ap (λ b. cond b (p ∷ filter (is_place t c) (elsewhere t c ps)) (filter (is_place t c) (elsewhere t c ps))) e ∙ none-elsewhere t c ps
    ] refl

pub twice-elsewhere : (t c : ℕ) (ps : List Place) → elsewhere t c (elsewhere t c ps) ≡ elsewhere t c ps
twice-elsewhere t c [] = refl
twice-elsewhere t c (p ∷ ps) =
    elim (is_place t c p) as (λ b. is_place t c p ≡ b → elsewhere t c (cond (cond b false true) (p ∷ elsewhere t c ps) (elsewhere t c ps)) ≡ cond (cond b false true) (p ∷ elsewhere t c ps) (elsewhere t c ps)) [
      | true ↦ λ e. twice-elsewhere t c ps
      | false ↦ λ e. ap (λ b. cond (cond b false true) (p ∷ elsewhere t c (elsewhere t c ps)) (elsewhere t c (elsewhere t c ps))) e ∙ ap (λ l. p ∷ l) (twice-elsewhere t c ps)
    ] refl

other_test : (b : Bool) → cond b false true ≡ not b
other_test true = refl
other_test false = refl

pub parted : (t c : ℕ) (ps : List Place) → count_on t c ps + length (elsewhere t c ps) ≡ length ps
parted t c ps = length-filter_both (is_place t c) (is_elsewhere t c) (λ p. other_test (is_place t c p)) ps

-- where none is on the column all are elsewhere
pub all-elsewhere : (t c : ℕ) (ps : List Place) → count_on t c ps ≡ 0 → elsewhere t c ps ≡ ps
all-elsewhere t c [] e = refl
all-elsewhere t c (p ∷ ps) e = go (is_place t c p) e (all-elsewhere t c ps)
  where
    go : (b : Bool) → length (cond b (p ∷ filter (is_place t c) ps) (filter (is_place t c) ps)) ≡ 0 → (count_on t c ps ≡ 0 → elsewhere t c ps ≡ ps) → cond (cond b false true) (p ∷ elsewhere t c ps) (elsewhere t c ps) ≡ p ∷ ps
    go true e more = absurd (omega arith)
    go false e more = ap (λ l. p ∷ l) (more e)

-- where one is on it the others are elsewhere
pub others-elsewhere : (t c : ℕ) (ps : List Place) → count_on t c ps ≡ 1 → but_first_place t c ps ≡ elsewhere t c ps
others-elsewhere t c [] e = refl
others-elsewhere t c (p ∷ ps) e = go (is_place t c p) e (others-elsewhere t c ps)
  where
    go : (b : Bool) → length (cond b (p ∷ filter (is_place t c) ps) (filter (is_place t c) ps)) ≡ 1 → (count_on t c ps ≡ 1 → but_first_place t c ps ≡ elsewhere t c ps) → cond b ps (p ∷ but_first_place t c ps) ≡ cond (cond b false true) (p ∷ elsewhere t c ps) (elsewhere t c ps)
    go true e more = sym (all-elsewhere t c ps (omega arith))
    go false e more = ap (λ l. p ∷ l) (more e)

-- and if it has n variables, it is that
pub is_one : (t c n : ℕ) (ps : List Place) → count_on t c ps ≡ 1 → AllOfVars n (filter (is_place t c) ps) → IsOne t c n ps
is_one t c n [] e h = absurd (omega arith)
is_one t c n (p ∷ ps) e h =
    elim (is_place t c p) as (λ b. is_place t c p ≡ b → length (cond b (p ∷ filter (is_place t c) ps) (filter (is_place t c) ps)) ≡ 1 → AllOfVars n (cond b (p ∷ filter (is_place t c) ps) (filter (is_place t c) ps)) → cond b (p ∷ filter (is_place t c) ps) (filter (is_place t c) ps) ≡ place t c n ∷ []) [
      | true ↦ λ f l k.
          let both = is_here t c p f in
          let more : filter (is_place t c) ps ≡ [] = nil_from_length (filter (is_place t c) ps) (omega arith) in
          (λ i. place (both.0 i) (both.1 i) (k.0 i) ∷ more i)
      | false ↦ λ f l k. is_one t c n ps l k
    ] refl e h

-- ---- what holds of all
pub all_mapped : {X : Type 0} (P Q : X → Type 0) → ((x : X) → P x → Q x) → (xs : List X) → AllByRecursion P xs → AllByRecursion Q xs
all_mapped P Q f [] h = tt
all_mapped P Q f (x ∷ xs) h = (f x h.0, all_mapped P Q f xs h.1)

pub all_parts : (P : Place → Type 0) (t c : ℕ) (ps : List Place) → AllByRecursion P (filter (is_place t c) ps) → AllByRecursion P (elsewhere t c ps) → AllByRecursion P ps
all_parts P t c [] h k = tt
all_parts P t c (p ∷ ps) h k =
    elim (is_place t c p) as (λ b. AllByRecursion P (cond b (p ∷ filter (is_place t c) ps) (filter (is_place t c) ps)) → AllByRecursion P (cond (cond b false true) (p ∷ elsewhere t c ps) (elsewhere t c ps)) → P p × AllByRecursion P ps) [
      | true ↦ λ x y. (x.0, all_parts P t c ps x.1 y)
      | false ↦ λ x y. (y.0, all_parts P t c ps x y.1)
    ] h k

-- ---- claims of these sizes
filtered : {X Y : Type 0} (f : X → Y) (q : Y → Bool) (xs : List X) → map f (filter (λ x. q (f x)) xs) ≡ filter q (map f xs)
filtered f q [] = refl
filtered f q (x ∷ xs) =
    elim (q (f x)) as (λ t. map f (cond t (x ∷ filter (λ x. q (f x)) xs) (filter (λ x. q (f x)) xs)) ≡ cond t (f x ∷ filter q (map f xs)) (filter q (map f xs))) [
      | true ↦ ap (λ l. f x ∷ l) (filtered f q xs)
      | false ↦ filtered f q xs
    ]

others : (t c : ℕ) (cs : List ColumnClaim) → map place_of (but_first_on t c cs) ≡ but_first_place t c (map place_of cs)
others t c [] = refl
others t c (d ∷ ds) =
    elim (is_on t c d) as (λ b. map place_of (cond b ds (d ∷ but_first_on t c ds)) ≡ cond b (map place_of ds) (place_of d ∷ but_first_place t c (map place_of ds))) [
      | true ↦ refl
      | false ↦ ap (λ l. place_of d ∷ l) (others t c ds)
    ]

pub blank_on : (t c : ℕ) (ps : List Place) → map place_of (on_column t c (map blank_claim ps)) ≡ filter (is_place t c) ps
blank_on t c ps = filtered place_of (is_place t c) (map blank_claim ps) ∙ ap (filter (is_place t c)) (blank_places ps)

pub blank_off : (t c : ℕ) (ps : List Place) → map place_of (off_column t c (map blank_claim ps)) ≡ elsewhere t c ps
blank_off t c ps = filtered place_of (is_elsewhere t c) (map blank_claim ps) ∙ ap (elsewhere t c) (blank_places ps)

pub blank_others : (t c : ℕ) (ps : List Place) → map place_of (but_first_on t c (map blank_claim ps)) ≡ but_first_place t c ps
blank_others t c ps = others t c (map blank_claim ps) ∙ ap (but_first_place t c) (blank_places ps)

pub blank_first : (t c n : ℕ) (ps : List Place) → IsOne t c n ps → first_on t c (map blank_claim ps) ≡ Some (blank_claim (place t c n))
blank_first t c n [] e = absurd cc
blank_first t c n (p ∷ ps) e = go (is_place t c p) e (blank_first t c n ps)
  where
    go : (b : Bool) → cond b (p ∷ filter (is_place t c) ps) (filter (is_place t c) ps) ≡ place t c n ∷ [] → (IsOne t c n ps → first_on t c (map blank_claim ps) ≡ Some (blank_claim (place t c n)))
        → cond b (Some (blank_claim p)) (first_on t c (map blank_claim ps)) ≡ Some (blank_claim (place t c n))
    go true e more = let same : p ≡ place t c n = cc in ap (λ q. Some (blank_claim q)) same
    go false e more = more e
