-- Steps of loops that push entries.
use Rattle.std.proofs.Common.{◌≡◌, ◌∙◌, ℕ, zero, suc, ◌+◌, ◌-◌, ◌<◌, ◌≤◌, ◌==◌, ◌^◌, Bool, true, cond, false, List, [], ◌∷◌, ◌++◌, refl, sym, ap, arith}
use Rattle.std.proofs.lemmas.Bool.{eqb-true}
use Rattle.std.proofs.lemmas.List.{append-nil, append_assoc}
use Rattle.std.specs.List.{flat_map}
use Rattle.cube_laws.specs.Sums.{tabulate}
use Rattle.cube_laws.proofs.Tabulate.{tabulate-suc}
use Rattle.list_laws.specs.CeilLog.{ceil_log}
use Rattle.list_laws.proofs.CeilLog.{at_most}
use Rattle.std.proofs.lemmas.Grind.{flat_map-append}
use Rattle.poly_forms.specs.declared.check_kind.CheckKind.TheVariants as check
use Rattle.poly_forms.specs.declared.draw_kind.DrawKind.{DrawKind}
use Rattle.poly_forms.specs.declared.draw_kind.DrawKind.TheVariants as draw
use Rattle.proof_plan.specs.declared.plan_entry.PlanEntry.{PlanEntry}
use Rattle.proof_plan.specs.declared.plan_entry.PlanEntry.TheVariants.{Root, Message, Draw}
use Rattle.proof_plan.specs.Plan.{coordinates, layer_entries, rounds, switch_rounds}

-- ---- appending at the end of what stands behind the first entries
pub appended : {X : Type 0} (first done more now new : List X) → now ≡ first ++ done → new ≡ now ++ more → new ≡ first ++ (done ++ more)
appended first done more now new e h = h ∙ ap (λ xs. xs ++ more) e ∙ append_assoc first done more

pub two_pushed : {X : Type 0} (now one two : List X) (a b : X) → one ≡ now ++ a ∷ [] → two ≡ one ++ b ∷ [] → two ≡ now ++ a ∷ b ∷ []
two_pushed now one two a b e h = h ∙ ap (λ xs. xs ++ b ∷ []) e ∙ append_assoc now (a ∷ []) (b ∷ [])

-- ---- one round more
rounds_more : (kind : DrawKind) (d n : ℕ) → rounds kind d (suc n) ≡ rounds kind d n ++ Message check.RoundSum (suc d) ∷ Draw kind d ∷ []
rounds_more kind d zero = refl
rounds_more kind d (suc n) = ap (λ es. Message check.RoundSum (suc d) ∷ Draw kind d ∷ es) (rounds_more kind d n)

pub round_pushed : (kind : DrawKind) (d n : ℕ) (first now one two : List PlanEntry) → now ≡ first ++ rounds kind d n → one ≡ now ++ Message check.RoundSum (d + 1) ∷ [] → two ≡ one ++ Draw kind d ∷ [] → two ≡ first ++ rounds kind d (n + 1)
round_pushed kind d n first now one two e h k =
    let s : d + 1 ≡ suc d = omega arith in
    let t : suc n ≡ n + 1 = omega arith in
    appended first (rounds kind d n) (Message check.RoundSum (suc d) ∷ Draw kind d ∷ []) now two e (two_pushed now one two (Message check.RoundSum (suc d)) (Draw kind d) (h ∙ ap (λ m. now ++ Message check.RoundSum m ∷ []) s) k)
    ∙ ap (λ es. first ++ es) (sym (rounds_more kind d n)) ∙ ap (λ m. first ++ rounds kind d m) t

-- ---- one coordinate more
coordinates_more : (kind : DrawKind) (n : ℕ) → coordinates kind (suc n) ≡ coordinates kind n ++ Draw kind 1 ∷ []
coordinates_more kind zero = refl
coordinates_more kind (suc n) = ap (λ es. Draw kind 1 ∷ es) (coordinates_more kind n)

pub coordinate_pushed : (kind : DrawKind) (n : ℕ) (first now new : List PlanEntry) → now ≡ first ++ coordinates kind n → new ≡ now ++ Draw kind 1 ∷ [] → new ≡ first ++ coordinates kind (n + 1)
coordinate_pushed kind n first now new e h =
    let t : suc n ≡ n + 1 = omega arith in
    appended first (coordinates kind n) (Draw kind 1 ∷ []) now new e h ∙ ap (λ es. first ++ es) (sym (coordinates_more kind n)) ∙ ap (λ m. first ++ coordinates kind m) t

-- ---- one layer less
layers_more : (c k d n : ℕ) → n ≡ suc d → layer_entries c k n ≡ rounds draw.LayerRound 3 k ++ Message check.LayerFinal 2 ∷ Draw draw.LayerJoin 1 ∷ layer_entries c (k + 1) d
layers_more c k d n e = ap (layer_entries c k) e ∙ (let t : suc k ≡ k + 1 = omega arith in ap (λ m. rounds draw.LayerRound 3 k ++ Message check.LayerFinal 2 ∷ Draw draw.LayerJoin 1 ∷ layer_entries c m d) t)

pub layer_pushed : (c k n : ℕ) (whole now one two three : List PlanEntry) → k < n → now ++ layer_entries c k (n - k) ≡ whole → one ≡ now ++ rounds draw.LayerRound 3 k → two ≡ one ++ Message check.LayerFinal 2 ∷ [] → three ≡ two ++ Draw draw.LayerJoin 1 ∷ []
    → three ++ layer_entries c (k + 1) (n - (k + 1)) ≡ whole
layer_pushed c k n whole now one two three below e h i j =
    let rest = layer_entries c (k + 1) (n - (k + 1)) in
    let both = two_pushed one two three (Message check.LayerFinal 2) (Draw draw.LayerJoin 1) i j in
    ap (λ es. es ++ rest) (both ∙ ap (λ es. es ++ Message check.LayerFinal 2 ∷ Draw draw.LayerJoin 1 ∷ []) h)
    ∙ append_assoc (now ++ rounds draw.LayerRound 3 k) (Message check.LayerFinal 2 ∷ Draw draw.LayerJoin 1 ∷ []) rest
    ∙ append_assoc now (rounds draw.LayerRound 3 k) (Message check.LayerFinal 2 ∷ Draw draw.LayerJoin 1 ∷ rest)
    ∙ ap (λ es. now ++ es) (sym (layers_more c k (n - (k + 1)) (n - k) (omega arith))) ∙ e

-- ---- one round more over the words
abbrev pub root_between : ℕ → List PlanEntry
root_between n = cond (n == 0) [] (Root ∷ [])

abbrev pub switch_round : List PlanEntry
switch_round = Message check.RoundSum 3 ∷ Draw draw.SwitchRound 2 ∷ []

not_zero : (n : ℕ) → (suc n == 0) ≡ false
not_zero n = go (suc n == 0) refl
  where
    go : (b : Bool) → (suc n == 0) ≡ b → b ≡ false
    go true e = absurd (let h = eqb-true (suc n) 0 e in omega arith)
    go false e = refl

switch_more : (n : ℕ) → switch_rounds (suc n) ≡ switch_rounds n ++ (root_between n ++ switch_round)
switch_more zero = refl
switch_more (suc zero) = refl
switch_more (suc (suc n)) =
    ap (λ es. Message check.RoundSum 3 ∷ Draw draw.SwitchRound 2 ∷ Root ∷ es) (switch_more (suc n))
    ∙ ap (λ b. Message check.RoundSum 3 ∷ Draw draw.SwitchRound 2 ∷ Root ∷ (switch_rounds (suc n) ++ (cond b [] (Root ∷ []) ++ switch_round))) (not_zero n ∙ sym (not_zero (suc n)))

pub switch_pushed : (n : ℕ) (first now root one two : List PlanEntry) → now ≡ first ++ switch_rounds n → root ≡ now ++ root_between n → one ≡ root ++ Message check.RoundSum 3 ∷ [] → two ≡ one ++ Draw draw.SwitchRound 2 ∷ [] → two ≡ first ++ switch_rounds (n + 1)
switch_pushed n first now root one two e r h k =
    let t : suc n ≡ n + 1 = omega arith in
    two_pushed root one two (Message check.RoundSum 3) (Draw draw.SwitchRound 2) h k ∙ ap (λ es. es ++ switch_round) r ∙ append_assoc now (root_between n) switch_round
    ∙ ap (λ es. es ++ (root_between n ++ switch_round)) e ∙ append_assoc first (switch_rounds n) (root_between n ++ switch_round) ∙ ap (λ es. first ++ es) (sym (switch_more n)) ∙ ap (λ m. first ++ switch_rounds m) t

-- ---- one number more of those below a bound
pub flat_pushed : {X : Type 0} (f : ℕ → List X) (n : ℕ) (first now new : List X) → now ≡ first ++ flat_map f (tabulate n (λ v. v)) → new ≡ now ++ f n → new ≡ first ++ flat_map f (tabulate (n + 1) (λ v. v))
flat_pushed f n first now new e h =
    let t : suc n ≡ n + 1 = omega arith in
    appended first (flat_map f (tabulate n (λ v. v))) (f n) now new e h
    ∙ ap (λ es. first ++ (flat_map f (tabulate n (λ v. v)) ++ es)) (sym (append-nil (f n)))
    ∙ ap (λ es. first ++ es) (sym (flat_map-append f (tabulate n (λ v. v)) (n ∷ [])))
    ∙ ap (λ vs. first ++ flat_map f vs) (sym (tabulate-suc n (λ v. v)))
    ∙ ap (λ m. first ++ flat_map f (tabulate m (λ v. v))) t

-- ---- numbers of rows
pub log_small : (rows : ℕ) → rows < 2 ^ 32 → ceil_log rows ≤ 32
log_small rows h = at_most rows 32 (omega arith)
