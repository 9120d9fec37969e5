-- Few entries with small numbers, part by part.
use Rattle.std.proofs.Common.{ℕ, zero, suc, ◌+◌, ◌-◌, ◌*◌, ◌^◌, ◌<◌, ◌≤◌, Bool, true, false, cond, List, [], ◌∷◌, ◌++◌, length, length-append, arith}
use Rattle.std.specs.List.{AllByRecursion, flat_map}
use Rattle.cube_laws.specs.Sums.{tabulate}
use Rattle.poly_forms.specs.declared.check_kind.CheckKind.{CheckKind}
use Rattle.poly_forms.specs.declared.check_kind.CheckKind.TheVariants as check
use Rattle.poly_forms.specs.declared.draw_kind.DrawKind.{DrawKind}
use Rattle.poly_forms.specs.declared.draw_kind.DrawKind.TheVariants as draw
use Rattle.proof_plan.specs.declared.plan_entry.PlanEntry.{PlanEntry}
use Rattle.proof_plan.specs.declared.plan_entry.PlanEntry.TheVariants.{Root, Message, Draw, Constant, Queries}
use Rattle.proof_plan.specs.Plan.{bit_entries, coordinates, layer_entries, rounds, sum_entries, switch_entries, switch_rounds}
use Rattle.proof_plan.specs.PlanFits.{EntryIsSmall}

-- at most n entries, and all are small
pub record Bounded (n : ℕ) (es : List PlanEntry) : Type 0 where
  pub few : length es ≤ n
  pub small : AllByRecursion EntryIsSmall es

-- ---- parts
pub all_append : {X : Type 0} (P : X → Type 0) (xs ys : List X) → AllByRecursion P xs → AllByRecursion P ys → AllByRecursion P (xs ++ ys)
all_append P [] ys h k = k
all_append P (x ∷ xs) ys h k = (h.0, all_append P xs ys h.1 k)

pub no_more_than : (m n : ℕ) (es : List PlanEntry) → Bounded m es → m ≤ n → Bounded n es
no_more_than m n es b h = record { few = let f = b.few in omega arith; small = b.small }

pub both : (m n k : ℕ) (xs ys : List PlanEntry) → Bounded m xs → Bounded n ys → m + n ≤ k → Bounded k (xs ++ ys)
both m n k xs ys b c h = record { few = let l = length-append xs ys in let f = b.few in let g = c.few in omega arith; small = all_append EntryIsSmall xs ys b.small c.small }

pub no_entries : (n : ℕ) → Bounded n []
no_entries n = record { few = omega arith; small = tt }

pub led_by : (m n : ℕ) (e : PlanEntry) (es : List PlanEntry) → EntryIsSmall e → Bounded m es → m + 1 ≤ n → Bounded n (e ∷ es)
led_by m n e es s b h = record { few = let f = b.few in omega arith; small = (s, b.small) }

pub either : (n : ℕ) (b : Bool) (es : List PlanEntry) → Bounded n es → Bounded n (cond b [] es)
either n true es h = no_entries n
either n false es h = h

-- of at most 1000 for each item
pub flat : {X : Type 0} (f : X → List PlanEntry) (xs : List X) → AllByRecursion (λ x. Bounded 1000 (f x)) xs → Bounded (length xs * 1000) (flat_map f xs)
flat f [] h = no_entries 0
flat f (x ∷ xs) h = both 1000 (length xs * 1000) (suc (length xs) * 1000) (f x) (flat_map f xs) h.0 (flat f xs h.1) (omega arith)

pub all_tabulate : (P : ℕ → Type 0) (n : ℕ) (f : ℕ → ℕ) → ((v : ℕ) → v < n → P (f v)) → AllByRecursion P (tabulate n f)
all_tabulate P zero f h = tt
all_tabulate P (suc n) f h = (h 0 (omega arith), all_tabulate P n (λ k. f (suc k)) (λ v l. h (suc v) (omega arith)))

-- ---- rounds
pub rounds_bounded : (kind : DrawKind) (d n : ℕ) → d ≤ 10 → Bounded (2 * n) (rounds kind d n)
rounds_bounded kind d zero h = no_entries (2 * 0)
rounds_bounded kind d (suc n) h =
    led_by (2 * n + 1) (2 * suc n) (Message check.RoundSum (suc d)) (Draw kind d ∷ rounds kind d n) (omega arith) (led_by (2 * n) (2 * n + 1) (Draw kind d) (rounds kind d n) (omega arith) (rounds_bounded kind d n h) (omega arith)) (omega arith)

pub sum_bounded : (kind : DrawKind) (d n : ℕ) (last : CheckKind) (m k : ℕ) → d ≤ 10 → m ≤ 4096 → 2 * n + 1 ≤ k → Bounded k (sum_entries kind d n last m)
sum_bounded kind d n last m k h l b = both (2 * n) 1 k (rounds kind d n) (Message last m ∷ []) (rounds_bounded kind d n h) (led_by 0 1 (Message last m) [] l (no_entries 0) (omega arith)) b

pub coordinates_bounded : (kind : DrawKind) (n : ℕ) → Bounded n (coordinates kind n)
coordinates_bounded kind zero = no_entries 0
coordinates_bounded kind (suc n) = led_by n (suc n) (Draw kind 1) (coordinates kind n) (omega arith) (coordinates_bounded kind n) (omega arith)

-- ---- layers
pub layers_bounded : (c k d : ℕ) → c ≤ 4096 → k + d ≤ 20 → Bounded (d * 42 + 41) (layer_entries c k d)
layers_bounded c k zero h l = sum_bounded draw.LeafRound 4 k check.LeafFinal c (0 * 42 + 41) (omega arith) h (omega arith)
layers_bounded c k (suc d) h l =
    let below = layers_bounded c (suc k) d h (omega arith) in
    let rest = led_by (d * 42 + 42) (d * 42 + 43) (Message check.LayerFinal 2) (Draw draw.LayerJoin 1 ∷ layer_entries c (suc k) d) (omega arith) (led_by (d * 42 + 41) (d * 42 + 42) (Draw draw.LayerJoin 1) (layer_entries c (suc k) d) (omega arith) below (omega arith)) (omega arith) in
    both (2 * k) (d * 42 + 43) (suc d * 42 + 41) (rounds draw.LayerRound 3 k) (Message check.LayerFinal 2 ∷ Draw draw.LayerJoin 1 ∷ layer_entries c (suc k) d) (rounds_bounded draw.LayerRound 3 k (omega arith)) rest (omega arith)

-- ---- bits and words
pub bits_bounded : (n j : ℕ) → n ≤ 24 → j ≤ 2 ^ 38 → Bounded 50 (bit_entries n j)
bits_bounded n j h l =
    led_by 49 50 (Draw draw.BitBatch (j - 1)) (sum_entries draw.BitRound 2 n check.BitFinal 1) (omega arith) (sum_bounded draw.BitRound 2 n check.BitFinal 1 49 (omega arith) (omega arith) (omega arith)) (omega arith)

switch_bounded : (n : ℕ) → Bounded (3 * n) (switch_rounds n)
switch_bounded zero = no_entries (3 * 0)
switch_bounded (suc zero) = led_by 1 (3 * 1) (Message check.RoundSum 3) (Draw draw.SwitchRound 2 ∷ []) (omega arith) (led_by 0 1 (Draw draw.SwitchRound 2) [] (omega arith) (no_entries 0) (omega arith)) (omega arith)
switch_bounded (suc (suc n)) =
    let below = switch_bounded (suc n) in
    let b = 3 * suc n in
    led_by (b + 2) (3 * suc (suc n)) (Message check.RoundSum 3) (Draw draw.SwitchRound 2 ∷ Root ∷ switch_rounds (suc n)) (omega arith)
    (led_by (b + 1) (b + 2) (Draw draw.SwitchRound 2) (Root ∷ switch_rounds (suc n)) (omega arith) (led_by b (b + 1) Root (switch_rounds (suc n)) tt below (omega arith)) (omega arith)) (omega arith)

pub words_bounded : (m : ℕ) → m ≤ 24 → Bounded 100 (switch_entries m)
words_bounded m h =
    let last = led_by 1 2 Constant (Queries ∷ []) tt (led_by 0 1 Queries [] tt (no_entries 0) (omega arith)) (omega arith) in
    let turns = both (3 * m) 2 74 (switch_rounds m) (Constant ∷ Queries ∷ []) (switch_bounded m) last (omega arith) in
    let all = both 7 74 81 (coordinates draw.TensorCoordinate 7) (switch_rounds m ++ Constant ∷ Queries ∷ []) (coordinates_bounded draw.TensorCoordinate 7) turns (omega arith) in
    led_by 81 100 (Message check.Tensor 128) (coordinates draw.TensorCoordinate 7 ++ switch_rounds m ++ Constant ∷ Queries ∷ []) (omega arith) all (omega arith)
