-- Steps of the walk.
use Rattle.std.proofs.Common.{◌≡◌, ◌∙◌, ℕ, zero, suc, ◌+◌, ◌-◌, ◌<◌, ◌≤◌, ◌^◌, ◌++◌, List, [], ◌∷◌, length, refl, sym, ap, subst, arith, length-append}
use Rattle.sumcheck.specs.declared.column_claim.ColumnClaim.{ColumnClaim}
use Rattle.sumcheck.specs.Machine.{AwaitsDraw, AwaitsMessage}
use Rattle.sumcheck.specs.Rounds.{Rounds, sum_claim, round_claim, DrawIsDue}
use Rattle.sumcheck.specs.Summing.{adding, closed, summed_entries, summed_message}
use Rattle.sumcheck.proofs.Lawful.{draw_due}
use Rattle.sumcheck.proofs.Told.{claims_short}
use Rattle.sumcheck.specs.Column.{column_claims}
use Rattle.zerocheck.specs.declared.zero_walk.Stage.{Stage}
use Rattle.zerocheck.specs.declared.zero_walk.Stage.TheVariants.{Waiting, Stated, Drawing, Adding, Done}
use Rattle.zerocheck.specs.Zero.{IsFresh, StageFits, Zero, Zeroed, stage_at, stated, vector, zero_draw, zero_entries, zero_of, zero_sum, zeroing}

less_one : (n : ℕ) → suc n - 1 ≡ n
less_one n = omega arith

zeroing_at : (t : Zeroed) (n : ℕ) (r : Rounds) (claims : List ColumnClaim) → IsFresh t r claims → zero_of (stage_at n) t (n - 1) r claims ≡ zeroing t.group t.beta t.point n
zeroing_at t zero r claims h = ap (λ (w : Rounds). zero_of Adding t 0 w claims) h.0
zeroing_at t (suc n) r claims h = ap (λ m. vector t.group t.beta t.point m) (less_one n)

fits_at : (t : Zeroed) (n : ℕ) (r : Rounds) (claims : List ColumnClaim) → length t.point + n ≡ t.group.vars → IsFresh t r claims → StageFits (stage_at n) t (n - 1) r claims
fits_at t zero r claims l h = h.1
fits_at t (suc n) r claims l h = ((let e = less_one n in omega arith), h)

-- ---- the draw that joins
pub stated_draw : (t u : Zeroed) (n m : ℕ) (r : Rounds) (claims : List ColumnClaim) (c k : ℕ) (g : Stage) → u ≡ record t { beta = c } → g ≡ stage_at k → k ≡ u.group.vars → m ≡ k - 1 → StageFits Stated t n r claims
    → zero_of g u m r claims ≡ zero_draw (stated t.group) c
stated_draw t u n m r claims c k g e s l d h =
    (λ i. zero_of ((s ∙ ap stage_at (l ∙ ap (λ (x : Zeroed). x.group.vars) e)) i) (e i) ((d ∙ ap (λ j. j - 1) (l ∙ ap (λ (x : Zeroed). x.group.vars) e)) i) r claims)
    ∙ zeroing_at (record t { beta = c }) t.group.vars r claims h.1 ∙ ap (λ p. zeroing t.group c p t.group.vars) h.0

pub stated_fits : (t u : Zeroed) (n m : ℕ) (r : Rounds) (claims : List ColumnClaim) (c k : ℕ) (g : Stage) → u ≡ record t { beta = c } → g ≡ stage_at k → k ≡ u.group.vars → m ≡ k - 1 → StageFits Stated t n r claims → StageFits g u m r claims
stated_fits t u n m r claims c k g e s l d h =
    subst (λ (x : Stage). StageFits x u m r claims) (sym s) (subst (λ j. StageFits (stage_at k) u j r claims) (sym d)
    (subst (λ (x : Zeroed). StageFits (stage_at k) x (k - 1) r claims) (sym e)
    (fits_at (record t { beta = c }) k r claims (ap (λ p. length p + k) h.0 ∙ (let q : 0 + k ≡ k = omega arith in q) ∙ l ∙ ap (λ (x : Zeroed). x.group.vars) e) h.1)))

-- ---- a coordinate
pub drawn_draw : (t u : Zeroed) (n m : ℕ) (r : Rounds) (claims : List ColumnClaim) (c : ℕ) (g : Stage) → u ≡ record t { point = t.point ++ c ∷ [] } → g ≡ stage_at n → m ≡ n - 1 → StageFits Drawing t n r claims
    → zero_of g u m r claims ≡ zero_draw (vector t.group t.beta t.point n) c
drawn_draw t u n m r claims c g e s d h = (λ i. zero_of (s i) (e i) (d i) r claims) ∙ zeroing_at (record t { point = t.point ++ c ∷ [] }) n r claims h.1

pub drawn_fits : (t u : Zeroed) (n m : ℕ) (r : Rounds) (claims : List ColumnClaim) (c : ℕ) (g : Stage) → u ≡ record t { point = t.point ++ c ∷ [] } → g ≡ stage_at n → m ≡ n - 1 → StageFits Drawing t n r claims → StageFits g u m r claims
drawn_fits t u n m r claims c g e s d h =
    subst (λ (x : Stage). StageFits x u m r claims) (sym s) (subst (λ j. StageFits (stage_at n) u j r claims) (sym d)
    (subst (λ (x : Zeroed). StageFits (stage_at n) x (n - 1) r claims) (sym e)
    (fits_at (record t { point = t.point ++ c ∷ [] }) n r claims (let l = h.0 in let a = length-append t.point (c ∷ []) in omega arith) h.1)))

pub room_for : (t : Zeroed) (n : ℕ) (r : Rounds) (claims : List ColumnClaim) → StageFits Drawing t n r claims → length t.point < t.group.vars
room_for t n r claims h = let l = h.0 in omega arith

-- ---- a draw after a round
at_stage : (g : Stage) (t : Zeroed) (n : ℕ) (r : Rounds) (claims : List ColumnClaim) → g ≡ Adding → AwaitsDraw (zero_entries (zero_of g t n r claims)) → DrawIsDue r
at_stage Waiting t n r claims e h = absurd (cc)
at_stage Stated t n r claims e h = absurd (cc)
at_stage Drawing t n r claims e h = absurd (cc)
at_stage Adding t n r claims e h = draw_due zero_sum t r h
at_stage Done t n r claims e h = absurd (cc)

pub bind_due : (g : Stage) (t : Zeroed) (n : ℕ) (r : Rounds) (claims : List ColumnClaim) (m : Zero) → zero_of g t n r claims ≡ m → g ≡ Adding → AwaitsDraw (zero_entries m) → DrawIsDue r
bind_due g t n r claims m v e h = at_stage g t n r claims e (rw v h)

-- ---- a message
-- a message is due in the stage of the sum alone
adding_at : (g : Stage) (t : Zeroed) (n k : ℕ) (r : Rounds) (claims : List ColumnClaim) → AwaitsMessage k (zero_entries (zero_of g t n r claims)) → g ≡ Adding
adding_at Waiting t n k r claims h = absurd h
adding_at Stated t n k r claims h = absurd h
adding_at Drawing t n k r claims h = absurd h
adding_at Adding t n k r claims h = refl
adding_at Done t n k r claims h = absurd h

pub message_stage : (g : Stage) (t : Zeroed) (n k : ℕ) (r : Rounds) (claims : List ColumnClaim) (m : Zero) → zero_of g t n r claims ≡ m → AwaitsMessage k (zero_entries m) → g ≡ Adding
message_stage g t n k r claims m v h = adding_at g t n k r claims (rw v h)

pub message_due : (g : Stage) (t : Zeroed) (n k : ℕ) (r : Rounds) (claims : List ColumnClaim) (m : Zero) → zero_of g t n r claims ≡ m → AwaitsMessage k (zero_entries m) → AwaitsMessage k (summed_entries zero_sum (adding t r))
message_due g t n k r claims m v h =
    let e = message_stage g t n k r claims m v h in
    subst (λ (x : Stage). AwaitsMessage k (zero_entries (zero_of x t n r claims))) e (rw v h)

-- the last message has a number for each column
pub last_count : (t : Zeroed) (r : Rounds) (v : List ℕ) (claims : List ColumnClaim) → AwaitsMessage (length v) (summed_entries zero_sum (adding t r)) → summed_message zero_sum (adding t r) v ≡ closed claims → length v ≡ length t.group.columns
last_count t (sum_claim d zero z c) v claims h e = h
last_count t (sum_claim d (suc n) z c) v claims h e = absurd (cc)
last_count t (round_claim d n z w) v claims h e = absurd (cc)

pub told_few : (g : Stage) (t : Zeroed) (n : ℕ) (r : Rounds) (claims new : List ColumnClaim) (table : ℕ) (z cs v : List ℕ) → StageFits g t n r claims → g ≡ Adding → new ≡ claims ++ column_claims table z cs v → length cs < 2 ^ 30 → length new < 2 ^ 30
told_few g t n r claims new table z cs v f e h l =
    let none : claims ≡ [] = subst (λ (x : Stage). StageFits x t n r claims) e f in
    let s = claims_short table z cs v in
    let m = ap length (h ∙ ap (λ (w : List ColumnClaim). w ++ column_claims table z cs v) none) in
    omega arith
