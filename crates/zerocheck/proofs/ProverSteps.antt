-- Steps of the prover.
use Rattle.std.proofs.Common.{◌≡◌, ◌∙◌, ℕ, zero, suc, ◌+◌, ◌-◌, ◌^◌, ◌<◌, Option, Some, None, List, [], ◌∷◌, ◌++◌, map, drop, length, get_or, unwrap_or, refl, sym, ap, subst, arith, length-append, Bool, false, is_some}
use Rattle.tower_laws.specs.Tower.{mul}
use Rattle.poly_laws.specs.Polynomial.{horner}
use Rattle.cube_laws.specs.Extension.{extension, fold_all, fold_low, weights}
use Rattle.cube_laws.specs.Form.{value}
use Rattle.cube_laws.specs.SumClaim.{AllLong, row}
use Rattle.cube_laws.proofs.Coordinates.{last_value}
use Rattle.cube_laws.proofs.Folding.{length-weights}
use Rattle.cube_laws.proofs.Positions.{value-moved}
use Rattle.cube_laws.proofs.Weights.{length-tabulate}
use Rattle.batch_laws.specs.Batch.{batch_form}
use Rattle.batch_laws.proofs.Batching.{batch_form_value}
use Rattle.sumcheck.specs.declared.column_tables.ColumnTable.{ColumnTable}
use Rattle.sumcheck.specs.Machine.{Filling, AwaitsSome, AwaitsDraw}
use Rattle.sumcheck.specs.Rounds.{Rounds, sum_claim, round_claim, rounds_draw, true_round, with_claim, claimed}
use Rattle.sumcheck.specs.Summing.{adding, closed, summed_entries, summed_honest, summed_message}
use Rattle.sumcheck.specs.Proving.{Proving, Goes, sum_of}
use Rattle.sumcheck.proofs.Following.{draw_sets, goes_first, goes_passed, goes_round}
use Rattle.zerocheck.specs.declared.zero_prover.ZeroProver.{ZeroProver}
use Rattle.zerocheck.specs.declared.zero_walk.Stage.{Stage}
use Rattle.zerocheck.specs.declared.zero_walk.Stage.TheVariants.{Stated, Drawing}
use Rattle.sumcheck.specs.Ending.{Ending, untold}
use Rattle.sumcheck.specs.Column.{column_claims}
use Rattle.sumcheck.proofs.Told.{claims_told}
use Rattle.zerocheck.specs.Given.{AreThere, IsThere, given_lists}
use Rattle.zerocheck.specs.Group.{Group, forms}
use Rattle.zerocheck.specs.Opening.{CanDraw, Opening, drawn}
use Rattle.zerocheck.specs.Zero.{Zero, Zeroed, columns_of, on_rows, row_steps, stated, summed, vector, waiting, zero_draw, zero_entries, zero_form, zero_sum, zeroed_sum, zeroing}
use Rattle.zerocheck.specs.ZeroProver.{FollowsEnd, FollowsSum, GoesOn, Holds, IsDrawn, undrawn}

-- ---- the value of a row
pub row_value : (t : Zeroed) (row rest : List ℕ) (a s b : ℕ) → length row ≡ length t.group.columns + 2 → rest ≡ drop 2 row → a ≡ get_or row 0 a → s ≡ get_or row 1 s
    → b ≡ horner (map (λ form. value form rest) (forms t.group)) t.beta → mul a (mul s b) ≡ value (zero_form t) row
row_value t [] rest a s b l r ea es h = absurd (omega arith)
row_value t (x ∷ []) rest a s b l r ea es h = absurd (omega arith)
row_value t (x ∷ y ∷ ys) rest a s b l r ea es h =
    let f = batch_form t.beta (forms t.group) in
    (λ i. mul (ea i) (mul (es i) ((h ∙ ap (λ v. horner (map (λ form. value form v) (forms t.group)) t.beta) r ∙ sym (batch_form_value t.beta (forms t.group) ys)) i)))
    ∙ ap (λ w. mul x (mul y w)) (sym (value-moved f y ys)) ∙ ap (mul x) (sym (value-moved (on_rows f) x (y ∷ ys)))

pub batch_same : (u t : Zeroed) (row : List ℕ) (b : ℕ) → u ≡ t → b ≡ horner (map (λ form. value form row) (forms u.group)) u.beta → b ≡ horner (map (λ form. value form row) (forms t.group)) t.beta
batch_same u t row b e h = h ∙ ap (λ (x : Zeroed). horner (map (λ form. value form row) (forms x.group)) x.beta) e

-- ---- claims
-- ---- the lists that are given
pub column_there : (tables : List ColumnTable) (t n i : ℕ) (cs : List ℕ) → AreThere tables t n cs → i < length cs → IsThere tables t n (get_or cs i 0)
column_there tables t n i [] h l = absurd (omega arith)
column_there tables t n zero (k ∷ cs) h l = h.0
column_there tables t n (suc i) (k ∷ cs) h l = column_there tables t n i cs h.1 (omega arith)

pub given_long : (tables : List ColumnTable) (t n : ℕ) (cs : List ℕ) → AreThere tables t n cs → AllLong n (given_lists tables t cs)
given_long tables t n [] h = tt
given_long tables t n (c ∷ cs) h = (ap (λ (o : Option (List ℕ)). length (unwrap_or o [])) h.0.1 ∙ h.0.2, given_long tables t n cs h.1)

-- ---- what follows
-- the sum's prover, with its tables
abbrev pub begun : Opening → Proving Zeroed
begun o = record { summand = o.zeroed; degree = o.zeroed.group.degree + 2; left = o.zeroed.group.vars; lists = weights o.zeroed.point ∷ row_steps o.zeroed.group ∷ o.lists }

abbrev opened : Zeroed → Filling → Opening
opened t F = record { stage = Drawing; zeroed = t; lists = columns_of F t.group }

pub begun_long : (o : Opening) → length o.zeroed.point ≡ o.zeroed.group.vars → AllLong (2 ^ o.zeroed.group.vars) o.lists → AllLong (2 ^ o.zeroed.group.vars) (begun o).lists
begun_long o l h = (length-weights o.zeroed.point ∙ ap (λ n. 2 ^ n) l, (length-tabulate (2 ^ o.zeroed.group.vars) _, h))

claimed_is : (d n : ℕ) (r : Rounds) → with_claim 0 r ≡ sum_claim d n [] 0 → r ≡ sum_claim d n [] (claimed r)
claimed_is d n (sum_claim e m z c) h = let a : e ≡ d = cc in let b : m ≡ n = cc in let k : z ≡ [] = cc in cc
claimed_is d n (round_claim e m z v) h = absurd (cc)

from_none : (n : ℕ) → 0 + n ≡ n
from_none n = omega arith

start_goes : (F : Filling) (t : Zeroed) (e : Ending) (r : Rounds) → IsDrawn t r → AllLong (2 ^ t.group.vars) (columns_of F t.group) → e ≡ untold t.group.table t.group.columns t.group.vars [] → GoesOn (begun (opened t F)) e F t r
start_goes F t e r h long end =
    let k = claimed_is (t.group.degree + 2) t.group.vars r h.first in
    subst (GoesOn (begun (opened t F)) e F t) (sym k)
    (record {
      goes = goes_first zero_form (begun (opened t F)) (zeroed_sum F t) (t.group.degree + 2) t.group.vars (claimed r) refl refl refl refl (begun_long (opened t F) h.all long);
      ending = end;
      vars = from_none t.group.vars;
    })

pub same_opening : (a b : Opening) (o : Option Opening) → o ≡ Some a → o ≡ Some b → a ≡ b
same_opening a b o e f = let k : Some a ≡ Some b = sym e ∙ f in cc

pub not_some : {X : Type 0} (o : Option X) (b : Bool) → b ≡ is_some o → b ≡ false → o ≡ None
not_some None b e f = refl
not_some (Some x) b e f = absurd (cc)

pub start_follows : (p next : ZeroProver) (o : Opening) (q : Proving Zeroed) → p.opening ≡ Some o → next.ending ≡ p.ending → q ≡ begun o
    → (F : Filling) (s : Zero) → FollowsSum p None F s → AwaitsSome (zero_entries s) → FollowsSum next (Some q) F s
start_follows p next o q a e b F (waiting g) h w = absurd h
start_follows p next o q a e b F (stated g) h w = absurd w
start_follows p next o q a e b F (vector g beta z n) h w = absurd w
start_follows p next o q a e b F (summed (closed cs)) h w = absurd h
start_follows p next o q a e b F (summed (adding t r)) h w =
    subst (λ q. GoesOn q next.ending F t r) (sym (b ∙ ap begun (same_opening o (opened t F) p.opening a h.1.opening)))
    (start_goes F t next.ending r h.0 h.1.long (e ∙ h.1.ending))

-- ---- a draw before the first message
pub record CanOpen (p : ZeroProver) (o : Opening) : Type 0 where
  pub here : p.opening ≡ Some o
  pub can : CanDraw o.stage o.zeroed

pub draw_facts : (p : ZeroProver) (F : Filling) (s : Zero) → FollowsSum p None F s → AwaitsDraw (zero_entries s) → (o : Opening) × CanOpen p o
draw_facts p F (waiting g) h w = absurd h
draw_facts p F (stated g) h w = (record { stage = Stated; zeroed = undrawn g; lists = columns_of F g }, record { here = h.opening; can = tt })
draw_facts p F (vector g a z n) h w = (record { stage = Drawing; zeroed = record { group = g; beta = a; point = z }; lists = columns_of F g }, record { here = h.1.opening; can = (let l = h.0 in omega arith) })
draw_facts p F (summed (adding t (sum_claim d zero z c))) h w = absurd w
draw_facts p F (summed (adding t (sum_claim d (suc n) z c))) h w = absurd w
draw_facts p F (summed (adding t (round_claim d n z v))) h w = let e = h.0.first in absurd (cc)
draw_facts p F (summed (closed cs)) h w = absurd h

follows_zeroing : (p : ZeroProver) (F : Filling) (g : Group) (a : ℕ) (z : List ℕ) (n : ℕ) → length z + n ≡ g.vars → Holds p Drawing (record { group = g; beta = a; point = z }) (columns_of F g) → FollowsSum p None F (zeroing g a z n)
follows_zeroing p F g a z zero l h = (record { all = omega arith; first = refl }, h)
follows_zeroing p F g a z (suc n) l h = (l, h)

-- the prover with another opening
opened_next : (p next : ZeroProver) (o new : Opening) (s : Stage) (t : Zeroed) (lists : List (List ℕ)) (c : ℕ) → p.opening ≡ Some o → new ≡ record o { stage = Drawing; zeroed = drawn o.stage o.zeroed c } → next ≡ record p { opening = Some new }
    → Holds p s t lists → (drawn s t c).group ≡ t.group → Holds next Drawing (drawn s t c) lists
opened_next p next o new s t lists c a b e h g =
    let k = same_opening o (record { stage = s; zeroed = t; lists = lists }) p.opening a h.opening in
    subst (λ (q : ZeroProver). Holds q Drawing (drawn s t c) lists) (sym e)
    (record {
      opening = ap Some (b ∙ ap (λ (x : Opening). record x { stage = Drawing; zeroed = drawn x.stage x.zeroed c }) k);
      none = h.none;
      long = subst (λ (x : Group). AllLong (2 ^ x.vars) lists) (sym g) h.long;
      ending = h.ending ∙ ap (λ (x : Group). untold x.table x.columns x.vars []) (sym g);
    })

pub draw_opens : (p next : ZeroProver) (o new : Opening) (c : ℕ) → p.opening ≡ Some o → new ≡ record o { stage = Drawing; zeroed = drawn o.stage o.zeroed c } → next ≡ record p { opening = Some new }
    → (F : Filling) (s : Zero) → FollowsSum p None F s → AwaitsDraw (zero_entries s) → FollowsSum next None F (zero_draw s c)
draw_opens p next o new c a b e F (waiting g) h w = absurd h
draw_opens p next o new c a b e F (stated g) h w =
    follows_zeroing next F g c [] g.vars (from_none g.vars) (opened_next p next o new Stated (undrawn g) (columns_of F g) c a b e h refl)
draw_opens p next o new c a b e F (vector g m z n) h w =
    follows_zeroing next F g m (z ++ c ∷ []) n (let l = h.0 in let k = length-append z (c ∷ []) in omega arith)
    (opened_next p next o new Drawing (record { group = g; beta = m; point = z }) (columns_of F g) c a b e h.1 refl)
draw_opens p next o new c a b e F (summed (adding t (sum_claim d zero z x))) h w = absurd w
draw_opens p next o new c a b e F (summed (adding t (sum_claim d (suc n) z x))) h w = absurd w
draw_opens p next o new c a b e F (summed (adding t (round_claim d n z v))) h w = let k = h.0.first in absurd (cc)
draw_opens p next o new c a b e F (summed (closed cs)) h w = absurd h

-- ---- a draw after a round
abbrev bound_by : ℕ → Ending → Ending
bound_by c e = record e { point = e.point ++ c ∷ [] }

draw_binds : (p q : Proving Zeroed) (e f : Ending) (c : ℕ) → q ≡ record p { left = p.left - 1; lists = map (fold_low c) p.lists } → f ≡ bound_by c e
    → (F : Filling) (t : Zeroed) (r : Rounds) → GoesOn p e F t r → AwaitsDraw (summed_entries zero_sum (adding t r)) → GoesOn q f F t (rounds_draw r c)
draw_binds p q e f c a b F t (sum_claim d zero z x) h w = absurd w
draw_binds p q e f c a b F t (sum_claim d (suc n) z x) h w = absurd w
draw_binds p q e f c a b F t (round_claim d n z v) h w = record {
  goes = draw_sets zero_sum zero_form p q c a F t (round_claim d n z v) h.goes w;
  ending = b ∙ ap (bound_by c) h.ending;
  vars = (let l = h.vars in let k = length-append z (c ∷ []) in omega arith);
}

pub draw_goes_on : (now next : ZeroProver) (p q : Proving Zeroed) (c : ℕ) → q ≡ record p { left = p.left - 1; lists = map (fold_low c) p.lists } → next.ending ≡ bound_by c now.ending
    → (F : Filling) (s : Zero) → FollowsSum now (Some p) F s → AwaitsDraw (zero_entries s) → FollowsSum next (Some q) F (zero_draw s c)
draw_goes_on now next p q c a b F (waiting g) h w = absurd h
draw_goes_on now next p q c a b F (stated g) h w = absurd h
draw_goes_on now next p q c a b F (vector g m z n) h w = absurd h
draw_goes_on now next p q c a b F (summed (adding t r)) h w = draw_binds p q now.ending next.ending c a b F t r h w
draw_goes_on now next p q c a b F (summed (closed cs)) h w = absurd w

-- ---- a message
-- what `give` says
abbrev pub Gives : Proving Zeroed → Ending → Proving Zeroed → Ending → List ℕ → List ℕ → Type 0
Gives p e q f old new = (F : Filling) (t : Zeroed) (r : Rounds) → GoesOn p e F t r → AwaitsSome (summed_entries zero_sum (adding t r))
    → (new ≡ old ++ summed_honest zero_sum F (adding t r)) × FollowsEnd q f F (summed_message zero_sum (adding t r) (summed_honest zero_sum F (adding t r)))

-- a round
pub round_gives : (p q : Proving Zeroed) (e : Ending) (old new : List ℕ) → 0 < p.left → ((n : ℕ) → p.left ≡ suc n → new ≡ old ++ true_round (sum_of zero_form p) p.degree n []) → q ≡ p → Gives p e q e old new
round_gives p q e old new l o a F t (sum_claim d zero z c) h w = let k = h.goes.left in absurd (omega arith)
round_gives p q e old new l o a F t (sum_claim d (suc n) z c) h w =
    let v = true_round (zeroed_sum F t) d n z in (
      o n h.goes.left ∙ ap (λ v. old ++ v) (goes_round zero_form p (zeroed_sum F t) d n z c h.goes),
      record {
        goes = goes_passed zero_form q (zeroed_sum F t) d n z c v (subst (λ q. Goes zero_form q (zeroed_sum F t) (sum_claim d (suc n) z c)) (sym a) h.goes);
        ending = h.ending;
        vars = h.vars;
      },
    )
round_gives p q e old new l o a F t (round_claim d n z v) h w = absurd w

-- the last message
first_values : (z : List ℕ) (lists : List (List ℕ)) → AllLong (2 ^ length z) lists → row (map (fold_all z) lists) 0 ≡ map (λ list. extension list z) lists
first_values z [] h = refl
first_values z (list ∷ lists) h = (λ i. last_value list z h.0 i ∷ first_values z lists h.1 i)

last_values : (p : Proving Zeroed) (F : Filling) (t : Zeroed) (d c : ℕ) (z finals : List ℕ) → Goes zero_form p (zeroed_sum F t) (sum_claim d zero z c) → finals ≡ row p.lists 0
    → finals ≡ map (λ list. extension list z) (zeroed_sum F t).lists
last_values p F t d c z finals h e =
    let k : length z + 0 ≡ length z = omega arith in
    e ∙ ap (λ ls. row ls 0) h.lists ∙ first_values z (zeroed_sum F t).lists (subst (λ m. AllLong (2 ^ m) (zeroed_sum F t).lists) k h.long)

pub final_gives : (p q : Proving Zeroed) (e f : Ending) (old new finals values : List ℕ) → p.left ≡ 0 → finals ≡ row p.lists 0 → values ≡ drop 2 finals → new ≡ old ++ values → f ≡ record e { claims = column_claims e.table e.point e.columns values }
    → Gives p e q f old new
final_gives p q e f old new finals values l a g o b F t (sum_claim d (suc n) z c) h w = let k = h.goes.left in absurd (omega arith)
final_gives p q e f old new finals values l a g o b F t (round_claim d n z v) h w = absurd w
final_gives p q e f old new finals values l a g o b F t (sum_claim d zero z c) h w =
    let v = g ∙ ap (drop 2) (last_values p F t d c z finals h.goes a) in (
      o ∙ ap (λ w. old ++ w) v,
      record {
        told = ap (λ (x : Ending). x.claims) b ∙ (λ i. column_claims (h.ending i).table (h.ending i).point (h.ending i).columns (v i));
        hold = claims_told F t.group.table z t.group.columns;
      },
    )
