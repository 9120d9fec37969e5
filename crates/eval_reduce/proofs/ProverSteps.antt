-- Steps of the prover.
use Rattle.std.proofs.Common.{◌≡◌, ℕ, zero, suc, ◌+◌, ◌-◌, ◌^◌, ◌<◌, ◌≤◌, Option, Some, None, List, [], ◌∷◌, ◌++◌, map, length, drop, get_or, bit_xor, refl, sym, ◌∙◌, ap, subst, arith, append-nil}
use Rattle.std.specs.List.{AllByRecursion}
use Rattle.tower_laws.specs.Tower.{mul}
use Rattle.tower_laws.specs.Lists.{sums}
use Rattle.cube_laws.specs.Extension.{extension, weights, fold_low}
use Rattle.cube_laws.specs.Sums.{tabulate}
use Rattle.cube_laws.specs.SumClaim.{AllLong}
use Rattle.cube_laws.proofs.Folding.{length-weights}
use Rattle.batch_laws.specs.Batch.{batched}
use Rattle.batch_laws.proofs.Batching.{length-batched, long_weights}
use Rattle.sumcheck.specs.declared.column_claim.ColumnClaim.{ColumnClaim}
use Rattle.sumcheck.specs.declared.summand.Pair.{Pair}
use Rattle.sumcheck.specs.Machine.{Filling, AwaitsSome, AwaitsDraw}
use Rattle.sumcheck.specs.Rounds.{Rounds, sum_claim, round_claim, with_claim, claimed}
use Rattle.sumcheck.specs.Summing.{adding, closed}
use Rattle.sumcheck.specs.Proving.{Proving, Goes}
use Rattle.sumcheck.specs.Pair.{pair_form}
use Rattle.list_laws.proofs.Lists.{drop_here}
use Rattle.sumcheck.proofs.Following.{goes_last, goes_first, draw_left}
use Rattle.eval_reduce.specs.Ending.{CanTell, Ending, Gives, GoesOn, Tells, drawn, second}
use Rattle.eval_reduce.specs.Merge.{AllOn, Merge, merged, waiting, opening, summed, Joined, joined_sum, merge_sum, points, merge_entries, merge_draw, merge_message, merge_honest}
use Rattle.eval_reduce.specs.declared.merge_prover.MergeProver.{MergeProver}
use Rattle.eval_reduce.specs.Following.{Ready, Follows, FollowsSum, IsNew, on_column}
use Rattle.eval_reduce.proofs.EndingSteps.{CanSet, can_set, can_tell, draw_kept, last_told, round_passes}

pub tabulate_sums : (m : ℕ) (xs ys : List ℕ) → length ys ≡ length xs → tabulate (length ys) (λ j. bit_xor (get_or xs j 0) (mul m (get_or ys j 0))) ≡ sums xs (map (mul m) ys)
tabulate_sums m [] [] l = refl
tabulate_sums m [] (y ∷ ys) l = absurd (omega arith)
tabulate_sums m (x ∷ xs) [] l = absurd (omega arith)
tabulate_sums m (x ∷ xs) (y ∷ ys) l = ap (λ w. bit_xor x (mul m y) ∷ w) (tabulate_sums m xs ys (omega arith))

-- a list of which each value was set in turn
pub map_end : (i : ℕ) (g : ℕ → ℕ → ℕ) (old new : List ℕ) → length old ≤ i → length new ≡ length old → ((j : ℕ) → j < i → get_or new j 0 ≡ g j (get_or old j 0)) → new ≡ tabulate (length old) (λ j. g j (get_or old j 0))
map_end i g [] [] l e d = refl
map_end i g [] (y ∷ ys) l e d = absurd (omega arith)
map_end i g (x ∷ xs) [] l e d = absurd (omega arith)
map_end i g (x ∷ xs) (y ∷ ys) l e d =
    (λ k. d 0 (omega arith) k ∷ map_end (i - 1) (λ j. g (suc j)) xs ys (omega arith) (omega arith) (λ j m. d (suc j) (omega arith)) k)

-- ---- lists that grow
pub pushed : (n v : ℕ) (f : ℕ → ℕ) (old new : List ℕ) → old ≡ tabulate n f → new ≡ old ++ v ∷ [] → v ≡ f n → new ≡ tabulate (n + 1) f
pushed n v f old new h e q = e ∙ ap (λ l. l ++ v ∷ []) h ∙ more n v f q
  where
    more : (n v : ℕ) (f : ℕ → ℕ) → v ≡ f n → tabulate n f ++ v ∷ [] ≡ tabulate (n + 1) f
    more zero v f h = ap (λ w. w ∷ []) h
    more (suc n) v f h = let e : suc n + 1 ≡ suc (n + 1) = omega arith in ap (λ l. f 0 ∷ l) (more n v (λ k. f (suc k)) h) ∙ ap (λ k. tabulate k f) (sym e)

-- ---- tables of one length
long_drop : (n k : ℕ) (cs : List ColumnClaim) → AllLong n (points cs) → AllLong n (points (drop k cs))
long_drop n zero cs h = h
long_drop n (suc k) [] h = h
long_drop n (suc k) (c ∷ cs) h = long_drop n k cs h.1

long_point : (n i : ℕ) (cs : List ColumnClaim) (c : ColumnClaim) → AllLong n (points cs) → i < length cs → c ≡ get_or cs i c → length c.point ≡ n
long_point n i [] c h l e = absurd (omega arith)
long_point n zero (d ∷ cs) c h l e = ap (λ (c : ColumnClaim). length c.point) e ∙ h.0
long_point n (suc i) (d ∷ cs) c h l e = long_point n i cs c h.1 (omega arith) e

pub batch_long : (n m i k : ℕ) (cs : List ColumnClaim) (c : ColumnClaim) (table cells : List ℕ) → AllLong n (points cs) → i < length cs → c ≡ get_or cs i c → table ≡ weights c.point → cells ≡ batched (2 ^ n) m (map weights (points (drop k cs)))
    → length table ≡ length cells
batch_long n m i k cs c table cells h l e a b =
    ap length a ∙ length-weights c.point ∙ ap (λ n. 2 ^ n) (long_point n i cs c h l e)
    ∙ sym (ap length b ∙ length-batched (2 ^ n) m (map weights (points (drop k cs))) (long_weights n (points (drop k cs)) (long_drop n k cs h)))

pub batch_more : (n m i k : ℕ) (cs : List ColumnClaim) (c : ColumnClaim) (table cells next : List ℕ) → i < length cs → k ≡ i + 1 → c ≡ get_or cs i c → table ≡ weights c.point → cells ≡ batched (2 ^ n) m (map weights (points (drop k cs)))
    → next ≡ sums table (map (mul m) cells) → next ≡ batched (2 ^ n) m (map weights (points (drop i cs)))
batch_more n m i k cs c table cells next l e g a b d =
    d ∙ (λ j. sums (a j) (map (mul m) (b j))) ∙ sym (ap (λ l. batched (2 ^ n) m (map weights (points l))) (drop_here cs i c l g ∙ ap (λ k. c ∷ drop k cs) (sym e)))

pub two_long : (n m : ℕ) (cs : List ColumnClaim) (a b : List ℕ) (ts : List (List ℕ)) → AllLong n (points cs) → a ≡ batched (2 ^ n) m (map weights (points cs)) → length b ≡ 2 ^ n → ts ≡ a ∷ b ∷ [] → AllLong (2 ^ n) ts
two_long n m cs a b ts h e l t = rw t (ap length e ∙ length-batched (2 ^ n) m (map weights (points cs)) (long_weights n (points cs) h), (l, tt))

-- ---- what follows
pub record Facts (p : MergeProver) : Type 0 where
  pub few : p.vars ≤ 32
  pub placed : AllLong p.vars (points p.claims.items)
  pub whole : length p.column.items ≡ 2 ^ p.vars
  pub drawn : (x : ℕ) × (p.mu ≡ Some x)

ready_facts : (p : MergeProver) (x : ℕ) (F : Filling) (t k n : ℕ) (at : List (List ℕ)) → p.mu ≡ Some x → Ready p F t k n at → Facts p
ready_facts p x F t k n at m h = record {
  few = h.few;
  placed = subst (λ n. AllLong n (points p.claims.items)) (sym h.all) (subst (λ ps. AllLong n ps) (sym h.at) h.placed);
  whole = ap length h.held ∙ h.whole ∙ ap (λ n. 2 ^ n) (sym h.all);
  drawn = (x, m);
}

pub start_facts : (p : MergeProver) (F : Filling) (s : Merge) → FollowsSum p None F s → AwaitsSome (merge_entries s) → Facts p
start_facts p F (waiting n o) h w = absurd h
start_facts p F (opening t k n cs) h w = absurd w
start_facts p F (summed (adding j r)) h w = ready_facts p j.mu F j.table j.column j.vars (points j.claims) h.0.0 h.1
start_facts p F (summed (closed c)) h w = absurd h

abbrev pub begun : ℕ → List ColumnClaim → ℕ → List ℕ → Proving Pair
begun vars claims mu cells = record { summand = record {}; degree = 2; left = vars; lists = batched (2 ^ vars) mu (map weights (points claims)) ∷ cells ∷ [] }

claimed_is : (n : ℕ) (r : Rounds) → with_claim 0 r ≡ sum_claim 2 n [] 0 → r ≡ sum_claim 2 n [] (claimed r)
claimed_is n (sum_claim d m z c) h = let a : d ≡ 2 = cc in let b : m ≡ n = cc in let e : z ≡ [] = cc in cc
claimed_is n (round_claim d m z v) h = absurd (cc)

from_none : (n : ℕ) → 0 + n ≡ n
from_none n = omega arith

start_goes : (p : MergeProver) (mu : ℕ) (F : Filling) (j : Joined) (c : ℕ) → mu ≡ j.mu → Ready p F j.table j.column j.vars (points j.claims) → Goes pair_form (begun p.vars p.claims.items mu p.column.items) (joined_sum F j) (sum_claim 2 j.vars [] c)
start_goes p mu F j c e h =
    goes_first pair_form (begun p.vars p.claims.items mu p.column.items) (joined_sum F j) 2 j.vars c refl refl h.all
    (λ i. batched (2 ^ h.all i) (e i) (map weights (h.at i)) ∷ h.held i ∷ [])
    (length-batched (2 ^ j.vars) j.mu (map weights (points j.claims)) (long_weights j.vars (points j.claims) h.placed), (h.whole, tt))

same_draw : (x y : ℕ) (o : Option ℕ) → o ≡ Some x → o ≡ Some y → x ≡ y
same_draw x y o a b = let e : Some x ≡ Some y = sym a ∙ b in cc

pub start_follows : (p next : MergeProver) (mu : ℕ) (q : Proving Pair) → p.mu ≡ Some mu → next.ending ≡ p.ending → q ≡ begun p.vars p.claims.items mu p.column.items → (F : Filling) (s : Merge)
    → FollowsSum p None F s → AwaitsSome (merge_entries s) → FollowsSum next (Some q) F s
start_follows p next mu q m n e F (waiting v o) h w = absurd h
start_follows p next mu q m n e F (opening t k v cs) h w = absurd w
start_follows p next mu q m n e F (summed (closed c)) h w = absurd w
start_follows p next mu q m n e F (summed (adding j r)) h w =
    subst (λ q. GoesOn q next.ending (joined_sum F j) (on_column j) j.vars r) (sym e)
    (subst (GoesOn (begun p.vars p.claims.items mu p.column.items) next.ending (joined_sum F j) (on_column j) j.vars) (sym (claimed_is j.vars r h.0.1))
    (record { goes = start_goes p mu F j (claimed r) (same_draw mu j.mu p.mu m h.0.0) h.1; ending = n ∙ h.1.ending; vars = from_none j.vars }))

-- ---- a draw
pub draw_begins : (p next : MergeProver) (x : ℕ) → next ≡ record p { mu = Some x } → (F : Filling) (s : Merge) → FollowsSum p None F s → AwaitsDraw (merge_entries s) → FollowsSum next None F (merge_draw s x)
draw_begins p next x e F (waiting n o) h w = absurd h
draw_begins p next x e F (opening t k n cs) h w =
    subst (λ q. FollowsSum q None F (merge_draw (opening t k n cs) x)) (sym e)
    ((refl, refl), record { few = h.few; all = h.all; at = h.at; placed = h.placed; held = h.held; whole = h.whole; ending = h.ending })
draw_begins p next x e F (summed (adding j (sum_claim d zero z c))) h w = absurd w
draw_begins p next x e F (summed (adding j (sum_claim d (suc n) z c))) h w = absurd w
draw_begins p next x e F (summed (adding j (round_claim d n z v))) h w = let e = h.0.1 in absurd (cc)
draw_begins p next x e F (summed (closed c)) h w = absurd h

pub draw_goes_on : (now next : MergeProver) (p q : Proving Pair) (x : ℕ) → q ≡ record p { left = p.left - 1; lists = map (fold_low x) p.lists } → next.ending ≡ drawn now.ending (now.ending.draws ++ x ∷ [])
    → (F : Filling) (s : Merge) → FollowsSum now (Some p) F s → AwaitsDraw (merge_entries s) → FollowsSum next (Some q) F (merge_draw s x)
draw_goes_on now next p q x a b F (waiting n o) h w = absurd h
draw_goes_on now next p q x a b F (opening t k n cs) h w = absurd h
draw_goes_on now next p q x a b F (summed (adding j r)) h w = draw_kept merge_sum p q now.ending next.ending (on_column j) j.vars x a b F j r h w
draw_goes_on now next p q x a b F (summed (closed c)) h w = absurd w

pub draw_possible : (now : MergeProver) (p : Proving Pair) (F : Filling) (s : Merge) → FollowsSum now (Some p) F s → AwaitsDraw (merge_entries s) → (0 < p.left) × CanSet now.ending
draw_possible now p F (waiting n o) h w = absurd h
draw_possible now p F (opening t k n cs) h w = absurd h
draw_possible now p F (summed (adding j r)) h w = (draw_left merge_sum pair_form p F j r h.goes w, can_set merge_sum p now.ending (on_column j) (joined_sum F j) j.vars j r refl (omega arith) h w)
draw_possible now p F (summed (closed c)) h w = absurd w

-- ---- a message
pub record CanGive (now : MergeProver) (p : Proving Pair) : Type 0 where
  pub two : length p.lists ≡ 2
  pub tells : p.left ≡ 0 → CanTell now.ending []

pub can_give : (now : MergeProver) (p : Proving Pair) (F : Filling) (s : Merge) → FollowsSum now (Some p) F s → AwaitsSome (merge_entries s) → CanGive now p
can_give now p F (waiting n o) h w = absurd h
can_give now p F (opening t k n cs) h w = absurd h
can_give now p F (summed (adding j r)) h w = record { two = ap length h.goes.lists; tells = can_tell p now.ending (on_column j) (joined_sum F j) j.vars [] r refl (omega arith) h }
can_give now p F (summed (closed c)) h w = absurd w

-- the second table's value is the column's extension
column_value : (F : Filling) (p : Proving Pair) (j : Joined) (d : ℕ) (z : List ℕ) (c : ℕ) → Goes pair_form p (joined_sum F j) (sum_claim d zero z c) → second p ≡ extension (F j.table j.column) z
column_value F p j d z c h = goes_last pair_form p (joined_sum F j) d 1 z c (omega arith) h

pub message_values : (now next : MergeProver) (p : Proving Pair) (old new : List ℕ) → Gives p [] now.ending next.ending old new
    → (F : Filling) (s : Merge) → FollowsSum now (Some p) F s → AwaitsSome (merge_entries s) → new ≡ old ++ merge_honest F s
message_values now next p old new g F (waiting n o) h w = absurd h
message_values now next p old new g F (opening t k n cs) h w = absurd h
message_values now next p old new g F (summed (closed c)) h w = absurd w
message_values now next p old new g F (summed (adding j (sum_claim d zero z c))) h w =
    (last_told p [] now.ending next.ending (on_column j) old new (joined_sum F j) j.vars d z c (extension (F j.table j.column) z) g h (column_value F p j d z c h.goes)).0
message_values now next p old new g F (summed (adding j (sum_claim d (suc n) z c))) h w = (round_passes p [] now.ending next.ending (on_column j) old new (joined_sum F j) j.vars d n z c g h).0
message_values now next p old new g F (summed (adding j (round_claim d n z v))) h w = absurd w

pub message_follows : (now next : MergeProver) (p : Proving Pair) (old new : List ℕ) → Gives p [] now.ending next.ending old new
    → (F : Filling) (s : Merge) → FollowsSum now (Some p) F s → AwaitsSome (merge_entries s) → FollowsSum next (Some p) F (merge_message s (merge_honest F s))
message_follows now next p old new g F (waiting n o) h w = absurd h
message_follows now next p old new g F (opening t k n cs) h w = absurd h
message_follows now next p old new g F (summed (closed c)) h w = absurd w
message_follows now next p old new g F (summed (adding j (sum_claim d zero z c))) h w =
    let v = extension (F j.table j.column) z in
    let k = last_told p [] now.ending next.ending (on_column j) old new (joined_sum F j) j.vars d z c v g h (column_value F p j d z c h.goes) in
    record { told = k.1 ∙ ap (λ z. Some (merged j z v)) (append-nil z); holds = refl }
message_follows now next p old new g F (summed (adding j (sum_claim d (suc n) z c))) h w = (round_passes p [] now.ending next.ending (on_column j) old new (joined_sum F j) j.vars d n z c g h).1
message_follows now next p old new g F (summed (adding j (round_claim d n z v))) h w = absurd w

-- ---- at the end
pub at_end : (p : MergeProver) (q : Option (Proving Pair)) (F : Filling) (c : ColumnClaim) → FollowsSum p q F (summed (closed c)) → Tells p.ending F c
at_end p None F c h = absurd h
at_end p (Some q) F c h = h

-- ---- claims that are entered
pub no_longer : (n m : ℕ) (cs : List ColumnClaim) → m ≡ n → AllLong n (points cs) → AllByRecursion (λ claim. length claim.point ≤ m) cs
no_longer n m [] e h = tt
no_longer n m (c ∷ cs) e h = let a = h.0 in (omega arith, no_longer n m cs e h.1)

pub entered : (p next : MergeProver) (ds : List ColumnClaim) → IsNew p.vars p → next.vars ≡ p.vars → next.column.items ≡ p.column.items → next.sum ≡ None → points next.claims.items ≡ points ds → AllLong p.vars (points ds)
    → ((t k n : ℕ) → 0 < length ds → AllOn t k n ds → next.ending ≡ record p.ending { table = t; column = k })
    → (F : Filling) (t k : ℕ) (cs : List ColumnClaim) → 0 < length ds → AllOn t k p.vars ds → points cs ≡ points ds → F t k ≡ p.column.items → Follows next F (opening t k p.vars cs)
entered p next ds new v l s a long aimed F t k cs some on e f =
    subst (λ o. FollowsSum next o F (opening t k p.vars cs)) (sym s)
    (record {
      few = subst (λ n. n ≤ 32) (sym v) new.few;
      all = v;
      at = a ∙ sym e;
      placed = subst (λ ps. AllLong p.vars ps) (sym e) long;
      held = l ∙ sym f;
      whole = ap length f ∙ new.whole;
      ending = aimed t k p.vars some on ∙ ap (λ (x : Ending). record x { table = t; column = k }) new.ending;
    })
