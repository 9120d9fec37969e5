-- Steps of the prover.
use Rattle.std.proofs.Common.{◌≡◌, ℕ, zero, suc, ◌+◌, ◌-◌, ◌^◌, ◌≤◌, false, is_some, Option, Some, None, List, [], ◌∷◌, ◌++◌, map, length, vec_capacity, refl, sym, ◌∙◌, ap, subst, arith}
use Rattle.std.proofs.lemmas.List.{length-append}
use Rattle.cube_laws.specs.Extension.{extension, fold_low}
use Rattle.cube_laws.specs.SumClaim.{AllLong}
use Rattle.batch_laws.specs.Batch.{batched}
use Rattle.sumcheck.specs.declared.column_claim.ColumnClaim.{ColumnClaim}
use Rattle.sumcheck.specs.declared.summand.Pair.{Pair}
use Rattle.sumcheck.specs.Machine.{Filling, AwaitsSome, AwaitsDraw}
use Rattle.sumcheck.specs.Rounds.{Rounds, sum_claim, round_claim, with_claim, claimed, rounds_draw}
use Rattle.sumcheck.specs.Summing.{adding, closed, summed_entries}
use Rattle.sumcheck.specs.Proving.{Proving, Goes}
use Rattle.sumcheck.specs.Pair.{pair_form}
use Rattle.sumcheck.proofs.Following.{draw_sets, goes_first, goes_last, goes_passed, goes_round}
use Rattle.table_shape.specs.Placement.{Block, places_log}
use Rattle.bit_claim.specs.declared.bit_prover.BitProver.{BitProver}
use Rattle.bit_claim.specs.BatchFollowing.{FollowsBatch, FollowsSum, Gives, GoesOn, IsNew, Ready, places}
use Rattle.bit_claim.specs.BatchSum.{begun, second}
use Rattle.bit_claim.specs.Batching.{Batched, Batching, waiting, opening, summed, batch_sum, batching_draw, batching_entries, batching_honest, batching_message}
use Rattle.bit_claim.specs.Bits.{bits, claim_table}

-- ---- the table of the claims does not depend on their values
tables_of_places : (bs : List Block) (cs : List ColumnClaim) → map (claim_table bs) cs ≡ map (claim_table bs) (places cs)
tables_of_places bs [] = refl
tables_of_places bs (c ∷ cs) = ap (λ l. claim_table bs c ∷ l) (tables_of_places bs cs)

same_tables : (bs : List Block) (cs ds : List ColumnClaim) → places cs ≡ places ds → map (claim_table bs) cs ≡ map (claim_table bs) ds
same_tables bs cs ds e = tables_of_places bs cs ∙ ap (map (claim_table bs)) e ∙ sym (tables_of_places bs ds)

-- ---- what follows
pub none_of : (o : Option (Proving Pair)) → is_some o ≡ false → o ≡ None
none_of None e = refl
none_of (Some q) e = absurd cc

-- the tables of the sum have one length
pub two_long : (n : ℕ) (a b : List ℕ) (ts : List (List ℕ)) → length a ≡ 2 ^ n → length b ≡ 2 ^ n → ts ≡ a ∷ b ∷ [] → AllLong (2 ^ n) ts
two_long n a b ts k l t = rw t (k, (l, tt))

claimed_is : (n : ℕ) (r : Rounds) → with_claim 0 r ≡ sum_claim 2 n [] 0 → r ≡ sum_claim 2 n [] (claimed r)
claimed_is n (sum_claim d m z c) h = let a : d ≡ 2 = cc in let b : m ≡ n = cc in let e : z ≡ [] = cc in cc
claimed_is n (round_claim d m z v) h = absurd (cc)

from_none : (n : ℕ) → 0 + n ≡ n
from_none n = omega arith

start_goes : (p : BitProver) (F : Filling) (t : Batched) (c : ℕ) → p.batched.lambda ≡ t.lambda → Ready p F t.blocks t.claims → AllLong (2 ^ places_log p.batched.blocks) (begun p.batched p.bits).lists
    → Goes pair_form (begun p.batched p.bits) (batch_sum.sum F t) (sum_claim 2 (places_log t.blocks) [] c)
start_goes p F t c e h long =
    let tables = λ (bs : List Block). same_tables bs p.batched.claims t.claims h.claims in
    let lists : (begun p.batched p.bits).lists ≡ (batch_sum.sum F t).lists = (λ i. batched (2 ^ places_log (h.blocks i)) (e i) (map (claim_table (h.blocks i)) p.batched.claims) ∷ h.held i ∷ []) ∙ (λ i. batched (2 ^ places_log t.blocks) t.lambda (tables t.blocks i) ∷ bits F t.blocks ∷ []) in
    goes_first pair_form (begun p.batched p.bits) (batch_sum.sum F t) 2 (places_log t.blocks) c refl refl (ap places_log h.blocks) lists
    (subst (AllLong (2 ^ places_log t.blocks)) lists (subst (λ (bs : List Block). AllLong (2 ^ places_log bs) (begun p.batched p.bits).lists) h.blocks long))

pub start_follows : (p next : BitProver) (q : Proving Pair) → next.draws ≡ p.draws → q ≡ begun p.batched p.bits → AllLong (2 ^ places_log p.batched.blocks) q.lists → (F : Filling) (s : Batching) → FollowsSum p None F s → AwaitsSome (batching_entries s) → FollowsSum next (Some q) F s
start_follows p next q d e long F (waiting bs m) h w = absurd h
start_follows p next q d e long F (opening bs cs) h w = absurd w
start_follows p next q d e long F (summed (closed b)) h w = absurd h
start_follows p next q d e long F (summed (adding t r)) h w =
    subst (λ q. GoesOn next q F t r) (sym e)
    (subst (GoesOn next (begun p.batched p.bits) F t) (sym (claimed_is (places_log t.blocks) r h.0.1))
    (record {
      goes = start_goes p F t (claimed r) h.0.0 h.1 (subst (λ q. AllLong (2 ^ places_log p.batched.blocks) q.lists) e long);
      draws = ap (λ v. v.items) d ∙ h.1.draws;
      vars = from_none (places_log t.blocks);
      memory = subst (λ v. places_log t.blocks ≤ vec_capacity v) (sym d) h.1.memory;
    }))

-- ---- a draw
pub draw_begins : (p next : BitProver) (x : ℕ) → next ≡ record p { batched = record p.batched { lambda = x } } → (F : Filling) (s : Batching) → FollowsSum p None F s → AwaitsDraw (batching_entries s) → FollowsSum next None F (batching_draw s x)
draw_begins p next x e F (waiting bs m) h w = absurd h
draw_begins p next x e F (opening bs cs) h w =
    subst (λ q. FollowsSum q None F (batching_draw (opening bs cs) x)) (sym e)
    ((refl, refl), record { blocks = h.blocks; claims = h.claims; held = h.held; whole = h.whole; draws = h.draws; memory = h.memory })
draw_begins p next x e F (summed (adding t (sum_claim d zero z c))) h w = absurd w
draw_begins p next x e F (summed (adding t (sum_claim d (suc n) z c))) h w = absurd w
draw_begins p next x e F (summed (adding t (round_claim d n z v))) h w = let e = h.0.1 in absurd (cc)
draw_begins p next x e F (summed (closed b)) h w = absurd h

on_kept : (now next : BitProver) (p q : Proving Pair) (x : ℕ) → q ≡ record p { left = p.left - 1; lists = map (fold_low x) p.lists } → next.draws.items ≡ now.draws.items ++ x ∷ [] → vec_capacity now.draws ≤ vec_capacity next.draws
    → (F : Filling) (t : Batched) (r : Rounds) → GoesOn now p F t r → AwaitsDraw (summed_entries batch_sum (adding t r)) → GoesOn next q F t (rounds_draw r x)
on_kept now next p q x a b room F t (sum_claim d zero z c) h w = absurd w
on_kept now next p q x a b room F t (sum_claim d (suc m) z c) h w = absurd w
on_kept now next p q x a b room F t (round_claim d m z v) h w =
    let l = h.vars in
    let k = length-append z (x ∷ []) in
    record {
      goes = draw_sets batch_sum pair_form p q x a F t (round_claim d m z v) h.goes w;
      draws = b ∙ ap (λ y. y ++ x ∷ []) h.draws;
      vars = omega (arith, l, k);
      memory = omega (arith, room, h.memory);
    }

pub draw_goes_on : (now next : BitProver) (p q : Proving Pair) (x : ℕ) → q ≡ record p { left = p.left - 1; lists = map (fold_low x) p.lists } → next.draws.items ≡ now.draws.items ++ x ∷ [] → vec_capacity now.draws ≤ vec_capacity next.draws
    → (F : Filling) (s : Batching) → FollowsSum now (Some p) F s → AwaitsDraw (batching_entries s) → FollowsSum next (Some q) F (batching_draw s x)
draw_goes_on now next p q x a b room F (waiting bs m) h w = absurd h
draw_goes_on now next p q x a b room F (opening bs cs) h w = absurd h
draw_goes_on now next p q x a b room F (summed (adding t r)) h w = on_kept now next p q x a b room F t r h w
draw_goes_on now next p q x a b room F (summed (closed c)) h w = absurd w

-- ---- a message
-- the second table's value is the extension of the bits
bits_value : (F : Filling) (p : Proving Pair) (t : Batched) (d : ℕ) (z : List ℕ) (c : ℕ) → Goes pair_form p (batch_sum.sum F t) (sum_claim d zero z c) → second p ≡ extension (bits F t.blocks) z
bits_value F p t d z c h = goes_last pair_form p (batch_sum.sum F t) d 1 z c (omega arith) h

-- the value that is told, or the old one
abbrev pub kept : Option ℕ → ℕ → ℕ
kept None v = v
kept (Some w) v = w

pub message_values : (now : BitProver) (p : Proving Pair) (told : Option ℕ) (old new : List ℕ) → Gives p told old new → (F : Filling) (s : Batching) → FollowsSum now (Some p) F s → AwaitsSome (batching_entries s) → new ≡ old ++ batching_honest F s
message_values now p told old new g F (waiting bs m) h w = absurd h
message_values now p told old new g F (opening bs cs) h w = absurd h
message_values now p told old new g F (summed (closed c)) h w = absurd w
message_values now p told old new g F (summed (adding t (sum_claim d zero z c))) h w = (g.last h.goes.left).0 ∙ ap (λ v. old ++ v ∷ []) (bits_value F p t d z c h.goes)
message_values now p told old new g F (summed (adding t (sum_claim d (suc n) z c))) h w = (g.round n h.goes.left).0 ∙ ap (λ v. old ++ v) (goes_round pair_form p (batch_sum.sum F t) d n z c h.goes)
message_values now p told old new g F (summed (adding t (round_claim d n z v))) h w = absurd w

pub message_follows : (now next : BitProver) (p : Proving Pair) (told : Option ℕ) (old new : List ℕ) → Gives p told old new → next.draws ≡ now.draws → next.value ≡ kept told now.value
    → (F : Filling) (s : Batching) → FollowsSum now (Some p) F s → AwaitsSome (batching_entries s) → FollowsSum next (Some p) F (batching_message s (batching_honest F s))
message_follows now next p told old new g e v F (waiting bs m) h w = absurd h
message_follows now next p told old new g e v F (opening bs cs) h w = absurd h
message_follows now next p told old new g e v F (summed (closed c)) h w = absurd w
message_follows now next p told old new g e v F (summed (adding t (sum_claim d zero z c))) h w =
    record { point = ap (λ l. l.items) e ∙ h.draws; value = v ∙ ap (λ o. kept o now.value) (g.last h.goes.left).1 ∙ bits_value F p t d z c h.goes; holds = refl }
message_follows now next p told old new g e v F (summed (adding t (sum_claim d (suc n) z c))) h w =
    record {
      goes = goes_passed pair_form p (batch_sum.sum F t) d n z c (batching_honest F (summed (adding t (sum_claim d (suc n) z c)))) h.goes;
      draws = ap (λ l. l.items) e ∙ h.draws;
      vars = h.vars;
      memory = subst (λ l. places_log t.blocks ≤ vec_capacity l) (sym e) h.memory;
    }
message_follows now next p told old new g e v F (summed (adding t (round_claim d n z u))) h w = absurd w

-- ---- claims that are entered
pub entered : (p next : BitProver) (bs : List Block) (ds : List ColumnClaim) → IsNew bs p → next.batched ≡ record p.batched { claims = ds } → next.bits ≡ p.bits → next.sum ≡ p.sum → next.draws ≡ p.draws
    → (F : Filling) (cs : List ColumnClaim) → places cs ≡ places ds → bits F bs ≡ p.bits → FollowsBatch next F (opening bs cs)
entered p next bs ds new b l s d F cs at held =
    subst (λ o. FollowsSum next o F (opening bs cs)) (sym (s ∙ new.none))
    (record {
      blocks = ap (λ (t : Batched). t.blocks) b ∙ new.blocks;
      claims = ap (λ (t : Batched). places t.claims) b ∙ sym at;
      held = l ∙ sym held;
      whole = ap length held ∙ new.whole;
      draws = ap (λ v. v.items) d ∙ new.draws;
      memory = subst (λ v. places_log bs ≤ vec_capacity v) (sym d) new.memory;
    })
