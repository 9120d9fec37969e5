-- Steps of the prover of a packed column.
use Rattle.std.proofs.Common.{◌≡◌, ◌∙◌, ℕ, zero, suc, ◌+◌, ◌*◌, ◌%◌, ◌^◌, ◌<◌, ◌≤◌, List, [], ◌∷◌, ◌++◌, Some, length, slice_index, refl, sym, ap, arith, length-append}
use Rattle.std.proofs.lemmas.Nat.{pow_pos, pow-add}
use Rattle.cube_laws.specs.Extension.{fold_all, fold_low}
use Rattle.cube_laws.proofs.Coordinates.{fold_all-last, length-fold_all}
use Rattle.sumcheck.specs.declared.column_claim.ColumnClaim.{ColumnClaim}
use Rattle.sumcheck.specs.Machine.{AwaitsDraw, AwaitsSome, Filling}
use Rattle.eval_reduce.specs.declared.pack_prover.PackProver.{PackProver}
use Rattle.eval_reduce.specs.declared.packing.Packing.{Packing}
use Rattle.eval_reduce.specs.Ending.{CanTell, Ending, drawn, told_claim}
use Rattle.eval_reduce.specs.Pack.{Pack, closed, corner_values, listed, listing, pack_draw, pack_entries, pack_honest, pack_message, stated, waiting}
use Rattle.eval_reduce.specs.Provers.{FollowsPack, HoldsSource, HoldsValues, IsNewPacker, on_source}
use Rattle.eval_reduce.proofs.EndingSteps.{CanSet}
use Rattle.eval_reduce.proofs.PackLaws.{all_set, length-corners}

-- ---- a claim that is entered
pub packer_entered : (p next : PackProver) (z : List ℕ) → IsNewPacker p → next ≡ record p { point = next.point } → next.point.items ≡ p.point.items ++ z → length z ≡ p.packing.vars
    → (F : Filling) (c : ColumnClaim) → c.point ≡ z → F p.packing.table p.packing.source ≡ p.source.items → length p.source.items ≡ 2 ^ (p.packing.log + p.packing.vars) → FollowsPack next F (stated p.packing c)
packer_entered p next z new n e l F c cp f long =
    let same = ap (λ (q : PackProver). q.packing) n in
    let small = new.small in
    let log = ap (λ (k : Packing). k.log) same in
    record {
      small = omega arith;
      same = same;
      source = ap (λ (q : PackProver). q.source.items) n ∙ sym f;
      at = e ∙ ap (λ v. v ++ z) new.empty ∙ sym cp;
      all = ap length cp ∙ l;
      long = ap length f ∙ long;
      ending = ap (λ (q : PackProver). q.ending) n ∙ new.ending;
    }

-- ---- the true values at the corners
true_length : (F : Filling) (f : Packing) (z prefix v : List ℕ) (n : ℕ) → length prefix + n ≡ f.log → fold_all prefix (corner_values (F f.table f.source) f.log z) ≡ v → length v ≡ 2 ^ n
true_length F f z prefix v n l e =
    let k : f.log ≡ n + length prefix = omega arith in
    ap length (sym e) ∙ length-fold_all (2 ^ n) prefix (corner_values (F f.table f.source) f.log z) (length-corners (F f.table f.source) f.log z ∙ ap (λ k. 2 ^ k) k ∙ pow-add 2 n (length prefix))

-- the prover with n draws to come
pub follows_listing : (next : PackProver) (e : Ending) (F : Filling) (f : Packing) (z prefix v : List ℕ) (n : ℕ) → e ≡ drawn (on_source f) prefix → next.point.items ≡ z → length z ≡ f.vars → length prefix + n ≡ f.log → next.values.items ≡ v
    → fold_all prefix (corner_values (F f.table f.source) f.log z) ≡ v → (length v ≡ 1 → next.ending.claim ≡ Some (told_claim e z (slice_index v 0))) → (1 < length v → next.ending ≡ e) → FollowsPack next F (listing f z prefix v n)
follows_listing next e F f z prefix v zero d a s l w t told kept = record {
  told = told (true_length F f z prefix v zero l t) ∙ ap (λ (x : Ending). Some (told_claim x z (slice_index v 0))) d;
  holds = ap (λ t. slice_index t 0) (sym (all_set F f z prefix (omega arith)) ∙ t);
}
follows_listing next e F f z prefix v (suc n) d a s l w t told kept =
    let long = true_length F f z prefix v (suc n) l t in
    let p : 2 ^ suc n ≡ 2 * 2 ^ n = omega arith in
    let z : 0 < 2 ^ n = pow_pos n in
    record { at = a; all = s; ending = kept (omega arith) ∙ d; left = l; values = w; folded = t }

-- ---- the message
pub record CanList (p : PackProver) : Type 0 where
  pub small : p.packing.log ≤ 7
  pub whole : length p.source.items ≡ 2 ^ (p.packing.log + length p.point.items)
  pub tells : CanTell p.ending p.point.items

source_held : (p : PackProver) (F : Filling) (f : Packing) (claim : ColumnClaim) → HoldsSource p F f claim → CanList p
source_held p F f claim h =
    let log = ap (λ (k : Packing). k.log) h.same in
    let at = ap length h.at in
    let all = h.all in
    let k : f.log + f.vars ≡ p.packing.log + length p.point.items = omega arith in
    let vars = ap (λ (x : Ending). x.vars) h.ending in
    let none = ap (λ (x : Ending). length x.draws) h.ending in
    record {
      small = h.small;
      whole = ap length h.source ∙ h.long ∙ ap (λ n. 2 ^ n) k;
      tells = record { none = ap (λ (x : Ending). x.claim) h.ending; short = omega arith };
    }

pub list_facts : (p : PackProver) (F : Filling) (s : Pack) → FollowsPack p F s → AwaitsSome (pack_entries s) → CanList p
list_facts p F (waiting f) h w = absurd h
list_facts p F (stated f claim) h w = source_held p F f claim h
list_facts p F (listed f z prefix v n) h w = absurd w
list_facts p F (closed claim) h w = absurd w

corners_are : (p : PackProver) (F : Filling) (f : Packing) (claim : ColumnClaim) → HoldsSource p F f claim → corner_values p.source.items p.packing.log p.point.items ≡ corner_values (F f.table f.source) f.log claim.point
corners_are p F f claim h = (λ i. corner_values (h.source i) (h.same i).log (h.at i))

pub message_values : (p : PackProver) (old new : List ℕ) → new ≡ old ++ corner_values p.source.items p.packing.log p.point.items → (F : Filling) (s : Pack) → FollowsPack p F s → AwaitsSome (pack_entries s) → new ≡ old ++ pack_honest F s
message_values p old new g F (waiting f) h w = absurd h
message_values p old new g F (stated f claim) h w = g ∙ ap (λ v. old ++ v) (corners_are p F f claim h)
message_values p old new g F (listed f z prefix v n) h w = absurd w
message_values p old new g F (closed claim) h w = absurd w

-- what is told once one value is left
pub record TellsWhenSet (e f : Ending) (z v : List ℕ) : Type 0 where
  pub told : length v ≡ 1 → f.claim ≡ Some (told_claim e z (slice_index v 0))
  pub kept : 1 < length v → f ≡ e

from_none : (n : ℕ) → 0 + n ≡ n
from_none n = omega arith

list_follows : (p next : PackProver) (v : List ℕ) → v ≡ corner_values p.source.items p.packing.log p.point.items → next ≡ record p { values = next.values; ending = next.ending } → next.values.items ≡ v → TellsWhenSet p.ending next.ending p.point.items v
    → (F : Filling) (f : Packing) (claim : ColumnClaim) → HoldsSource p F f claim → (z w : List ℕ) → p.point.items ≡ z → v ≡ w → z ≡ claim.point → w ≡ corner_values (F f.table f.source) f.log claim.point → FollowsPack next F (listing f z [] w f.log)
list_follows p next v c n k t F f claim h z w a b zc wc =
    follows_listing next p.ending F f z [] w f.log h.ending (ap (λ (q : PackProver). q.point.items) n ∙ a) (ap length zc ∙ h.all) (from_none f.log) (k ∙ b)
    (ap (corner_values (F f.table f.source) f.log) zc ∙ sym wc)
    (λ l. t.told (ap length b ∙ l) ∙ (λ i. Some (told_claim p.ending (a i) (slice_index (b i) 0))))
    (λ l. t.kept (let x = ap length b in omega arith))

pub message_follows : (p next : PackProver) (v : List ℕ) → v ≡ corner_values p.source.items p.packing.log p.point.items → next ≡ record p { values = next.values; ending = next.ending } → next.values.items ≡ v → TellsWhenSet p.ending next.ending p.point.items v
    → (F : Filling) (s : Pack) → FollowsPack p F s → AwaitsSome (pack_entries s) → FollowsPack next F (pack_message s (pack_honest F s))
message_follows p next v c n k t F (waiting f) h w = absurd h
message_follows p next v c n k t F (listed f z prefix u m) h w = absurd w
message_follows p next v c n k t F (closed claim) h w = absurd w
message_follows p next v c n k t F (stated f claim) h w =
    list_follows p next v c n k t F f claim h claim.point (corner_values (F f.table f.source) f.log claim.point) h.at (c ∙ corners_are p F f claim h) refl refl

-- ---- a draw
pub record CanFold (p : PackProver) : Type 0 where
  pub set : CanSet p.ending
  pub some : 0 < length p.values.items
  pub even : length p.values.items % 2 ≡ 0

values_held : (p : PackProver) (F : Filling) (f : Packing) (z prefix v : List ℕ) (n : ℕ) → HoldsValues p F f z prefix v (suc n) → CanFold p
values_held p F f z prefix v n h =
    let long = ap length h.values ∙ true_length F f z prefix v (suc n) h.left h.folded in
    let e : 2 ^ suc n ≡ 2 * 2 ^ n = omega arith in
    let positive : 0 < 2 ^ n = pow_pos n in
    let vars = ap (λ (x : Ending). x.vars) h.ending in
    let draws = ap (λ (x : Ending). length x.draws) h.ending in
    let left = h.left in
    record {
      set = record { none = ap (λ (x : Ending). x.claim) h.ending; room = omega arith };
      some = omega arith;
      even = omega arith;
    }

pub fold_facts : (p : PackProver) (F : Filling) (s : Pack) → FollowsPack p F s → AwaitsDraw (pack_entries s) → CanFold p
fold_facts p F (waiting f) h w = absurd h
fold_facts p F (stated f claim) h w = absurd w
fold_facts p F (listed f z prefix v n) h w = values_held p F f z prefix v n h
fold_facts p F (closed claim) h w = absurd w

values_tell : (p : PackProver) (e : Ending) (r : ℕ) → e ≡ drawn p.ending (p.ending.draws ++ r ∷ []) → (F : Filling) (f : Packing) (z prefix v : List ℕ) (n : ℕ) → HoldsValues p F f z prefix v (suc n) → CanTell e p.point.items
values_tell p e r d F f z prefix v n h =
    let k = d ∙ ap (λ (x : Ending). drawn x (x.draws ++ r ∷ [])) h.ending in
    let vars = ap (λ (x : Ending). x.vars) k in
    let draws = ap (λ (x : Ending). length x.draws) k ∙ length-append prefix (r ∷ []) in
    let at = ap length h.at in
    let all = h.all in
    let left = h.left in
    record { none = ap (λ (x : Ending). x.claim) k; short = omega arith }

pub draw_tells : (p : PackProver) (e : Ending) (r : ℕ) → e ≡ drawn p.ending (p.ending.draws ++ r ∷ []) → (F : Filling) (s : Pack) → FollowsPack p F s → AwaitsDraw (pack_entries s) → CanTell e p.point.items
draw_tells p e r d F (waiting f) h w = absurd h
draw_tells p e r d F (stated f claim) h w = absurd w
draw_tells p e r d F (listed f z prefix v n) h w = values_tell p e r d F f z prefix v n h
draw_tells p e r d F (closed claim) h w = absurd w

pub draw_follows : (p next : PackProver) (e : Ending) (r : ℕ) → e ≡ drawn p.ending (p.ending.draws ++ r ∷ []) → next ≡ record p { values = next.values; ending = next.ending } → next.values.items ≡ fold_low r p.values.items → TellsWhenSet e next.ending p.point.items next.values.items
    → (F : Filling) (s : Pack) → FollowsPack p F s → AwaitsDraw (pack_entries s) → FollowsPack next F (pack_draw s r)
draw_follows p next e r d n k t F (waiting f) h w = absurd h
draw_follows p next e r d n k t F (stated f claim) h w = absurd w
draw_follows p next e r d n k t F (closed claim) h w = absurd w
draw_follows p next e r d n k t F (listed f z prefix v m) h w =
    let values = k ∙ ap (fold_low r) h.values in
    let left = h.left in
    let more = length-append prefix (r ∷ []) in
    follows_listing next e F f z (prefix ++ r ∷ []) (fold_low r v) m (d ∙ ap (λ (x : Ending). drawn x (x.draws ++ r ∷ [])) h.ending) (ap (λ (q : PackProver). q.point.items) n ∙ h.at) h.all (omega arith) values
    (fold_all-last prefix (corner_values (F f.table f.source) f.log z) r ∙ ap (fold_low r) h.folded)
    (λ l. t.told (ap length values ∙ l) ∙ (λ i. Some (told_claim e (h.at i) (slice_index (values i) 0))))
    (λ l. t.kept (let x = ap length values in omega arith))
