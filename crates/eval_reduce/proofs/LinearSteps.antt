-- Steps of the prover of a linear column.
use Rattle.std.proofs.Common.{◌≡◌, ◌∙◌, ℕ, zero, suc, ◌+◌, ◌^◌, ◌≤◌, List, [], ◌∷◌, ◌++◌, Some, map, length, vec_capacity, refl, sym, ap, subst, arith}
use Rattle.std.specs.List.{AllByRecursion, slice_get}
use Rattle.cube_laws.specs.Extension.{extension}
use Rattle.cube_laws.specs.SumClaim.{AllLong}
use Rattle.sumcheck.specs.declared.column_claim.ColumnClaim.{ColumnClaim}
use Rattle.sumcheck.specs.Column.{ColumnHolds}
use Rattle.sumcheck.specs.Machine.{AwaitsSome, Filling}
use Rattle.table_shape.specs.declared.shape.ShapeTerm.{ShapeTerm}
use Rattle.eval_reduce.specs.declared.linear_prover.LinearProver.{LinearProver}
use Rattle.eval_reduce.specs.Room.{Space}
use Rattle.eval_reduce.specs.Linear.{Combination, Linear, linear_entries, linear_honest, linear_message, stated, term_claims, term_lists, told, waiting}
use Rattle.eval_reduce.specs.Provers.{FollowsLinear, HoldsTerms, IsNewTeller}
use Rattle.eval_reduce.proofs.LinearLaws.{claims_told, length-values}
use Rattle.eval_reduce.proofs.VirtualSteps.{few_claims}

-- ---- a claim that is entered
abbrev room_for : ℕ → ℕ → Space
room_for count n = record { vars = n; count = count }

pub terms_entered : (p next : LinearProver) (own : ColumnClaim) (z : List ℕ) → IsNewTeller p → next ≡ record p { own = next.own; claim = Some own } → own.table ≡ p.combination.table → own.point ≡ z → length z ≡ p.combination.vars
    → (F : Filling) (c : ColumnClaim) → c.table ≡ p.combination.table → c.point ≡ z → term_lists F p.combination.table p.combination.terms ≡ p.lists.items → AllLong (2 ^ length z) p.lists.items → FollowsLinear next F (stated p.combination c)
terms_entered p next own z new n t o v F c ct cp l long = record {
  same = ap (λ (q : LinearProver). q.combination) n;
  lists = ap (λ (q : LinearProver). q.lists.items) n ∙ sym l;
  stands = (own, record { here = ap (λ (q : LinearProver). q.claim) n; table_is = t ∙ sym ct; at = o ∙ sym cp });
  table_is = ct;
  long = subst (λ z. AllLong (2 ^ length z) (term_lists F p.combination.table p.combination.terms)) (sym cp) (subst (AllLong (2 ^ length z)) (sym l) long);
  blank = ap (λ (q : LinearProver). q.claims.items) n ∙ new.blank;
  few = new.few;
  points = ap (λ (q : LinearProver). q.points) n ∙ new.points ∙ ap (room_for (length p.combination.terms)) (sym (ap length cp ∙ v));
  room = subst (λ (q : LinearProver). length p.combination.terms ≤ vec_capacity q.claims) (sym n) new.room;
}

-- ---- the message
pub record CanTellTerms (p : LinearProver) (own : ColumnClaim) : Type 0 where
  pub here : p.claim ≡ Some own
  pub long : AllLong (2 ^ length own.point) p.lists.items
  pub equal : length (map (λ c. extension c own.point) p.lists.items) ≡ length p.combination.terms
  pub many : length p.combination.terms ≤ p.points.count
  pub short : length own.point ≤ p.points.vars
  pub space : length p.claims.items + length p.combination.terms ≤ vec_capacity p.claims

same_claim : (a b : ColumnClaim) (p : LinearProver) → p.claim ≡ Some a → p.claim ≡ Some b → a ≡ b
same_claim a b p e f = let k : Some a ≡ Some b = sym e ∙ f in cc

terms_held : (p : LinearProver) (F : Filling) (f : Combination) (claim : ColumnClaim) → HoldsTerms p F f claim → (own : ColumnClaim) × CanTellTerms p own
terms_held p F f claim h =
    let own = h.stands.0 in
    let s = h.stands.1 in
    let terms = ap (λ (g : Combination). length g.terms) h.same in
    let at = ap length s.at in
    let vars = ap (λ (w : Space). w.vars) h.points in
    let count = ap (λ (w : Space). w.count) h.points in
    let none = ap length h.blank in
    let room = h.room in (
      own,
      record {
        here = s.here;
        long = subst (λ z. AllLong (2 ^ length z) p.lists.items) (sym s.at) (subst (AllLong (2 ^ length claim.point)) (sym h.lists) h.long);
        equal = ap (λ ls. length (map (λ c. extension c own.point) ls)) h.lists ∙ length-values F own.point f.table f.terms ∙ sym terms;
        many = omega arith;
        short = omega arith;
        space = omega arith;
      },
    )

pub term_facts : (p : LinearProver) (F : Filling) (s : Linear) → FollowsLinear p F s → AwaitsSome (linear_entries s) → (own : ColumnClaim) × CanTellTerms p own
term_facts p F (waiting f) h w = absurd h
term_facts p F (stated f claim) h w = terms_held p F f claim h
term_facts p F (told cs) h w = absurd w

pub facts_of : (p : LinearProver) (own : ColumnClaim) → p.claim ≡ Some own → (F : Filling) (s : Linear) → FollowsLinear p F s → AwaitsSome (linear_entries s) → CanTellTerms p own
facts_of p own e F s h w = let k = term_facts p F s h w in subst (CanTellTerms p) (same_claim k.0 own p k.1.here e) k.1

values_are : (p : LinearProver) (own : ColumnClaim) (F : Filling) (f : Combination) (claim : ColumnClaim) → p.claim ≡ Some own → HoldsTerms p F f claim → map (λ c. extension c own.point) p.lists.items ≡ map (λ c. extension c claim.point) (term_lists F f.table f.terms)
values_are p own F f claim e h = let k = same_claim own h.stands.0 p e h.stands.1.here in (λ i. map (λ c. extension c ((ap (λ (c : ColumnClaim). c.point) k ∙ h.stands.1.at) i)) (h.lists i))

pub message_values : (p : LinearProver) (own : ColumnClaim) (old new : List ℕ) → p.claim ≡ Some own → new ≡ old ++ map (λ c. extension c own.point) p.lists.items
    → (F : Filling) (s : Linear) → FollowsLinear p F s → AwaitsSome (linear_entries s) → new ≡ old ++ linear_honest F s
message_values p own old new e g F (waiting f) h w = absurd h
message_values p own old new e g F (stated f claim) h w = g ∙ ap (λ v. old ++ v) (values_are p own F f claim e h)
message_values p own old new e g F (told cs) h w = absurd w

same_claims : (a b : ColumnClaim) (ts : List ShapeTerm) (vs : List ℕ) → a.table ≡ b.table → a.point ≡ b.point → term_claims a ts vs ≡ term_claims b ts vs
same_claims a b [] vs e f = refl
same_claims a b (t ∷ ts) [] e f = refl
same_claims a b (t ∷ ts) (v ∷ vs) e f = (λ i. record { table = e i; column = t.column; point = f i; value = v } ∷ same_claims a b ts vs e f i)

pub message_follows : (p next : LinearProver) (own : ColumnClaim) → p.claim ≡ Some own → next.claims.items ≡ p.claims.items ++ term_claims own p.combination.terms (map (λ c. extension c own.point) p.lists.items)
    → (F : Filling) (s : Linear) → FollowsLinear p F s → AwaitsSome (linear_entries s) → FollowsLinear next F (linear_message s (linear_honest F s))
message_follows p next own e g F (waiting f) h w = absurd h
message_follows p next own e g F (told cs) h w = absurd w
message_follows p next own e g F (stated f claim) h w =
    let v = map (λ c. extension c claim.point) (term_lists F f.table f.terms) in
    let k = same_claim own h.stands.0 p e h.stands.1.here in
    let t = ap (λ (c : ColumnClaim). c.table) k ∙ h.stands.1.table_is in
    let z = ap (λ (c : ColumnClaim). c.point) k ∙ h.stands.1.at in
    let count = few_claims claim f.terms v in
    let few = h.few in
    record {
      told = g ∙ (λ i. h.blank i ++ term_claims own (h.same i).terms (values_are p own F f claim e h i)) ∙ same_claims own claim f.terms v t z;
      few = omega arith;
      hold = claims_told F claim f.table f.terms h.table_is;
    }

-- ---- at the end
pub one_holds : (F : Filling) (cs : List ColumnClaim) (i : ℕ) (c : ColumnClaim) → AllByRecursion (ColumnHolds F) cs → slice_get cs i ≡ Some c → ColumnHolds F c
one_holds F [] i c h e = absurd (cc)
one_holds F (d ∷ cs) zero c h e = let k : d ≡ c = cc in subst (ColumnHolds F) k h.0
one_holds F (d ∷ cs) (suc i) c h e = one_holds F cs i c h.1 e
