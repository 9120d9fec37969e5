-- A prover that was given a claim goes along with the walk that was given it with another value.
use Rattle.std.proofs.Common.{◌≡◌, ◌∙◌, ℕ, zero, suc, ◌+◌, ◌^◌, true, List, [], ◌∷◌, length, map, Option, None, Some, is_none, refl, sym, ap, subst, arith}
use Rattle.cube_laws.specs.SumClaim.{AllLong}
use Rattle.sumcheck.specs.declared.column_claim.ColumnClaim.{ColumnClaim}
use Rattle.sumcheck.specs.declared.column_tables.ColumnTable.{ColumnTable}
use Rattle.sumcheck.specs.declared.summand.Pair.{Pair}
use Rattle.sumcheck.specs.Machine.{Filling, first_entry}
use Rattle.sumcheck.specs.Proving.{Proving}
use Rattle.sumcheck.specs.Rounds.{sum_claim, round_claim}
use Rattle.sumcheck.specs.Summing as sum
use Rattle.table_shape.specs.declared.shape.ShapeTerm.{ShapeTerm}
use Rattle.eval_reduce.specs.declared.linear_prover.LinearProver.{LinearProver}
use Rattle.eval_reduce.specs.declared.pack_prover.PackProver.{PackProver}
use Rattle.eval_reduce.specs.declared.packing.Packing.{Packing}
use Rattle.eval_reduce.specs.declared.shift_prover.ShiftProver.{ShiftProver}
use Rattle.eval_reduce.specs.declared.shifting.Shifting.{Shifting}
use Rattle.eval_reduce.specs.Linear as linear
use Rattle.eval_reduce.specs.Linear.{Combination, Linear}
use Rattle.eval_reduce.specs.Pack as pack
use Rattle.eval_reduce.specs.Pack.{Pack}
use Rattle.eval_reduce.specs.Provers.{FollowsLinear, FollowsPack, TermsAreThere, given_lists}
use Rattle.eval_reduce.specs.Shift as shift
use Rattle.eval_reduce.specs.Shift.{Shift}
use Rattle.eval_reduce.specs.ShiftProver.{FollowsBlock, FollowsShift}
use Rattle.eval_reduce.specs.Virtual.{IsOn, IsThere, table_of}
use Rattle.eval_reduce.proofs.VirtualSteps.{there_long}

-- the filling that has the lists that the prover is given
abbrev pub given : List ColumnTable → Filling
given tables t k = table_of tables t k

-- ---- packed columns
pub same_packing : (o : Option Packing) (f g : Packing) → o ≡ Some f → o ≡ Some g → f ≡ g
same_packing o f g a b = let e : Some f ≡ Some g = sym a ∙ b in cc

pub packed_starts : (tables : List ColumnTable) (f : Packing) (p next : PackProver) (w v : Pack) (claim told : ColumnClaim) → f ≡ p.packing → IsOn f.table f.column f.vars claim
    → IsThere tables claim.table f.source (2 ^ (f.log + f.vars)) → p.source.items ≡ table_of tables claim.table p.packing.source → told.point ≡ claim.point
    → ((F : Filling) (c : ColumnClaim) → c.point ≡ claim.point → F p.packing.table p.packing.source ≡ p.source.items → length p.source.items ≡ 2 ^ (p.packing.log + p.packing.vars) → FollowsPack next F (pack.stated p.packing c))
    → w ≡ pack.waiting f → v ≡ pack.state_pack told w → FollowsPack next (given tables) v
packed_starts tables f p next w v claim told same on there source at entered waits states =
    let t : p.packing.table ≡ claim.table = ap (λ (g : Packing). g.table) (sym same) ∙ sym on.table_is in
    let here : IsThere tables claim.table p.packing.source (2 ^ (p.packing.log + p.packing.vars)) = subst (λ (g : Packing). IsThere tables claim.table g.source (2 ^ (g.log + g.vars))) same there in
    let long : length p.source.items ≡ 2 ^ (p.packing.log + p.packing.vars) = ap length source ∙ there_long tables claim.table p.packing.source (2 ^ (p.packing.log + p.packing.vars)) here in
    subst (FollowsPack next (given tables)) (ap (λ (g : Packing). pack.stated g told) (sym same) ∙ sym (states ∙ ap (pack.state_pack told) waits))
    (entered (given tables) told at (ap (λ k. table_of tables k p.packing.source) t ∙ sym source) long)

-- where no entry is due, the claim on the source is left
pub packed_ends : (p : PackProver) (F : Filling) (s : Pack) → FollowsPack p F s → true ≡ is_none (first_entry (pack.pack_entries s)) → (c : ColumnClaim) × (s ≡ pack.closed c)
packed_ends p F (pack.waiting f) h e = absurd h
packed_ends p F (pack.stated f claim) h e = absurd (cc)
packed_ends p F (pack.listed f z prefix v n) h e = absurd (cc)
packed_ends p F (pack.closed c) h e = (c, refl)

-- ---- shifted columns
pub same_shifting : (o : Option Shifting) (f g : Shifting) → o ≡ Some f → o ≡ Some g → f ≡ g
same_shifting o f g a b = let e : Some f ≡ Some g = sym a ∙ b in cc

pub shifted_starts : (tables : List ColumnTable) (f : Shifting) (p next : ShiftProver) (w v : Shift) (claim told : ColumnClaim) → f ≡ p.shifting → IsOn f.table f.column f.vars claim
    → IsThere tables claim.table f.source (2 ^ f.vars) → p.source.items ≡ table_of tables claim.table p.shifting.source → told.point ≡ claim.point
    → ((F : Filling) (c : ColumnClaim) → c.point ≡ claim.point → shift.source_of F p.shifting ≡ p.source.items → length p.source.items ≡ 2 ^ p.shifting.vars → FollowsShift next F (shift.stated_sum p.shifting c))
    → w ≡ shift.waiting f → v ≡ shift.state_shift told w → FollowsShift next (given tables) v
shifted_starts tables f p next w v claim told same on there source at entered waits states =
    let t : p.shifting.table ≡ claim.table = ap (λ (g : Shifting). g.table) (sym same) ∙ sym on.table_is in
    let here : IsThere tables claim.table p.shifting.source (2 ^ p.shifting.vars) = subst (λ (g : Shifting). IsThere tables claim.table g.source (2 ^ g.vars)) same there in
    let long : length p.source.items ≡ 2 ^ p.shifting.vars = ap length source ∙ there_long tables claim.table p.shifting.source (2 ^ p.shifting.vars) here in
    subst (FollowsShift next (given tables)) (ap (λ (g : Shifting). shift.stated_sum g told) (sym same) ∙ sym (states ∙ ap (shift.state_shift told) waits))
    (entered (given tables) told at (ap (λ k. table_of tables k p.shifting.source) t ∙ sym source) long)

pub shifted_ends : (p : ShiftProver) (q : Option (Proving Pair)) (F : Filling) (s : Shift) → FollowsBlock p q F s → true ≡ is_none (first_entry (shift.shift_entries s)) → (c : ColumnClaim) × (s ≡ shift.summed (sum.closed c))
shifted_ends p q F (shift.waiting s) h e = absurd h
shifted_ends p q F (shift.summed (sum.adding t (sum_claim d zero z c))) h e = absurd (cc)
shifted_ends p q F (shift.summed (sum.adding t (sum_claim d (suc n) z c))) h e = absurd (cc)
shifted_ends p q F (shift.summed (sum.adding t (round_claim d n z v))) h e = absurd (cc)
shifted_ends p q F (shift.summed (sum.closed c)) h e = (c, refl)

-- ---- linear columns
pub same_combination : (o : Option Combination) (f g : Combination) → o ≡ Some f → o ≡ Some g → f ≡ g
same_combination o f g a b = let e : Some f ≡ Some g = sym a ∙ b in cc

lists_long : (tables : List ColumnTable) (t n : ℕ) (ts : List ShapeTerm) → TermsAreThere tables t n ts → AllLong n (given_lists tables t ts)
lists_long tables t n [] h = tt
lists_long tables t n (x ∷ ts) h = (there_long tables t x.column n h.0, lists_long tables t n ts h.1)

pub linear_starts : (tables : List ColumnTable) (f : Combination) (p next : LinearProver) (w v : Linear) (claim told : ColumnClaim) → f ≡ p.combination → IsOn f.table f.column f.vars claim
    → TermsAreThere tables claim.table (2 ^ f.vars) f.terms → p.lists.items ≡ given_lists tables claim.table p.combination.terms → told.table ≡ claim.table → told.point ≡ claim.point
    → ((F : Filling) (c : ColumnClaim) → c.table ≡ p.combination.table → c.point ≡ claim.point → linear.term_lists F p.combination.table p.combination.terms ≡ p.lists.items → AllLong (2 ^ length claim.point) p.lists.items → FollowsLinear next F (linear.stated p.combination c))
    → w ≡ linear.waiting f → v ≡ linear.state_linear told w
    → (F : Filling) × (g : Combination) × (c : ColumnClaim) × (_ : v ≡ linear.stated g c) × FollowsLinear next F (linear.stated g c)
linear_starts tables f p next w v claim told same on there lists named at entered waits states =
    let t : p.combination.table ≡ claim.table = ap (λ (g : Combination). g.table) (sym same) ∙ sym on.table_is in
    let here : TermsAreThere tables claim.table (2 ^ length claim.point) p.combination.terms =
    subst (λ n. TermsAreThere tables claim.table (2 ^ n) p.combination.terms) (sym (on.long ∙ ap (λ (g : Combination). g.vars) same)) (subst (λ (g : Combination). TermsAreThere tables claim.table (2 ^ g.vars) g.terms) same there)
    in
    let long : AllLong (2 ^ length claim.point) p.lists.items = subst (AllLong (2 ^ length claim.point)) (sym lists) (lists_long tables claim.table (2 ^ length claim.point) p.combination.terms here) in (
      given tables,
      p.combination,
      told,
      states ∙ ap (linear.state_linear told) waits ∙ ap (λ (g : Combination). linear.stated g told) same,
      entered (given tables) told (named ∙ sym t) at (ap (λ k. given_lists tables k p.combination.terms) t ∙ sym lists) long,
    )
