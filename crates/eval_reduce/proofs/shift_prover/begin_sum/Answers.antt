use Rattle.std.proofs.Common.{◌≡◌, ◌∷◌, ◌++◌, ◌^◌, [], ◌∙◌, List, ℕ, take, drop, ap, sym, subst, arith}
use Rattle.std.proofs.lemmas.Grind.{common_steps}
use Rattle.cube_laws.specs.Sums.{tabulate}
use Rattle.cube_laws.specs.Extension.{extension}
use Rattle.cube_laws.specs.SumClaim.{AllLong}
use Rattle.shift_laws.specs.Shifts.{flag, goes, shift_sum}
use Rattle.cube_mle.specs.Moving.{shift_of}
use Rattle.sumcheck.specs.Proving.{Proving}
use Rattle.sumcheck.specs.declared.summand.Pair.{Pair}
use Rattle.eval_reduce.specs.Pack.{corner_values}
use Rattle.eval_reduce.specs.declared.shifting.Shifting.{Shifting}
use Rattle.eval_reduce.proofs.ShiftSteps.{tables_long}
use Rattle.eval_reduce.proofs.shift_prover.begin_sum.Goals as goal

two : (s : Shifting) (source point low high a b none parts : List ℕ) (tables : List (List ℕ)) → tables ≡ a ∷ b ∷ [] → a ≡ tabulate (2 ^ s.block) (λ p. extension (tabulate (2 ^ s.block) (λ q. flag (goes (shift_of s.kind) s.block s.offset q p))) low)
    → b ≡ parts → parts ≡ none ++ corner_values source s.block high → none ≡ [] → low ≡ take s.block point → high ≡ drop s.block point → tables ≡ (shift_sum (shift_of s.kind) s.block s.offset source (take s.block point) (drop s.block point)).lists
two s source point low high a b none parts tables t ea eb ep en l h =
    t ∙ (λ i. (ea ∙ ap (λ low. tabulate (2 ^ s.block) (λ p. extension (tabulate (2 ^ s.block) (λ q. flag (goes (shift_of s.kind) s.block s.offset q p))) low)) l) i ∷ (eb ∙ ep ∙ ap (λ v. v ++ corner_values source s.block high) en ∙ ap (corner_values source s.block) h) i ∷ [])

pub begin-requires-clause-long : goal.begin-requires-clause-long
begin-requires-clause-long c =
    let s = c.args.shifting.now in
    let t : c.push-2.new.self ≡ c.from_vec.result ∷ c.from_vec-2.result ∷ [] = grind (arith, common_steps) in
    let small = c.requires.small in
    let lists = two s c.args.source.now c.args.point.now _ _ c.from_vec.result c.from_vec-2.result c.new-parts.result.items c.append_corners.new.out.items c.push-2.new.self t (c.from_vec.ensures ∙ c.in_ok-moved.ensures) c.from_vec-2.ensures
    c.in_ok-append_corners.ensures c.new-parts.ensures.items c.split_at.ensures.front c.split_at.ensures.back in
    (s.block, omega arith, subst (AllLong (2 ^ s.block)) (sym lists) (tables_long (record { shifting = s; point = c.args.point.now }) c.args.source.now))

pub returns : goal.returns
returns c =
    let s = c.args.shifting.now in
    let t : c.push-2.new.self ≡ c.from_vec.result ∷ c.from_vec-2.result ∷ [] = grind (arith, common_steps) in
    let lists = two s c.args.source.now c.args.point.now _ _ c.from_vec.result c.from_vec-2.result c.new-parts.result.items c.append_corners.new.out.items c.push-2.new.self t (c.from_vec.ensures ∙ c.in_ok-moved.ensures) c.from_vec-2.ensures
    c.in_ok-append_corners.ensures c.new-parts.ensures.items c.split_at.ensures.front c.split_at.ensures.back in
    let long = subst (AllLong (2 ^ s.block)) (sym lists) (tables_long (record { shifting = s; point = c.args.point.now }) c.args.source.now) in
    c.in_ok-sum.ensures s.block long ∙ ap with_lists lists
  where
    with_lists : List (List ℕ) → Proving Pair
    with_lists ls = record { summand = record {}; degree = 2; left = c.args.shifting.now.block; lists = ls }
