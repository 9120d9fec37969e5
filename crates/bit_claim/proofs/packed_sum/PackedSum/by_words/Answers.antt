use Rattle.std.proofs.Common.{◌≡◌, ◌∷◌, [], ◌-◌, ◌^◌, ◌≤◌, ◌∙◌, ℕ, List, length, take, drop, get_or, ap, subst, sym, vec_capacity, arith}
use Rattle.std.proofs.lemmas.Grind.{common_steps}
use Rattle.std.proofs.lemmas.List.{length-drop, length-take-le}
use Rattle.cube_laws.specs.Extension.{fold_all}
use Rattle.cube_laws.specs.SumClaim.{AllLong}
use Rattle.sumcheck.specs.declared.summand.Pair.{Pair}
use Rattle.sumcheck.specs.Proving.{Proving}
use Rattle.table_shape.specs.Placement.{places_log}
use Rattle.tensor_laws.specs.Tensor.{bits_of_table}
use Rattle.bit_claim.specs.PackedSum.{PackedBatch, packed_proving}
use Rattle.bit_claim.specs.Words.{word_bits}
use Rattle.bit_claim.proofs.PackedSteps.{by_words_is, finals_long, long_by_words, table_is}
use Rattle.bit_claim.proofs.packed_sum.PackedSum.by_words.Goals as goal

pub high_table-requires-clause-finals : goal.high_table-requires-clause-finals
high_table-requires-clause-finals c =
    let s = c.self.inside in
    finals_long s.batch s.words.items s.draws.items c.finals.result.now (vec_capacity s.draws) s.parts c.self.invariant c.finals.ensures

pub begin-requires-clause-long : goal.begin-requires-clause-long
begin-requires-clause-long c =
    let s = c.self.inside in
    let over = subst (λ (p : PackedBatch). 7 ≤ length p.draws) (sym c.self.view_is) c.requires in
    let t : c.push-2.new.self ≡ c.from_vec.result ∷ c.from_vec-2.result ∷ [] = grind (arith, common_steps) in
    let w = c.split.ensures.first ∙ ap (take 7) c.as_slice.ensures.value in
    let cells = c.from_vec-2.ensures ∙ c.in_ok-cells.ensures ∙ ap (λ ws. fold_all c.split.result.0.now (bits_of_table word_bits ws)) c.as_slice-2.ensures.value in
    let table = ap length c.from_vec.ensures in
    let known = c.self.invariant.known in (
      places_log s.batch.blocks - 7,
      omega (arith, known.small),
      subst (AllLong (2 ^ (places_log s.batch.blocks - 7))) (sym t)
          (long_by_words s.batch s.words.items c.split.result.0.now c.from_vec.result c.from_vec-2.result known (ap length w ∙ length-take-le 7 s.draws.items over) (omega (arith, table, c.in_ok-table.ensures.long, c.len.ensures)) cells),
    )

pub bind_all-requires : goal.bind_all-requires
bind_all-requires c =
    let s = c.self.inside in
    let over = subst (λ (p : PackedBatch). 7 ≤ length p.draws) (sym c.self.view_is) c.requires in
    let t : c.push-2.new.self ≡ c.from_vec.result ∷ c.from_vec-2.result ∷ [] = grind (arith, common_steps) in
    let w = c.split.ensures.first ∙ ap (take 7) c.as_slice.ensures.value in
    let cells = c.from_vec-2.ensures ∙ c.in_ok-cells.ensures ∙ ap (λ ws. fold_all c.split.result.0.now (bits_of_table word_bits ws)) c.as_slice-2.ensures.value in
    let table = ap length c.from_vec.ensures in
    let known = c.self.invariant.known in
    let long = subst (AllLong (2 ^ (places_log s.batch.blocks - 7))) (sym t)
    (long_by_words s.batch s.words.items c.split.result.0.now c.from_vec.result c.from_vec-2.result known (ap length w ∙ length-take-le 7 s.draws.items over) (omega (arith, table, c.in_ok-table.ensures.long, c.len.ensures)) cells) in
    let left = ap (λ (q : Proving Pair). q.left) (c.in_ok-sum.ensures (places_log s.batch.blocks - 7) long) in
    let rest = ap length c.split.ensures.rest ∙ length-drop 7 c.as_slice.result.now ∙ ap (λ (ds : List ℕ). length ds - 7) c.as_slice.ensures.value in
    omega (arith, left, rest, c.self.invariant.few)

pub returns : goal.returns
returns c =
    let s = c.self.inside in
    let p : PackedBatch = record { batch = s.batch; words = s.words.items; draws = s.draws.items } in
    let over = subst (λ (p : PackedBatch). 7 ≤ length p.draws) (sym c.self.view_is) c.requires in
    let t : c.push-2.new.self ≡ c.from_vec.result ∷ c.from_vec-2.result ∷ [] = grind (arith, common_steps) in
    let w = c.split.ensures.first ∙ ap (take 7) c.as_slice.ensures.value in
    let l = c.split.ensures.rest ∙ ap (drop 7) c.as_slice.ensures.value in
    let cells = c.from_vec-2.ensures ∙ c.in_ok-cells.ensures ∙ ap (λ ws. fold_all c.split.result.0.now (bits_of_table word_bits ws)) c.as_slice-2.ensures.value in
    let size = ap length c.from_vec.ensures in
    let known = c.self.invariant.known in
    let count : length c.from_vec.result ≡ length s.words.items = omega (arith, size, c.in_ok-table.ensures.long, c.len.ensures) in
    let long = subst (AllLong (2 ^ (places_log s.batch.blocks - 7))) (sym t) (long_by_words s.batch s.words.items c.split.result.0.now c.from_vec.result c.from_vec-2.result known (ap length w ∙ length-take-le 7 s.draws.items over) count cells) in
    let table = table_is p s.parts (vec_capacity s.draws) c.finals.result.now c.split.result.0.now c.from_vec.result c.self.invariant over w c.finals.ensures count (λ x. ap (λ l. get_or l x 0) c.from_vec.ensures ∙ c.in_ok-table.ensures.cells x) in
    let begun = c.in_ok-sum.ensures (places_log s.batch.blocks - 7) long ∙ ap (λ ls. record { summand = record {}; degree = 2; left = places_log s.batch.blocks - 7; lists = ls }) t in
    c.bind_all.ensures ∙ by_words_is p c.in_ok-sum.sum c.split.result.0.now c.split.result.1.now c.from_vec.result c.from_vec-2.result over w l table cells begun ∙ ap packed_proving c.self.view_is
