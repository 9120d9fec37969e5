-- Blocks that stand apart, and how many places they take.
use Rattle.std.proofs.Common.{◌≡◌, ℕ, ◌^◌, ◌≤◌, List, take, max, Some, ◌∙◌, arith}
use Rattle.std.specs.Prelude.{slice_get}
use Rattle.list_laws.specs.CeilLog.{ceil_log}
use Rattle.list_laws.proofs.CeilLog.{is_least}
use Rattle.list_laws.proofs.Powers.{power_bound}
use Rattle.table_shape.specs.declared.shape.TableShape.{TableShape}
use Rattle.table_shape.specs.Placement.{Block, bits_taken, blocks, places_log, table_blocks}
use Rattle.table_shape.specs.Size.{size_log, tables_bits}
use Rattle.bit_claim.specs.Apart.{StandApart, start}
use Rattle.bit_claim.proofs.Falling.{aligned, by_size_falls, ends_before, ends_within, offset_is}
use Rattle.bit_claim.proofs.Filtered.{bits_at_most}
use Rattle.bit_claim.proofs.Numbered.{once, table_bits_at_most}

start_is : (tables : List TableShape) (rows : List ℕ) (k : ℕ) (b : Block) → slice_get (blocks tables rows) k ≡ Some b → start b (blocks tables rows) ≡ bits_taken (take k (blocks tables rows))
start_is tables rows k b at = offset_is k (blocks tables rows) b at (once b.table b.column tables rows)

pub held : (bs : List Block) → bits_taken bs ≤ 2 ^ places_log bs
held bs =
    let most : ceil_log (bits_taken bs) ≤ max 8 (ceil_log (bits_taken bs)) = omega arith in
    omega (arith, (is_least (bits_taken bs)).enough, power_bound (ceil_log (bits_taken bs)) (max 8 (ceil_log (bits_taken bs))) most)

pub stand : (tables : List TableShape) (rows : List ℕ) → StandApart (blocks tables rows)
stand tables rows = record {
  aligned = λ k b at.
      let part = aligned 35 k (blocks tables rows) b (by_size_falls 35 (table_blocks 0 tables rows)) at in
      (part.0, start_is tables rows k b at ∙ part.1);
  within = λ k b at.
      let begin = start_is tables rows k b at in
      let end = ends_within k (blocks tables rows) b at in
      let all = held (blocks tables rows) in
      omega (arith, begin, end, all);
  apart = λ k l b d lt at later.
      let begin = start_is tables rows k b at in
      let next = start_is tables rows l d later in
      let end = ends_before k l (blocks tables rows) b d lt at later in
      omega (arith, begin, next, end);
}

-- blocks of columns that aren't too large take few places
pub few_bits : (tables : List TableShape) (rows : List ℕ) → size_log tables rows ≤ 24 → bits_taken (blocks tables rows) ≤ 2 ^ 24
few_bits tables rows small =
    let ordered = bits_at_most 35 (table_blocks 0 tables rows) in
    let all = table_bits_at_most 0 tables rows in
    let enough = (is_least (tables_bits tables rows)).enough in
    let most = power_bound (ceil_log (tables_bits tables rows)) 24 small in
    omega (arith, ordered, all, enough, most)
