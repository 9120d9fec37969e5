-- The sum of a batch on packed words.
-- Source: docs/REDUCTIONS.md, "Provers".
use Rattle.std.specs.Prelude.{◌≡◌, ◌≤◌, ℕ, ◌-◌, ◌*◌, ◌^◌, List, [], ◌∷◌, length, map, take, slice_index, bit_xor}
use Rattle.std.specs.List.{AllByRecursion}
use Rattle.tower_laws.specs.Tower.{mul}
use Rattle.cube_laws.specs.Extension.{fold_all}
use Rattle.batch_laws.specs.Batch.{batched}
use Rattle.sumcheck.specs.declared.column_claim.ColumnClaim.{ColumnClaim}
use Rattle.sumcheck.specs.declared.summand.Pair.{Pair}
use Rattle.sumcheck.specs.Proving.{Proving}
use Rattle.table_shape.specs.Placement.{Block, places_log}
use Rattle.tensor_laws.specs.Tensor.{bits_of_table}
use Rattle.bit_claim.specs.declared.pairs.Pairs.{Pairs}
use Rattle.bit_claim.specs.Batching.{Batched}
use Rattle.bit_claim.specs.Bits.{above_in, claim_table, level_in, part_in, IsPlaced}
use Rattle.bit_claim.specs.Words.{high_part, low_part, part_tables, word_bits}

-- the two factors of a claim's table
abbrev pub low_of : List Block → ColumnClaim → List ℕ
low_of bs c = low_part 7 (level_in bs c) c.point (part_in bs c)

abbrev pub high_of : List Block → ColumnClaim → List ℕ
high_of bs c = high_part 7 (level_in bs c) c.point (above_in bs c) (part_in bs c)

-- the tables for the place in a word, two for each claim
abbrev pub tables_of : Batched → List ℕ → List (List ℕ)
tables_of b words = part_tables (low_of b.blocks) (high_of b.blocks) word_bits words b.lambda 1 b.claims

-- the sum of the claims' factors for word p, each times every other number of a list
abbrev pub high_sum : {X : Type 0} → (X → List ℕ) → ℕ → List X → List ℕ → ℕ
high_sum high p [] fs = 0
high_sum high p (c ∷ cs) [] = 0
high_sum high p (c ∷ cs) (f ∷ []) = 0
high_sum high p (c ∷ cs) (f ∷ v ∷ fs) = bit_xor (mul f (slice_index (high c) p)) (high_sum high p cs fs)

-- ---- the sum
-- a batch, the words of the table of bits, and the draws so far
pub record PackedBatch : Type 0 where
  pub batch : Batched
  pub words : List ℕ
  pub draws : List ℕ

-- two tables, each with its first variables set to the draws
abbrev pub packed_proving : PackedBatch → Proving Pair
packed_proving p = record {
  summand = record {};
  degree = 2;
  left = places_log p.batch.blocks - length p.draws;
  lists = fold_all p.draws (batched (2 ^ places_log p.batch.blocks) p.batch.lambda (map (claim_table p.batch.blocks) p.batch.claims)) ∷ fold_all p.draws (bits_of_table word_bits p.words) ∷ [];
}

-- what is known of a batch and words that have its places
pub record OnWords (b : Batched) (words : List ℕ) : Type 0 where
  pub whole : 128 * length words ≡ 2 ^ places_log b.blocks
  pub small : places_log b.blocks ≤ 24
  pub placed : AllByRecursion (IsPlaced b.blocks) b.claims
  pub low : AllByRecursion (λ block. block.level ≤ 7) b.blocks

-- and of the draws, for which there is room, and the tables for the place in a word
pub record PackedFits (b : Batched) (words draws : List ℕ) (room : ℕ) (parts : Proving Pairs) : Type 0 where
  pub known : OnWords b words
  pub few : length draws ≤ places_log b.blocks
  pub enough : places_log b.blocks ≤ room
  pub held : parts ≡ record { summand = record { count = length b.claims }; degree = 2; left = 7 - length draws; lists = map (fold_all (take 7 draws)) (tables_of b words) }
