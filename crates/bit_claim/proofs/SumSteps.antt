-- Steps of the forms of the sum of a batch.
use Rattle.std.proofs.Common.{◌≡◌, ℕ, ◌-◌, ◌*◌, ◌^◌, ◌<◌, List, [], ◌∷◌, length, map, sym, ap, subst, ◌∙◌, arith}
use Rattle.std.specs.List.{AllByRecursion}
use Rattle.cube_laws.specs.SumClaim.{AllLong}
use Rattle.batch_laws.specs.Batch.{batched}
use Rattle.batch_laws.proofs.Batching.{length-batched}
use Rattle.sumcheck.specs.declared.summand.Pair.{Pair}
use Rattle.sumcheck.specs.Proving.{Proving}
use Rattle.table_shape.specs.Placement.{places_log}
use Rattle.tensor_laws.specs.Tensor.{bits_of_table}
use Rattle.bit_claim.specs.BatchSum.{begun}
use Rattle.bit_claim.specs.Batching.{Batched}
use Rattle.bit_claim.specs.Bits.{claim_table, IsPlaced}
use Rattle.bit_claim.specs.PackedSum.{PackedBatch, packed_proving}
use Rattle.bit_claim.specs.Words.{word_bits}
use Rattle.bit_claim.proofs.PackedSteps.{eight}
use Rattle.bit_claim.proofs.TablePlaces.{tables_long}
use Rattle.bit_claim.proofs.WordSums.{length-bits_of_table}

pub words_whole : (n : ℕ) (words table : List ℕ) → table ≡ bits_of_table 128 words → length table ≡ n → 128 * length words ≡ n
words_whole n words table e h =
    let swap : 128 * length words ≡ length words * 128 = omega arith in
    swap ∙ sym (length-bits_of_table 128 words) ∙ ap length (sym e) ∙ h

pub table_whole : (n : ℕ) (words table : List ℕ) → table ≡ bits_of_table 128 words → 128 * length words ≡ n → length table ≡ n
table_whole n words table e h =
    let swap : length words * 128 ≡ 128 * length words = omega arith in
    ap length e ∙ length-bits_of_table 128 words ∙ swap ∙ h

pub packed_begun : (b : Batched) (words : List ℕ) → packed_proving (record { batch = b; words = words; draws = [] }) ≡ begun b (bits_of_table 128 words)
unfolding word_bits
packed_begun b words =
    let all : places_log b.blocks - 0 ≡ places_log b.blocks = omega arith in
    λ j. record { summand = record {}; degree = 2; left = all j; lists = batched (2 ^ places_log b.blocks) b.lambda (map (claim_table b.blocks) b.claims) ∷ bits_of_table 128 words ∷ [] }

pub begun_long : (b : Batched) (cells : List ℕ) (q : Proving Pair) → AllByRecursion (IsPlaced b.blocks) b.claims → length cells ≡ 2 ^ places_log b.blocks → q ≡ begun b cells → AllLong (2 ^ places_log b.blocks) q.lists
begun_long b cells q placed whole e =
    subst (λ (p : Proving Pair). AllLong (2 ^ places_log b.blocks) p.lists) (sym e)
    (length-batched (2 ^ places_log b.blocks) b.lambda (map (claim_table b.blocks) b.claims) (tables_long b.blocks b.claims placed), (whole, tt))

-- some variable is left once seven are set
pub not_set : (s : PackedBatch) → length s.draws < 7 → (packed_proving s).left ≡ 0 → ⊥
not_set s few none = let most = eight s.batch.blocks in omega (arith, few, none, most)
