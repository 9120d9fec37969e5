-- Places by the blocks that have them.
use Rattle.std.proofs.Common.{◌≡◌, ℕ, zero, suc, ◌+◌, ◌-◌, ◌*◌, ◌/◌, ◌%◌, ◌^◌, ◌<◌, ◌≤◌, List, [], ◌∷◌, ◌++◌, length, map, take, drop, get_or, length-drop, Some, refl, sym, ap, ◌∙◌, subst, arith}
use Rattle.std.specs.Prelude.{slice_get}
use Rattle.std.specs.List.{AllByRecursion}
use Rattle.std.proofs.lemmas.List.{drop-append-le, drop_all, get_or-drop, length-map, take-append-drop, take-append-le}
use Rattle.std.proofs.lemmas.Nat.{pow-add}
use Rattle.std.proofs.lemmas.Option.{slice_get_within}
use Rattle.cube_laws.specs.Sums.{tabulate}
use Rattle.list_laws.proofs.CeilLog.{at_most}
use Rattle.list_laws.proofs.Powers.{power_bound}
use Rattle.table_shape.specs.Filling.{Filling}
use Rattle.table_shape.specs.Oracle.{block_bits}
use Rattle.table_shape.specs.Placement.{Block, bits_taken, places_log}
use Rattle.bit_claim.specs.declared.placement.Block.{Block as OwnBlock}
use Rattle.bit_claim.specs.Placement.{seen}
use Rattle.bit_claim.proofs.Filtered.{bits_taken-append}
use Rattle.bit_claim.proofs.PlaceSteps.{added}
use Rattle.oracle_lowering.proofs.BitPlaces.{HasBits, bit_within, bits_from_block, length-own_bits, own_bits, zeros_behind}

-- ---- from one block to the next

bits_next : (bs : List Block) (k : ℕ) (b : Block) → slice_get bs k ≡ Some b → bits_taken (take (suc k) bs) ≡ bits_taken (take k bs) + 2 ^ b.log_bits
bits_next [] k b at = absurd cc
bits_next (d ∷ bs) zero b at = let same : d ≡ b = cc in omega (arith, ap (λ (x : Block). 2 ^ x.log_bits) same)
bits_next (d ∷ bs) (suc k) b at = let h = bits_next bs k b at in omega (arith, h)

pub bits_more : (bs : List Block) (k : ℕ) (b : Block) → slice_get bs k ≡ Some b → bits_taken (take (k + 1) bs) ≡ bits_taken (take k bs) + 2 ^ b.log_bits
bits_more bs k b at = let more : k + 1 ≡ suc k = omega arith in ap (λ j. bits_taken (take j bs)) more ∙ bits_next bs k b at

pub seen_at : (bs : List OwnBlock) (k : ℕ) (d : OwnBlock) → k < length bs → slice_get (map seen bs) k ≡ Some (seen (get_or bs k d))
seen_at [] k d h = absurd (omega arith)
seen_at (b ∷ bs) zero d h = refl
seen_at (b ∷ bs) (suc k) d h = seen_at bs k d (omega arith)

pub seen_found : (bs : List OwnBlock) (k : ℕ) (b : OwnBlock) → k < length bs → b ≡ get_or bs k b → slice_get (map seen bs) k ≡ Some (seen b)
seen_found bs k b h is = seen_at bs k b h ∙ ap (λ x. Some (seen x)) (sym is)

drop_seen : (bs : List OwnBlock) (k : ℕ) → map seen (drop k bs) ≡ drop k (map seen bs)
drop_seen bs zero = refl
drop_seen [] (suc k) = refl
drop_seen (b ∷ bs) (suc k) = drop_seen bs k

-- the block at an index, of few bits together
pub record IsNext (bs : List OwnBlock) (k : ℕ) (d : OwnBlock) : Type 0 where
  pub small : (get_or bs k d).log_bits < 64
  pub shift : 1 * 2 ^ (get_or bs k d).log_bits % 2 ^ 64 ≡ 2 ^ (get_or bs k d).log_bits
  pub next : bits_taken (take (k + 1) (map seen bs)) ≡ bits_taken (take k (map seen bs)) + 2 ^ (get_or bs k d).log_bits

pub is_next : (bs : List OwnBlock) (k : ℕ) (d : OwnBlock) → k < length bs → bits_taken (map seen bs) ≤ 2 ^ 24 → IsNext bs k d
is_next bs k d h few =
    let parts = sym (bits_taken-append (take k (map seen bs)) (drop k (map seen bs))) ∙ ap bits_taken (take-append-drop k (map seen bs)) in
    let here : bits_taken (take k (map seen bs)) + bits_taken (map seen (drop k bs)) ≡ bits_taken (map seen bs) = ap (λ ds. bits_taken (take k (map seen bs)) + bits_taken ds) (drop_seen bs k) ∙ parts in
    let one = added bs k d (bits_taken (take k (map seen bs))) h here few in
    record {
      small = one.small;
      shift = one.shift;
      next = bits_more (map seen bs) k (seen (get_or bs k d)) (seen_at bs k d h);
    }

-- ---- a place that was found

pub is_within : (bs : List OwnBlock) (k : ℕ) (d : OwnBlock) (r : ℕ) (b : Block) → k < length bs → bits_taken (map seen bs) ≤ 2 ^ 24 → r < 1 * 2 ^ (get_or bs k d).log_bits % 2 ^ 64 → slice_get (map seen bs) k ≡ Some b → r < 2 ^ b.log_bits
is_within bs k d r b h few lt at =
    let found = seen_at bs k d h in
    let same : seen (get_or bs k d) ≡ b = cc in
    let one = is_next bs k d h few in
    omega (arith, lt, one.shift, ap (λ (x : Block). 2 ^ x.log_bits) same)

pub none_past : (bs : List OwnBlock) (k : ℕ) (b : Block) → length bs ≤ k → slice_get (map seen bs) k ≡ Some b → ⊥
none_past bs k b le at = omega (arith, le, slice_get_within (map seen bs) k b at, length-map bs seen)

pub block_is : (b d : Block) → Some b ≡ Some d → b.log_bits ≡ d.log_bits
block_is b d e = let same : b ≡ d = cc in ap (λ (x : Block). x.log_bits) same

-- ---- the bits there

-- blocks that have just their columns' bits
abbrev pub AllHaveBits : Filling → List Block → Type 0
AllHaveBits filling bs = AllByRecursion (HasBits filling) bs

pub has_bits_at : (filling : Filling) (bs : List Block) (k : ℕ) (b : Block) → AllHaveBits filling bs → slice_get bs k ≡ Some b → HasBits filling b
has_bits_at filling [] k b all at = absurd cc
has_bits_at filling (d ∷ bs) zero b all at = let same : d ≡ b = cc in subst (HasBits filling) same all.0
has_bits_at filling (d ∷ bs) (suc k) b all at = has_bits_at filling bs k b all.1 at

drop_here : (bs : List Block) (k : ℕ) (b : Block) → slice_get bs k ≡ Some b → drop k bs ≡ b ∷ drop (suc k) bs
drop_here [] k b at = absurd cc
drop_here (d ∷ bs) zero b at = let same : d ≡ b = cc in ap (λ (x : Block). x ∷ bs) same
drop_here (d ∷ bs) (suc k) b at = drop_here bs k b at

-- m bits within a block are its column's
pub within_block : (filling : Filling) (bs : List Block) (k r m : ℕ) (b : Block) → AllHaveBits filling bs → slice_get bs k ≡ Some b → r + m ≤ 2 ^ b.log_bits
    → take m (drop (bits_taken (take k bs) + r) (block_bits filling bs)) ≡ take m (drop r (own_bits filling b))
within_block filling bs k r m b all at room =
    let long = length-own_bits filling b (has_bits_at filling bs k b all at) in
    let left : m ≤ length (drop r (own_bits filling b)) = omega (arith, length-drop r (own_bits filling b), long) in
    ap (take m) (bits_from_block filling bs k r all ∙ ap (λ ds. drop r (block_bits filling ds)) (drop_here bs k b at) ∙ drop-append-le r (own_bits filling b) (block_bits filling (drop (suc k) bs)) (omega (arith, long)))
    ∙ take-append-le m (drop r (own_bits filling b)) (block_bits filling (drop (suc k) bs)) left

-- past all blocks there are none
pub past_blocks : (filling : Filling) (bs : List Block) (k r : ℕ) → AllHaveBits filling bs → length bs ≤ k → drop (bits_taken (take k bs) + r) (block_bits filling bs) ≡ []
past_blocks filling bs k r all le = bits_from_block filling bs k r all ∙ ap (λ ds. drop r (block_bits filling ds)) (drop_all k bs le) ∙ drop_all r [] (omega arith)

first_of_rest : (xs : List ℕ) (p : ℕ) → get_or (drop p xs) 0 0 ≡ get_or xs p 0
first_of_rest xs p = let here : p + 0 ≡ p = omega arith in get_or-drop p xs 0 0 ∙ ap (λ j. get_or xs j 0) here

-- the bit at a place of a block, among all bits and z zeros
pub bit_found : (filling : Filling) (bs : List Block) (z k r p : ℕ) (b : Block) → AllHaveBits filling bs → slice_get bs k ≡ Some b → bits_taken (take k bs) + r ≡ p → r < 2 ^ b.log_bits
    → get_or (own_bits filling b) r 0 ≡ get_or (block_bits filling bs ++ tabulate z (λ _. 0)) p 0
bit_found filling bs z k r p b all at stands within =
    sym (
    zeros_behind (block_bits filling bs) z p
    ∙ ap (λ j. get_or (block_bits filling bs) j 0) (sym stands)
    ∙ sym (first_of_rest (block_bits filling bs) (bits_taken (take k bs) + r))
    ∙ ap (λ xs. get_or xs 0 0) (bits_from_block filling bs k r all ∙ ap (λ ds. drop r (block_bits filling ds)) (drop_here bs k b at))
    ∙ first_of_rest (own_bits filling b ++ block_bits filling (drop (suc k) bs)) r
    ∙ bit_within filling b (drop (suc k) bs) r (has_bits_at filling bs k b all at) within
    )

pub bit_past_all : (filling : Filling) (bs : List Block) (z k r p : ℕ) → AllHaveBits filling bs → length bs ≤ k → bits_taken (take k bs) + r ≡ p → 0 ≡ get_or (block_bits filling bs ++ tabulate z (λ _. 0)) p 0
bit_past_all filling bs z k r p all le stands =
    sym (
    zeros_behind (block_bits filling bs) z p
    ∙ ap (λ j. get_or (block_bits filling bs) j 0) (sym stands)
    ∙ sym (first_of_rest (block_bits filling bs) (bits_taken (take k bs) + r))
    ∙ ap (λ xs. get_or xs 0 0) (past_blocks filling bs k r all le)
    )

-- ---- how many places there are

pub places_small : (bs : List Block) → bits_taken bs ≤ 2 ^ 24 → places_log bs ≤ 24
places_small bs few = let log = at_most (bits_taken bs) 24 few in omega (arith, log)

pub words_small : (bs : List Block) (w : ℕ) → bits_taken bs ≤ 2 ^ 24 → w < 2 ^ (places_log bs - 7) → w < 2 ^ 17
words_small bs w few lt = let log = places_small bs few in omega (arith, lt, power_bound (places_log bs - 7) 17 (omega (arith, log)))

pub word_of_place : (bs : List Block) (p : ℕ) → p < 2 ^ places_log bs → p / 128 < 2 ^ (places_log bs - 7)
word_of_place bs p lt =
    let parts : places_log bs ≡ places_log bs - 7 + 7 = omega arith in
    let whole = ap (λ n. 2 ^ n) parts ∙ pow-add 2 (places_log bs - 7) 7 in
    omega (arith, lt, whole)
