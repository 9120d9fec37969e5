-- The blocks of a word, one after the other.
use Rattle.std.proofs.Common.{◌≡◌, ℕ, ◌+◌, ◌-◌, ◌*◌, ◌%◌, ◌^◌, ◌<◌, ◌≤◌, List, length, map, take, drop, get_or, length-drop, Some, sym, subst, ap, ◌∙◌, arith}
use Rattle.std.specs.Prelude.{slice_get}
use Rattle.std.proofs.lemmas.List.{get_or-drop, take_all}
use Rattle.std.proofs.lemmas.Nat.{one_shl, pow-add}
use Rattle.tensor_laws.specs.Tensor.{from_bits}
use Rattle.table_shape.specs.declared.shape.TableShape.{TableShape}
use Rattle.table_shape.specs.Filling.{Filling, IsFilling}
use Rattle.table_shape.specs.Fits.{ShapeFits}
use Rattle.table_shape.specs.Oracle.{block_bits}
use Rattle.table_shape.specs.Parts.{ShapeParts}
use Rattle.table_shape.specs.Placement.{Block, bits_taken, blocks, table_blocks}
use Rattle.bit_claim.specs.declared.placement.Block.{Block as OwnBlock}
use Rattle.bit_claim.specs.Placement.{seen}
use Rattle.bit_claim.proofs.Falling.{Falls, by_size_falls}
use Rattle.bit_claim.proofs.PlaceSteps.{no_block}
use Rattle.oracle_lowering.proofs.AlignedWords.{FollowsBits, block_joined, falls_between, follows_bits, joined}
use Rattle.oracle_lowering.proofs.BitPlaces.{own_bits}
use Rattle.oracle_lowering.proofs.Owned.{IsOwned, owned_at, owned_bits, placed_owned}
use Rattle.oracle_lowering.proofs.Spots.{seen_at}

pub placed_falls : (tables : List TableShape) (rows : List ℕ) (placement : List Block) → placement ≡ blocks tables rows → Falls 35 placement
placed_falls tables rows placement is = subst (Falls 35) (sym is) (by_size_falls 35 (table_blocks 0 tables rows))

-- item j of those from index k on
sliced : (bs : List OwnBlock) (k j : ℕ) (d : OwnBlock) → get_or (take (length bs - k) (drop k bs)) j d ≡ get_or bs (k + j) d
sliced bs k j d = ap (λ ds. get_or ds j d) (take_all (length bs - k) (drop k bs) (omega (arith, length-drop k bs))) ∙ get_or-drop k bs j d

-- the next block of a word of which t bits are taken
pub record IsTaken (n : ℕ) (filling : Filling) (placement : List Block) (k t : ℕ) (b : OwnBlock) : Type 0 where
  pub owned : IsOwned n filling (seen b)
  pub low : b.log_bits < 7
  pub count : 1 * 2 ^ (b.log_bits - b.level) % 2 ^ 64 * 2 ^ b.level ≡ 2 ^ b.log_bits
  pub size : 1 * 2 ^ b.log_bits % 2 ^ 32 ≡ 2 ^ b.log_bits
  pub follows : FollowsBits filling placement k t (seen b)

pub taken_block : (shape : ShapeParts) (rows : List ℕ) (filling : Filling) (placement : List Block) (bs : List OwnBlock) (first j t : ℕ) → ShapeFits shape → IsFilling shape.tables rows filling → placement ≡ blocks shape.tables rows → map seen bs ≡ placement
    → ((b : Block) → slice_get placement first ≡ Some b → b.log_bits < 7) → j < length (take (length bs - first) (drop first bs)) → bits_taken (take (first + j) placement) ≡ bits_taken (take first placement) + t → t ≤ 128 → ¬ (t ≡ 128)
    → IsTaken (length shape.tables) filling placement (first + j) t (get_or (take (length bs - first) (drop first bs)) j no_block)
taken_block shape rows filling placement bs first j t fit fills own all small below stands few other =
    let whole = ap length (take_all (length bs - first) (drop first bs) (omega (arith, length-drop first bs))) in
    let within : first + j < length bs = omega (arith, below, whole, length-drop first bs) in
    let b = get_or (take (length bs - first) (drop first bs)) j no_block in
    let e = sliced bs first j no_block in
    let owned = placed_owned shape rows filling placement fit fills own in
    let at = rw all at (seen_at bs (first + j) no_block within ∙ ap (λ x. Some (seen x)) (sym e)) in
    let begin = rw all at (seen_at bs first no_block (omega (arith, within))) in
    let falls = placed_falls shape.tables rows placement own in
    let low = small (seen (get_or bs first no_block)) begin in
    let here = owned_at (length shape.tables) filling placement (first + j) (seen b) owned at in
    let follows = follows_bits filling placement first (first + j) t (seen (get_or bs first no_block)) (seen b) (owned_bits (length shape.tables) filling placement owned) falls (omega arith) begin at low stands (omega (arith, few, other)) in
    let room : 2 ^ b.log_bits ≤ 128 = omega (arith, follows.room) in
    let lower = falls_between 35 first (first + j) placement (seen (get_or bs first no_block)) (seen b) falls (omega arith) begin at in
    let parts : b.log_bits - b.level + b.level ≡ b.log_bits = omega (arith, here.level_fits) in
    record {
      owned = here;
      low = omega (arith, lower, low);
      count = ap (λ n. n * 2 ^ b.level) (one_shl (b.log_bits - b.level) 64 (omega (arith, here.small))) ∙ sym (pow-add 2 (b.log_bits - b.level) b.level) ∙ ap (λ n. 2 ^ n) parts;
      size = one_shl b.log_bits 32 (omega (arith, lower, low));
      follows = follows;
    }

-- its bits above those that are taken
pub record IsAdded (filling : Filling) (placement : List Block) (first t number v : ℕ) (b : Block) : Type 0 where
  pub shift : v * 2 ^ t % 2 ^ 128 ≡ v * 2 ^ t
  pub small : number + v * 2 ^ t < 2 ^ 128
  pub fits : number + v * 2 ^ t < 2 ^ (t + 2 ^ b.log_bits)
  pub value : number + v * 2 ^ t ≡ from_bits (take (t + 2 ^ b.log_bits) (drop (bits_taken (take first placement)) (block_bits filling placement)))

pub added_block : (n : ℕ) (filling : Filling) (placement : List Block) (first k t number v count : ℕ) (b : OwnBlock) → IsTaken n filling placement k t b → bits_taken (take k placement) ≡ bits_taken (take first placement) + t
    → number ≡ from_bits (take t (drop (bits_taken (take first placement)) (block_bits filling placement))) → number < 2 ^ t → count ≡ 2 ^ b.log_bits → v ≡ from_bits (take count (drop (0 * 2 ^ b.level) (own_bits filling (seen b)))) → v < 2 ^ count
    → IsAdded filling placement first t number v (seen b)
added_block n filling placement first k t number v count b one stands number_is small count_is v_is fits =
    let none : 0 * 2 ^ b.level ≡ 0 = omega arith in
    let whole : v ≡ from_bits (take (2 ^ b.log_bits) (own_bits filling (seen b))) = v_is ∙ (λ i. from_bits (take (count_is i) (drop (none i) (own_bits filling (seen b))))) in
    let sum = joined number v t (2 ^ b.log_bits) small (subst (λ m. v < 2 ^ m) count_is fits) one.follows.room in
    record {
      shift = sum.shift;
      small = omega (arith, sum.fits, sum.most);
      fits = sum.fits;
      value = block_joined filling placement first k t number v (seen b) one.follows stands number_is whole;
    }
