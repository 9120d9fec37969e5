-- The bits of blocks, one block after another.
use Rattle.std.proofs.Common.{◌≡◌, ◌∙◌, ℕ, ◌+◌, ◌^◌, ◌<◌, ◌≤◌, List, ◌++◌, map, drop, length, get_or, sym, ap}
use Rattle.std.proofs.lemmas.List.{append-nil, append_assoc}
use Rattle.tensor_laws.specs.Tensor.{bits_of_table}
use Rattle.sumcheck.specs.Machine.{Filling}
use Rattle.bit_claim.specs.declared.placement.Block.{Block}
use Rattle.bit_claim.specs.Bits.{column_bits}
use Rattle.bit_claim.specs.Placement.{seen}
use Rattle.bit_claim.proofs.PlaceSteps.{block_here, none_left}

-- the bits of one block more
pub block_more : (F : Filling) (bs : List Block) (i : ℕ) (d : Block) (old new all : List ℕ) → i < length bs → old ++ column_bits F (map seen (drop i bs)) ≡ all
    → new ≡ old ++ bits_of_table (2 ^ (get_or bs i d).level) (F (get_or bs i d).table (get_or bs i d).column) → new ++ column_bits F (map seen (drop (i + 1) bs)) ≡ all
block_more F bs i d old new all h e more =
    let rest = column_bits F (map seen (drop (i + 1) bs)) in
    let b = get_or bs i d in
    ap (λ l. l ++ rest) more ∙ append_assoc old (bits_of_table (2 ^ b.level) (F b.table b.column)) rest ∙ ap (λ l. old ++ column_bits F l) (sym (block_here bs i d h)) ∙ e

pub all_blocks : (F : Filling) (bs : List Block) (i : ℕ) (done all : List ℕ) → length bs ≤ i → done ++ column_bits F (map seen (drop i bs)) ≡ all → done ≡ all
all_blocks F bs i done all h e = sym (append-nil done) ∙ ap (λ l. done ++ column_bits F l) (sym (none_left bs i h)) ∙ e
