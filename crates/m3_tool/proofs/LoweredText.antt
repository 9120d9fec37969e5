-- The lines of the products of channels, by their pairs.
use Rattle.std.proofs.Common.{◌≡◌, Bool, ℕ, suc, ◌+◌, ◌≤◌, List, [], ◌∷◌, ◌++◌, length, drop, refl, sym, ◌∙◌, ap, arith}
use Rattle.std.specs.Prelude.{slice_get, Some}
use Rattle.std.proofs.lemmas.List.{drop_all, append-nil}
use Rattle.table_text.specs.declared.decl.Side.TheVariants.{Push, Pull}
use Rattle.table_shape.specs.declared.shape.ChannelShape.{ChannelShape}
use Rattle.table_shape.specs.Filling.{Filling}
use Rattle.table_shape.specs.Lowering.{side_product}
use Rattle.table_shape.specs.Parts.{ShapeParts}
use Rattle.oracle_lowering.specs.declared.products.Pair.{Pair}
use Rattle.oracle_lowering.specs.Products.{ArePairs}
use Rattle.m3_tool.specs.Lines.{channel_line, channel_lines, holds_line, lowered_text}

-- a line for each channel that has a pair
abbrev pub pair_lines : List ChannelShape → List Pair → List ℕ
pair_lines [] pairs = []
pair_lines (channel ∷ channels) [] = []
pair_lines (channel ∷ channels) (pair ∷ pairs) = channel_line channel.name pair.push pair.pull ++ pair_lines channels pairs

-- the pairs numbered from c on are the products of the channels numbered so
record ArePairsFrom (shape : ShapeParts) (rows : List ℕ) (filling : Filling) (a g c : ℕ) (pairs : List Pair) : Type 0 where
  push : (k : ℕ) (pair : Pair) → slice_get pairs k ≡ Some pair → pair.push ≡ side_product Push shape rows filling a g (c + k)
  pull : (k : ℕ) (pair : Pair) → slice_get pairs k ≡ Some pair → pair.pull ≡ side_product Pull shape rows filling a g (c + k)

from_first : (shape : ShapeParts) (rows : List ℕ) (filling : Filling) (a g : ℕ) (pairs : List Pair) → ArePairs shape rows filling a g pairs → ArePairsFrom shape rows filling a g 0 pairs
from_first shape rows filling a g pairs are =
    let from : (k : ℕ) → k ≡ 0 + k = λ k. omega arith in record {
      push = λ k pair at. are.push k pair at ∙ ap (side_product Push shape rows filling a g) (from k);
      pull = λ k pair at. are.pull k pair at ∙ ap (side_product Pull shape rows filling a g) (from k);
    }

after_first : (shape : ShapeParts) (rows : List ℕ) (filling : Filling) (a g c : ℕ) (pair : Pair) (pairs : List Pair) → ArePairsFrom shape rows filling a g c (pair ∷ pairs) → ArePairsFrom shape rows filling a g (c + 1) pairs
after_first shape rows filling a g c pair pairs are =
    let next : (k : ℕ) → c + suc k ≡ c + 1 + k = λ k. omega arith in record {
      push = λ k own at. are.push (suc k) own at ∙ ap (side_product Push shape rows filling a g) (next k);
      pull = λ k own at. are.pull (suc k) own at ∙ ap (side_product Pull shape rows filling a g) (next k);
    }

from_pairs : (shape : ShapeParts) (rows : List ℕ) (filling : Filling) (a g c : ℕ) (channels : List ChannelShape) (pairs : List Pair) → length pairs ≡ length channels → ArePairsFrom shape rows filling a g c pairs
    → pair_lines channels pairs ≡ channel_lines shape rows filling a g c channels
from_pairs shape rows filling a g c [] pairs count are = refl
from_pairs shape rows filling a g c (channel ∷ channels) [] count are = absurd (omega arith)
from_pairs shape rows filling a g c (channel ∷ channels) (pair ∷ pairs) count are =
    let here : c + 0 ≡ c = omega arith in
    let push : pair.push ≡ side_product Push shape rows filling a g c = are.push 0 pair refl ∙ ap (side_product Push shape rows filling a g) here in
    let pull : pair.pull ≡ side_product Pull shape rows filling a g c = are.pull 0 pair refl ∙ ap (side_product Pull shape rows filling a g) here in
    let rest : pair_lines channels pairs ≡ channel_lines shape rows filling a g (c + 1) channels =
    from_pairs shape rows filling a g (c + 1) channels pairs (omega arith) (after_first shape rows filling a g c pair pairs are) in
    (λ i. channel_line channel.name (push i) (pull i) ++ rest i)

pub pairs_told : (shape : ShapeParts) (rows : List ℕ) (filling : Filling) (a g : ℕ) (pairs : List Pair) → ArePairs shape rows filling a g pairs → pair_lines shape.channels pairs ≡ channel_lines shape rows filling a g 0 shape.channels
pairs_told shape rows filling a g pairs are = from_pairs shape rows filling a g 0 shape.channels pairs are.count (from_first shape rows filling a g pairs are)

pub none_left : (channels : List ChannelShape) (pairs : List Pair) (c : ℕ) → length channels ≤ c → pair_lines (drop c channels) (drop c pairs) ≡ []
none_left channels pairs c end = ap (λ cs. pair_lines cs (drop c pairs)) (drop_all c channels end)

-- all lines, by the pairs
pub all_told : (shape : ShapeParts) (rows : List ℕ) (filling : Filling) (a g : ℕ) (holds : Bool) (pairs own : List Pair) (channels : List ChannelShape) (c : ℕ) (text word new : List ℕ) → channels ≡ shape.channels → own ≡ pairs
    → text ++ pair_lines (drop c channels) (drop c own) ≡ pair_lines channels own → length channels ≤ c → new ≡ text ++ word → word ≡ holds_line holds → ArePairs shape rows filling a g pairs → new ≡ lowered_text shape rows filling a g holds
all_told shape rows filling a g holds pairs own channels c text word new same owned so_far end pushed told are =
    let lines : text ≡ channel_lines shape rows filling a g 0 shape.channels =
    sym (append-nil text) ∙ ap (λ (r : List ℕ). text ++ r) (sym (none_left channels own c end)) ∙ so_far ∙ (λ i. pair_lines (same i) (owned i)) ∙ pairs_told shape rows filling a g pairs are in
    pushed ∙ (λ i. lines i ++ told i)
