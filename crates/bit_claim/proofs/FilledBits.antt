-- In a filling the bits of committed columns stand where claims on them ask for them.
use Rattle.std.proofs.Common.{◌≡◌, ℕ, suc, ◌+◌, ◌-◌, ◌*◌, ◌/◌, ◌^◌, ◌<◌, ◌≤◌, ◌==◌, Bool, true, false, cond, List, [], ◌∷◌, ◌++◌, length, take, drop, get_or, Some, option_map, unwrap_or, refl, sym, ap, subst, ◌∙◌, arith}
use Rattle.std.proofs.lemmas.Bool.{eqb-true}
use Rattle.std.proofs.lemmas.List.{append_assoc, length-append, take_at}
use Rattle.std.proofs.lemmas.Nat.{pow-add}
use Rattle.std.proofs.lemmas.Option.{slice_get-get_or, slice_get_within}
use Rattle.std.proofs.Math.Nat.{mul-div_cancel}
use Rattle.std.proofs.Math.Seq.{drop-append-add}
use Rattle.std.specs.Prelude.{slice_get, slice_index, ◌&&◌}
use Rattle.std.specs.List.{AllByRecursion, filter}
use Rattle.tower_laws.specs.Lists.{AllFit}
use Rattle.cube_laws.specs.Sums.{tabulate}
use Rattle.cube_laws.proofs.Weights.{length-tabulate}
use Rattle.tensor_laws.specs.Tensor.{bits_of_table}
use Rattle.list_laws.specs.CeilLog.{ceil_log}
use Rattle.list_laws.proofs.Powers.{log_of_rows}
use Rattle.sumcheck.specs.declared.column_claim.ColumnClaim.{ColumnClaim}
use Rattle.sumcheck.specs.Machine.{Filling as Values}
use Rattle.table_shape.specs.declared.shape.ColumnKind.{ColumnKind}
use Rattle.table_shape.specs.declared.shape.ColumnKind.TheVariants.{Committed, Virtual}
use Rattle.table_shape.specs.declared.shape.ColumnShape.{ColumnShape}
use Rattle.table_shape.specs.declared.shape.TableShape.{TableShape}
use Rattle.table_shape.specs.Filling.{Filling, IsFilling, values_of}
use Rattle.table_shape.specs.Fits.{ShapeFits}
use Rattle.table_shape.specs.Oracle.{bit_table, block_bits}
use Rattle.table_shape.specs.Parts.{ShapeParts}
use Rattle.table_shape.specs.Placement.{Block, bits_taken, block_of, blocks, is_block, offset, places_log}
use Rattle.bit_claim.specs.Bits.{bits, block_in, column_bits, level_in, part_in, size_in, IsPlaced, Stands}
use Rattle.bit_claim.specs.Filled.{FillingsHaveBits}
use Rattle.bit_claim.proofs.Levels.{all_blocks}
use Rattle.bit_claim.proofs.Numbered.{own_blocks}
use Rattle.bit_claim.proofs.PartSteps.{size_is}
use Rattle.bit_claim.proofs.Standing.{held, stand}
use Rattle.bit_claim.proofs.PlacedCells.{positive}
use Rattle.bit_claim.proofs.TablePlaces.{part_fits}
use Rattle.bit_claim.proofs.WordSums.{length-bits_of_table}

-- ---- the bits of blocks
-- a block whose column has just its bits
abbrev HasOwn : Values → Block → Type 0
HasOwn F b = length (bits_of_table (2 ^ b.level) (F b.table b.column)) ≡ 2 ^ b.log_bits

length-column_bits : (F : Values) (bs : List Block) → AllByRecursion (HasOwn F) bs → length (column_bits F bs) ≡ bits_taken bs
length-column_bits F [] h = refl
length-column_bits F (b ∷ bs) h = length-append (bits_of_table (2 ^ b.level) (F b.table b.column)) (column_bits F bs) ∙ (λ i. h.0 i + length-column_bits F bs h.1 i)

length-bits : (F : Values) (bs : List Block) → AllByRecursion (HasOwn F) bs → length (bits F bs) ≡ 2 ^ places_log bs
length-bits F bs h =
    let all = held bs in
    let full : bits_taken bs + (2 ^ places_log bs - bits_taken bs) ≡ 2 ^ places_log bs = omega (arith, all) in
    length-append (column_bits F bs) (tabulate (2 ^ places_log bs - bits_taken bs) (λ _. 0)) ∙ (λ i. length-column_bits F bs h i + length-tabulate (2 ^ places_log bs - bits_taken bs) (λ _. 0) i) ∙ full

-- those of a column stand where its block begins
stand_there : (F : Values) (t c : ℕ) (bs : List Block) (b : Block) (rest : List ℕ) → AllByRecursion (HasOwn F) bs → block_in t c bs ≡ Some b
    → take (2 ^ b.log_bits) (drop (offset t c bs) (column_bits F bs ++ rest)) ≡ bits_of_table (2 ^ b.level) (F b.table b.column)
stand_there F t c [] b rest h e = absurd cc
stand_there F t c (d ∷ bs) b rest h e = go (is_block t c d) e (stand_there F t c bs b rest h.1)
  where
    own : List ℕ
    own = bits_of_table (2 ^ d.level) (F d.table d.column)

    go : (u : Bool) → cond u (Some d) (block_in t c bs) ≡ Some b
        → (block_in t c bs ≡ Some b → take (2 ^ b.log_bits) (drop (offset t c bs) (column_bits F bs ++ rest)) ≡ bits_of_table (2 ^ b.level) (F b.table b.column))
        → take (2 ^ b.log_bits) (drop (cond u 0 (2 ^ d.log_bits + offset t c bs)) ((own ++ column_bits F bs) ++ rest)) ≡ bits_of_table (2 ^ b.level) (F b.table b.column)
    go true e later =
        let same : d ≡ b = cc in
        subst (λ (x : Block). take (2 ^ x.log_bits) ((own ++ column_bits F bs) ++ rest) ≡ bits_of_table (2 ^ x.level) (F x.table x.column)) same
        (ap (take (2 ^ d.log_bits)) (append_assoc own (column_bits F bs) rest) ∙ take_at own (column_bits F bs ++ rest) (2 ^ d.log_bits) h.0)
    go false e later =
        ap (λ n. take (2 ^ b.log_bits) (drop (n + offset t c bs) ((own ++ column_bits F bs) ++ rest))) (sym h.0)
        ∙ ap (λ l. take (2 ^ b.log_bits) (drop (length own + offset t c bs) l)) (append_assoc own (column_bits F bs) rest)
        ∙ ap (take (2 ^ b.log_bits)) (drop-append-add own (column_bits F bs ++ rest) (offset t c bs))
        ∙ later e

-- ---- a column's block among all
-- what a test finds
first_found : (t c : ℕ) (bs : List Block) (b : Block) → filter (is_block t c) bs ≡ b ∷ [] → block_in t c bs ≡ Some b
first_found t c [] b e = absurd cc
first_found t c (d ∷ bs) b e = go (is_block t c d) e (first_found t c bs b)
  where
    go : (u : Bool) → cond u (d ∷ filter (is_block t c) bs) (filter (is_block t c) bs) ≡ b ∷ [] → (filter (is_block t c) bs ≡ b ∷ [] → block_in t c bs ≡ Some b) → cond u (Some d) (block_in t c bs) ≡ Some b
    go true e later = let same : d ≡ b = cc in ap Some same
    go false e later = later e

-- its index, and its numbers
pub record Found (t c : ℕ) (bs : List Block) (b : Block) : Type 0 where
  pub index : ℕ
  pub at : slice_get bs index ≡ Some b
  pub table : b.table ≡ t
  pub column : b.column ≡ c

found : (t c : ℕ) (bs : List Block) (b : Block) → block_in t c bs ≡ Some b → Found t c bs b
found t c [] b e = absurd cc
found t c (d ∷ bs) b e = go (d.table == t) (d.column == c) refl refl e (found t c bs b)
  where
    later : (block_in t c bs ≡ Some b → Found t c bs b) → block_in t c bs ≡ Some b → Found t c (d ∷ bs) b
    later h e = let f = h e in record { index = suc f.index; at = f.at; table = f.table; column = f.column }

    go : (u v : Bool) → (d.table == t) ≡ u → (d.column == c) ≡ v → cond (u && v) (Some d) (block_in t c bs) ≡ Some b → (block_in t c bs ≡ Some b → Found t c bs b) → Found t c (d ∷ bs) b
    go true true x y e h =
        let same : d ≡ b = cc in
        record { index = 0; at = e; table = ap (λ (x : Block). x.table) (sym same) ∙ eqb-true d.table t x; column = ap (λ (x : Block). x.column) (sym same) ∙ eqb-true d.column c y }
    go true false x y e h = later h e
    go false v x y e h = later h e

-- ---- a filling
same_bits : (filling : Filling) (bs : List Block) → column_bits (values_of filling) bs ≡ block_bits filling bs
same_bits filling [] = refl
same_bits filling (b ∷ bs) = ap (λ l. bits_of_table (2 ^ b.level) (values_of filling b.table b.column) ++ l) (same_bits filling bs)

own_bits : (F : Values) (t m c : ℕ) (column : ColumnShape) (kind : ColumnKind) → length (F t c) ≡ 2 ^ (ceil_log m + column.log_values) → AllByRecursion (HasOwn F) (block_of t m c column kind)
own_bits F t m c column Committed long = (length-bits_of_table (2 ^ column.level) (F t c) ∙ ap (λ k. k * 2 ^ column.level) long ∙ sym (pow-add 2 (ceil_log m + column.log_values) column.level), tt)
own_bits F t m c column (Virtual form) long = tt

all_own : (tables : List TableShape) (rows : List ℕ) (filling : Filling) → IsFilling tables rows filling → AllByRecursion (HasOwn (values_of filling)) (blocks tables rows)
all_own tables rows filling fills =
    all_blocks (HasOwn (values_of filling)) tables rows (λ t table at k column is. own_bits (values_of filling) t (slice_index rows t) k column column.kind (fills.columns t k table column at is).len)

all_fit : (l : ℕ) (xs : List ℕ) → ((p : ℕ) → get_or xs p 0 < 2 ^ (2 ^ l)) → AllFit l xs
all_fit l [] h = tt
all_fit l (x ∷ xs) h = (h 0, all_fit l xs (λ p. h (suc p)))

-- the block of a committed column
abbrev committed : ℕ → ℕ → ℕ → ColumnShape → Block
committed t m c column = record { table = t; column = c; level = column.level; log_bits = ceil_log m + column.log_values + column.level }

has_block : (s : ShapeParts) (rows : List ℕ) (filling : Filling) (t c : ℕ) (table : TableShape) (column : ColumnShape) → ShapeFits s → IsFilling s.tables rows filling → slice_get s.tables t ≡ Some table → slice_get table.columns c ≡ Some column → column.kind ≡ Committed
    → block_in t c (blocks s.tables rows) ≡ Some (committed t (slice_index rows t) c column)
has_block s rows filling t c table column fit fills at is kind =
    let own = (fit.tables t table at).columns c column is in
    let there = slice_get_within s.tables t table at in
    let count = fills.counts in
    let row = slice_get-get_or rows t 0 (omega (arith, there, count)) in
    let log = log_of_rows (slice_index rows t) (fills.few t) in
    let small : ceil_log (slice_index rows t) + column.log_values + column.level ≤ 34 = omega (arith, log, own.level, own.log_values) in
    first_found t c (blocks s.tables rows) (committed t (slice_index rows t) c column) (own_blocks s.tables rows t (slice_index rows t) c table column at row is small ∙ ap (block_of t (slice_index rows t) c column) kind)

-- a claim with its block
claim_stands : (F : Values) (tables : List TableShape) (rows : List ℕ) (claim : ColumnClaim) (b : Block) → AllByRecursion (HasOwn F) (blocks tables rows) → AllFit b.level (F claim.table claim.column)
    → (placed : IsPlaced (blocks tables rows) claim) → block_in claim.table claim.column (blocks tables rows) ≡ Some b → Stands F (blocks tables rows) claim
claim_stands F tables rows claim b own fit placed e =
    let bs = blocks tables rows in
    let f = found claim.table claim.column bs b e in
    let fits = part_fits bs claim placed in
    let level : level_in bs claim ≡ b.level = ap (λ o. unwrap_or (option_map (λ (b : Block). b.level) o) 0) e in
    let size : size_in bs claim ≡ b.log_bits = size_is bs claim b placed e in
    let part = (stand tables rows).aligned f.index b f.at in
    let begins : offset claim.table claim.column bs ≡ part.0 * 2 ^ b.log_bits = (λ i. offset (sym f.table i) (sym f.column i) bs) ∙ part.1 in
    let whole : part_in bs claim * 2 ^ size_in bs claim ≡ offset claim.table claim.column bs =
    ap (λ n. offset claim.table claim.column bs / 2 ^ n * 2 ^ n) size
    ∙ ap (λ o. o / 2 ^ b.log_bits * 2 ^ b.log_bits) begins
    ∙ ap (λ q. q * 2 ^ b.log_bits) (mul-div_cancel part.0 (positive b.log_bits))
    ∙ sym begins
    in
    record {
      level = subst (λ l. AllFit l (F claim.table claim.column)) (sym level) fit;
      within = fits.size;
      part = fits.part;
      there = (λ i. take (2 ^ size i) (drop (whole i) (bits F bs)))
          ∙ stand_there F claim.table claim.column bs b (tabulate (2 ^ places_log bs - bits_taken bs) (λ _. 0)) own e
          ∙ (λ i. bits_of_table (2 ^ sym level i) (F (f.table i) (f.column i)));
    }

pub fillings_have_bits : FillingsHaveBits
fillings_have_bits s rows filling fit fills small =
    let bs = blocks s.tables rows in
    let F = values_of filling in
    let own = all_own s.tables rows filling fills in
    let same : bits F bs ≡ bit_table s.tables rows filling = ap (λ l. l ++ tabulate (2 ^ places_log bs - bits_taken bs) (λ _. 0)) (same_bits filling bs) in
    record {
      table = same;
      size = ap length (sym same) ∙ length-bits F bs own;
      placed = λ c table column at is kind long.
          let b = committed c.table (slice_index rows c.table) c.column column in
          let e = has_block s rows filling c.table c.column table column fit fills at is kind in
          let placed : IsPlaced bs c = (b, e, omega (arith, long)) in
          (placed, claim_stands F s.tables rows c b own (all_fit column.level (F c.table c.column) (fills.columns c.table c.column table column at is).fits) placed e);
    }
