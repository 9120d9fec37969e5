-- Each block is that of a column: it has the column's bits.
use Rattle.std.proofs.Common.{◌≡◌, ℕ, zero, suc, ◌+◌, ◌*◌, ◌^◌, ◌<◌, ◌≤◌, Bool, true, false, cond, List, [], ◌∷◌, ◌++◌, length, map, get_or, Some, refl, sym, ap, ◌∙◌, subst, arith}
use Rattle.std.specs.Prelude.{slice_get}
use Rattle.std.specs.List.{AllByRecursion, filter}
use Rattle.std.proofs.lemmas.Nat.{pow-add}
use Rattle.list_laws.specs.CeilLog.{ceil_log}
use Rattle.list_laws.proofs.Powers.{log_of_rows}
use Rattle.table_shape.specs.declared.shape.ColumnKind.{ColumnKind}
use Rattle.table_shape.specs.declared.shape.ColumnKind.TheVariants.{Committed, Virtual}
use Rattle.table_shape.specs.declared.shape.ColumnShape.{ColumnShape}
use Rattle.table_shape.specs.declared.shape.TableShape.{TableShape}
use Rattle.table_shape.specs.Filling.{Filling, IsFilling, values_of}
use Rattle.table_shape.specs.Fits.{ShapeFits, TableFits}
use Rattle.table_shape.specs.Placement.{Block, block_of, blocks, by_size, column_blocks, has_size, table_blocks}
use Rattle.table_shape.specs.Parts.{ShapeParts}
use Rattle.bit_claim.specs.declared.placement.Block.{Block as OwnBlock}
use Rattle.bit_claim.specs.Placement.{seen}
use Rattle.oracle_lowering.proofs.BitPlaces.{HasBits}
use Rattle.oracle_lowering.proofs.Spots.{AllHaveBits, seen_found}

-- the block of a column of one of n tables
pub record IsOwned (n : ℕ) (filling : Filling) (b : Block) : Type 0 where
  pub table_exists : b.table < n
  pub is_a_level : b.level ≤ 7
  pub small : b.log_bits ≤ 34
  pub level_fits : b.level ≤ b.log_bits
  pub has_bits : HasBits filling b
  pub fits : (p : ℕ) → get_or (values_of filling b.table b.column) p 0 < 2 ^ (2 ^ b.level)

from_none : (k : ℕ) → k ≡ 0 + k
from_none k = omega arith

-- ---- the columns of a table

-- a column of as many values as m rows filled up have
pub record IsSized (m : ℕ) (values : List ℕ) (column : ColumnShape) : Type 0 where
  pub level : column.level ≤ 7
  pub log_values : column.log_values ≤ 7
  pub len : length values ≡ 2 ^ (ceil_log m + column.log_values)
  pub fits : (p : ℕ) → get_or values p 0 < 2 ^ (2 ^ column.level)

all_append : {X : Type 0} (P : X → Type 0) (xs ys : List X) → AllByRecursion P xs → AllByRecursion P ys → AllByRecursion P (xs ++ ys)
all_append P [] ys h k = k
all_append P (x ∷ xs) ys h k = (h.0, all_append P xs ys h.1 k)

all_filter : {X : Type 0} (P : X → Type 0) (p : X → Bool) (xs : List X) → AllByRecursion P xs → AllByRecursion P (filter p xs)
all_filter P p [] h = tt
all_filter P p (x ∷ xs) h = go (p x) (all_filter P p xs h.1)
  where
    go : (b : Bool) → AllByRecursion P (filter p xs) → AllByRecursion P (cond b (x ∷ filter p xs) (filter p xs))
    go true k = (h.0, k)
    go false k = k

column_owned : (n t m c : ℕ) (filling : Filling) (column : ColumnShape) (kind : ColumnKind) → t < n → m ≤ 1048576 → IsSized m (values_of filling t c) column → AllByRecursion (IsOwned n filling) (block_of t m c column kind)
column_owned n t m c filling column Committed in_tables few h = (
  record {
    table_exists = in_tables;
    is_a_level = h.level;
    small = omega (arith, log_of_rows m few, h.level, h.log_values);
    level_fits = omega arith;
    has_bits = ap (λ k. k * 2 ^ column.level) h.len ∙ sym (pow-add 2 (ceil_log m + column.log_values) column.level);
    fits = h.fits;
  },
  tt,
)
column_owned n t m c filling column (Virtual form) in_tables few h = tt

columns_owned : (n t m c : ℕ) (filling : Filling) (columns : List ColumnShape) → t < n → m ≤ 1048576
    → ((i : ℕ) (column : ColumnShape) → slice_get columns i ≡ Some column → IsSized m (values_of filling t (c + i)) column) → AllByRecursion (IsOwned n filling) (column_blocks t m c columns)
columns_owned n t m c filling [] in_tables few h = tt
columns_owned n t m c filling (column ∷ columns) in_tables few h =
    let here : c + 0 ≡ c = omega arith in
    let next : (i : ℕ) → c + suc i ≡ (c + 1) + i = λ i. omega arith in
    all_append (IsOwned n filling) (block_of t m c column column.kind) (column_blocks t m (c + 1) columns)
    (column_owned n t m c filling column column.kind in_tables few (subst (λ k. IsSized m (values_of filling t k) column) here (h 0 column refl)))
    (columns_owned n t m (c + 1) filling columns in_tables few (λ i own at. subst (λ k. IsSized m (values_of filling t k) own) (next i) (h (suc i) own at)))

-- ---- all tables

-- the columns of a table on m rows
abbrev pub AreSizedOn : ℕ → Filling → ℕ → TableShape → Type 0
AreSizedOn m filling t table = (c : ℕ) (column : ColumnShape) → slice_get table.columns c ≡ Some column → IsSized m (values_of filling t c) column

tables_owned : (n t : ℕ) (filling : Filling) (tables : List TableShape) (rows : List ℕ) → t + length tables ≡ n → ((i : ℕ) → get_or rows i 0 ≤ 1048576)
    → ((i : ℕ) (table : TableShape) → slice_get tables i ≡ Some table → AreSizedOn (get_or rows i 0) filling (t + i) table) → AllByRecursion (IsOwned n filling) (table_blocks t tables rows)
tables_owned n t filling [] rows count few h = tt
tables_owned n t filling (table ∷ tables) [] count few h = tt
tables_owned n t filling (table ∷ tables) (m ∷ rows) count few h =
    let here : t + 0 ≡ t = omega arith in
    let next : (i : ℕ) → t + suc i ≡ (t + 1) + i = λ i. omega arith in
    all_append (IsOwned n filling) (column_blocks t m 0 table.columns) (table_blocks (t + 1) tables rows)
    (columns_owned n t m 0 filling table.columns (omega arith) (few 0) (λ c column at. subst (λ k. IsSized m (values_of filling t k) column) (from_none c) (subst (λ k. IsSized m (values_of filling k c) column) here (h 0 table refl c column at))))
    (tables_owned n (t + 1) filling tables rows (omega arith) (λ i. few (suc i)) (λ i own at c column is. subst (λ k. IsSized (get_or rows i 0) (values_of filling k c) column) (next i) (h (suc i) own at c column is)))

by_size_owned : (P : Block → Type 0) (n : ℕ) (bs : List Block) → AllByRecursion P bs → AllByRecursion P (by_size n bs)
unfolding by_size
by_size_owned P zero bs h = tt
by_size_owned P (suc n) bs h = all_append P (filter (has_size n) bs) (by_size n bs) (all_filter P (has_size n) bs h) (by_size_owned P n bs h)

abbrev pub AreOwned : ℕ → Filling → List Block → Type 0
AreOwned n filling bs = AllByRecursion (IsOwned n filling) bs

blocks_owned : (tables : List TableShape) (rows : List ℕ) (filling : Filling) → ((t : ℕ) (table : TableShape) → slice_get tables t ≡ Some table → TableFits table) → IsFilling tables rows filling
    → AreOwned (length tables) filling (blocks tables rows)
blocks_owned tables rows filling fit fills =
    by_size_owned (IsOwned (length tables) filling) 35 (table_blocks 0 tables rows)
    (tables_owned (length tables) 0 filling tables rows (omega arith) fills.few (λ t table at c column is. subst (λ k. IsSized (get_or rows t 0) (values_of filling k c) column) (from_none t) (record {
      level = ((fit t table at).columns c column is).level;
      log_values = ((fit t table at).columns c column is).log_values;
      len = (fills.columns t c table column at is).len;
      fits = (fills.columns t c table column at is).fits;
    })))

pub placed_owned : (shape : ShapeParts) (rows : List ℕ) (filling : Filling) (placement : List Block) → ShapeFits shape → IsFilling shape.tables rows filling → placement ≡ blocks shape.tables rows → AreOwned (length shape.tables) filling placement
placed_owned shape rows filling placement fit fills is = subst (AreOwned (length shape.tables) filling) (sym is) (blocks_owned shape.tables rows filling fit.tables fills)

pub owned_at : (n : ℕ) (filling : Filling) (bs : List Block) (k : ℕ) (b : Block) → AreOwned n filling bs → slice_get bs k ≡ Some b → IsOwned n filling b
owned_at n filling [] k b all at = absurd cc
owned_at n filling (d ∷ bs) zero b all at = let same : d ≡ b = cc in subst (IsOwned n filling) same all.0
owned_at n filling (d ∷ bs) (suc k) b all at = owned_at n filling bs k b all.1 at

pub owned_bits : (n : ℕ) (filling : Filling) (bs : List Block) → AreOwned n filling bs → AllHaveBits filling bs
owned_bits n filling [] all = tt
owned_bits n filling (b ∷ bs) all = (all.0.has_bits, owned_bits n filling bs all.1)

-- the block that was read at an index
pub found_block : (shape : ShapeParts) (rows : List ℕ) (filling : Filling) (placement : List Block) (bs : List OwnBlock) (k : ℕ) (b : OwnBlock) → ShapeFits shape → IsFilling shape.tables rows filling → placement ≡ blocks shape.tables rows → map seen bs ≡ placement
    → k < length bs → b ≡ get_or bs k b → IsOwned (length shape.tables) filling (seen b)
found_block shape rows filling placement bs k b fit fills own all below at =
    owned_at (length shape.tables) filling placement k (seen b) (placed_owned shape rows filling placement fit fills own) (rw all at (seen_found bs k b below at))
