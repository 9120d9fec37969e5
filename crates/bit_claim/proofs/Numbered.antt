-- Of each column at most one block, found by the numbers of its table and its own.
use Rattle.std.proofs.Common.{◌≡◌, ℕ, zero, suc, ◌+◌, ◌^◌, ◌<◌, ◌≤◌, ◌==◌, Bool, true, false, cond, List, [], ◌∷◌, ◌++◌, length, Some, refl, sym, ap, ◌∙◌, inl, inr, arith}
use Rattle.std.proofs.lemmas.Bool.{cases_lt, eq-eqb, eqb-true}
use Rattle.std.specs.Prelude.{slice_get, ◌&&◌}
use Rattle.std.specs.List.{filter}
use Rattle.std.proofs.lemmas.List.{append-nil}
use Rattle.std.proofs.lemmas.List.Elements.{filter-append}
use Rattle.list_laws.specs.CeilLog.{ceil_log}
use Rattle.table_shape.specs.declared.shape.ColumnKind.{ColumnKind}
use Rattle.table_shape.specs.declared.shape.ColumnKind.TheVariants.{Committed, Virtual}
use Rattle.table_shape.specs.declared.shape.ColumnShape.{ColumnShape}
use Rattle.table_shape.specs.declared.shape.TableShape.{TableShape}
use Rattle.table_shape.specs.Placement.{Block, bits_taken, block_of, blocks, by_size, column_blocks, is_block, table_blocks}
use Rattle.table_shape.specs.Size.{columns_bits, tables_bits}
use Rattle.bit_claim.proofs.Filtered.{bits_taken-append, by_size_filter, by_size_nil, by_size_one, skipped}

not_same : (x y : ℕ) → ¬ (x ≡ y) → (x == y) ≡ false
not_same x y h = elim (x == y) as (λ b. (x == y) ≡ b → b ≡ false) [ true ↦ λ e. absurd (h (eqb-true x y e)) | false ↦ λ e. refl ] refl

and_false : (a b : Bool) → b ≡ false → (a && b) ≡ false
and_false true b h = h
and_false false b h = refl

-- ---- one column

other_block : (t c own m k : ℕ) (column : ColumnShape) (kind : ColumnKind) → ((own == t) && (k == c)) ≡ false → filter (is_block t c) (block_of own m k column kind) ≡ []
other_block t c own m k column Committed h =
    ap (λ b. cond b ((record { table = own; column = k; level = column.level; log_bits = ceil_log m + column.log_values + column.level }) ∷ []) []) h
other_block t c own m k column (Virtual form) h = refl

own_block : (t c m : ℕ) (column : ColumnShape) (kind : ColumnKind) → filter (is_block t c) (block_of t m c column kind) ≡ block_of t m c column kind
own_block t c m column Committed =
    ap (λ b. cond b ((record { table = t; column = c; level = column.level; log_bits = ceil_log m + column.log_values + column.level }) ∷ []) []) ((λ i. eq-eqb t t refl i && (c == c)) ∙ eq-eqb c c refl)
own_block t c m column (Virtual form) = refl

few_blocks : (t c own m k : ℕ) (column : ColumnShape) (kind : ColumnKind) → length (filter (is_block t c) (block_of own m k column kind)) ≤ 1
few_blocks t c own m k column Committed = go ((own == t) && (k == c))
  where
    go : (b : Bool) → length {A = Block} (cond b ((record { table = own; column = k; level = column.level; log_bits = ceil_log m + column.log_values + column.level }) ∷ []) []) ≤ 1
    go true = omega arith
    go false = omega arith
few_blocks t c own m k column (Virtual form) = omega arith

-- ---- the columns of a table

no_column : (t c own m k : ℕ) (columns : List ColumnShape) → ((i : ℕ) → k ≤ i → ((own == t) && (i == c)) ≡ false) → filter (is_block t c) (column_blocks own m k columns) ≡ []
no_column t c own m k [] h = refl
no_column t c own m k (column ∷ columns) h =
    filter-append (is_block t c) (block_of own m k column column.kind) (column_blocks own m (k + 1) columns)
    ∙ (λ i. other_block t c own m k column column.kind (h k (omega arith)) i ++ no_column t c own m (k + 1) columns (λ j le. h j (omega arith)) i)

no_earlier : (t c own m k : ℕ) (columns : List ColumnShape) → c < k → filter (is_block t c) (column_blocks own m k columns) ≡ []
no_earlier t c own m k columns h = no_column t c own m k columns (λ i le. and_false (own == t) (i == c) (not_same i c (λ e. omega arith)))

no_other : (t c own m k : ℕ) (columns : List ColumnShape) → ¬ (own ≡ t) → filter (is_block t c) (column_blocks own m k columns) ≡ []
no_other t c own m k columns h = no_column t c own m k columns (λ i le. ap (λ b. b && (i == c)) (not_same own t h))

few_columns : (t c own m k : ℕ) (columns : List ColumnShape) → length (filter (is_block t c) (column_blocks own m k columns)) ≤ 1
few_columns t c own m k [] = omega arith
few_columns t c own m k (column ∷ columns) =
    let joined = filter-append (is_block t c) (block_of own m k column column.kind) (column_blocks own m (k + 1) columns) in
    elim (k == c) as (λ b. (k == c) ≡ b → length (filter (is_block t c) (column_blocks own m k (column ∷ columns))) ≤ 1) [
      | true ↦ λ e.
          let same = eqb-true k c e in
          let rest = no_earlier t c own m (k + 1) columns (omega arith) in
          let all = joined ∙ ap (λ bs. filter (is_block t c) (block_of own m k column column.kind) ++ bs) rest ∙ append-nil (filter (is_block t c) (block_of own m k column column.kind)) in
          omega (arith, ap length all, few_blocks t c own m k column column.kind)
      | false ↦ λ e.
          let here = other_block t c own m k column column.kind (and_false (own == t) (k == c) e) in
          let all = joined ∙ ap (λ bs. bs ++ filter (is_block t c) (column_blocks own m (k + 1) columns)) here in
          omega (arith, ap length all, few_columns t c own m (k + 1) columns)
    ] refl

column_here : (t c m k i : ℕ) (columns : List ColumnShape) (column : ColumnShape) → slice_get columns i ≡ Some column → c ≡ k + i → filter (is_block t c) (column_blocks t m k columns) ≡ block_of t m c column column.kind
column_here t c m k i [] column at e = absurd cc
column_here t c m k zero (x ∷ columns) column at e =
    let same : x ≡ column = cc in
    let here : k ≡ c = omega arith in
    filter-append (is_block t c) (block_of t m k x x.kind) (column_blocks t m (k + 1) columns)
    ∙ (λ j. filter (is_block t c) (block_of t m (here j) (same j) (same j).kind) ++ no_earlier t c t m (k + 1) columns (omega arith) j)
    ∙ append-nil (filter (is_block t c) (block_of t m c column column.kind))
    ∙ own_block t c m column column.kind
column_here t c m k (suc i) (x ∷ columns) column at e =
    filter-append (is_block t c) (block_of t m k x x.kind) (column_blocks t m (k + 1) columns)
    ∙ (λ j. other_block t c t m k x x.kind (and_false (t == t) (k == c) (not_same k c (λ f. omega arith))) j ++ column_here t c m (k + 1) i columns column at (omega arith) j)

-- ---- tables

no_table : (t c k : ℕ) (tables : List TableShape) (rows : List ℕ) → t < k → filter (is_block t c) (table_blocks k tables rows) ≡ []
no_table t c k [] rows h = refl
no_table t c k (table ∷ tables) [] h = refl
no_table t c k (table ∷ tables) (m ∷ rows) h =
    filter-append (is_block t c) (column_blocks k m 0 table.columns) (table_blocks (k + 1) tables rows)
    ∙ (λ i. no_other t c k m 0 table.columns (λ e. omega arith) i ++ no_table t c (k + 1) tables rows (omega arith) i)

few_tables : (t c k : ℕ) (tables : List TableShape) (rows : List ℕ) → length (filter (is_block t c) (table_blocks k tables rows)) ≤ 1
few_tables t c k [] rows = omega arith
few_tables t c k (table ∷ tables) [] = omega arith
few_tables t c k (table ∷ tables) (m ∷ rows) =
    let joined = filter-append (is_block t c) (column_blocks k m 0 table.columns) (table_blocks (k + 1) tables rows) in
    elim (k == t) as (λ b. (k == t) ≡ b → length (filter (is_block t c) (table_blocks k (table ∷ tables) (m ∷ rows))) ≤ 1) [
      | true ↦ λ e.
          let same = eqb-true k t e in
          let rest = no_table t c (k + 1) tables rows (omega arith) in
          let all = joined ∙ ap (λ bs. filter (is_block t c) (column_blocks k m 0 table.columns) ++ bs) rest ∙ append-nil (filter (is_block t c) (column_blocks k m 0 table.columns)) in
          omega (arith, ap length all, few_columns t c k m 0 table.columns)
      | false ↦ λ e.
          let here = no_other t c k m 0 table.columns (λ same. let no : true ≡ false = sym (eq-eqb k t same) ∙ e in absurd cc) in
          let all = joined ∙ ap (λ bs. bs ++ filter (is_block t c) (table_blocks (k + 1) tables rows)) here in
          omega (arith, ap length all, few_tables t c (k + 1) tables rows)
    ] refl

table_here : (t c m k i : ℕ) (tables : List TableShape) (rows : List ℕ) (table : TableShape) (column : ColumnShape) → slice_get tables i ≡ Some table → slice_get rows i ≡ Some m → t ≡ k + i → slice_get table.columns c ≡ Some column
    → filter (is_block t c) (table_blocks k tables rows) ≡ block_of t m c column column.kind
table_here t c m k i [] rows table column at count e here = absurd cc
table_here t c m k i (x ∷ tables) [] table column at count e here = absurd cc
table_here t c m k zero (x ∷ tables) (n ∷ rows) table column at count e here =
    let same : x ≡ table = cc in
    let same_rows : n ≡ m = cc in
    let own : k ≡ t = omega arith in
    filter-append (is_block t c) (column_blocks k n 0 x.columns) (table_blocks (k + 1) tables rows)
    ∙ (λ j. filter (is_block t c) (column_blocks (own j) (same_rows j) 0 (same j).columns) ++ no_table t c (k + 1) tables rows (omega arith) j)
    ∙ append-nil (filter (is_block t c) (column_blocks t m 0 table.columns))
    ∙ column_here t c m 0 c table.columns column here (omega arith)
table_here t c m k (suc i) (x ∷ tables) (n ∷ rows) table column at count e here =
    filter-append (is_block t c) (column_blocks k n 0 x.columns) (table_blocks (k + 1) tables rows)
    ∙ (λ j. no_other t c k n 0 x.columns (λ f. omega arith) j ++ table_here t c m (k + 1) i tables rows table column at count (omega arith) here j)

-- ---- all blocks, in their order

few_in_order : (n : ℕ) (bs : List Block) → length bs ≤ 1 → length (by_size n bs) ≤ 1
few_in_order n [] h = omega (arith, ap length (by_size_nil n))
few_in_order n (b ∷ []) h = elim (cases_lt b.log_bits n) [
  | inl lt ↦ omega (arith, ap length (by_size_one n b lt))
  | inr le ↦ omega (arith, ap length (skipped n b [] le ∙ by_size_nil n))
]
few_in_order n (b ∷ d ∷ bs) h = absurd (omega (arith, h))

pub once : (t c : ℕ) (tables : List TableShape) (rows : List ℕ) → length (filter (is_block t c) (blocks tables rows)) ≤ 1
once t c tables rows =
    let same = ap length (by_size_filter (is_block t c) 35 (table_blocks 0 tables rows)) in
    omega (arith, same, few_in_order 35 (filter (is_block t c) (table_blocks 0 tables rows)) (few_tables t c 0 tables rows))

in_order : (n t m c : ℕ) (column : ColumnShape) (kind : ColumnKind) → ceil_log m + column.log_values + column.level < n → by_size n (block_of t m c column kind) ≡ block_of t m c column kind
in_order n t m c column Committed h = by_size_one n (record { table = t; column = c; level = column.level; log_bits = ceil_log m + column.log_values + column.level }) h
in_order n t m c column (Virtual form) h = by_size_nil n

pub own_blocks : (tables : List TableShape) (rows : List ℕ) (t m c : ℕ) (table : TableShape) (column : ColumnShape) → slice_get tables t ≡ Some table → slice_get rows t ≡ Some m → slice_get table.columns c ≡ Some column
    → ceil_log m + column.log_values + column.level ≤ 34 → filter (is_block t c) (blocks tables rows) ≡ block_of t m c column column.kind
own_blocks tables rows t m c table column at count here small =
    by_size_filter (is_block t c) 35 (table_blocks 0 tables rows) ∙ ap (by_size 35) (table_here t c m 0 t tables rows table column at count (omega arith) here) ∙ in_order 35 t m c column column.kind (omega arith)

-- ---- their bits are some of those of all columns

column_bits_at_most : (t m k : ℕ) (columns : List ColumnShape) → bits_taken (column_blocks t m k columns) ≤ columns_bits m columns
column_bits_at_most t m k [] = omega arith
column_bits_at_most t m k (column ∷ columns) = omega (arith, bits_taken-append (block_of t m k column column.kind) (column_blocks t m (k + 1) columns), one column.kind, column_bits_at_most t m (k + 1) columns)
  where
    one : (kind : ColumnKind) → bits_taken (block_of t m k column kind) ≤ 2 ^ (ceil_log m + column.log_values + column.level)
    one Committed = omega arith
    one (Virtual form) = omega arith

pub table_bits_at_most : (k : ℕ) (tables : List TableShape) (rows : List ℕ) → bits_taken (table_blocks k tables rows) ≤ tables_bits tables rows
table_bits_at_most k [] rows = omega arith
table_bits_at_most k (table ∷ tables) [] = omega arith
table_bits_at_most k (table ∷ tables) (m ∷ rows) = omega (arith, bits_taken-append (column_blocks k m 0 table.columns) (table_blocks (k + 1) tables rows), column_bits_at_most k m 0 table.columns, table_bits_at_most (k + 1) tables rows)
