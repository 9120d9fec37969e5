-- Steps of loops over columns that make their reductions.
use Rattle.std.proofs.Common.{◌≡◌, ◌∙◌, ℕ, zero, suc, ◌+◌, ◌*◌, ◌<◌, ◌≤◌, ◌^◌, List, [], ◌∷◌, ◌++◌, length, take, drop, get_or, slice_get, Some, sym, ap, subst, arith}
use Rattle.std.specs.List.{AllByRecursion, slice_index}
use Rattle.std.specs.Option.{option_and_then}
use Rattle.list_laws.proofs.Lists.{item_here}
use Rattle.table_shape.specs.declared.shape.ColumnShape.{ColumnShape}
use Rattle.table_shape.specs.declared.shape.TableShape.{TableShape}
use Rattle.eval_reduce.specs.Virtual.{column_of}
use Rattle.proof_plan.specs.Plan.{backwards, bit_claims, claims_after, committed_claims, first_columns, times_in}
use Rattle.proof_plan.specs.Small.{ColumnIsSmall}
use Rattle.proof_plan.proofs.ColumnSteps.{counted, first_columns_are, length_backwards}
use Rattle.proof_plan.proofs.PlanBounds.{claims_few}
use Rattle.m3_walk.specs.declared.stage.Stage.{Stage}
use Rattle.m3_walk.specs.Course.{column_stages, columns_stages, table_stages}
use Rattle.m3_walk.proofs.StageSteps.{drop_at, part_pushed}

-- ---- a column of a table
pub all_at : {X : Type 0} (P : X → Type 0) (xs : List X) (i : ℕ) (x : X) → AllByRecursion P xs → i < length xs → x ≡ get_or xs i x → P x
all_at P [] i x h l e = absurd (omega arith)
all_at P (y ∷ ys) zero x h l e = subst P (sym e) h.0
all_at P (y ∷ ys) (suc i) x h l e = all_at P ys i x h.1 (omega arith) e

pub column_in : (tables : List TableShape) (t c : ℕ) (table : TableShape) (column : ColumnShape) → slice_get tables t ≡ Some table → c < length table.columns → column ≡ get_or table.columns c column → column_of tables t c ≡ Some column
column_in tables t c table column e l h = ap (option_and_then (λ (table : TableShape). slice_get table.columns c)) e ∙ item_here table.columns c column l h

-- ---- a column is done
pub record Made (all : List TableShape) (rows t : ℕ) (before : List ColumnShape) (claimed : List ℕ) (now whole : List Stage) (committed total : ℕ) : Type 0 where
  pub stages : now ++ columns_stages all rows t before claimed ≡ whole
  pub count : committed + committed_claims before claimed ≡ total

pub column_made : (all : List TableShape) (rows t i n j : ℕ) (cs : List ColumnShape) (column : ColumnShape) (claimed claimed_next : List ℕ) (now next whole : List Stage) (committed count total : ℕ) → n ≡ suc i → i < length cs → column ≡ get_or cs i column
    → Made all rows t (backwards (take n cs)) claimed now whole committed total → j ≡ times_in i claimed → next ≡ now ++ column_stages all rows t i column j → claimed_next ≡ claims_after column j claimed → count ≡ counted column j
    → Made all rows t (backwards (take i cs)) claimed_next next whole (committed + count) total
column_made all rows t i n j cs column claimed claimed_next now next whole committed count total is l e d p h k m =
    let before = backwards (take i cs) in
    let at = ap (λ q. backwards (take q cs)) is ∙ first_columns_are cs i column l e in
    let w : i ≡ length before = sym (length_backwards cs i (omega arith)) in
    let q : j ≡ times_in (length before) claimed = p ∙ ap (λ q. times_in q claimed) w in
    let one : now ++ columns_stages all rows t (column ∷ before) claimed ≡ whole = sym (ap (λ bs. now ++ columns_stages all rows t bs claimed) at) ∙ d.stages in
    let two : committed + committed_claims (column ∷ before) claimed ≡ total = sym (ap (λ bs. committed + committed_claims bs claimed) at) ∙ d.count in
    let stages_here : column_stages all rows t i column j ++ columns_stages all rows t before (claims_after column j claimed) ≡ columns_stages all rows t (column ∷ before) claimed = λ v. column_stages all rows t (w v) column (q v) ++ columns_stages all rows t before (claims_after column (q v) claimed) in
    let count_here : counted column j + committed_claims before (claims_after column j claimed) ≡ committed_claims (column ∷ before) claimed = λ v. counted column (q v) + committed_claims before (claims_after column (q v) claimed) in
    let more : count + committed_claims before claimed_next ≡ counted column j + committed_claims before (claims_after column j claimed) = λ v. m v + committed_claims before (k v) in
    record {
      stages = part_pushed now (column_stages all rows t i column j) (columns_stages all rows t before claimed_next) (columns_stages all rows t (column ∷ before) claimed) next whole
          (sym stages_here ∙ ap (λ cl. column_stages all rows t i column j ++ columns_stages all rows t before cl) (sym k)) h one;
      count = omega (arith, two, count_here, more);
    }

-- memory for claims
pub claims_left : (column : ColumnShape) (i n j : ℕ) (claimed claimed_next : List ℕ) → ColumnIsSmall column → claimed_next ≡ claims_after column j claimed → n ≡ suc i → length claimed + n * 64 ≤ 2 ^ 17 → length claimed_next + i * 64 ≤ 2 ^ 17
claims_left column i n j claimed claimed_next s e is h =
    let f = claims_few column j (length claimed + 64) claimed s (omega arith) in
    let l = ap (λ cl. length cl) e in
    omega arith

-- ---- one table more
pub table_made : (all : List TableShape) (rows : List ℕ) (t : ℕ) (tables : List TableShape) (table : TableShape) (claimed : List ℕ) (now next whole : List Stage) → slice_get tables t ≡ Some table → claimed ≡ first_columns table
    → next ≡ now ++ columns_stages all (slice_index rows t) t (backwards table.columns) claimed → now ++ table_stages all rows t (drop t tables) ≡ whole → next ++ table_stages all rows (t + 1) (drop (t + 1) tables) ≡ whole
table_made all rows t tables table claimed now next whole at f h e =
    part_pushed now (columns_stages all (slice_index rows t) t (backwards table.columns) (first_columns table)) (table_stages all rows (t + 1) (drop (t + 1) tables)) (table_stages all rows t (drop t tables)) next whole
    (ap (table_stages all rows t) (drop_at tables t table at)) (h ∙ ap (λ cl. now ++ columns_stages all (slice_index rows t) t (backwards table.columns) cl) f) e

pub table_counted : (t : ℕ) (tables : List TableShape) (table : TableShape) (claimed : List ℕ) (now n total : ℕ) → slice_get tables t ≡ Some table → claimed ≡ first_columns table → n ≡ committed_claims (backwards table.columns) claimed
    → now + bit_claims (drop t tables) ≡ total → now + n + bit_claims (drop (t + 1) tables) ≡ total
table_counted t tables table claimed now n total at f h e =
    let own : n ≡ committed_claims (backwards table.columns) (first_columns table) = h ∙ ap (committed_claims (backwards table.columns)) f in
    let more = ap bit_claims (drop_at tables t table at) in
    omega arith
