-- Steps of the search for the first value that isn't 0.
use Rattle.std.proofs.Common.{◌≡◌, ℕ, ◌<◌, ◌≤◌, ◌+◌, ◌^◌, ◌⊎◌, inl, inr, List, [], length, Some, sym, ◌∙◌, subst, arith, below_more}
use Rattle.std.specs.List.{slice_get, slice_index}
use Rattle.std.specs.Prelude.{slice_index_or}
use Rattle.std.proofs.lemmas.Option.{slice_get_within}
use Rattle.table_shape.specs.declared.shape.ConstraintShape.{ConstraintShape}
use Rattle.table_shape.specs.declared.shape.TableShape.{TableShape}
use Rattle.table_shape.specs.Filling.{Filling}
use Rattle.table_shape.specs.Satisfies.{IsZeroOnRows, AreZero, TablesAreZero, IsFirstNonZero}
use Rattle.std.proofs.lemmas.Bool.{cases_lt}
use Rattle.m3_judge.specs.Blocks.{IsZeroBetween}
use Rattle.m3_judge.specs.Judging.{seen, value_of, IsZeroOn, IsZeroAtIndices, IsFirstInRow, IsFirstFound, IsFirstInTable}
use Rattle.m3_judge.specs.declared.constraints.Found.{Found}
use Rattle.m3_judge.specs.declared.constraints.NonZero.{NonZero as OwnNonZero}

pub IsZeroOn-more : (lists : List (List ℕ)) (constraint : ConstraintShape) (n : ℕ) → IsZeroOn lists constraint n → IsZeroAtIndices lists constraint n (2 ^ constraint.log_values) → IsZeroOn lists constraint (n + 1)
IsZeroOn-more lists constraint n before here row index below =
    let P : ℕ → Type 0 = λ row. index < 2 ^ constraint.log_values → value_of lists constraint row index ≡ 0 in
    below_more P n (λ row h at. before row index h at) (here index) row below

-- what is 0 before a row, and on n rows from there on, is 0 before each later row of these
pub IsZeroOn-between : (lists : List (List ℕ)) (constraint : ConstraintShape) (row n next : ℕ)
    → IsZeroOn lists constraint row → IsZeroBetween lists constraint row n → next ≤ row + n → IsZeroOn lists constraint next
IsZeroOn-between lists constraint row n next before here within r index below at = go (cases_lt r row)
  where
    go : (r < row) ⊎ (row ≤ r) → value_of lists constraint r index ≡ 0
    go (inl earlier) = before r index earlier at
    go (inr later) = here r index later (omega arith) at

-- the first value before a row is the first before a later one
pub found_earlier : (lists : List (List ℕ)) (constraint : ConstraintShape) (next rows : ℕ) (found : Found) → next ≤ rows → IsFirstFound lists constraint next found → IsFirstFound lists constraint rows found
found_earlier lists constraint next rows found within first = record {
  row = let row = first.row in omega arith;
  index = first.index;
  value = first.value;
  not_zero = first.not_zero;
  rows_before = first.rows_before;
  indices_before = first.indices_before;
}

pub found_in_row : (lists : List (List ℕ)) (constraint : ConstraintShape) (n rows : ℕ) (found : Found)
    → n < rows → IsZeroOn lists constraint n → IsFirstInRow lists constraint n found → IsFirstFound lists constraint rows found
found_in_row lists constraint n rows found below before first = record {
  row = omega (arith, first.row_is);
  index = first.index;
  value = subst (λ (r : ℕ). found.value ≡ value_of lists constraint r found.index) (sym first.row_is) first.value;
  not_zero = first.not_zero;
  rows_before = subst (λ (r : ℕ). IsZeroOn lists constraint r) (sym first.row_is) before;
  indices_before = subst (λ (r : ℕ). IsZeroAtIndices lists constraint r found.index) (sym first.row_is) first.before;
}

pub AreZero-more : (filling : Filling) (t : ℕ) (table : TableShape) (rows n : ℕ) (here : ConstraintShape)
    → slice_get table.constraints n ≡ Some here → AreZero filling t table rows n → IsZeroOnRows filling t here rows → AreZero filling t table rows (n + 1)
AreZero-more filling t table rows n here is before none z constraint below at =
    let P : ℕ → Type 0 = λ z. slice_get table.constraints z ≡ Some constraint → IsZeroOnRows filling t constraint rows in
    below_more P n (λ z h at. before z constraint h at) (λ at. let same : here ≡ constraint = some_injective (sym is ∙ at) in subst (λ (c : ConstraintShape). IsZeroOnRows filling t c rows) same none) z below at
  where
    some_injective : {X : Type 0} {x y : X} → Some x ≡ Some y → x ≡ y
    some_injective e = cc

pub TablesAreZero-more : (filling : Filling) (tables : List TableShape) (rows : List ℕ) (n : ℕ) (here : TableShape)
    → slice_get tables n ≡ Some here → TablesAreZero tables rows filling n → AreZero filling n here (slice_index rows n) (length here.constraints) → TablesAreZero tables rows filling (n + 1)
TablesAreZero-more filling tables rows n here is before none t table z constraint below at found =
    let P : ℕ → Type 0 = λ t. slice_get tables t ≡ Some table → slice_get table.constraints z ≡ Some constraint → IsZeroOnRows filling t constraint (slice_index rows t) in
    below_more P n (λ t h at found. before t table z constraint h at found)
    (λ at found.
    let same : here ≡ table = some_injective (sym is ∙ at) in
    let zeroes : AreZero filling n table (slice_index rows n) (length table.constraints) = subst (λ (s : TableShape). AreZero filling n s (slice_index rows n) (length s.constraints)) same none in
    zeroes z constraint (slice_get_within table.constraints z constraint found) found)
    t below at found
  where
    some_injective : {X : Type 0} {x y : X} → Some x ≡ Some y → x ≡ y
    some_injective e = cc

pub found_in_table : (filling : Filling) (tables : List TableShape) (rows : List ℕ) (n : ℕ) (table : TableShape) (v : OwnNonZero)
    → slice_get tables n ≡ Some table → TablesAreZero tables rows filling n → v.table ≡ n → IsFirstInTable filling table (slice_index rows n) v → IsFirstNonZero tables rows filling (seen v)
found_in_table filling tables rows n table v at before is first =
    let same : n ≡ v.table = sym is in
    let found : IsFirstFound (slice_index_or filling v.table []) first.constraint (slice_index rows v.table) (record { row = v.row; index = v.index; value = v.value }) =
    subst (λ (m : ℕ). IsFirstFound (slice_index_or filling v.table []) first.constraint (slice_index rows m) (record { row = v.row; index = v.index; value = v.value })) same first.found in
    record {
      table = table;
      constraint = first.constraint;
      table_is = subst (λ (m : ℕ). slice_get tables m ≡ Some table) same at;
      constraint_is = first.is;
      row = found.row;
      index = found.index;
      value = found.value;
      not_zero = found.not_zero;
      tables_before = subst (λ (m : ℕ). TablesAreZero tables rows filling m) same before;
      constraints_before = subst (λ (m : ℕ). AreZero filling v.table table (slice_index rows m) v.constraint) same first.before;
      rows_before = found.rows_before;
      indices_before = found.indices_before;
    }
