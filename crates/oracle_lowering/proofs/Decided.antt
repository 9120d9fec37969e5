-- Whether the lowered statement holds, by the pairs of products and the constraints.
use Rattle.std.proofs.Common.{◌≡◌, ◌↔◌, ℕ, zero, suc, ◌<◌, ◌≤◌, ◌^◌, ltb, Bool, true, false, List, [], ◌∷◌, length, get_or, Option, Some, None, refl, sym, ap, ◌∙◌, subst, arith}
use Rattle.std.specs.Prelude.{slice_get, slice_index, ◌&&◌, IsTrue, option_and_then}
use Rattle.std.proofs.lemmas.Bool.{ltb-false}
use Rattle.std.proofs.lemmas.Option.{get_or_from_slice_get, slice_get_within}
use Rattle.tower_laws.specs.Tower.{mul}
use Rattle.shift_laws.specs.Shifts.{flag}
use Rattle.list_laws.specs.CeilLog.{ceil_log}
use Rattle.list_laws.proofs.CeilLog.{is_least}
use Rattle.table_shape.specs.declared.shape.ConstraintShape.{ConstraintShape}
use Rattle.table_shape.specs.declared.shape.FlushShape.{FlushShape}
use Rattle.table_shape.specs.declared.shape.TableShape.{TableShape}
use Rattle.table_shape.specs.Filling.{Filling}
use Rattle.table_shape.specs.Lowering.{LoweredHolds, step}
use Rattle.table_shape.specs.Parts.{ShapeParts}
use Rattle.table_shape.specs.Satisfies.{AreAllZero, IsFirstNonZero, NonZero, value_at}
use Rattle.column_store.specs.Draft.{Stored}
use Rattle.m3_judge.specs.Sources.{flush_at}
use Rattle.oracle_lowering.specs.declared.products.Pair.{Pair}
use Rattle.oracle_lowering.specs.Products.{AreEqual, ArePairs}
use Rattle.oracle_lowering.proofs.ProductSteps.{one_times}
use Rattle.oracle_lowering.proofs.Satisfied.{zero_throughout}

item_below : {X : Type 0} (xs : List X) (i : ℕ) → i < length xs → (x : X) × (slice_get xs i ≡ Some x)
item_below [] i h = absurd (omega arith)
item_below (x ∷ xs) zero h = (x, refl)
item_below (x ∷ xs) (suc i) h = item_below xs i (omega arith)

-- the flush that was found by its numbers
pub own_flush : (tables : List TableShape) (t f : ℕ) (table : TableShape) (flush own : FlushShape) → flush_at tables t f ≡ Some own → table ≡ get_or tables t table → flush ≡ get_or table.flushes f flush → flush ≡ own
own_flush tables t f table flush own is at here = go (slice_get tables t) refl is
  where
    go : (found : Option TableShape) → slice_get tables t ≡ found → option_and_then (λ (x : TableShape). slice_get x.flushes f) found ≡ Some own → flush ≡ own
    go None e found = absurd cc
    go (Some real) e found =
        let same : table ≡ real = at ∙ get_or_from_slice_get tables t real table e in
        here ∙ ap (λ (x : TableShape). get_or x.flushes f flush) same ∙ get_or_from_slice_get real.flushes f own flush found

-- ---- constraints

value_is_zero : (row m v : ℕ) → row < m → mul (step m row) v ≡ 0 → v ≡ 0
value_is_zero row m v below h = go (ltb row m) refl h
  where
    go : (b : Bool) → ltb row m ≡ b → mul (flag b) v ≡ 0 → v ≡ 0
    go true e is = sym (one_times v) ∙ is
    go false e is = absurd (omega (arith, ltb-false row m e, below))

pub zero_from : (shape : ShapeParts) (rows : List ℕ) (filling : Filling) (a g : ℕ) → LoweredHolds shape rows filling a g → AreAllZero shape.tables rows filling
zero_from shape rows filling a g holds t table z constraint at own row index below within =
    let m = slice_index rows t in
    let enough = (is_least m).enough in
    let filled : row < 2 ^ ceil_log m = omega (arith, below, enough) in
    value_is_zero row m (value_at filling t constraint row index) below (holds.zero t table z constraint at own row index filled within)

-- a value that isn't 0 was found
pub not_zero : (tables : List TableShape) (rows : List ℕ) (filling : Filling) (v : NonZero) → IsFirstNonZero tables rows filling v → AreAllZero tables rows filling → ⊥
not_zero tables rows filling v first all = first.not_zero (first.value ∙ all v.table first.table v.constraint first.constraint first.table_is first.constraint_is v.row v.index first.row first.index)

-- ---- products

equal_from : (shape : ShapeParts) (rows : List ℕ) (filling : Filling) (a g : ℕ) (pairs : List Pair) → ArePairs shape rows filling a g pairs → LoweredHolds shape rows filling a g → AreEqual pairs
equal_from shape rows filling a g pairs are holds channel pair at =
    let within = slice_get_within pairs channel pair at in
    let own = item_below shape.channels channel (omega (arith, within, are.count)) in
    are.push channel pair at ∙ holds.products channel own.0 own.1 ∙ sym (are.pull channel pair at)

lowered_from : (shape : ShapeParts) (rows : List ℕ) (filling : Filling) (a g : ℕ) (pairs : List Pair) → ArePairs shape rows filling a g pairs → AreEqual pairs → AreAllZero shape.tables rows filling → LoweredHolds shape rows filling a g
lowered_from shape rows filling a g pairs are equal none = record {
  zero = λ t table z constraint at own. zero_throughout filling t constraint (slice_index rows t) (none t table z constraint at own);
  products = λ channel c at.
      let within = slice_get_within shape.channels channel c at in
      let own = item_below pairs channel (omega (arith, within, are.count)) in
      sym (are.push channel own.0 own.1) ∙ equal channel own.0 own.1 ∙ are.pull channel own.0 own.1;
}

-- both answers as one
pub decided : (s l : Stored) (a g : ℕ) (items pairs : List Pair) (are_zero are_equal holds : Bool) → s ≡ l → items ≡ pairs → ArePairs s.shape s.rows s.filling a g pairs → (IsTrue are_zero ↔ AreAllZero s.shape.tables s.rows s.filling)
    → (IsTrue are_equal ↔ AreEqual items) → holds ≡ (are_zero && are_equal) → IsTrue holds ↔ LoweredHolds l.shape l.rows l.filling a g
decided s l a g items pairs are_zero are_equal holds same all are none equal is =
    subst (λ (x : Stored). IsTrue holds ↔ LoweredHolds x.shape x.rows x.filling a g) same (go are_zero are_equal refl refl)
  where
    go : (b d : Bool) → are_zero ≡ b → are_equal ≡ d → IsTrue holds ↔ LoweredHolds s.shape s.rows s.filling a g
    go true true e f =
        (λ h. lowered_from s.shape s.rows s.filling a g pairs are (subst AreEqual all (equal.0 f)) (none.0 e), λ h. is ∙ (λ i. e i && f i))
    go true false e f =
        (λ h. absurd (let no : true ≡ false = sym h ∙ is ∙ (λ i. e i && f i) in cc), λ h. absurd (let no : true ≡ false = sym (equal.1 (subst AreEqual (sym all) (equal_from s.shape s.rows s.filling a g pairs are h))) ∙ f in cc))
    go false d e f =
        (λ h. absurd (let no : true ≡ false = sym h ∙ is ∙ (λ i. e i && are_equal) in cc), λ h. absurd (let no : true ≡ false = sym (none.1 (zero_from s.shape s.rows s.filling a g h)) ∙ e in cc))
