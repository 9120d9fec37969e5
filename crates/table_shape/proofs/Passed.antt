-- What stands where a declaration's checks are through.
use Rattle.std.proofs.Common.{◌≡◌, ℕ, zero, suc, ◌+◌, ◌<◌, ◌≤◌, ◌==◌, ◌||◌, Bool, not, true, false, cond, leb, ltb, List, [], ◌∷◌, ◌++◌, length, Option, Some, None, Result, Ok, Err, refl, sym, ap, subst, arith, ◌∙◌}
use Rattle.std.specs.List.{list_any}
use Rattle.std.specs.Str.{bytes_eq}
use Rattle.std.proofs.lemmas.Bool.{leb-false, ltb-false, or_parts}
use Rattle.table_text.specs.declared.expr.Expr.{Expr}
use Rattle.table_text.specs.declared.decl.Side.{Side}
use Rattle.table_text.specs.declared.decl.VirtualForm.{VirtualForm}
use Rattle.table_text.specs.declared.decl.Item.{Item}
use Rattle.table_text.specs.declared.decl.Item.TheVariants as item
use Rattle.table_shape.specs.declared.shape.ChannelShape.{ChannelShape}
use Rattle.table_shape.specs.declared.shape.BoundaryShape.{BoundaryShape}
use Rattle.table_shape.specs.declared.shape.FlushShape.{FlushShape}
use Rattle.table_shape.specs.declared.shape.ColumnKind.TheVariants.{Committed}
use Rattle.table_shape.specs.declared.shape.ColumnShape.{ColumnShape}
use Rattle.table_shape.specs.declared.shape.ShapeExpr.{ShapeExpr}
use Rattle.table_shape.specs.declared.shape.ShapeForm.{ShapeForm}
use Rattle.table_shape.specs.declared.shape.TableShape.{TableShape}
use Rattle.table_shape.specs.declared.fault.ShapeFault.{ShapeFault}
use Rattle.table_shape.specs.declared.fault.ShapeKind.{ShapeKind}
use Rattle.table_shape.specs.declared.fault.ShapeKind.TheVariants.{DoubleName, UnequalWidth, DegreeTooHigh, TupleWidth, TooMany}
use Rattle.table_shape.specs.Checked.{IsChecked, checked_form}
use Rattle.table_shape.specs.Value.{degree}
use Rattle.table_shape.specs.Width.{width_at}
use Rattle.table_shape.specs.Fits.{BoundaryFits, FlushesFit}
use Rattle.table_shape.specs.Shape.{resolved, resolved_form, terms_of, first_fault, flush_checks, number_of_channel, resolved_flush, with_column, with_resolved_form, with_virtual, with_expr, with_constraint, with_channel, with_tuple, with_boundary, with_checked_flush, with_resolved_flush, with_flush, with_item, with_items, begun_table}
use Rattle.table_shape.specs.ShapeMeaning.{IsFlush}
use Rattle.list_laws.proofs.Steps.{bind_ok}
use Rattle.table_shape.proofs.FitsSteps.{with_columns, with_constraints, with_flushes, empty_table, flushes_fit_columns, flushes_fit_pushed}
use Rattle.table_shape.proofs.FormFits.{not_false}
use Rattle.table_shape.proofs.FlushSteps.{width_fits, flush_is}
use Rattle.table_shape.proofs.VirtualSteps.{with_virtual_column, with_form_is, form_passed}
use Rattle.table_shape.proofs.ConstraintSteps.{constraint, equal_widths}

-- ---- tests in a row

pub same_ok : {X E : Type 0} (x y : X) → ◌≡◌ {A = Result X E} (Ok x) (Ok y) → x ≡ y
same_ok x y e = cc

-- one test, and what follows it
pub test_passed : {X : Type 0} (a : Bool) (d : ShapeFault) (r : Result X ShapeFault) (y : X) → cond a (Err d) r ≡ Ok y → (a ≡ false) × (r ≡ Ok y)
test_passed true d r y h = absurd cc
test_passed false d r y h = (refl, h)

pub test_pass : {X : Type 0} (a : Bool) (d : ShapeFault) (r : Result X ShapeFault) → a ≡ false → cond a (Err d) r ≡ r
test_pass a d r p = ap (λ t. cond t (Err d) r) p

pub both_passed : {X : Type 0} (a b : Bool) (d e : ShapeFault) (r : Result X ShapeFault) (y : X) → cond a (Err d) (cond b (Err e) r) ≡ Ok y → (a ≡ false) × (b ≡ false) × (r ≡ Ok y)
both_passed true b d e r y h = absurd cc
both_passed false true d e r y h = absurd cc
both_passed false false d e r y h = (refl, refl, h)

pub both_pass : {X : Type 0} (a b : Bool) (d e : ShapeFault) (r : Result X ShapeFault) → a ≡ false → b ≡ false → cond a (Err d) (cond b (Err e) r) ≡ r
both_pass a b d e r p q = ap (λ t. cond t (Err d) (cond b (Err e) r)) p ∙ ap (λ t. cond t (Err e) r) q

-- ---- columns

abbrev pub committed : List ℕ → ℕ → ℕ → ColumnShape
committed name level log_values = record { name = name; level = level; log_values = log_values; kind = Committed }

-- no column of this name, and room for one more
pub record IsFree (name : List ℕ) (columns : List ColumnShape) : Type 0 where
  pub room : length columns < 256
  pub new : list_any (λ c. bytes_eq name c.name) columns ≡ false

pub record ColumnPassed (name : List ℕ) (level log_values : ℕ) (table new : TableShape) : Type 0 where
  pub free : IsFree name table.columns
  pub is : with_columns table (committed name level log_values ∷ []) ≡ new

pub column_passed : (k : ℕ) (name : List ℕ) (level log_values : ℕ) (table new : TableShape) → with_column k name level log_values table ≡ Ok new → ColumnPassed name level log_values table new
column_passed k name level log_values table new e =
    let pushed = with_columns table (committed name level log_values ∷ []) in
    let p = both_passed (leb 256 (length table.columns)) (list_any (λ c. bytes_eq name c.name) table.columns) (record { item = k; kind = TooMany }) (record { item = k; kind = DoubleName }) (Ok pushed) new e in
    record { free = record { room = leb-false 256 (length table.columns) p.0; new = p.1 }; is = same_ok pushed new p.2 }

pub record VirtualPassed (name : List ℕ) (f0 : VirtualForm) (table new : TableShape) : Type 0 where
  pub form : ShapeForm
  pub free : IsFree name table.columns
  pub few : length (terms_of f0) ≤ 64
  pub known : resolved_form table.columns f0 ≡ Some form
  pub checked : IsChecked table.columns form
  pub is : with_virtual_column name table form ≡ new

pub virtual_passed : (k : ℕ) (name : List ℕ) (f0 : VirtualForm) (table new : TableShape) → with_virtual k name f0 table ≡ Ok new → VirtualPassed name f0 table new
virtual_passed k name f0 table new e =
    let found = resolved_form table.columns f0 in
    let p = both_passed (leb 256 (length table.columns) || ltb 64 (length (terms_of f0))) (list_any (λ c. bytes_eq name c.name) table.columns) (record { item = k; kind = TooMany }) (record { item = k; kind = DoubleName }) (with_resolved_form k name table found) new e in
    let q = or_parts (leb 256 (length table.columns)) (ltb 64 (length (terms_of f0))) p.0 in
    let b = bind_ok (checked_form k table.columns found) (λ f. Ok (with_virtual_column name table f)) new (sym (with_form_is k name table found) ∙ p.2) in
    let passed = form_passed k table.columns found b.0 b.1 in
    record {
      form = b.0;
      free = record { room = leb-false 256 (length table.columns) q.0; new = p.1 };
      few = ltb-false 64 (length (terms_of f0)) q.1;
      known = passed.known;
      checked = passed.checked;
      is = same_ok (with_virtual_column name table b.0) new b.2;
    }

-- ---- constraints

pub record ConstraintPassed (name : List ℕ) (e : Expr) (table new : TableShape) : Type 0 where
  pub expr : ShapeExpr
  pub room : length table.constraints < 256
  pub free : list_any (λ z. bytes_eq name z.name) table.constraints ≡ false
  pub known : resolved table.columns e ≡ Some expr
  pub equal : equal_widths table.columns expr ≡ true
  pub low : degree expr ≤ 8
  pub is : with_constraints table (constraint name table.columns expr ∷ []) ≡ new

record ExprPassed (name : List ℕ) (table new : TableShape) (o : Option ShapeExpr) : Type 0 where
  expr : ShapeExpr
  known : o ≡ Some expr
  equal : equal_widths table.columns expr ≡ true
  low : degree expr ≤ 8
  is : with_constraints table (constraint name table.columns expr ∷ []) ≡ new

expr_passed : (k : ℕ) (name : List ℕ) (table new : TableShape) (o : Option ShapeExpr) → with_expr k name table o ≡ Ok new → ExprPassed name table new o
expr_passed k name table new None e = absurd cc
expr_passed k name table new (Some expr) e =
    let equal = equal_widths table.columns expr in
    let pushed = with_constraints table (constraint name table.columns expr ∷ []) in
    let p = both_passed (not equal) (ltb 8 (degree expr)) (record { item = k; kind = UnequalWidth }) (record { item = k; kind = DegreeTooHigh }) (Ok pushed) new e in
    record { expr = expr; known = refl; equal = not_false equal p.0; low = ltb-false 8 (degree expr) p.1; is = same_ok pushed new p.2 }

pub constraint_passed : (k : ℕ) (name : List ℕ) (e : Expr) (table new : TableShape) → with_constraint k name e table ≡ Ok new → ConstraintPassed name e table new
constraint_passed k name e table new h =
    let p = both_passed (leb 256 (length table.constraints)) (list_any (λ z. bytes_eq name z.name) table.constraints) (record { item = k; kind = TooMany }) (record { item = k; kind = DoubleName }) (with_expr k name table (resolved table.columns e)) new h in
    let x = expr_passed k name table new (resolved table.columns e) p.2 in
    record { expr = x.expr; room = leb-false 256 (length table.constraints) p.0; free = p.1; known = x.known; equal = x.equal; low = x.low; is = x.is }

-- ---- flushes

pub record FlushPassed (channels : List ChannelShape) (side : Side) (channel : List ℕ) (names : List (List ℕ)) (selector : Option (List ℕ)) (table new : TableShape) : Type 0 where
  pub flush : FlushShape
  pub room : length table.flushes < 64
  pub declared : IsFlush channels table.columns side channel names selector flush
  pub is : with_flushes table (flush ∷ []) ≡ new

checks_passed : (k : ℕ) (table new : TableShape) (flush : FlushShape) (o : Option ShapeKind) → with_checked_flush k table flush o ≡ Ok new → (o ≡ None) × (with_flushes table (flush ∷ []) ≡ new)
checks_passed k table new flush (Some kind) e = absurd cc
checks_passed k table new flush None e = (refl, same_ok (with_flushes table (flush ∷ [])) new e)

names_passed : (k : ℕ) (channels : List ChannelShape) (table new : TableShape) (o : Option FlushShape) → with_resolved_flush k channels table o ≡ Ok new
    → (flush : FlushShape) × (o ≡ Some flush) × (first_fault (flush_checks channels table.columns flush) ≡ None) × (with_flushes table (flush ∷ []) ≡ new)
names_passed k channels table new None e = absurd cc
names_passed k channels table new (Some flush) e =
    let c = checks_passed k table new flush (first_fault (flush_checks channels table.columns flush)) e in
    (flush, refl, c.0, c.1)

pub flush_passed : (k : ℕ) (channels : List ChannelShape) (side : Side) (channel : List ℕ) (names : List (List ℕ)) (selector : Option (List ℕ)) (table new : TableShape) → with_flush k channels side channel names selector table ≡ Ok new
    → FlushPassed channels side channel names selector table new
flush_passed k channels side channel names selector table new e =
    let found = resolved_flush channels table.columns side channel names selector in
    let p = test_passed (leb 64 (length table.flushes)) (record { item = k; kind = TooMany }) (with_resolved_flush k channels table found) new e in
    let n = names_passed k channels table new found p.1 in
    record { flush = n.0; room = leb-false 64 (length table.flushes) p.0; declared = flush_is channels table.columns side channel names selector n.0 n.1 n.2; is = n.3 }

-- ---- items keep the table's name, and its flushes fit

-- what items leave as it was
pub record Keeps (channels : List ChannelShape) (table new : TableShape) : Type 0 where
  pub name_is : new.name ≡ table.name
  pub flushes_fit : FlushesFit channels table → FlushesFit channels new

item_keeps : (k : ℕ) (channels : List ChannelShape) (i : Item) (table new : TableShape) → with_item k channels i table ≡ Ok new → Keeps channels table new
item_keeps k channels (item.Column name level log_values) table new e =
    let p = column_passed k name level log_values table new e in
    subst (Keeps channels table) p.is (record { name_is = refl; flushes_fit = flushes_fit_columns channels table (committed name level log_values ∷ []) })
item_keeps k channels (item.Virtual name f0) table new e =
    let p = virtual_passed k name f0 table new e in
    subst (Keeps channels table) p.is (record { name_is = refl; flushes_fit = flushes_fit_columns channels table _ })
item_keeps k channels (item.Zero name expr) table new e =
    let p = constraint_passed k name expr table new e in
    subst (Keeps channels table) p.is (record { name_is = refl; flushes_fit = λ h. h })
item_keeps k channels (item.Flush side channel names selector) table new e =
    let p = flush_passed k channels side channel names selector table new e in
    subst (Keeps channels table) p.is (record { name_is = refl; flushes_fit = λ h. flushes_fit_pushed channels table p.flush h p.declared.fits })

pub items_keep : (k : ℕ) (channels : List ChannelShape) (items : List Item) (table new : TableShape) → with_items k channels items table ≡ Ok new → Keeps channels table new
items_keep k channels [] table new e = subst (Keeps channels table) (same_ok table new e) (record { name_is = refl; flushes_fit = λ h. h })
items_keep k channels (i ∷ items) table new e =
    let a = bind_ok (with_item k channels i table) (with_items (k + 1) channels items) new e in
    let one = item_keeps k channels i table a.0 a.1 in
    let more = items_keep (k + 1) channels items a.0 new a.2 in
    record { name_is = more.name_is ∙ one.name_is; flushes_fit = λ h. more.flushes_fit (one.flushes_fit h) }

-- ---- a table begun

pub record TablePassed (name : List ℕ) (tables : List TableShape) (begun : TableShape) : Type 0 where
  pub room : length tables < 64
  pub new : list_any (λ t. bytes_eq name t.name) tables ≡ false
  pub is : empty_table name ≡ begun

pub table_passed : (k : ℕ) (name : List ℕ) (tables : List TableShape) (begun : TableShape) → begun_table k name tables ≡ Ok begun → TablePassed name tables begun
table_passed k name tables begun e =
    let p = both_passed (leb 64 (length tables)) (list_any (λ t. bytes_eq name t.name) tables) (record { item = k; kind = TooMany }) (record { item = k; kind = DoubleName }) (Ok (empty_table name)) begun e in
    record { room = leb-false 64 (length tables) p.0; new = p.1; is = same_ok (empty_table name) begun p.2 }

-- ---- channels

pub record ChannelPassed (name : List ℕ) (width : ℕ) (channels new : List ChannelShape) : Type 0 where
  pub room : length channels < 64
  pub free : list_any (λ c. bytes_eq name c.name) channels ≡ false
  pub wide : 1 ≤ width
  pub few : width ≤ 16
  pub is : channels ++ record { name = name; width = width } ∷ [] ≡ new

not_zero : (n : ℕ) → (n == 0) ≡ false → 1 ≤ n
not_zero zero e = absurd cc
not_zero (suc n) e = omega arith

pub channel_passed : (k : ℕ) (name : List ℕ) (width : ℕ) (channels new : List ChannelShape) → with_channel k name width channels ≡ Ok new → ChannelPassed name width channels new
channel_passed k name width channels new e =
    let pushed : List ChannelShape = channels ++ record { name = name; width = width } ∷ [] in
    let p = both_passed (leb 64 (length channels)) (list_any (λ c. bytes_eq name c.name) channels) (record { item = k; kind = TooMany }) (record { item = k; kind = DoubleName })
    (cond (width == 0 || ltb 16 width) (Err (record { item = k; kind = TupleWidth })) (Ok pushed)) new e in
    let q = test_passed (width == 0 || ltb 16 width) (record { item = k; kind = TupleWidth }) (Ok pushed) new p.2 in
    let w = or_parts (width == 0) (ltb 16 width) q.0 in
    record { room = leb-false 64 (length channels) p.0; free = p.1; wide = not_zero width w.0; few = ltb-false 16 width w.1; is = same_ok pushed new q.1 }

-- ---- boundaries

pub record BoundaryPassed (side : Side) (channel values : List ℕ) (channels : List ChannelShape) (boundaries new : List BoundaryShape) : Type 0 where
  pub number : ℕ
  pub room : length boundaries < 4096
  pub known : number_of_channel channel channels ≡ Some number
  pub fits : BoundaryFits channels (record { side = side; channel = number; values = values })
  pub is : boundaries ++ record { side = side; channel = number; values = values } ∷ [] ≡ new

tuple_passed : (k : ℕ) (side : Side) (values : List ℕ) (channels : List ChannelShape) (boundaries new : List BoundaryShape) (o : Option ℕ) → with_tuple k side values channels boundaries o ≡ Ok new
    → (c : ℕ) × (o ≡ Some c) × (not (length values == width_at channels c) ≡ false) × (boundaries ++ record { side = side; channel = c; values = values } ∷ [] ≡ new)
tuple_passed k side values channels boundaries new None e = absurd cc
tuple_passed k side values channels boundaries new (Some c) e =
    let pushed : List BoundaryShape = boundaries ++ record { side = side; channel = c; values = values } ∷ [] in
    let p = test_passed (not (length values == width_at channels c)) (record { item = k; kind = TupleWidth }) (Ok pushed) new e in
    (c, refl, p.0, same_ok pushed new p.1)

pub boundary_passed : (k : ℕ) (side : Side) (channel values : List ℕ) (channels : List ChannelShape) (boundaries new : List BoundaryShape) → with_boundary k side channel values channels boundaries ≡ Ok new
    → BoundaryPassed side channel values channels boundaries new
boundary_passed k side channel values channels boundaries new e =
    let found = number_of_channel channel channels in
    let p = test_passed (leb 4096 (length boundaries)) (record { item = k; kind = TooMany }) (with_tuple k side values channels boundaries found) new e in
    let t = tuple_passed k side values channels boundaries new found p.1 in
    record { number = t.0; room = leb-false 4096 (length boundaries) p.0; known = t.1; fits = record { width = width_fits channels channel t.0 (length values) t.1 t.2 }; is = t.3 }
