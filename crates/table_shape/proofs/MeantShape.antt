-- Declarations have a shape exactly where it is the one that they mean.
use Rattle.std.proofs.Common.{◌≡◌, ◌↔◌, ℕ, ◌+◌, ◌<◌, ◌≤◌, ◌==◌, ◌||◌, not, true, false, cond, leb, ltb, List, [], ◌∷◌, ◌++◌, length, map, Option, Ok, Err, refl, sym, ap, subst, ◌∙◌, arith, append_assoc, length-append}
use Rattle.std.specs.List.{list_any, IsDistinct}
use Rattle.std.specs.Str.{bytes_eq}
use Rattle.std.proofs.lemmas.Bool.{lt-leb, le-ltb, ne_eqb, or_from}
use Rattle.std.proofs.lemmas.List.{append-nil, map-append}
use Rattle.sha2.specs.Sha256.{sha256}
use Rattle.table_text.specs.Canonical.{canonical}
use Rattle.table_text.specs.declared.expr.Expr.{Expr}
use Rattle.table_text.specs.declared.decl.Side.{Side}
use Rattle.table_text.specs.declared.decl.VirtualForm.{VirtualForm}
use Rattle.table_text.specs.declared.decl.Item.{Item}
use Rattle.table_text.specs.declared.decl.Item.TheVariants as item
use Rattle.table_text.specs.declared.decl.Decl.{Decl}
use Rattle.table_text.specs.declared.decl.Decl.TheVariants as decl
use Rattle.table_shape.specs.declared.shape.ChannelShape.{ChannelShape}
use Rattle.table_shape.specs.declared.shape.BoundaryShape.{BoundaryShape}
use Rattle.table_shape.specs.declared.shape.FlushShape.{FlushShape}
use Rattle.table_shape.specs.declared.shape.ColumnShape.{ColumnShape}
use Rattle.table_shape.specs.declared.shape.ConstraintShape.{ConstraintShape}
use Rattle.table_shape.specs.declared.shape.TableShape.{TableShape}
use Rattle.table_shape.specs.declared.fault.ShapeFault.{ShapeFault}
use Rattle.table_shape.specs.declared.fault.ShapeKind.TheVariants.{DoubleName, UnequalWidth, DegreeTooHigh, TupleWidth, TooMany}
use Rattle.list_laws.specs.AndThen.{◌>>=◌}
use Rattle.table_shape.specs.Parts.{ShapeParts}
use Rattle.table_shape.specs.Value.{degree}
use Rattle.table_shape.specs.Width.{width_at, width, has_width}
use Rattle.table_shape.specs.Shape.{number_of_channel, resolved, resolved_flush, with_column, with_expr, with_constraint, with_virtual, with_checked_flush, with_resolved_flush, with_flush, with_items, with_channel, with_tuple, with_boundary, begun_table, with_decls, begun_shape, shape_of}
use Rattle.table_shape.specs.ShapeMeaning.{IsCommitted, IsVirtual, IsResolved, IsFlush, TableParts, AreDeclared, IsTable, IsChannel, IsBoundary, AreShapes, IsShape}
use Rattle.list_laws.proofs.Steps.{bind_ok, bind_is}
use Rattle.list_laws.proofs.Names.{list_any-map}
use Rattle.table_shape.proofs.Differ.{new_after, no_names_differ}
use Rattle.table_shape.proofs.FitsSteps.{with_columns, with_constraints, with_flushes, with_channels, with_boundaries, with_tables, empty_table, names_pushed}
use Rattle.table_shape.proofs.FormFits.{virtual_column, form_fits}
use Rattle.table_shape.proofs.FlushSteps.{width_passes, flush_passes, flush_known}
use Rattle.table_shape.proofs.ConstraintSteps.{constraint, equal_widths}
use Rattle.table_shape.proofs.Passed.{IsFree, same_ok, test_pass, both_pass, committed, column_passed, virtual_passed, constraint_passed, flush_passed, channel_passed, boundary_passed, table_passed}
use Rattle.table_shape.proofs.MeantForm.{virtual_read}

-- ---- lists that grow at their ends

pushed_within : {X : Type 0} (xs : List X) (x : X) (n : ℕ) → length xs < n → length (xs ++ x ∷ []) ≤ n
pushed_within xs x n h = let e = length-append xs (x ∷ []) in omega arith

few_before : {X : Type 0} (xs : List X) (x : X) (more : List X) (n : ℕ) → length (xs ++ x ∷ more) ≤ n → length xs < n
few_before xs x more n h = let e = length-append xs (x ∷ more) in omega arith

-- a name is new among those before it
is_new : {X : Type 0} (name : X → List ℕ) (before : List X) (x : X) (more : List X) (n : List ℕ) → IsDistinct bytes_eq (map name (before ++ x ∷ more)) → name x ≡ n → list_any (λ y. bytes_eq n (name y)) before ≡ false
is_new {X} name before x more n d e =
    let own : list_any (λ y. bytes_eq (name x) (name y)) before ≡ false =
    list_any-map (bytes_eq (name x)) name before ∙ new_after (map name before) (map name more) (name x) (subst (IsDistinct bytes_eq) (map-append name before (x ∷ more)) d) in
    subst (λ (m : List ℕ). list_any (λ y. bytes_eq m (name y)) before ≡ false) e own

-- ---- what every table keeps

record Kept (table : TableShape) : Type 0 where
  columns_differ : IsDistinct bytes_eq (map (λ (c : ColumnShape). c.name) table.columns)
  constraints_differ : IsDistinct bytes_eq (map (λ (z : ConstraintShape). z.name) table.constraints)
  few_columns : length table.columns ≤ 256
  few_constraints : length table.constraints ≤ 256
  few_flushes : length table.flushes ≤ 64

kept_column : (table : TableShape) (column : ColumnShape) → Kept table → IsFree column.name table.columns → Kept (with_columns table (column ∷ []))
kept_column table c k free = record {
  columns_differ = names_pushed (λ (c : ColumnShape). c.name) table.columns c k.columns_differ free.new;
  constraints_differ = k.constraints_differ;
  few_columns = pushed_within table.columns c 256 free.room;
  few_constraints = k.few_constraints;
  few_flushes = k.few_flushes;
}

kept_constraint : (table : TableShape) (z : ConstraintShape) → Kept table → length table.constraints < 256 → list_any (λ y. bytes_eq z.name y.name) table.constraints ≡ false → Kept (with_constraints table (z ∷ []))
kept_constraint table z k room new = record {
  columns_differ = k.columns_differ;
  constraints_differ = names_pushed (λ (z : ConstraintShape). z.name) table.constraints z k.constraints_differ new;
  few_columns = k.few_columns;
  few_constraints = pushed_within table.constraints z 256 room;
  few_flushes = k.few_flushes;
}

kept_flush : (table : TableShape) (flush : FlushShape) → Kept table → length table.flushes < 64 → Kept (with_flushes table (flush ∷ []))
kept_flush table flush k room = record {
  columns_differ = k.columns_differ;
  constraints_differ = k.constraints_differ;
  few_columns = k.few_columns;
  few_constraints = k.few_constraints;
  few_flushes = pushed_within table.flushes flush 64 room;
}

-- ---- what items add

abbrev parts : List ColumnShape → List ConstraintShape → List FlushShape → TableParts
parts columns constraints flushes = record { columns = columns; constraints = constraints; flushes = flushes }

record Adds (channels : List ChannelShape) (old : TableShape) (items : List Item) (new : TableShape) : Type 0 where
  columns : List ColumnShape
  constraints : List ConstraintShape
  flushes : List FlushShape
  name_is : new.name ≡ old.name
  columns_are : new.columns ≡ old.columns ++ columns
  constraints_are : new.constraints ≡ old.constraints ++ constraints
  flushes_are : new.flushes ≡ old.flushes ++ flushes
  declared : AreDeclared channels old.columns items (parts columns constraints flushes)
  kept : Kept new

adds_none : (channels : List ChannelShape) (old : TableShape) → Kept old → Adds channels old [] old
adds_none channels old kept = record {
  columns = [];
  constraints = [];
  flushes = [];
  name_is = refl;
  columns_are = sym (append-nil old.columns);
  constraints_are = sym (append-nil old.constraints);
  flushes_are = sym (append-nil old.flushes);
  declared = (refl, (refl, refl));
  kept = kept;
}

-- a committed column, and then the other items
adds_column : (channels : List ChannelShape) (name : List ℕ) (level log_values : ℕ) (items : List Item) (old new : TableShape) → Adds channels (with_columns old (committed name level log_values ∷ [])) items new
    → Adds channels old (item.Column name level log_values ∷ items) new
adds_column channels name level log_values items old new r =
    let c = committed name level log_values in
    record {
      columns = c ∷ r.columns;
      constraints = r.constraints;
      flushes = r.flushes;
      name_is = r.name_is;
      columns_are = r.columns_are ∙ append_assoc old.columns (c ∷ []) r.columns;
      constraints_are = r.constraints_are;
      flushes_are = r.flushes_are;
      declared = (record { name_is = refl; level_is = refl; log_values_is = refl; kind_is = refl }, r.declared);
      kept = r.kept;
    }

adds_virtual : (channels : List ChannelShape) (name : List ℕ) (f0 : VirtualForm) (c : ColumnShape) (items : List Item) (old new : TableShape) → IsVirtual old.columns name f0 c → Adds channels (with_columns old (c ∷ [])) items new
    → Adds channels old (item.Virtual name f0 ∷ items) new
adds_virtual channels name f0 c items old new v r = record {
  columns = c ∷ r.columns;
  constraints = r.constraints;
  flushes = r.flushes;
  name_is = r.name_is;
  columns_are = r.columns_are ∙ append_assoc old.columns (c ∷ []) r.columns;
  constraints_are = r.constraints_are;
  flushes_are = r.flushes_are;
  declared = (v, r.declared);
  kept = r.kept;
}

adds_constraint : (channels : List ChannelShape) (name : List ℕ) (e : Expr) (z : ConstraintShape) (items : List Item) (old new : TableShape) → IsResolved old.columns name e z → Adds channels (with_constraints old (z ∷ [])) items new
    → Adds channels old (item.Zero name e ∷ items) new
adds_constraint channels name e z items old new h r = record {
  columns = r.columns;
  constraints = z ∷ r.constraints;
  flushes = r.flushes;
  name_is = r.name_is;
  columns_are = r.columns_are;
  constraints_are = r.constraints_are ∙ append_assoc old.constraints (z ∷ []) r.constraints;
  flushes_are = r.flushes_are;
  declared = (h, r.declared);
  kept = r.kept;
}

adds_flush : (channels : List ChannelShape) (side : Side) (channel : List ℕ) (names : List (List ℕ)) (selector : Option (List ℕ)) (flush : FlushShape) (items : List Item) (old new : TableShape)
    → IsFlush channels old.columns side channel names selector flush → Adds channels (with_flushes old (flush ∷ [])) items new → Adds channels old (item.Flush side channel names selector ∷ items) new
adds_flush channels side channel names selector flush items old new h r = record {
  columns = r.columns;
  constraints = r.constraints;
  flushes = flush ∷ r.flushes;
  name_is = r.name_is;
  columns_are = r.columns_are;
  constraints_are = r.constraints_are;
  flushes_are = r.flushes_are ∙ append_assoc old.flushes (flush ∷ []) r.flushes;
  declared = (h, r.declared);
  kept = r.kept;
}

items_mean : (k : ℕ) (channels : List ChannelShape) (items : List Item) (old new : TableShape) → Kept old → with_items k channels items old ≡ Ok new → Adds channels old items new
items_mean k channels [] old new kept e = subst (Adds channels old []) (same_ok old new e) (adds_none channels old kept)
items_mean k channels (item.Column name level log_values ∷ items) old new kept e =
    let c = committed name level log_values in
    let a = bind_ok (with_column k name level log_values old) (with_items (k + 1) channels items) new e in
    let p = column_passed k name level log_values old a.0 a.1 in
    adds_column channels name level log_values items old new
    (items_mean (k + 1) channels items (with_columns old (c ∷ [])) new (kept_column old c kept p.free) (subst (λ (t : TableShape). with_items (k + 1) channels items t ≡ Ok new) (sym p.is) a.2))
items_mean k channels (item.Virtual name f0 ∷ items) old new kept e =
    let a = bind_ok (with_virtual k name f0 old) (with_items (k + 1) channels items) new e in
    let p = virtual_passed k name f0 old a.0 a.1 in
    let c = virtual_column name old.columns p.form in
    let v : IsVirtual old.columns name f0 c = record { form = p.form; name_is = refl; kind_is = refl; form_is = p.known; fits = form_fits old.columns name f0 p.form p.known p.few p.checked } in
    adds_virtual channels name f0 c items old new v
    (items_mean (k + 1) channels items (with_columns old (c ∷ [])) new (kept_column old c kept p.free) (subst (λ (t : TableShape). with_items (k + 1) channels items t ≡ Ok new) (sym p.is) a.2))
items_mean k channels (item.Zero name e0 ∷ items) old new kept e =
    let a = bind_ok (with_constraint k name e0 old) (with_items (k + 1) channels items) new e in
    let p = constraint_passed k name e0 old a.0 a.1 in
    let z = constraint name old.columns p.expr in
    let h : IsResolved old.columns name e0 z = record { name_is = refl; expr_is = p.known; log_values_is = refl; equal_width = p.equal; degree_is = refl; low = p.low } in
    adds_constraint channels name e0 z items old new h
    (items_mean (k + 1) channels items (with_constraints old (z ∷ [])) new (kept_constraint old z kept p.room p.free) (subst (λ (t : TableShape). with_items (k + 1) channels items t ≡ Ok new) (sym p.is) a.2))
items_mean k channels (item.Flush side channel names selector ∷ items) old new kept e =
    let a = bind_ok (with_flush k channels side channel names selector old) (with_items (k + 1) channels items) new e in
    let p = flush_passed k channels side channel names selector old a.0 a.1 in
    adds_flush channels side channel names selector p.flush items old new p.declared
    (items_mean (k + 1) channels items (with_flushes old (p.flush ∷ [])) new (kept_flush old p.flush kept p.room) (subst (λ (t : TableShape). with_items (k + 1) channels items t ≡ Ok new) (sym p.is) a.2))

-- ---- the other way round

abbrev grown : TableShape → List ColumnShape → List ConstraintShape → List FlushShape → TableShape
grown table columns constraints flushes = record table { columns = table.columns ++ columns; constraints = table.constraints ++ constraints; flushes = table.flushes ++ flushes }

-- a column is free among those before it
column_is_free : (before more : List ColumnShape) (c : ColumnShape) (name : List ℕ) → IsDistinct bytes_eq (map (λ (c : ColumnShape). c.name) (before ++ c ∷ more)) → length (before ++ c ∷ more) ≤ 256 → c.name ≡ name → IsFree name before
column_is_free before more c name d few e = record { room = few_before before c more 256 few; new = is_new (λ (c : ColumnShape). c.name) before c more name d e }

committed_read : (k : ℕ) (name : List ℕ) (level log_values : ℕ) (table : TableShape) (c : ColumnShape) → IsFree name table.columns → IsCommitted name level log_values c → with_column k name level log_values table ≡ Ok (with_columns table (c ∷ []))
committed_read k name level log_values table c free h =
    let is : committed name level log_values ≡ c = λ i. record { name = sym h.name_is i; level = sym h.level_is i; log_values = sym h.log_values_is i; kind = sym h.kind_is i } in
    both_pass (leb 256 (length table.columns)) (list_any (λ c. bytes_eq name c.name) table.columns) (record { item = k; kind = TooMany }) (record { item = k; kind = DoubleName })
    (Ok (with_columns table (committed name level log_values ∷ []))) (lt-leb 256 (length table.columns) free.room) free.new
    ∙ ap (λ (c : ColumnShape). Ok (with_columns table (c ∷ []))) is

resolved_read : (k : ℕ) (name : List ℕ) (expr : Expr) (table : TableShape) (z : ConstraintShape) → IsResolved table.columns name expr z → with_expr k name table (resolved table.columns expr) ≡ Ok (with_constraints table (z ∷ []))
resolved_read k name expr table z h =
    let is : constraint name table.columns z.expr ≡ z = λ i. record { name = sym h.name_is i; log_values = sym h.log_values_is i; degree = sym h.degree_is i; expr = z.expr } in
    let equal : equal_widths table.columns z.expr ≡ true = ap (λ v. has_width table.columns v z.expr) (sym h.log_values_is) ∙ h.equal_width in
    ap (with_expr k name table) h.expr_is
    ∙ both_pass (not (equal_widths table.columns z.expr)) (ltb 8 (degree z.expr)) (record { item = k; kind = UnequalWidth }) (record { item = k; kind = DegreeTooHigh })
    (Ok (with_constraints table (constraint name table.columns z.expr ∷ []))) (ap not equal) (le-ltb 8 (degree z.expr) h.low)
    ∙ ap (λ (y : ConstraintShape). Ok (with_constraints table (y ∷ []))) is

constraint_read : (k : ℕ) (name : List ℕ) (expr : Expr) (table : TableShape) (z : ConstraintShape) → length table.constraints < 256 → list_any (λ y. bytes_eq name y.name) table.constraints ≡ false → IsResolved table.columns name expr z
    → with_constraint k name expr table ≡ Ok (with_constraints table (z ∷ []))
constraint_read k name expr table z room new h =
    both_pass (leb 256 (length table.constraints)) (list_any (λ y. bytes_eq name y.name) table.constraints) (record { item = k; kind = TooMany }) (record { item = k; kind = DoubleName }) (with_expr k name table (resolved table.columns expr))
    (lt-leb 256 (length table.constraints) room) new
    ∙ resolved_read k name expr table z h

flush_read : (k : ℕ) (channels : List ChannelShape) (side : Side) (channel : List ℕ) (names : List (List ℕ)) (selector : Option (List ℕ)) (table : TableShape) (flush : FlushShape) → length table.flushes < 64
    → IsFlush channels table.columns side channel names selector flush → with_flush k channels side channel names selector table ≡ Ok (with_flushes table (flush ∷ []))
flush_read k channels side channel names selector table flush room h =
    test_pass (leb 64 (length table.flushes)) (record { item = k; kind = TooMany }) (with_resolved_flush k channels table (resolved_flush channels table.columns side channel names selector)) (lt-leb 64 (length table.flushes) room)
    ∙ ap (with_resolved_flush k channels table) (flush_known channels table.columns side channel names selector flush h)
    ∙ ap (with_checked_flush k table flush) (flush_passes channels table.columns flush h.fits)

items_read : (k : ℕ) (channels : List ChannelShape) (items : List Item) (table : TableShape) (columns : List ColumnShape) (constraints : List ConstraintShape) (flushes : List FlushShape)
    → AreDeclared channels table.columns items (parts columns constraints flushes) → Kept (grown table columns constraints flushes) → with_items k channels items table ≡ Ok (grown table columns constraints flushes)
items_read k channels [] table columns constraints flushes h kept =
    let cs : table.columns ≡ table.columns ++ columns = sym (append-nil table.columns) ∙ ap (λ cs. table.columns ++ cs) (sym h.0) in
    let zs : table.constraints ≡ table.constraints ++ constraints = sym (append-nil table.constraints) ∙ ap (λ zs. table.constraints ++ zs) (sym h.1.0) in
    let fs : table.flushes ≡ table.flushes ++ flushes = sym (append-nil table.flushes) ∙ ap (λ fs. table.flushes ++ fs) (sym h.1.1) in
    λ i. Ok (record table { columns = cs i; constraints = zs i; flushes = fs i })
items_read k channels (item.Column name level log_values ∷ items) table [] constraints flushes h kept = absurd h
items_read k channels (item.Column name level log_values ∷ items) table (c ∷ columns) constraints flushes h kept =
    let pushed = with_columns table (c ∷ []) in
    let is : grown pushed columns constraints flushes ≡ grown table (c ∷ columns) constraints flushes =
    λ i. record table { columns = append_assoc table.columns (c ∷ []) columns i; constraints = table.constraints ++ constraints; flushes = table.flushes ++ flushes } in
    let free = column_is_free table.columns columns c name kept.columns_differ kept.few_columns h.0.name_is in
    bind_is (with_column k name level log_values table) pushed (with_items (k + 1) channels items) (committed_read k name level log_values table c free h.0)
    ∙ items_read (k + 1) channels items pushed columns constraints flushes h.1 (subst Kept (sym is) kept) ∙ ap Ok is
items_read k channels (item.Virtual name f0 ∷ items) table [] constraints flushes h kept = absurd h
items_read k channels (item.Virtual name f0 ∷ items) table (c ∷ columns) constraints flushes h kept =
    let pushed = with_columns table (c ∷ []) in
    let is : grown pushed columns constraints flushes ≡ grown table (c ∷ columns) constraints flushes =
    λ i. record table { columns = append_assoc table.columns (c ∷ []) columns i; constraints = table.constraints ++ constraints; flushes = table.flushes ++ flushes } in
    let free = column_is_free table.columns columns c name kept.columns_differ kept.few_columns h.0.name_is in
    bind_is (with_virtual k name f0 table) pushed (with_items (k + 1) channels items) (virtual_read k name f0 table c free h.0)
    ∙ items_read (k + 1) channels items pushed columns constraints flushes h.1 (subst Kept (sym is) kept) ∙ ap Ok is
items_read k channels (item.Zero name expr ∷ items) table columns [] flushes h kept = absurd h
items_read k channels (item.Zero name expr ∷ items) table columns (z ∷ constraints) flushes h kept =
    let pushed = with_constraints table (z ∷ []) in
    let is : grown pushed columns constraints flushes ≡ grown table columns (z ∷ constraints) flushes =
    λ i. record table { columns = table.columns ++ columns; constraints = append_assoc table.constraints (z ∷ []) constraints i; flushes = table.flushes ++ flushes } in
    let new = is_new (λ (z : ConstraintShape). z.name) table.constraints z constraints name kept.constraints_differ h.0.name_is in
    bind_is (with_constraint k name expr table) pushed (with_items (k + 1) channels items) (constraint_read k name expr table z (few_before table.constraints z constraints 256 kept.few_constraints) new h.0)
    ∙ items_read (k + 1) channels items pushed columns constraints flushes h.1 (subst Kept (sym is) kept) ∙ ap Ok is
items_read k channels (item.Flush side channel names selector ∷ items) table columns constraints [] h kept = absurd h
items_read k channels (item.Flush side channel names selector ∷ items) table columns constraints (flush ∷ flushes) h kept =
    let pushed = with_flushes table (flush ∷ []) in
    let is : grown pushed columns constraints flushes ≡ grown table columns constraints (flush ∷ flushes) =
    λ i. record table { columns = table.columns ++ columns; constraints = table.constraints ++ constraints; flushes = append_assoc table.flushes (flush ∷ []) flushes i } in
    bind_is (with_flush k channels side channel names selector table) pushed (with_items (k + 1) channels items)
    (flush_read k channels side channel names selector table flush (few_before table.flushes flush flushes 64 kept.few_flushes) h.0)
    ∙ items_read (k + 1) channels items pushed columns constraints flushes h.1 (subst Kept (sym is) kept) ∙ ap Ok is

-- ---- a table

kept_empty : (name : List ℕ) → Kept (empty_table name)
kept_empty name = record { columns_differ = no_names_differ; constraints_differ = no_names_differ; few_columns = omega arith; few_constraints = omega arith; few_flushes = omega arith }

-- a table that its items declare
table_means : (k : ℕ) (channels : List ChannelShape) (name : List ℕ) (items : List Item) (table : TableShape) → with_items k channels items (empty_table name) ≡ Ok table → IsTable channels name items table
table_means k channels name items table e =
    let g = items_mean k channels items (empty_table name) table (kept_empty name) e in
    let all : parts g.columns g.constraints g.flushes ≡ parts table.columns table.constraints table.flushes = λ i. parts (sym g.columns_are i) (sym g.constraints_are i) (sym g.flushes_are i) in
    record {
      name_is = g.name_is;
      declared = subst (AreDeclared channels [] items) all g.declared;
      columns_differ = g.kept.columns_differ;
      constraints_differ = g.kept.constraints_differ;
      few_columns = g.kept.few_columns;
      few_constraints = g.kept.few_constraints;
      few_flushes = g.kept.few_flushes;
    }

table_read : (k : ℕ) (channels : List ChannelShape) (name : List ℕ) (items : List Item) (table : TableShape) → IsTable channels name items table → with_items k channels items (empty_table name) ≡ Ok table
table_read k channels name items table t =
    let is : grown (empty_table name) table.columns table.constraints table.flushes ≡ table = λ i. record { name = sym t.name_is i; columns = table.columns; constraints = table.constraints; flushes = table.flushes } in
    let kept : Kept table = record {
      columns_differ = t.columns_differ;
      constraints_differ = t.constraints_differ;
      few_columns = t.few_columns;
      few_constraints = t.few_constraints;
      few_flushes = t.few_flushes;
    } in
    items_read k channels items (empty_table name) table.columns table.constraints table.flushes t.declared (subst Kept (sym is) kept) ∙ ap Ok is

-- ---- what every shape keeps

record Whole (shape : ShapeParts) : Type 0 where
  channels_differ : IsDistinct bytes_eq (map (λ (c : ChannelShape). c.name) shape.channels)
  tables_differ : IsDistinct bytes_eq (map (λ (t : TableShape). t.name) shape.tables)
  few_channels : length shape.channels ≤ 64
  few_boundaries : length shape.boundaries ≤ 4096
  few_tables : length shape.tables ≤ 64

whole_channel : (shape : ShapeParts) (channel : ChannelShape) → Whole shape → length shape.channels < 64 → list_any (λ c. bytes_eq channel.name c.name) shape.channels ≡ false → Whole (with_channels shape (channel ∷ []))
whole_channel shape channel w room new = record {
  channels_differ = names_pushed (λ (c : ChannelShape). c.name) shape.channels channel w.channels_differ new;
  tables_differ = w.tables_differ;
  few_channels = pushed_within shape.channels channel 64 room;
  few_boundaries = w.few_boundaries;
  few_tables = w.few_tables;
}

whole_boundary : (shape : ShapeParts) (boundary : BoundaryShape) → Whole shape → length shape.boundaries < 4096 → Whole (with_boundaries shape (boundary ∷ []))
whole_boundary shape boundary w room = record {
  channels_differ = w.channels_differ;
  tables_differ = w.tables_differ;
  few_channels = w.few_channels;
  few_boundaries = pushed_within shape.boundaries boundary 4096 room;
  few_tables = w.few_tables;
}

whole_table : (shape : ShapeParts) (table : TableShape) → Whole shape → length shape.tables < 64 → list_any (λ t. bytes_eq table.name t.name) shape.tables ≡ false → Whole (with_tables shape (table ∷ []))
whole_table shape table w room new = record {
  channels_differ = w.channels_differ;
  tables_differ = names_pushed (λ (t : TableShape). t.name) shape.tables table w.tables_differ new;
  few_channels = w.few_channels;
  few_boundaries = w.few_boundaries;
  few_tables = pushed_within shape.tables table 64 room;
}

-- ---- what declarations add

abbrev made : List ChannelShape → List BoundaryShape → List TableShape → List ℕ → ShapeParts
made channels boundaries tables digest = record { channels = channels; boundaries = boundaries; tables = tables; digest = digest }

record AddsTo (old : ShapeParts) (decls : List Decl) (new : ShapeParts) : Type 0 where
  channels : List ChannelShape
  boundaries : List BoundaryShape
  tables : List TableShape
  channels_are : new.channels ≡ old.channels ++ channels
  boundaries_are : new.boundaries ≡ old.boundaries ++ boundaries
  tables_are : new.tables ≡ old.tables ++ tables
  digest_is : new.digest ≡ old.digest
  are : AreShapes old.channels decls (made channels boundaries tables old.digest)
  whole : Whole new

nothing_added : (old : ShapeParts) → Whole old → AddsTo old [] old
nothing_added old w = record {
  channels = [];
  boundaries = [];
  tables = [];
  channels_are = sym (append-nil old.channels);
  boundaries_are = sym (append-nil old.boundaries);
  tables_are = sym (append-nil old.tables);
  digest_is = refl;
  are = (refl, (refl, refl));
  whole = w;
}

channel_added : (name : List ℕ) (width : ℕ) (channel : ChannelShape) (decls : List Decl) (old new : ShapeParts) → IsChannel name width channel → AddsTo (with_channels old (channel ∷ [])) decls new → AddsTo old (decl.Channel name width ∷ decls) new
channel_added name width channel decls old new h r = record {
  channels = channel ∷ r.channels;
  boundaries = r.boundaries;
  tables = r.tables;
  channels_are = r.channels_are ∙ append_assoc old.channels (channel ∷ []) r.channels;
  boundaries_are = r.boundaries_are;
  tables_are = r.tables_are;
  digest_is = r.digest_is;
  are = (h, r.are);
  whole = r.whole;
}

boundary_added : (side : Side) (channel values : List ℕ) (boundary : BoundaryShape) (decls : List Decl) (old new : ShapeParts) → IsBoundary old.channels side channel values boundary → AddsTo (with_boundaries old (boundary ∷ [])) decls new
    → AddsTo old (decl.Boundary side channel values ∷ decls) new
boundary_added side channel values boundary decls old new h r = record {
  channels = r.channels;
  boundaries = boundary ∷ r.boundaries;
  tables = r.tables;
  channels_are = r.channels_are;
  boundaries_are = r.boundaries_are ∙ append_assoc old.boundaries (boundary ∷ []) r.boundaries;
  tables_are = r.tables_are;
  digest_is = r.digest_is;
  are = (h, r.are);
  whole = r.whole;
}

table_added : (name : List ℕ) (items : List Item) (table : TableShape) (decls : List Decl) (old new : ShapeParts) → IsTable old.channels name items table → AddsTo (with_tables old (table ∷ [])) decls new → AddsTo old (decl.Table name items ∷ decls) new
table_added name items table decls old new h r = record {
  channels = r.channels;
  boundaries = r.boundaries;
  tables = table ∷ r.tables;
  channels_are = r.channels_are;
  boundaries_are = r.boundaries_are;
  tables_are = r.tables_are ∙ append_assoc old.tables (table ∷ []) r.tables;
  digest_is = r.digest_is;
  are = (h, r.are);
  whole = r.whole;
}

decls_mean : (k : ℕ) (decls : List Decl) (old new : ShapeParts) → Whole old → with_decls k decls old ≡ Ok new → AddsTo old decls new
decls_mean k [] old new w e = subst (AddsTo old []) (same_ok old new e) (nothing_added old w)
decls_mean k (decl.Channel name width ∷ decls) old new w e =
    let a = bind_ok (with_channel k name width old.channels) (λ channels. with_decls (k + 1) decls (record old { channels = channels })) new e in
    let p = channel_passed k name width old.channels a.0 a.1 in
    let channel : ChannelShape = record { name = name; width = width } in
    channel_added name width channel decls old new (record { name_is = refl; width_is = refl; wide = p.wide; few = p.few })
    (decls_mean (k + 1) decls (with_channels old (channel ∷ [])) new (whole_channel old channel w p.room p.free)
    (subst (λ (cs : List ChannelShape). with_decls (k + 1) decls (record old { channels = cs }) ≡ Ok new) (sym p.is) a.2))
decls_mean k (decl.Boundary side channel values ∷ decls) old new w e =
    let a = bind_ok (with_boundary k side channel values old.channels old.boundaries) (λ boundaries. with_decls (k + 1) decls (record old { boundaries = boundaries })) new e in
    let p = boundary_passed k side channel values old.channels old.boundaries a.0 a.1 in
    let boundary : BoundaryShape = record { side = side; channel = p.number; values = values } in
    boundary_added side channel values boundary decls old new (record { side_is = refl; channel_is = p.known; values_are = refl; fits = p.fits })
    (decls_mean (k + 1) decls (with_boundaries old (boundary ∷ [])) new (whole_boundary old boundary w p.room)
    (subst (λ (bs : List BoundaryShape). with_decls (k + 1) decls (record old { boundaries = bs }) ≡ Ok new) (sym p.is) a.2))
decls_mean k (decl.Table name items ∷ decls) old new w e =
    let n = k + 1 + length items in
    let a = bind_ok (begun_table k name old.tables >>= with_items (k + 1) old.channels items) (λ table. with_decls n decls (with_tables old (table ∷ []))) new e in
    let b = bind_ok (begun_table k name old.tables) (with_items (k + 1) old.channels items) a.0 a.1 in
    let p = table_passed k name old.tables b.0 b.1 in
    let next : with_items (k + 1) old.channels items (empty_table name) ≡ Ok a.0 = subst (λ (t : TableShape). with_items (k + 1) old.channels items t ≡ Ok a.0) (sym p.is) b.2 in
    let means = table_means (k + 1) old.channels name items a.0 next in
    let new_name : list_any (λ t. bytes_eq a.0.name t.name) old.tables ≡ false = subst (λ (m : List ℕ). list_any (λ t. bytes_eq m t.name) old.tables ≡ false) (sym means.name_is) p.new in
    table_added name items a.0 decls old new means (decls_mean n decls (with_tables old (a.0 ∷ [])) new (whole_table old a.0 w p.room new_name) a.2)

-- ---- and back

abbrev grown_shape : ShapeParts → List ChannelShape → List BoundaryShape → List TableShape → ShapeParts
grown_shape shape channels boundaries tables = made (shape.channels ++ channels) (shape.boundaries ++ boundaries) (shape.tables ++ tables) shape.digest

channel_read : (k : ℕ) (name : List ℕ) (width : ℕ) (channels : List ChannelShape) (channel : ChannelShape) → length channels < 64 → list_any (λ c. bytes_eq name c.name) channels ≡ false → IsChannel name width channel
    → with_channel k name width channels ≡ Ok (channels ++ channel ∷ [])
channel_read k name width channels channel room new h =
    let is : record { name = name; width = width } ≡ channel = λ i. record { name = sym h.name_is i; width = sym h.width_is i } in
    let pushed : List ChannelShape = channels ++ record { name = name; width = width } ∷ [] in
    let fault : ShapeFault = record { item = k; kind = TupleWidth } in
    both_pass (leb 64 (length channels)) (list_any (λ c. bytes_eq name c.name) channels) (record { item = k; kind = TooMany }) (record { item = k; kind = DoubleName })
    (cond (width == 0 || ltb 16 width) (Err fault) (Ok pushed)) (lt-leb 64 (length channels) room) new
    ∙ test_pass (width == 0 || ltb 16 width) fault (Ok pushed) (or_from (width == 0) (ltb 16 width) (ne_eqb width 0 (λ e. let w = h.wide in absurd (omega arith))) (le-ltb 16 width h.few))
    ∙ ap (λ (c : ChannelShape). Ok (channels ++ c ∷ [])) is

boundary_read : (k : ℕ) (side : Side) (channel values : List ℕ) (channels : List ChannelShape) (boundaries : List BoundaryShape) (boundary : BoundaryShape) → length boundaries < 4096 → IsBoundary channels side channel values boundary
    → with_boundary k side channel values channels boundaries ≡ Ok (boundaries ++ boundary ∷ [])
boundary_read k side channel values channels boundaries boundary room h =
    let is : record { side = side; channel = boundary.channel; values = values } ≡ boundary = λ i. record { side = sym h.side_is i; channel = boundary.channel; values = sym h.values_are i } in
    let pushed : List BoundaryShape = boundaries ++ record { side = side; channel = boundary.channel; values = values } ∷ [] in
    let wide : (length values == width_at channels boundary.channel) ≡ true = subst (λ (vs : List ℕ). (length vs == width_at channels boundary.channel) ≡ true) h.values_are (width_passes channels boundary.channel (length boundary.values) h.fits.width) in
    test_pass (leb 4096 (length boundaries)) (record { item = k; kind = TooMany }) (with_tuple k side values channels boundaries (number_of_channel channel channels)) (lt-leb 4096 (length boundaries) room)
    ∙ ap (with_tuple k side values channels boundaries) h.channel_is
    ∙ test_pass (not (length values == width_at channels boundary.channel)) (record { item = k; kind = TupleWidth }) (Ok pushed) (ap not wide)
    ∙ ap (λ (b : BoundaryShape). Ok (boundaries ++ b ∷ [])) is

decls_read : (k : ℕ) (decls : List Decl) (shape : ShapeParts) (channels : List ChannelShape) (boundaries : List BoundaryShape) (tables : List TableShape) → AreShapes shape.channels decls (made channels boundaries tables shape.digest)
    → Whole (grown_shape shape channels boundaries tables) → with_decls k decls shape ≡ Ok (grown_shape shape channels boundaries tables)
decls_read k [] shape channels boundaries tables h w =
    let cs : shape.channels ≡ shape.channels ++ channels = sym (append-nil shape.channels) ∙ ap (λ cs. shape.channels ++ cs) (sym h.0) in
    let bs : shape.boundaries ≡ shape.boundaries ++ boundaries = sym (append-nil shape.boundaries) ∙ ap (λ bs. shape.boundaries ++ bs) (sym h.1.0) in
    let ts : shape.tables ≡ shape.tables ++ tables = sym (append-nil shape.tables) ∙ ap (λ ts. shape.tables ++ ts) (sym h.1.1) in
    λ i. Ok (made (cs i) (bs i) (ts i) shape.digest)
decls_read k (decl.Channel name width ∷ decls) shape [] boundaries tables h w = absurd h
decls_read k (decl.Channel name width ∷ decls) shape (channel ∷ channels) boundaries tables h w =
    let pushed = with_channels shape (channel ∷ []) in
    let is : grown_shape pushed channels boundaries tables ≡ grown_shape shape (channel ∷ channels) boundaries tables =
    λ i. made (append_assoc shape.channels (channel ∷ []) channels i) (shape.boundaries ++ boundaries) (shape.tables ++ tables) shape.digest in
    let new = is_new (λ (c : ChannelShape). c.name) shape.channels channel channels name w.channels_differ h.0.name_is in
    bind_is (with_channel k name width shape.channels) (shape.channels ++ channel ∷ []) (λ channels. with_decls (k + 1) decls (record shape { channels = channels }))
    (channel_read k name width shape.channels channel (few_before shape.channels channel channels 64 w.few_channels) new h.0)
    ∙ decls_read (k + 1) decls pushed channels boundaries tables h.1 (subst Whole (sym is) w) ∙ ap Ok is
decls_read k (decl.Boundary side channel values ∷ decls) shape channels [] tables h w = absurd h
decls_read k (decl.Boundary side channel values ∷ decls) shape channels (boundary ∷ boundaries) tables h w =
    let pushed = with_boundaries shape (boundary ∷ []) in
    let is : grown_shape pushed channels boundaries tables ≡ grown_shape shape channels (boundary ∷ boundaries) tables =
    λ i. made (shape.channels ++ channels) (append_assoc shape.boundaries (boundary ∷ []) boundaries i) (shape.tables ++ tables) shape.digest in
    bind_is (with_boundary k side channel values shape.channels shape.boundaries) (shape.boundaries ++ boundary ∷ []) (λ boundaries. with_decls (k + 1) decls (record shape { boundaries = boundaries }))
    (boundary_read k side channel values shape.channels shape.boundaries boundary (few_before shape.boundaries boundary boundaries 4096 w.few_boundaries) h.0)
    ∙ decls_read (k + 1) decls pushed channels boundaries tables h.1 (subst Whole (sym is) w) ∙ ap Ok is
decls_read k (decl.Table name items ∷ decls) shape channels boundaries [] h w = absurd h
decls_read k (decl.Table name items ∷ decls) shape channels boundaries (table ∷ tables) h w =
    let n = k + 1 + length items in
    let pushed = with_tables shape (table ∷ []) in
    let is : grown_shape pushed channels boundaries tables ≡ grown_shape shape channels boundaries (table ∷ tables) =
    λ i. made (shape.channels ++ channels) (shape.boundaries ++ boundaries) (append_assoc shape.tables (table ∷ []) tables i) shape.digest in
    let room : leb 64 (length shape.tables) ≡ false = lt-leb 64 (length shape.tables) (few_before shape.tables table tables 64 w.few_tables) in
    let new = is_new (λ (t : TableShape). t.name) shape.tables table tables name w.tables_differ h.0.name_is in
    bind_is (begun_table k name shape.tables >>= with_items (k + 1) shape.channels items) table (λ table. with_decls n decls (with_tables shape (table ∷ [])))
    (bind_is (begun_table k name shape.tables) (empty_table name) (with_items (k + 1) shape.channels items)
    (both_pass (leb 64 (length shape.tables)) (list_any (λ t. bytes_eq name t.name) shape.tables) (record { item = k; kind = TooMany }) (record { item = k; kind = DoubleName }) (Ok (empty_table name)) room new)
    ∙ table_read (k + 1) shape.channels name items table h.0)
    ∙ decls_read n decls pushed channels boundaries tables h.1 (subst Whole (sym is) w) ∙ ap Ok is

-- ---- shapes

begun_whole : (decls : List Decl) → Whole (begun_shape decls)
begun_whole decls = record { channels_differ = no_names_differ; tables_differ = no_names_differ; few_channels = omega arith; few_boundaries = omega arith; few_tables = omega arith }

shape_means : (decls : List Decl) (shape : ShapeParts) → shape_of decls ≡ Ok shape → IsShape decls shape
shape_means decls shape e =
    let r = decls_mean 0 decls (begun_shape decls) shape (begun_whole decls) e in
    let all : made r.channels r.boundaries r.tables (sha256 (canonical decls)) ≡ shape = λ i. made (sym r.channels_are i) (sym r.boundaries_are i) (sym r.tables_are i) (sym r.digest_is i) in
    record {
      each = subst (AreShapes [] decls) all r.are;
      channels_differ = r.whole.channels_differ;
      tables_differ = r.whole.tables_differ;
      few_channels = r.whole.few_channels;
      few_boundaries = r.whole.few_boundaries;
      few_tables = r.whole.few_tables;
      digest_is = r.digest_is;
    }

shape_read : (decls : List Decl) (shape : ShapeParts) → IsShape decls shape → shape_of decls ≡ Ok shape
shape_read decls shape h =
    let is : grown_shape (begun_shape decls) shape.channels shape.boundaries shape.tables ≡ shape = λ i. made shape.channels shape.boundaries shape.tables (sym h.digest_is i) in
    let w : Whole shape = record { channels_differ = h.channels_differ; tables_differ = h.tables_differ; few_channels = h.few_channels; few_boundaries = h.few_boundaries; few_tables = h.few_tables } in
    let each = subst (λ (d : List ℕ). AreShapes [] decls (made shape.channels shape.boundaries shape.tables d)) h.digest_is h.each in
    decls_read 0 decls (begun_shape decls) shape.channels shape.boundaries shape.tables each (subst Whole (sym is) w) ∙ ap Ok is

pub shaped_where_meant : (decls : List Decl) (shape : ShapeParts) → (shape_of decls ≡ Ok shape) ↔ IsShape decls shape
shaped_where_meant decls shape = (shape_means decls shape, shape_read decls shape)
