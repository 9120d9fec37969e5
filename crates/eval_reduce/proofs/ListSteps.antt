-- Lists that are there.
use Rattle.std.proofs.Common.{◌≡◌, ◌∙◌, ℕ, zero, suc, ◌+◌, ◌^◌, ◌<◌, ◌≤◌, ◌↔◌, nat_lt, Bool, true, false, List, [], ◌∷◌, Option, None, Some, option_and_then, is_some, length, get_or, slice_get, take, sym, ap, subst, arith}
use Rattle.std.proofs.lemmas.Bool.Decides.{nat_tests}
use Rattle.sumcheck.specs.declared.column_tables.ColumnTable.{ColumnTable}
use Rattle.table_shape.specs.declared.shape.ShapeTerm.{ShapeTerm}
use Rattle.table_shape.specs.declared.shape.ShapeForm.{ShapeForm}
use Rattle.table_shape.specs.declared.shape.ShapeForm.TheVariants as form
use Rattle.table_shape.specs.declared.shape.ColumnKind.TheVariants.{Committed, Virtual}
use Rattle.table_shape.specs.declared.shape.ColumnShape.{ColumnShape}
use Rattle.table_shape.specs.declared.shape.TableShape.{TableShape}
use Rattle.table_shape.specs.Forms.{level_at}
use Rattle.cube_mle.specs.declared.shift.ShiftKind.TheVariants as kind
use Rattle.eval_reduce.specs.declared.packing.Packing.{Packing}
use Rattle.eval_reduce.specs.declared.projection.Projection.{Projection}
use Rattle.eval_reduce.specs.declared.shifting.Shifting.{Shifting}
use Rattle.eval_reduce.specs.Linear.{Combination, combination, combination_of}
use Rattle.eval_reduce.specs.Lists.{FormIsThere}
use Rattle.eval_reduce.specs.Pack.{packing, packing_of}
use Rattle.eval_reduce.specs.Project.{projection, projection_of}
use Rattle.eval_reduce.specs.Provers.{TermsAreThere}
use Rattle.eval_reduce.specs.Shift.{shifting, shifting_of}
use Rattle.eval_reduce.specs.Virtual.{IsThere, column_of, vars_on}
use Rattle.list_laws.proofs.Powers.{power_bound}
use Rattle.eval_reduce.proofs.VirtualSteps.{term_there}

-- no list has so many values
pub too_long : (size v : ℕ) → size < 2 ^ 64 → 64 ≤ v → size ≡ 2 ^ v → ⊥
too_long size v few far e = let big : 2 ^ 64 ≤ 2 ^ v = power_bound 64 v far in omega arith

pub not_below : (v : ℕ) → 64 ≤ v → nat_lt v 64 ≡ true → ⊥
not_below v far e = let f : nat_lt v 64 ≡ false = grind (arith, nat_tests) in let k : true ≡ false = sym e ∙ f in absurd (cc)

first_terms : (tables : List ColumnTable) (t n i : ℕ) (ts : List ShapeTerm) (x : ShapeTerm) → i < length ts → x ≡ get_or ts i x → IsThere tables t x.column n → TermsAreThere tables t n (take i ts) → TermsAreThere tables t n (take (suc i) ts)
first_terms tables t n i [] x l e a h = absurd (omega arith)
first_terms tables t n zero (y ∷ ts) x l e a h = (subst (λ (z : ShapeTerm). IsThere tables t z.column n) e a, tt)
first_terms tables t n (suc i) (y ∷ ts) x l e a h = (h.0, first_terms tables t n i ts x (omega arith) e a h.1)

pub terms_more : (tables : List ColumnTable) (t n i : ℕ) (ts : List ShapeTerm) (x : ShapeTerm) → i < length ts → x ≡ get_or ts i x → IsThere tables t x.column n → TermsAreThere tables t n (take i ts) → TermsAreThere tables t n (take (i + 1) ts)
terms_more tables t n i ts x l e a h = let s : suc i ≡ i + 1 = omega arith in subst (λ j. TermsAreThere tables t n (take j ts)) s (first_terms tables t n i ts x l e a h)

pub terms_lack : (tables : List ColumnTable) (t n i : ℕ) (ts : List ShapeTerm) (x : ShapeTerm) (b : Bool) → i < length ts → x ≡ get_or ts i x → ((b ≡ true) ↔ IsThere tables t x.column n) → b ≡ false → (false ≡ true) ↔ TermsAreThere tables t n ts
terms_lack tables t n i ts x b l e h lacks = ((λ k. absurd (cc)), (λ all. sym lacks ∙ h.1 (term_there tables t n i ts x all l e)))

-- ---- what a prover asks for
linear_form : (given : List ColumnTable) (t c n : ℕ) (s : ShapeForm) (b : Bool) → ((b ≡ true) ↔ FormIsThere given t n s) → (f : Combination) → combination t c n (Virtual s) ≡ Some f → (b ≡ true) ↔ TermsAreThere given t (2 ^ f.vars) f.terms
linear_form given t c n (form.Shl s block offset) b h f e = absurd (cc)
linear_form given t c n (form.Shr s block offset) b h f e = absurd (cc)
linear_form given t c n (form.Rol s block offset) b h f e = absurd (cc)
linear_form given t c n (form.Pack s log) b h f e = absurd (cc)
linear_form given t c n (form.Project s log index) b h f e = absurd (cc)
linear_form given t c n (form.Linear constant terms) b h f e = let r : record { table = t; column = c; vars = n; constant = constant; terms = terms } ≡ f = cc in subst (λ (g : Combination). (b ≡ true) ↔ TermsAreThere given t (2 ^ g.vars) g.terms) r h

pack_form : (given : List ColumnTable) (columns : List ColumnShape) (t c n : ℕ) (s : ShapeForm) (b : Bool) → ((b ≡ true) ↔ FormIsThere given t n s) → (f : Packing) → packing columns t c n (Virtual s) ≡ Some f → (b ≡ true) ↔ IsThere given t f.source (2 ^ (f.log + f.vars))
pack_form given columns t c n (form.Shl s block offset) b h f e = absurd (cc)
pack_form given columns t c n (form.Shr s block offset) b h f e = absurd (cc)
pack_form given columns t c n (form.Rol s block offset) b h f e = absurd (cc)
pack_form given columns t c n (form.Pack s log) b h f e = let r : record { table = t; column = c; vars = n; source = s; level = level_at columns s; log = log } ≡ f = cc in subst (λ (g : Packing). (b ≡ true) ↔ IsThere given t g.source (2 ^ (g.log + g.vars))) r h
pack_form given columns t c n (form.Project s log index) b h f e = absurd (cc)
pack_form given columns t c n (form.Linear constant terms) b h f e = absurd (cc)

project_form : (given : List ColumnTable) (t c n : ℕ) (s : ShapeForm) (b : Bool) → ((b ≡ true) ↔ FormIsThere given t n s) → (f : Projection) → projection t c n (Virtual s) ≡ Some f → (b ≡ true) ↔ IsThere given t f.source (2 ^ (f.log + f.vars))
project_form given t c n (form.Shl s block offset) b h f e = absurd (cc)
project_form given t c n (form.Shr s block offset) b h f e = absurd (cc)
project_form given t c n (form.Rol s block offset) b h f e = absurd (cc)
project_form given t c n (form.Pack s log) b h f e = absurd (cc)
project_form given t c n (form.Project s log index) b h f e = let r : record { table = t; column = c; vars = n; source = s; log = log; index = index } ≡ f = cc in subst (λ (g : Projection). (b ≡ true) ↔ IsThere given t g.source (2 ^ (g.log + g.vars))) r h
project_form given t c n (form.Linear constant terms) b h f e = absurd (cc)

shift_form : (given : List ColumnTable) (t c n : ℕ) (s : ShapeForm) (b : Bool) → ((b ≡ true) ↔ FormIsThere given t n s) → (f : Shifting) → shifting t c n (Virtual s) ≡ Some f → (b ≡ true) ↔ IsThere given t f.source (2 ^ f.vars)
shift_form given t c n (form.Shl s block offset) b h f e = let r : record { table = t; column = c; vars = n; source = s; kind = kind.Shl; block = block; offset = offset } ≡ f = cc in subst (λ (g : Shifting). (b ≡ true) ↔ IsThere given t g.source (2 ^ g.vars)) r h
shift_form given t c n (form.Shr s block offset) b h f e = let r : record { table = t; column = c; vars = n; source = s; kind = kind.Shr; block = block; offset = offset } ≡ f = cc in subst (λ (g : Shifting). (b ≡ true) ↔ IsThere given t g.source (2 ^ g.vars)) r h
shift_form given t c n (form.Rol s block offset) b h f e = let r : record { table = t; column = c; vars = n; source = s; kind = kind.Rol; block = block; offset = offset } ≡ f = cc in subst (λ (g : Shifting). (b ≡ true) ↔ IsThere given t g.source (2 ^ g.vars)) r h
shift_form given t c n (form.Pack s log) b h f e = absurd (cc)
shift_form given t c n (form.Project s log index) b h f e = absurd (cc)
shift_form given t c n (form.Linear constant terms) b h f e = absurd (cc)

pub linear_there : (tables : List TableShape) (given : List ColumnTable) (rows t c : ℕ) (of : ColumnShape) (s : ShapeForm) (b : Bool) → column_of tables t c ≡ Some of → of.kind ≡ Virtual s → ((b ≡ true) ↔ FormIsThere given t (vars_on rows of) s) → (f : Combination) → combination_of tables rows t c ≡ Some f → (b ≡ true) ↔ TermsAreThere given t (2 ^ f.vars) f.terms
linear_there tables given rows t c of s b here is h f e =
    linear_form given t c (vars_on rows of) s b h f (ap (combination t c (vars_on rows of)) (sym is) ∙ ap (option_and_then (λ (column : ColumnShape). combination t c (vars_on rows column) column.kind)) (sym here) ∙ e)

pub linear_none : (tables : List TableShape) (given : List ColumnTable) (rows t c : ℕ) (of : ColumnShape) (b : Bool) → column_of tables t c ≡ Some of → of.kind ≡ Committed → (f : Combination) → combination_of tables rows t c ≡ Some f → (b ≡ true) ↔ TermsAreThere given t (2 ^ f.vars) f.terms
linear_none tables given rows t c of b here is f e =
    let none : None ≡ Some f = ap (combination t c (vars_on rows of)) (sym is) ∙ ap (option_and_then (λ (column : ColumnShape). combination t c (vars_on rows column) column.kind)) (sym here) ∙ e in absurd (cc)

pub project_there : (tables : List TableShape) (given : List ColumnTable) (rows t c : ℕ) (of : ColumnShape) (s : ShapeForm) (b : Bool) → column_of tables t c ≡ Some of → of.kind ≡ Virtual s → ((b ≡ true) ↔ FormIsThere given t (vars_on rows of) s) → (f : Projection) → projection_of tables rows t c ≡ Some f → (b ≡ true) ↔ IsThere given t f.source (2 ^ (f.log + f.vars))
project_there tables given rows t c of s b here is h f e =
    project_form given t c (vars_on rows of) s b h f (ap (projection t c (vars_on rows of)) (sym is) ∙ ap (option_and_then (λ (column : ColumnShape). projection t c (vars_on rows column) column.kind)) (sym here) ∙ e)

pub project_none : (tables : List TableShape) (given : List ColumnTable) (rows t c : ℕ) (of : ColumnShape) (b : Bool) → column_of tables t c ≡ Some of → of.kind ≡ Committed → (f : Projection) → projection_of tables rows t c ≡ Some f → (b ≡ true) ↔ IsThere given t f.source (2 ^ (f.log + f.vars))
project_none tables given rows t c of b here is f e =
    let none : None ≡ Some f = ap (projection t c (vars_on rows of)) (sym is) ∙ ap (option_and_then (λ (column : ColumnShape). projection t c (vars_on rows column) column.kind)) (sym here) ∙ e in absurd (cc)

pub shift_there : (tables : List TableShape) (given : List ColumnTable) (rows t c : ℕ) (of : ColumnShape) (s : ShapeForm) (b : Bool) → column_of tables t c ≡ Some of → of.kind ≡ Virtual s → ((b ≡ true) ↔ FormIsThere given t (vars_on rows of) s) → (f : Shifting) → shifting_of tables rows t c ≡ Some f → (b ≡ true) ↔ IsThere given t f.source (2 ^ f.vars)
shift_there tables given rows t c of s b here is h f e =
    shift_form given t c (vars_on rows of) s b h f (ap (shifting t c (vars_on rows of)) (sym is) ∙ ap (option_and_then (λ (column : ColumnShape). shifting t c (vars_on rows column) column.kind)) (sym here) ∙ e)

pub shift_none : (tables : List TableShape) (given : List ColumnTable) (rows t c : ℕ) (of : ColumnShape) (b : Bool) → column_of tables t c ≡ Some of → of.kind ≡ Committed → (f : Shifting) → shifting_of tables rows t c ≡ Some f → (b ≡ true) ↔ IsThere given t f.source (2 ^ f.vars)
shift_none tables given rows t c of b here is f e =
    let none : None ≡ Some f = ap (shifting t c (vars_on rows of)) (sym is) ∙ ap (option_and_then (λ (column : ColumnShape). shifting t c (vars_on rows column) column.kind)) (sym here) ∙ e in absurd (cc)

-- a packed column's source is one of the same table
pack_here : (o : Option TableShape) (rows t c : ℕ) (of : ColumnShape) (f : Packing) → option_and_then (λ (table : TableShape). slice_get table.columns c) o ≡ Some of
    → option_and_then (λ (table : TableShape). option_and_then (λ (column : ColumnShape). packing table.columns t c (vars_on rows column) column.kind) (slice_get table.columns c)) o ≡ Some f
    → (columns : List ColumnShape) × (packing columns t c (vars_on rows of) of.kind ≡ Some f)
pack_here None rows t c of f here e = absurd (cc)
pack_here (Some table) rows t c of f here e = (table.columns, ap (option_and_then (λ (column : ColumnShape). packing table.columns t c (vars_on rows column) column.kind)) (sym here) ∙ e)

pub pack_there : (tables : List TableShape) (given : List ColumnTable) (rows t c : ℕ) (of : ColumnShape) (s : ShapeForm) (b : Bool) → column_of tables t c ≡ Some of → of.kind ≡ Virtual s → ((b ≡ true) ↔ FormIsThere given t (vars_on rows of) s) → (f : Packing) → packing_of tables rows t c ≡ Some f → (b ≡ true) ↔ IsThere given t f.source (2 ^ (f.log + f.vars))
pack_there tables given rows t c of s b here is h f e =
    let k = pack_here (slice_get tables t) rows t c of f here e in
    pack_form given k.0 t c (vars_on rows of) s b h f (ap (packing k.0 t c (vars_on rows of)) (sym is) ∙ k.1)

pub pack_none : (tables : List TableShape) (given : List ColumnTable) (rows t c : ℕ) (of : ColumnShape) (b : Bool) → column_of tables t c ≡ Some of → of.kind ≡ Committed → (f : Packing) → packing_of tables rows t c ≡ Some f → (b ≡ true) ↔ IsThere given t f.source (2 ^ (f.log + f.vars))
pack_none tables given rows t c of b here is f e =
    let k = pack_here (slice_get tables t) rows t c of f here e in
    let none : None ≡ Some f = ap (packing k.0 t c (vars_on rows of)) (sym is) ∙ k.1 in absurd (cc)

-- ---- a column that isn't there has no form
no_column_form : (B : Type 0) (g : ColumnShape → Option B) (o : Option ColumnShape) (f : B) → is_some o ≡ false → option_and_then g o ≡ Some f → ⊥
no_column_form B g None f lacks e = absurd (cc)
no_column_form B g (Some of) f lacks e = absurd (cc)

pub no_combination : (tables : List TableShape) (rows t c : ℕ) (f : Combination) → is_some (column_of tables t c) ≡ false → combination_of tables rows t c ≡ Some f → ⊥
no_combination tables rows t c f lacks e = no_column_form Combination (λ (x : ColumnShape). combination t c (vars_on rows x) x.kind) (column_of tables t c) f lacks e

pub no_projection : (tables : List TableShape) (rows t c : ℕ) (f : Projection) → is_some (column_of tables t c) ≡ false → projection_of tables rows t c ≡ Some f → ⊥
no_projection tables rows t c f lacks e = no_column_form Projection (λ (x : ColumnShape). projection t c (vars_on rows x) x.kind) (column_of tables t c) f lacks e

pub no_shifting : (tables : List TableShape) (rows t c : ℕ) (f : Shifting) → is_some (column_of tables t c) ≡ false → shifting_of tables rows t c ≡ Some f → ⊥
no_shifting tables rows t c f lacks e = no_column_form Shifting (λ (x : ColumnShape). shifting t c (vars_on rows x) x.kind) (column_of tables t c) f lacks e

pub no_packing : (tables : List TableShape) (rows t c : ℕ) (f : Packing) → is_some (column_of tables t c) ≡ false → packing_of tables rows t c ≡ Some f → ⊥
no_packing tables rows t c f lacks e = go (slice_get tables t) lacks e
  where
    go : (o : Option TableShape) → is_some (option_and_then (λ (x : TableShape). slice_get x.columns c) o) ≡ false
        → option_and_then (λ (x : TableShape). option_and_then (λ (y : ColumnShape). packing x.columns t c (vars_on rows y) y.kind) (slice_get x.columns c)) o ≡ Some f → ⊥
    go None l e = absurd (cc)
    go (Some x) l e = no_column_form Packing (λ (y : ColumnShape). packing x.columns t c (vars_on rows y) y.kind) (slice_get x.columns c) f l e
