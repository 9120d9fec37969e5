-- In a filling of a shape virtual columns have the lists of their forms.
use Rattle.std.proofs.Common.{◌≡◌, ◌∙◌, ℕ, zero, suc, ◌+◌, ◌^◌, ◌≤◌, List, [], ◌∷◌, length, map, take, get_or, slice_index, bit_xor, Option, Some, None, refl, sym, ap, subst, arith}
use Rattle.std.specs.List.{slice_get}
use Rattle.std.specs.Option.{IsSomeAnd, option_and_then}
use Rattle.std.proofs.lemmas.Option.{option_and_then_some}
use Rattle.cube_laws.specs.Sums.{tabulate}
use Rattle.cube_laws.specs.SumClaim.{AllLong, row}
use Rattle.cube_laws.proofs.Weights.{tabulate-same}
use Rattle.cube_laws.proofs.Tabulate.{entries}
use Rattle.column_laws.specs.Columns.{linear, linear_value, packed}
use Rattle.tower_laws.specs.Tower.{mul}
use Rattle.tower_laws.specs.Lists.{sum_all}
use Rattle.tower_laws.proofs.Field.{identity, field_terms}
use Rattle.cube_mle.specs.declared.shift.ShiftKind.TheVariants.{Shl, Shr, Rol}
use Rattle.sumcheck.specs.declared.column_claim.ColumnClaim.{ColumnClaim}
use Rattle.table_shape.specs.declared.shape.ShapeTerm.{ShapeTerm}
use Rattle.table_shape.specs.declared.shape.ShapeForm.{ShapeForm}
use Rattle.table_shape.specs.declared.shape.ShapeForm.TheVariants as form
use Rattle.table_shape.specs.declared.shape.ColumnKind.{ColumnKind}
use Rattle.table_shape.specs.declared.shape.ColumnKind.TheVariants.{Committed, Virtual}
use Rattle.table_shape.specs.declared.shape.ColumnShape.{ColumnShape}
use Rattle.table_shape.specs.declared.shape.TableShape.{TableShape}
use Rattle.list_laws.specs.CeilLog.{ceil_log}
use Rattle.table_shape.specs.Forms.{form_value, level_at}
use Rattle.table_shape.specs.Filling.{Filling, HasValues, IsFilling, values_of}
use Rattle.table_shape.specs.Fits.{IsFormOf, HasKind, ShapeFits}
use Rattle.table_shape.specs.Parts.{ShapeParts}
use Rattle.eval_reduce.specs.declared.packing.Packing.{Packing}
use Rattle.eval_reduce.specs.declared.projection.Projection.{Projection}
use Rattle.eval_reduce.specs.declared.shifting.Shifting.{Shifting}
use Rattle.eval_reduce.specs.Virtual.{IsOn, column_of, vars_on}
use Rattle.eval_reduce.specs.Linear.{Combination, IsLinear, coefficients, combination, combination_of, term_lists}
use Rattle.eval_reduce.specs.Pack.{IsPacked, packing, packing_of}
use Rattle.eval_reduce.specs.Shift.{IsShifted, shifting, shifting_of}
use Rattle.eval_reduce.specs.Project.{IsProjected, projection, projection_of}
use Rattle.eval_reduce.specs.Filled.{FillingsHaveForms}

within_taken : {X : Type 0} (n : ℕ) (xs : List X) (k : ℕ) (x : X) → slice_get (take n xs) k ≡ Some x → slice_get xs k ≡ Some x
within_taken zero [] k x e = absurd (cc)
within_taken zero (y ∷ xs) k x e = absurd (cc)
within_taken (suc n) [] k x e = absurd (cc)
within_taken (suc n) (y ∷ xs) zero x e = e
within_taken (suc n) (y ∷ xs) (suc k) x e = within_taken n xs k x e

-- a virtual column in its table: its form fits, and its list has the values of the form
record Stands (s : ShapeParts) (rows : List ℕ) (filling : Filling) (t c : ℕ) (column : ColumnShape) (f : ShapeForm) : Type 0 where
  table : TableShape
  table_there : slice_get s.tables t ≡ Some table
  fits : IsFormOf (take c table.columns) column f
  list_is : values_of filling t c ≡ tabulate (2 ^ vars_on (slice_index rows t) column) (form_value table.columns (values_of filling t) f)

stands_in : (s : ShapeParts) (rows : List ℕ) (filling : Filling) (t c : ℕ) (table : TableShape) (column : ColumnShape) (f : ShapeForm) → ShapeFits s → IsFilling s.tables rows filling → slice_get s.tables t ≡ Some table → slice_get table.columns c ≡ Some column → column.kind ≡ Virtual f
    → IsFormOf (take c table.columns) column f × (values_of filling t c ≡ tabulate (2 ^ vars_on (slice_index rows t) column) (form_value table.columns (values_of filling t) f))
stands_in s rows filling t c table column f h i a b k =
    let own = i.columns t c table column a b in
    let has : HasValues (slice_index rows t) table.columns (values_of filling t) column (values_of filling t c) (Virtual f) = subst (HasValues (slice_index rows t) table.columns (values_of filling t) column (values_of filling t c)) k own.has in (
      subst (HasKind (take c table.columns) column) k ((h.tables t table a).columns c column b).kind,
      entries (2 ^ vars_on (slice_index rows t) column) (form_value table.columns (values_of filling t) f) (values_of filling t c) own.len has,
    )

stands : (s : ShapeParts) (rows : List ℕ) (filling : Filling) (t c : ℕ) (column : ColumnShape) (f : ShapeForm) → ShapeFits s → IsFilling s.tables rows filling → column_of s.tables t c ≡ Some column → column.kind ≡ Virtual f → Stands s rows filling t c column f
stands s rows filling t c column f h i e k =
    option_and_then_some (λ (table : TableShape). slice_get table.columns c) (slice_get s.tables t) column e
    (λ table a b. let st = stands_in s rows filling t c table column f h i a b k in record { table = table; table_there = a; fits = st.0; list_is = st.1 })

-- the list of a source is as long as its variables say
source_long : (s : ShapeParts) (rows : List ℕ) (filling : Filling) (t c k n : ℕ) (table : TableShape) (source : ColumnShape) → IsFilling s.tables rows filling → slice_get s.tables t ≡ Some table → slice_get (take c table.columns) k ≡ Some source → ceil_log (slice_index rows t) + source.log_values ≡ n
    → length (values_of filling t k) ≡ 2 ^ n
source_long s rows filling t c k n table source i a b e = (i.columns t k table source a (within_taken c table.columns k source b)).len ∙ ap (λ m. 2 ^ m) e

-- a source that is there
at_source : {P : Type 0} (o : Option ColumnShape) (Q : ColumnShape → Type 0) → IsSomeAnd o Q → ((source : ColumnShape) → o ≡ Some source → Q source → P) → P
at_source None Q h k = absurd h
at_source (Some source) Q h k = k source refl h

-- ---- projected columns
project_kind : {P : Type 0} (t c n : ℕ) (kind : ColumnKind) (p : Projection) → projection t c n kind ≡ Some p
    → ((source log index : ℕ) → kind ≡ Virtual (form.Project source log index) → record { table = t; column = c; vars = n; source = source; log = log; index = index } ≡ p → P) → P
project_kind t c n Committed p e k = absurd (cc)
project_kind t c n (Virtual (form.Shl a b o)) p e k = absurd (cc)
project_kind t c n (Virtual (form.Shr a b o)) p e k = absurd (cc)
project_kind t c n (Virtual (form.Rol a b o)) p e k = absurd (cc)
project_kind t c n (Virtual (form.Pack a b)) p e k = absurd (cc)
project_kind t c n (Virtual (form.Linear a ts)) p e k = absurd (cc)
project_kind t c n (Virtual (form.Project source log index)) p e k = k source log index refl (cc)

project_filled : (s : ShapeParts) (rows : List ℕ) (filling : Filling) (t c : ℕ) (p : Projection) → ShapeFits s → IsFilling s.tables rows filling → projection_of s.tables (slice_index rows t) t c ≡ Some p → IsProjected (values_of filling) p
project_filled s rows filling t c p h i e =
    option_and_then_some (λ (column : ColumnShape). projection t c (vars_on (slice_index rows t) column) column.kind) (column_of s.tables t c) p e
    (λ column a b. project_kind t c (vars_on (slice_index rows t) column) column.kind p b
    (λ source log index k q.
    let st = stands s rows filling t c column (form.Project source log index) h i a k in
    at_source (slice_get (take c st.table.columns) source) _ st.fits (λ own there of.
    subst (IsProjected (values_of filling)) q
    (record {
      column_is = st.list_is;
      source_long = source_long s rows filling t c source _ st.table own i st.table_there there (let w = of.log_values_is in omega arith);
      index_fits = of.index_fits;
    }))))

-- ---- packed columns
pack_kind : {P : Type 0} (columns : List ColumnShape) (t c n : ℕ) (kind : ColumnKind) (f : Packing) → packing columns t c n kind ≡ Some f
    → ((source log : ℕ) → kind ≡ Virtual (form.Pack source log) → record { table = t; column = c; vars = n; source = source; level = level_at columns source; log = log } ≡ f → P) → P
pack_kind columns t c n Committed f e k = absurd (cc)
pack_kind columns t c n (Virtual (form.Shl a b o)) f e k = absurd (cc)
pack_kind columns t c n (Virtual (form.Shr a b o)) f e k = absurd (cc)
pack_kind columns t c n (Virtual (form.Rol a b o)) f e k = absurd (cc)
pack_kind columns t c n (Virtual (form.Project a b o)) f e k = absurd (cc)
pack_kind columns t c n (Virtual (form.Linear a ts)) f e k = absurd (cc)
pack_kind columns t c n (Virtual (form.Pack source log)) f e k = k source log refl (cc)

pack_filled : (s : ShapeParts) (rows : List ℕ) (filling : Filling) (t c : ℕ) (f : Packing) (claim : ColumnClaim) → ShapeFits s → IsFilling s.tables rows filling → packing_of s.tables (slice_index rows t) t c ≡ Some f → IsOn f.table f.column f.vars claim
    → IsPacked (values_of filling) f claim
pack_filled s rows filling t c f claim h i e on =
    option_and_then_some (λ (table : TableShape). option_and_then (λ (column : ColumnShape). packing table.columns t c (vars_on (slice_index rows t) column) column.kind) (slice_get table.columns c)) (slice_get s.tables t) f e
    (λ table a d. option_and_then_some (λ (column : ColumnShape). packing table.columns t c (vars_on (slice_index rows t) column) column.kind) (slice_get table.columns c) f d
    (λ column b g. pack_kind table.columns t c (vars_on (slice_index rows t) column) column.kind f g
    (λ source log k q.
    let st = stands_in s rows filling t c table column (form.Pack source log) h i a b k in
    at_source (slice_get (take c table.columns) source) _ st.0 (λ own there of.
    filled_pack (values_of filling) f claim _ q on st.1 (source_long s rows filling t c source _ table own i a there (let w = of.log_values_is in omega arith))))))
  where
    filled_pack : (F : ℕ → ℕ → List ℕ) (f : Packing) (claim : ColumnClaim) (g : Packing) → g ≡ f → IsOn f.table f.column f.vars claim
        → F g.table g.column ≡ packed g.level g.log (2 ^ g.vars) (F g.table g.source) → length (F g.table g.source) ≡ 2 ^ (g.log + g.vars) → IsPacked F f claim
    filled_pack F f claim g q on e l =
        record { on = on; column_is = subst (λ (g : Packing). F g.table g.column ≡ packed g.level g.log (2 ^ g.vars) (F g.table g.source)) q e; source_long = subst (λ (g : Packing). length (F g.table g.source) ≡ 2 ^ (g.log + g.vars)) q l }

-- ---- linear columns
linear_kind : {P : Type 0} (t c n : ℕ) (kind : ColumnKind) (f : Combination) → combination t c n kind ≡ Some f
    → ((constant : ℕ) (terms : List ShapeTerm) → kind ≡ Virtual (form.Linear constant terms) → record { table = t; column = c; vars = n; constant = constant; terms = terms } ≡ f → P) → P
linear_kind t c n Committed f e k = absurd (cc)
linear_kind t c n (Virtual (form.Shl a b o)) f e k = absurd (cc)
linear_kind t c n (Virtual (form.Shr a b o)) f e k = absurd (cc)
linear_kind t c n (Virtual (form.Rol a b o)) f e k = absurd (cc)
linear_kind t c n (Virtual (form.Pack a b)) f e k = absurd (cc)
linear_kind t c n (Virtual (form.Project a b o)) f e k = absurd (cc)
linear_kind t c n (Virtual (form.Linear constant terms)) f e k = k constant terms refl (cc)

none : (k : ℕ) → bit_xor k 0 ≡ k
none k = identity (k ∷ []) (search field_terms depth 60 fits 20000) refl

-- the sum of the terms at a position, in the words of both definitions
terms_at : (values : ℕ → List ℕ) (k0 p : ℕ) (ts : List ShapeTerm)
    → bit_xor k0 (sum_all (map (λ (t : ShapeTerm). mul t.coefficient (get_or (values t.column) p 0)) ts)) ≡ linear_value k0 (coefficients ts) (row (map (λ (t : ShapeTerm). values t.column) ts) p)
terms_at values k0 p [] = none k0
terms_at values k0 p (t ∷ ts) = swap k0 (mul t.coefficient (get_or (values t.column) p 0)) _ ∙ ap (bit_xor (mul t.coefficient (get_or (values t.column) p 0))) (terms_at values k0 p ts)
  where
    swap : (k a s : ℕ) → bit_xor k (bit_xor a s) ≡ bit_xor a (bit_xor k s)
    swap k a s = identity (k ∷ a ∷ s ∷ []) (search field_terms depth 60 fits 20000) refl

all_long : (s : ShapeParts) (rows : List ℕ) (filling : Filling) (t c n : ℕ) (table : TableShape) (column : ColumnShape) → IsFilling s.tables rows filling → slice_get s.tables t ≡ Some table → ceil_log (slice_index rows t) + column.log_values ≡ n
    → (ts : List ShapeTerm) → ((i : ℕ) (term : ShapeTerm) → slice_get ts i ≡ Some term → IsSomeAnd (slice_get (take c table.columns) term.column) (λ (source : ColumnShape). source.log_values ≡ column.log_values))
    → AllLong (2 ^ n) (term_lists (values_of filling) t ts)
all_long s rows filling t c n table column i a e [] each = tt
all_long s rows filling t c n table column i a e (x ∷ ts) each = (
  at_source (slice_get (take c table.columns) x.column) _ (each 0 x refl) (λ own there w. source_long s rows filling t c x.column n table own i a there (ap (λ v. ceil_log (slice_index rows t) + v) w ∙ e)),
  all_long s rows filling t c n table column i a e ts (λ k term g. each (suc k) term g),
)

linear_filled : (s : ShapeParts) (rows : List ℕ) (filling : Filling) (t c : ℕ) (f : Combination) (claim : ColumnClaim) → ShapeFits s → IsFilling s.tables rows filling → combination_of s.tables (slice_index rows t) t c ≡ Some f → IsOn f.table f.column f.vars claim
    → IsLinear (values_of filling) f claim
linear_filled s rows filling t c f claim h i e on =
    option_and_then_some (λ (column : ColumnShape). combination t c (vars_on (slice_index rows t) column) column.kind) (column_of s.tables t c) f e
    (λ column a b. linear_kind t c (vars_on (slice_index rows t) column) column.kind f b
    (λ constant terms k q.
    let st = stands s rows filling t c column (form.Linear constant terms) h i a k in
    filled_linear (values_of filling) f claim _ q on
    (st.list_is ∙ tabulate-same (2 ^ vars_on (slice_index rows t) column) _ _ (λ p l. terms_at (values_of filling t) constant p terms))
    (all_long s rows filling t c (vars_on (slice_index rows t) column) st.table column i st.table_there refl terms st.fits.each)))
  where
    filled_linear : (F : ℕ → ℕ → List ℕ) (f : Combination) (claim : ColumnClaim) (g : Combination) → g ≡ f → IsOn f.table f.column f.vars claim
        → F g.table g.column ≡ linear (2 ^ g.vars) g.constant (coefficients g.terms) (term_lists F g.table g.terms) → AllLong (2 ^ g.vars) (term_lists F g.table g.terms) → IsLinear F f claim
    filled_linear F f claim g q on e l =
        record { on = on; column_is = subst (λ (g : Combination). F g.table g.column ≡ linear (2 ^ g.vars) g.constant (coefficients g.terms) (term_lists F g.table g.terms)) q e; long = subst (λ (g : Combination). AllLong (2 ^ g.vars) (term_lists F g.table g.terms)) q l }

-- ---- shifted columns
shift_kind : {P : Type 0} (t c n : ℕ) (kind : ColumnKind) (h : Shifting) → shifting t c n kind ≡ Some h
    → ((source block offset : ℕ) → kind ≡ Virtual (form.Shl source block offset) → record { table = t; column = c; vars = n; source = source; kind = Shl; block = block; offset = offset } ≡ h → P)
    → ((source block offset : ℕ) → kind ≡ Virtual (form.Shr source block offset) → record { table = t; column = c; vars = n; source = source; kind = Shr; block = block; offset = offset } ≡ h → P)
    → ((source block offset : ℕ) → kind ≡ Virtual (form.Rol source block offset) → record { table = t; column = c; vars = n; source = source; kind = Rol; block = block; offset = offset } ≡ h → P) → P
shift_kind t c n Committed h e up down round = absurd (cc)
shift_kind t c n (Virtual (form.Pack a b)) h e up down round = absurd (cc)
shift_kind t c n (Virtual (form.Project a b o)) h e up down round = absurd (cc)
shift_kind t c n (Virtual (form.Linear a ts)) h e up down round = absurd (cc)
shift_kind t c n (Virtual (form.Shl source block offset)) h e up down round = up source block offset refl (cc)
shift_kind t c n (Virtual (form.Shr source block offset)) h e up down round = down source block offset refl (cc)
shift_kind t c n (Virtual (form.Rol source block offset)) h e up down round = round source block offset refl (cc)

shift_filled : (s : ShapeParts) (rows : List ℕ) (filling : Filling) (t c : ℕ) (g : Shifting) → ShapeFits s → IsFilling s.tables rows filling → shifting_of s.tables (slice_index rows t) t c ≡ Some g → IsShifted (values_of filling) g
shift_filled s rows filling t c g h i e =
    option_and_then_some (λ (column : ColumnShape). shifting t c (vars_on (slice_index rows t) column) column.kind) (column_of s.tables t c) g e
    (λ column a b. shift_kind t c (vars_on (slice_index rows t) column) column.kind g b
    (λ source block offset k q. let st = stands s rows filling t c column (form.Shl source block offset) h i a k in
    at_source (slice_get (take c st.table.columns) source) _ st.fits (λ own there of. subst (IsShifted (values_of filling)) q (record { column_is = st.list_is; source_long = long_as column st source own there of.log_values_is; block_fits = within column own block of.log_values_is of.block_fits })))
    (λ source block offset k q. let st = stands s rows filling t c column (form.Shr source block offset) h i a k in
    at_source (slice_get (take c st.table.columns) source) _ st.fits (λ own there of. subst (IsShifted (values_of filling)) q (record { column_is = st.list_is; source_long = long_as column st source own there of.log_values_is; block_fits = within column own block of.log_values_is of.block_fits })))
    (λ source block offset k q. let st = stands s rows filling t c column (form.Rol source block offset) h i a k in
    at_source (slice_get (take c st.table.columns) source) _ st.fits (λ own there of. subst (IsShifted (values_of filling)) q (record { column_is = st.list_is; source_long = long_as column st source own there of.log_values_is; block_fits = within column own block of.log_values_is of.block_fits }))))
  where
    long_as : (column : ColumnShape) {f : ShapeForm} (st : Stands s rows filling t c column f) (source : ℕ) (own : ColumnShape) → slice_get (take c st.table.columns) source ≡ Some own → column.log_values ≡ own.log_values → length (values_of filling t source) ≡ 2 ^ vars_on (slice_index rows t) column
    long_as column st source own there w = source_long s rows filling t c source _ st.table own i st.table_there there (ap (λ v. ceil_log (slice_index rows t) + v) (sym w))

    within : (column own : ColumnShape) (block : ℕ) → column.log_values ≡ own.log_values → block ≤ own.log_values → block ≤ vars_on (slice_index rows t) column
    within column own block w l = omega arith

pub fillings_have_forms : FillingsHaveForms
fillings_have_forms s rows filling t c h i = record {
  projected = λ p e. project_filled s rows filling t c p h i e;
  packed = λ f claim e on. pack_filled s rows filling t c f claim h i e on;
  combined = λ f claim e on. linear_filled s rows filling t c f claim h i e on;
  shifted = λ g e. shift_filled s rows filling t c g h i e;
}
