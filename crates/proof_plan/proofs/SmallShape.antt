-- The numbers of a shape that a plan is computed from are within their limits.
use Rattle.std.proofs.Common.{◌≡◌, ℕ, zero, suc, ◌≤◌, List, [], ◌∷◌, length, take, slice_get, Option, Some, None, refl, arith}
use Rattle.std.specs.List.{AllByRecursion}
use Rattle.std.specs.Option.{IsSomeAnd}
use Rattle.table_shape.specs.declared.shape.ChannelShape.{ChannelShape}
use Rattle.table_shape.specs.declared.shape.ColumnKind.{ColumnKind}
use Rattle.table_shape.specs.declared.shape.ColumnKind.TheVariants.{Committed, Virtual}
use Rattle.table_shape.specs.declared.shape.ColumnShape.{ColumnShape}
use Rattle.table_shape.specs.declared.shape.FlushShape.{FlushShape}
use Rattle.table_shape.specs.declared.shape.ShapeForm.{ShapeForm}
use Rattle.table_shape.specs.declared.shape.ShapeForm.TheVariants as form
use Rattle.table_shape.specs.declared.shape.TableShape.{TableShape}
use Rattle.table_shape.specs.Fits.{FlushFits, HasKind, IsFormOf, IsPackOf, IsShiftOf, ShapeFits, TableFits}
use Rattle.table_shape.specs.Parts.{ShapeParts}
use Rattle.proof_plan.specs.Small.{ColumnIsSmall, ConstraintIsSmall, FlushIsSmall, FormIsSmall, KindIsSmall, TableIsSmall}

pub all_from : {X : Type 0} (P : X → Type 0) (xs : List X) → ((i : ℕ) (x : X) → slice_get xs i ≡ Some x → P x) → AllByRecursion P xs
all_from P [] h = tt
all_from P (x ∷ xs) h = (h 0 x refl, all_from P xs (λ i y e. h (suc i) y e))

-- of what is there
there : {X : Type 0} (P Q : X → Type 0) (o : Option X) → ((x : X) → o ≡ Some x → P x → Q x) → IsSomeAnd o P → IsSomeAnd o Q
there P Q None f h = h
there P Q (Some x) f h = f x refl h

said : {X : Type 0} (Q : Type 0) (P : X → Type 0) (o : Option X) → ((x : X) → o ≡ Some x → P x → Q) → IsSomeAnd o P → Q
said Q P None f h = absurd h
said Q P (Some x) f h = f x refl h

get_taken : {X : Type 0} (xs : List X) (n i : ℕ) (x : X) → slice_get (take n xs) i ≡ Some x → slice_get xs i ≡ Some x
get_taken [] zero i x e = e
get_taken [] (suc n) i x e = e
get_taken (y ∷ ys) zero i x e = absurd (cc)
get_taken (y ∷ ys) (suc n) zero x e = e
get_taken (y ∷ ys) (suc n) (suc i) x e = get_taken ys n i x e

-- ---- virtual columns
form_small : (before : List ColumnShape) (column : ColumnShape) (f : ShapeForm) → ((i : ℕ) (source : ColumnShape) → slice_get before i ≡ Some source → source.log_values ≤ 7) → IsFormOf before column f → FormIsSmall f
form_small before column (form.Shl c block offset) low h = said (block ≤ 7) (λ (source : ColumnShape). IsShiftOf source column block offset) (slice_get before c) (λ source at s. let a = low c source at in let b = s.block_fits in omega arith) h
form_small before column (form.Shr c block offset) low h = said (block ≤ 7) (λ (source : ColumnShape). IsShiftOf source column block offset) (slice_get before c) (λ source at s. let a = low c source at in let b = s.block_fits in omega arith) h
form_small before column (form.Rol c block offset) low h = said (block ≤ 7) (λ (source : ColumnShape). IsShiftOf source column block offset) (slice_get before c) (λ source at s. let a = low c source at in let b = s.block_fits in omega arith) h
form_small before column (form.Pack c log) low h = said (log ≤ 7) (λ (source : ColumnShape). IsPackOf source column log) (slice_get before c) (λ source at s. let a = low c source at in let b = s.log_values_is in omega arith) h
form_small before column (form.Project c log index) low h = tt
form_small before column (form.Linear constant terms) low h = h.few

kind_small : (before : List ColumnShape) (column : ColumnShape) (k : ColumnKind) → ((i : ℕ) (source : ColumnShape) → slice_get before i ≡ Some source → source.log_values ≤ 7) → HasKind before column k → KindIsSmall k
kind_small before column Committed low h = tt
kind_small before column (Virtual f) low h = form_small before column f low h

pub column_small : (table : TableShape) → TableFits table → (c : ℕ) (column : ColumnShape) → slice_get table.columns c ≡ Some column → ColumnIsSmall column
column_small table fit c column at =
    let own = fit.columns c column at in
    record {
      log_values = own.log_values;
      kind = kind_small (take c table.columns) column column.kind (λ i source here. (fit.columns i source (get_taken table.columns c i source here)).log_values) own.kind;
    }

-- ---- flushes
flush_small : (shape : ShapeParts) (table : TableShape) (flush : FlushShape) → ShapeFits shape → FlushFits shape.channels table.columns flush → FlushIsSmall flush
flush_small shape table flush s h = record {
  narrow = said (length flush.columns ≤ 16) (λ (channel : ChannelShape). length flush.columns ≡ channel.width) (slice_get shape.channels flush.channel) (λ channel at e. let w = (s.channels flush.channel channel at).few in omega arith) h.width;
}

-- ---- tables
pub table_small : (shape : ShapeParts) (t : ℕ) (table : TableShape) → ShapeFits shape → slice_get shape.tables t ≡ Some table → TableIsSmall table
table_small shape t table s at =
    let fit = s.tables t table at in
    record {
      few_columns = fit.few_columns;
      few_constraints = fit.few_constraints;
      few_flushes = fit.few_flushes;
      columns = all_from ColumnIsSmall table.columns (column_small table fit);
      constraints = all_from ConstraintIsSmall table.constraints (λ z constraint here. record { degree = (fit.constraints z constraint here).low });
      flushes = all_from FlushIsSmall table.flushes (λ f flush here. flush_small shape table flush s (s.flushes t table at f flush here));
    }

pub tables_small : (shape : ShapeParts) → ShapeFits shape → AllByRecursion TableIsSmall shape.tables
tables_small shape s = all_from TableIsSmall shape.tables (λ t table at. table_small shape t table s at)
