-- Steps of whether lists are there.
use Rattle.std.proofs.Common.{◌≡◌, ◌∙◌, ℕ, zero, suc, ◌+◌, ◌%◌, ◌*◌, ◌^◌, ◌<◌, ◌≤◌, Bool, true, false, ◌&&◌, List, [], ◌∷◌, ◌++◌, IsTrue, Some, refl, sym, ap, subst, arith}
use Rattle.std.specs.Prelude.{◌↔◌}
use Rattle.std.specs.List.{AllByRecursion, slice_get, slice_index}
use Rattle.std.proofs.lemmas.Nat.{one_shl}
use Rattle.list_laws.specs.CeilLog.{ceil_log}
use Rattle.list_laws.proofs.CeilLog.{at_most}
use Rattle.sumcheck.specs.declared.column_tables.ColumnTable.{ColumnTable}
use Rattle.table_shape.specs.declared.shape.FlushShape.{FlushShape}
use Rattle.table_shape.specs.declared.shape.TableShape.{TableShape}
use Rattle.channel_products.specs.declared.flushed.Flushed.{Flushed}
use Rattle.channel_products.specs.Channels.{flushes_from, flushes_of}
use Rattle.channel_products.specs.DescentFields.{flush_in, EachIsThere}
use Rattle.channel_products.specs.Given.{AreThere, FlushIsThere, IsThere, named_columns, selector_columns}

joined : {X : Type 0} (P : X → Type 0) (xs ys : List X) → AllByRecursion P xs → AllByRecursion P ys → AllByRecursion P (xs ++ ys)
joined P [] ys h k = k
joined P (x ∷ xs) ys h k = (h.0, joined P xs ys h.1 k)

firsts : {X : Type 0} (P : X → Type 0) (xs ys : List X) → AllByRecursion P (xs ++ ys) → AllByRecursion P xs
firsts P [] ys h = tt
firsts P (x ∷ xs) ys h = (h.0, firsts P xs ys h.1)

lasts : {X : Type 0} (P : X → Type 0) (xs ys : List X) → AllByRecursion P (xs ++ ys) → AllByRecursion P ys
lasts P [] ys h = h
lasts P (x ∷ xs) ys h = lasts P xs ys h.1

both_there : {X : Type 0} (P : X → Type 0) (xs ys : List X) (a b : Bool) → IsTrue a ↔ AllByRecursion P xs → IsTrue b ↔ AllByRecursion P ys → IsTrue (a && b) ↔ AllByRecursion P (xs ++ ys)
both_there P xs ys true b h k = ((λ t. joined P xs ys (h.0 refl) (k.0 t)), (λ t. k.1 (lasts P xs ys t)))
both_there P xs ys false b h k = ((λ t. absurd cc), (λ t. absurd (let e = h.1 (firsts P xs ys t) in cc)))

flush_there : (tables : List ColumnTable) (f : Flushed) (n : ℕ) (cs : List ℕ) (a b : Bool) → n ≡ 2 ^ ceil_log f.rows → cs ≡ f.shape.columns → IsTrue a ↔ AllByRecursion (IsThere tables f.table n) (selector_columns f.shape.selector) → IsTrue b ↔ AllByRecursion (IsThere tables f.table n) cs
    → IsTrue (a && b) ↔ FlushIsThere tables f
flush_there tables f n cs a b e d h k =
    subst (λ (m : ℕ). IsTrue (a && b) ↔ AllByRecursion (IsThere tables f.table m) (named_columns f.shape)) e
    (subst (λ (xs : List ℕ). IsTrue (a && b) ↔ AllByRecursion (IsThere tables f.table n) (selector_columns f.shape.selector ++ xs)) d (both_there (IsThere tables f.table n) (selector_columns f.shape.selector) cs a b h k))

pub few_bits : (rows : ℕ) → rows < 2 ^ 32 → ceil_log rows ≤ 32
few_bits rows h = at_most rows 32 (omega arith)

pub count_is : (rows log : ℕ) → rows < 2 ^ 32 → log ≡ ceil_log rows → (1 * 2 ^ log) % 2 ^ 64 ≡ 2 ^ ceil_log rows
count_is rows log h e = let l = few_bits rows h in one_shl log 64 (omega arith) ∙ ap (λ n. 2 ^ n) e

pub flush_then : (tables : List ColumnTable) (f : Flushed) (n : ℕ) (cs : List ℕ) (a b : Bool) → n ≡ 2 ^ ceil_log f.rows → cs ≡ f.shape.columns → IsTrue a ↔ AllByRecursion (IsThere tables f.table n) (selector_columns f.shape.selector) → IsTrue b ↔ AllByRecursion (IsThere tables f.table n) cs
    → a ≡ true → IsTrue b ↔ FlushIsThere tables f
flush_then tables f n cs a b e d h k t = subst (λ (x : Bool). IsTrue (x && b) ↔ FlushIsThere tables f) t (flush_there tables f n cs a b e d h k)

-- where the selector's list isn't there, it makes no difference whether the others are
pub flush_else : (tables : List ColumnTable) (f : Flushed) (n : ℕ) (a : Bool) → n ≡ 2 ^ ceil_log f.rows → IsTrue a ↔ AllByRecursion (IsThere tables f.table n) (selector_columns f.shape.selector) → a ≡ false → IsTrue a ↔ FlushIsThere tables f
flush_else tables f n a e h t = (
  (λ s. absurd (let w = sym t ∙ s in cc)),
  (λ s. h.1 (subst (λ (m : ℕ). AllByRecursion (IsThere tables f.table m) (selector_columns f.shape.selector)) (sym e) (firsts (IsThere tables f.table (2 ^ ceil_log f.rows)) (selector_columns f.shape.selector) f.shape.columns s))),
)

-- ---- flushes of a shape, one by one
of_table : (P : Flushed → Type 0) (t rows n k m : ℕ) (fs : List FlushShape) (f : FlushShape) → AllByRecursion P (flushes_of t rows n fs) → slice_get fs k ≡ Some f → m ≡ n + k
    → P (record { table = t; number = m; rows = rows; shape = f })
of_table P t rows n k m [] f h e i = absurd (cc)
of_table P t rows n zero m (x ∷ fs) f h e i =
    let same : x ≡ f = cc in
    let here : n ≡ m = omega arith in
    subst (λ (y : FlushShape). P (record { table = t; number = m; rows = rows; shape = y })) same (subst (λ (j : ℕ). P (record { table = t; number = j; rows = rows; shape = x })) here h.0)
of_table P t rows n (suc k) m (x ∷ fs) f h e i = of_table P t rows (n + 1) k m fs f h.1 e (omega arith)

of_tables : (P : Flushed → Type 0) (rows : List ℕ) (s t k j : ℕ) (tables : List TableShape) (f : FlushShape) → AllByRecursion P (flushes_from rows s tables) → flush_in tables t k ≡ Some f → j ≡ s + t
    → P (record { table = j; number = k; rows = slice_index rows j; shape = f })
of_tables P rows s t k j [] f h e i = absurd (cc)
of_tables P rows s zero k j (table ∷ tables) f h e i =
    let here : s ≡ j = omega arith in
    let own = firsts P (flushes_of s (slice_index rows s) 0 table.flushes) (flushes_from rows (s + 1) tables) h in
    subst (λ (m : ℕ). P (record { table = m; number = k; rows = slice_index rows m; shape = f })) here (of_table P s (slice_index rows s) 0 k k table.flushes f own e (omega arith))
of_tables P rows s (suc t) k j (table ∷ tables) f h e i =
    of_tables P rows (s + 1) t k j tables f (lasts P (flushes_of s (slice_index rows s) 0 table.flushes) (flushes_from rows (s + 1) tables) h) e (omega arith)

pub each_there : (shape : List TableShape) (rows : List ℕ) (tables : List ColumnTable) → AreThere tables (flushes_from rows 0 shape) → EachIsThere shape rows tables
each_there shape rows tables h = λ t k f e. of_tables (FlushIsThere tables) rows 0 t k t shape f h e (omega arith)
