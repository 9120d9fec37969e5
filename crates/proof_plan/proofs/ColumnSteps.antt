-- Steps of loops over columns.
use Rattle.std.proofs.Common.{◌≡◌, ◌∙◌, ℕ, zero, suc, ◌+◌, ◌-◌, ◌<◌, ◌≤◌, ◌==◌, Bool, true, false, cond, List, [], ◌∷◌, ◌++◌, length, take, drop, get_or, length-append, refl, sym, ap, arith}
use Rattle.std.proofs.lemmas.List.{append-nil, append_assoc}
use Rattle.std.proofs.lemmas.List.Elements.{filter-append}
use Rattle.std.specs.List.{filter, list_any, slice_index}
use Rattle.cube_laws.specs.Sums.{tabulate}
use Rattle.cube_laws.proofs.Tabulate.{tabulate-suc}
use Rattle.table_shape.specs.declared.shape.ColumnShape.{ColumnShape}
use Rattle.table_shape.specs.declared.shape.ConstraintShape.{ConstraintShape}
use Rattle.table_shape.specs.declared.shape.TableShape.{TableShape}
use Rattle.table_shape.specs.Counts.{group}
use Rattle.list_laws.specs.CeilLog.{ceil_log}
use Rattle.list_laws.proofs.Lists.{drop_here}
use Rattle.poly_forms.specs.declared.check_kind.CheckKind.TheVariants as check
use Rattle.poly_forms.specs.declared.draw_kind.DrawKind.TheVariants as draw
use Rattle.proof_plan.specs.declared.plan_entry.PlanEntry.TheVariants.{Draw}
use Rattle.proof_plan.specs.Plan.{bit_claims, coordinates, first_columns, group_columns, group_degree, group_entries, sum_entries, table_entries}
use Rattle.std.proofs.lemmas.Bool.{eqb-true}
use Rattle.zerocheck.specs.Group.{named, names}
use Rattle.proof_plan.specs.declared.plan_entry.PlanEntry.{PlanEntry}
use Rattle.proof_plan.specs.Plan.{backwards, claims_after, column_entries, columns_entries, committed_claims, is_committed, times_in}

-- ---- one more column that constraints name
abbrev pub some_names : List ConstraintShape → ℕ → Bool
some_names zs c = list_any (λ (z : ConstraintShape). names c z.expr) zs

named_more : (zs : List ConstraintShape) (n : ℕ) → named zs (n + 1) ≡ named zs n ++ cond (some_names zs n) (n ∷ []) []
named_more zs n =
    (let e : n + 1 ≡ suc n = omega arith in ap (λ m. named zs m) e) ∙ ap (filter (some_names zs)) (tabulate-suc n (λ c. c))
    ∙ filter-append (some_names zs) (tabulate n (λ c. c)) (n ∷ [])

pub named_at : (zs : List ConstraintShape) (n : ℕ) (b : Bool) (first now new : List ℕ) → now ≡ first ++ named zs n → b ≡ some_names zs n → new ≡ now ++ cond b (n ∷ []) [] → new ≡ first ++ named zs (n + 1)
named_at zs n b first now new e s p =
    p ∙ ap (λ (w : Bool). now ++ cond w (n ∷ []) []) s ∙ ap (λ xs. xs ++ cond (some_names zs n) (n ∷ []) []) e
    ∙ append_assoc first (named zs n) (cond (some_names zs n) (n ∷ []) []) ∙ ap (λ xs. first ++ xs) (sym (named_more zs n))

pub named_counted : (zs : List ConstraintShape) (n : ℕ) (b : Bool) (now new : ℕ) → now ≡ length (named zs n) → b ≡ some_names zs n → new ≡ now + cond b 1 0 → new ≡ length (named zs (n + 1))
named_counted zs n b now new e s p = go b s p
  where
    more : length (named zs (n + 1)) ≡ length (named zs n) + length (cond (some_names zs n) (n ∷ []) [])
    more = ap length (named_more zs n) ∙ length-append (named zs n) (cond (some_names zs n) (n ∷ []) [])

    go : (w : Bool) → w ≡ some_names zs n → new ≡ now + cond w 1 0 → new ≡ length (named zs (n + 1))
    go true q r = let l = ap (λ (v : Bool). length (cond v (n ∷ []) [])) q in let m = more in omega arith
    go false q r = let l = ap (λ (v : Bool). length (cond v (n ∷ []) [])) q in let m = more in omega arith

pub column_pushed : (n : ℕ) (b : Bool) (now new : List ℕ) → b ≡ true → new ≡ now ++ n ∷ [] → new ≡ now ++ cond b (n ∷ []) []
column_pushed n b now new t e = e ∙ ap (λ (w : Bool). now ++ cond w (n ∷ []) []) (sym t)

pub column_left : (n : ℕ) (b : Bool) (now new : List ℕ) → b ≡ false → new ≡ now → new ≡ now ++ cond b (n ∷ []) []
column_left n b now new t e = e ∙ sym (append-nil now) ∙ ap (λ (w : Bool). now ++ cond w (n ∷ []) []) (sym t)

-- ---- the constraints of one number of values per row
pub group_pushed : (rows v size vars d n : ℕ) (table : TableShape) (first one two three : List PlanEntry) → size ≡ length (group v table) → ¬ (size ≡ 0) → vars ≡ ceil_log rows + v → d ≡ group_degree v table → n ≡ length (group_columns v table)
    → one ≡ first ++ Draw draw.ConstraintBatch (size - 1) ∷ [] → two ≡ one ++ coordinates draw.ZeroCoordinate vars → three ≡ two ++ sum_entries draw.ZeroRound (d + 2) vars check.ZeroFinal n
    → three ≡ first ++ group_entries rows table v
group_pushed rows v size vars d n table first one two three s some w e m h i j = go (length (group v table) == 0) refl
  where
    pushed : three ≡ first ++ (Draw draw.ConstraintBatch (length (group v table) - 1) ∷ coordinates draw.ZeroCoordinate (ceil_log rows + v) ++ sum_entries draw.ZeroRound (group_degree v table + 2) (ceil_log rows + v) check.ZeroFinal (length (group_columns v table)))
    pushed =
        j ∙ ap (λ es. es ++ sum_entries draw.ZeroRound (d + 2) vars check.ZeroFinal n) (i ∙ ap (λ es. es ++ coordinates draw.ZeroCoordinate vars) h)
        ∙ ap (λ es. es ++ sum_entries draw.ZeroRound (d + 2) vars check.ZeroFinal n) (append_assoc first (Draw draw.ConstraintBatch (size - 1) ∷ []) (coordinates draw.ZeroCoordinate vars))
        ∙ append_assoc first (Draw draw.ConstraintBatch (size - 1) ∷ coordinates draw.ZeroCoordinate vars) (sum_entries draw.ZeroRound (d + 2) vars check.ZeroFinal n)
        ∙ (λ k. first ++ (Draw draw.ConstraintBatch (s k - 1) ∷ coordinates draw.ZeroCoordinate (w k) ++ sum_entries draw.ZeroRound (e k + 2) (w k) check.ZeroFinal (m k)))

    go : (b : Bool) → (length (group v table) == 0) ≡ b → three ≡ first ++ group_entries rows table v
    go true q = absurd (some (s ∙ eqb-true (length (group v table)) 0 q))
    go false q =
        pushed ∙ ap (λ (b : Bool). first ++ cond b [] (Draw draw.ConstraintBatch (length (group v table) - 1) ∷ coordinates draw.ZeroCoordinate (ceil_log rows + v) ++ sum_entries draw.ZeroRound (group_degree v table + 2) (ceil_log rows + v) check.ZeroFinal (length (group_columns v table)))) (sym q)

-- ---- one table more
pub table_pushed : (rows : List ℕ) (t : ℕ) (tables : List TableShape) (table : TableShape) (columns : List ColumnShape) (claimed : List ℕ) (now next whole : List PlanEntry) → t < length tables → table ≡ get_or tables t table → columns ≡ table.columns → claimed ≡ first_columns table
    → next ≡ now ++ columns_entries (slice_index rows t) (backwards columns) claimed → now ++ table_entries rows t (drop t tables) ≡ whole → next ++ table_entries rows (t + 1) (drop (t + 1) tables) ≡ whole
table_pushed rows t tables table columns claimed now next whole below at c f h e =
    let rest = table_entries rows (t + 1) (drop (t + 1) tables) in
    ap (λ es. es ++ rest) (h ∙ (λ k. now ++ columns_entries (slice_index rows t) (backwards (c k)) (f k))) ∙ append_assoc now (columns_entries (slice_index rows t) (backwards table.columns) (first_columns table)) rest
    ∙ ap (λ ts. now ++ table_entries rows t ts) (sym (drop_here tables t table below at)) ∙ e

pub table_counted : (t : ℕ) (tables : List TableShape) (table : TableShape) (columns : List ColumnShape) (claimed : List ℕ) (now n total : ℕ) → t < length tables → table ≡ get_or tables t table → columns ≡ table.columns → claimed ≡ first_columns table
    → n ≡ committed_claims (backwards columns) claimed → now + bit_claims (drop t tables) ≡ total → now + n + bit_claims (drop (t + 1) tables) ≡ total
table_counted t tables table columns claimed now n total below at c f h e =
    let own : n ≡ committed_claims (backwards table.columns) (first_columns table) = h ∙ (λ k. committed_claims (backwards (c k)) (f k)) in
    let more = ap bit_claims (drop_here tables t table below at) in
    omega arith

-- ---- the last of the first columns
pub backwards_more : (cs : List ColumnShape) (c : ColumnShape) → backwards (cs ++ c ∷ []) ≡ c ∷ backwards cs
backwards_more [] c = refl
backwards_more (x ∷ xs) c = ap (λ ys. ys ++ x ∷ []) (backwards_more xs c)

pub take_more : (cs : List ColumnShape) (i : ℕ) (c : ColumnShape) → i < length cs → c ≡ get_or cs i c → take (suc i) cs ≡ take i cs ++ c ∷ []
take_more [] i c h e = absurd (omega arith)
take_more (x ∷ xs) zero c h e = ap (λ y. y ∷ []) (sym e)
take_more (x ∷ xs) (suc i) c h e = ap (λ ys. x ∷ ys) (take_more xs i c (omega arith) e)

pub length_backwards : (cs : List ColumnShape) (i : ℕ) → i ≤ length cs → length (backwards (take i cs)) ≡ i
length_backwards cs zero h = refl
length_backwards [] (suc i) h = absurd (omega arith)
length_backwards (x ∷ xs) (suc i) h = length_last (backwards (take i xs)) ∙ ap suc (length_backwards xs i (omega arith))
  where
    length_last : (ys : List ColumnShape) → length (ys ++ x ∷ []) ≡ suc (length ys)
    length_last [] = refl
    length_last (y ∷ ys) = ap suc (length_last ys)

pub first_columns_are : (cs : List ColumnShape) (i : ℕ) (c : ColumnShape) → i < length cs → c ≡ get_or cs i c → backwards (take (suc i) cs) ≡ c ∷ backwards (take i cs)
first_columns_are cs i c h e = ap backwards (take_more cs i c h e) ∙ backwards_more (take i cs) c

-- ---- a column is done
pub record Done (rows : ℕ) (before : List ColumnShape) (claimed : List ℕ) (now whole : List PlanEntry) (committed total : ℕ) : Type 0 where
  pub entries : now ++ columns_entries rows before claimed ≡ whole
  pub count : committed + committed_claims before claimed ≡ total

abbrev pub counted : ColumnShape → ℕ → ℕ
counted column j = cond (j == 0) 0 (is_committed column.kind)

pub column_done : (rows i n j : ℕ) (cs : List ColumnShape) (column : ColumnShape) (claimed claimed_next : List ℕ) (now next whole : List PlanEntry) (committed count total : ℕ)
    → 0 < n → n ≡ suc i → n ≤ length cs → column ≡ get_or cs i column
    → Done rows (backwards (take n cs)) claimed now whole committed total → j ≡ times_in i claimed → next ≡ now ++ column_entries rows column j → claimed_next ≡ claims_after column j claimed → count ≡ counted column j
    → Done rows (backwards (take i cs)) claimed_next next whole (committed + count) total
column_done rows i n j cs column claimed claimed_next now next whole committed count total some is l e d t h k m =
    let before = backwards (take i cs) in
    let at = ap (λ q. backwards (take q cs)) is ∙ first_columns_are cs i column (omega arith) e in
    let place : j ≡ times_in (length before) claimed = t ∙ ap (λ q. times_in q claimed) (sym (length_backwards cs i (omega arith))) in
    let one = sym (ap (λ bs. now ++ columns_entries rows bs claimed) at) ∙ d.entries in
    let two = ap (λ bs. committed + committed_claims bs claimed) (sym at) ∙ d.count in
    record {
      entries = ap (λ cl. next ++ columns_entries rows before cl) k ∙ ap (λ es. es ++ columns_entries rows before (claims_after column j claimed)) h ∙ append_assoc now (column_entries rows column j) (columns_entries rows before (claims_after column j claimed))
          ∙ ap (λ q. now ++ (column_entries rows column q ++ columns_entries rows before (claims_after column q claimed))) place ∙ one;
      count =
          let a : committed + count + committed_claims before claimed_next ≡ committed + (counted column (times_in (length before) claimed) + committed_claims before (claims_after column (times_in (length before) claimed) claimed)) =
          ap (λ q. q + committed_claims before claimed_next) (ap (λ q. committed + q) m) ∙ ap (λ cl. committed + counted column j + committed_claims before cl) k ∙ ap (λ q. committed + counted column q + committed_claims before (claims_after column q claimed)) place
          ∙ (let b : committed + counted column (times_in (length before) claimed) + committed_claims before (claims_after column (times_in (length before) claimed) claimed) ≡ committed + (counted column (times_in (length before) claimed) + committed_claims before (claims_after column (times_in (length before) claimed) claimed)) = omega arith in b)
          in a ∙ two;
    }
