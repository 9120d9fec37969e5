-- Steps of the layers of a flush's product.
use Rattle.std.proofs.Common.{◌≡◌, ◌∙◌, ℕ, zero, suc, ◌+◌, ◌-◌, ◌^◌, ◌<◌, ◌≤◌, List, [], ◌∷◌, ◌++◌, Option, get_or, length, map, refl, sym, ap, arith}
use Rattle.std.specs.Prelude.{slice_index, option_map}
use Rattle.std.specs.List.{All, AllByRecursion}
use Rattle.std.proofs.lemmas.List.Elements.{All-from_recursion}
use Rattle.list_laws.specs.CeilLog.{ceil_log}
use Rattle.tower_laws.specs.Tower.{mul}
use Rattle.cube_laws.specs.Sums.{tabulate}
use Rattle.multiset_laws.specs.Fingerprint.{fingerprint, leaf}
use Rattle.layer_laws.specs.Layers.{halved, layer}
use Rattle.sumcheck.specs.declared.column_tables.ColumnTable.{ColumnTable}
use Rattle.table_shape.specs.Lowering.{leaves, selector_at, step}
use Rattle.table_shape.specs.declared.shape.FlushShape.{FlushShape}
use Rattle.channel_products.specs.Given.{IsThere, selected_at, table_of}
use Rattle.channel_products.specs.Stacked.{stacked}
use Rattle.channel_products.proofs.ProverSteps.{long_lists, rows_of, selected_is, there_long}

-- ---- the leaves of all rows
pub leaves_is : {X : Type 0} (now : X → List ℕ) (a g m n : ℕ) (values : ℕ → List ℕ) (flush : FlushShape) (ls : List X) (selector : Option (List ℕ)) → n ≡ 2 ^ ceil_log m → map now ls ≡ map values flush.columns → selector ≡ option_map values flush.selector
    → tabulate n (λ row. leaf (step m row) (selected_at selector row) (fingerprint a g (map (λ l. slice_index (now l) row) ls))) ≡ leaves a g values m flush
leaves_is now a g m n values flush ls selector k e d =
    (λ i. tabulate (k i) (λ row. leaf (step m row) (selected_at (d i) row) (fingerprint a g (rows_of now row ls i))))
    ∙ (λ i. tabulate (2 ^ ceil_log m) (λ row. leaf (step m row) (selected_is values flush.selector row i) (fingerprint a g (map (λ (list : List ℕ). slice_index list row) (e i)))))
    ∙ (λ i. tabulate (2 ^ ceil_log m) (λ row. leaf (step m row) (selector_at values flush.selector row) (fingerprint a g (sym (rows_of values row flush.columns) i))))

pub all_rows_long : {X : Type 0} (now : X → List ℕ) (tables : List ColumnTable) (t n m : ℕ) (cs : List ℕ) (ls : List X) → m ≡ n → map now ls ≡ map (table_of tables t) cs → AllByRecursion (IsThere tables t n) cs → All (λ l. m ≤ length (now l)) ls
all_rows_long now tables t n m cs ls k e h = All-from_recursion (λ l. m ≤ length (now l)) ls (long_lists now tables t m n cs ls e h (omega arith))

pub selector_whole : (tables : List ColumnTable) (t n m c : ℕ) (list : List ℕ) → m ≡ n → list ≡ table_of tables t c → IsThere tables t n c → m ≤ length list
selector_whole tables t n m c list k e h = let l = ap length e ∙ there_long tables t n c h in omega arith

-- ---- the layers
-- the layers down to layer k + 1, and layer k
pub record AreMade (leaves : List ℕ) (vars k : ℕ) (made : List (List ℕ)) (last : List ℕ) : Type 0 where
  pub within : k ≤ vars
  pub made_are : (d : ℕ) → k + d ≡ vars → made ≡ stacked leaves k d
  pub last_is : (d : ℕ) → k + d ≡ vars → last ≡ layer k d leaves
  pub long : length last ≡ 2 ^ k

pub none_made : (leaves : List ℕ) (vars : ℕ) → length leaves ≡ 2 ^ vars → AreMade leaves vars vars [] leaves
none_made leaves vars h = record {
  within = omega arith;
  made_are = λ d e. let z : 0 ≡ d = omega arith in ap (stacked leaves vars) z;
  last_is = λ d e. let z : 0 ≡ d = omega arith in ap (λ d. layer vars d leaves) z;
  long = h;
}

pub one_made : (leaves : List ℕ) (vars k : ℕ) (made new : List (List ℕ)) (last above : List ℕ) → 0 < k → new ≡ made ++ last ∷ [] → above ≡ halved (2 ^ (k - 1)) last → length above ≡ 2 ^ (k - 1) → AreMade leaves vars k made last → AreMade leaves vars (k - 1) new above
one_made leaves vars k made new last above p n a l h =
    let s : k ≡ suc (k - 1) = omega arith in
    let w = h.within in
    record {
      within = omega arith;
      made_are = from s;
      last_is = then s;
      long = l;
    }
  where
    from : k ≡ suc (k - 1) → (d : ℕ) → k - 1 + d ≡ vars → new ≡ stacked leaves (k - 1) d
    from s zero e = let w = h.within in absurd (omega arith)
    from s (suc d) e = n ∙ (λ i. h.made_are d (omega arith) i ++ h.last_is d (omega arith) i ∷ []) ∙ ap (λ j. stacked leaves j d ++ layer j d leaves ∷ []) s

    then : k ≡ suc (k - 1) → (d : ℕ) → k - 1 + d ≡ vars → above ≡ layer (k - 1) d leaves
    then s zero e = let w = h.within in absurd (omega arith)
    then s (suc d) e = a ∙ (λ i. halved (2 ^ (k - 1)) (h.last_is d (omega arith) i)) ∙ ap (λ j. halved (2 ^ (k - 1)) (layer j d leaves)) s

pub twice : (n : ℕ) → 0 < n → 2 ^ n ≡ 2 ^ (n - 1) + 2 ^ (n - 1)
twice n p = let s : n ≡ suc (n - 1) = omega arith in ap (λ k. 2 ^ k) s ∙ omega arith

-- ---- one more product of two halves
read_is : (v : List ℕ) (k d e : ℕ) → k < length v → get_or v k d ≡ get_or v k e
read_is [] k d e l = absurd (omega arith)
read_is (x ∷ v) zero d e l = refl
read_is (x ∷ v) (suc k) d e l = read_is v k d e (omega arith)

pub pair_is : (table : List ℕ) (n p x y v : ℕ) → p < n → length table ≡ n + n → x ≡ get_or table p x → y ≡ get_or table (p + n) y → v ≡ mul x y → v ≡ mul (get_or table p 0) (get_or table (p + n) 0)
pair_is table n p x y v b l ex ey e = e ∙ (λ i. mul ((ex ∙ read_is table p x 0 (omega arith)) i) ((ey ∙ read_is table (p + n) y 0 (omega arith)) i))
