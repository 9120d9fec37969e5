-- Steps of the prover.
use Rattle.std.proofs.Common.{◌≡◌, ◌∙◌, ℕ, zero, suc, ◌+◌, ◌-◌, ◌^◌, ◌≤◌, ltb, cond, List, [], ◌∷◌, ◌++◌, length, map, Option, Some, None, refl, sym, ap, subst, arith}
use Rattle.std.specs.Prelude.{slice_index, option_map, unwrap_or}
use Rattle.std.specs.List.{All, AllByRecursion}
use Rattle.std.proofs.lemmas.Bool.{lt-ltb, le-ltb}
use Rattle.std.proofs.lemmas.List.Elements.{All-from_recursion}
use Rattle.tower_laws.specs.Tower.{mul}
use Rattle.tower_laws.specs.Lists.{product_all}
use Rattle.tower_laws.proofs.Field.{identity, field_terms}
use Rattle.tower_laws.proofs.Lists.{product_all-append}
use Rattle.tower_laws.proofs.Rules.{times_one}
use Rattle.cube_laws.specs.Sums.{tabulate}
use Rattle.cube_laws.proofs.Tabulate.{tabulate-suc}
use Rattle.cube_laws.proofs.Weights.{tabulate-add, tabulate-same}
use Rattle.multiset_laws.specs.Fingerprint.{fingerprint, leaf}
use Rattle.list_laws.specs.CeilLog.{ceil_log}
use Rattle.list_laws.proofs.CeilLog.{is_least}
use Rattle.sumcheck.specs.declared.column_tables.ColumnTable.{ColumnTable}
use Rattle.sumcheck.specs.Machine.{AwaitsDraw, AwaitsSome, Filling}
use Rattle.table_shape.specs.declared.shape.FlushShape.{FlushShape}
use Rattle.table_shape.specs.Channels.{tuple_at}
use Rattle.table_shape.specs.Lowering.{flush_product, selector_at}
use Rattle.channel_products.specs.declared.balance_prover.BalanceProver.{BalanceProver}
use Rattle.channel_products.specs.declared.balance_walk.Stage.TheVariants.{Stated, Collapsing, Multiplying, Told}
use Rattle.channel_products.specs.declared.channels.Channels.{Channels}
use Rattle.channel_products.specs.declared.flushed.Flushed.{Flushed}
use Rattle.channel_products.specs.Balancing.{Balancing, waiting, stated, collapsing, multiplying, told, balancing_draw, balancing_entries, balancing_honest, balancing_message, opened}
use Rattle.channel_products.specs.Channels.{product_of}
use Rattle.channel_products.specs.Following.{AreGiven, FollowsBalance, IsNew}
use Rattle.channel_products.specs.Given.{AreThere, FlushIsThere, IsThere, SelectorIsLong, named_columns, selected_at, selector_columns, table_of}

-- ---- the leaves of rows, and of all rows of the filled-up table
no_leaf : (s v : ℕ) → leaf 0 s v ≡ 1
no_leaf s v = identity (s ∷ v ∷ []) (search field_terms depth 60 fits 20000) refl

all_ones : (n : ℕ) (f : ℕ → ℕ) → ((y : ℕ) → f y ≡ 1) → product_all (tabulate n f) ≡ 1
all_ones zero f h = refl
all_ones (suc n) f h = (λ i. mul (h 0 i) (all_ones n (λ y. f (suc y)) (λ y. h (suc y)) i)) ∙ times_one 1

rows_alone : (n m : ℕ) (s v : ℕ → ℕ) → m ≤ n → product_all (tabulate m (λ y. leaf 1 (s y) (v y))) ≡ product_all (tabulate n (λ y. leaf (cond (ltb y m) 1 0) (s y) (v y)))
rows_alone n m s v h =
    let f : ℕ → ℕ = λ y. leaf (cond (ltb y m) 1 0) (s y) (v y) in
    let e : m + (n - m) ≡ n = omega arith in
    let early : tabulate m (λ y. leaf 1 (s y) (v y)) ≡ tabulate m f = tabulate-same m (λ y. leaf 1 (s y) (v y)) f (λ y l. ap (λ b. leaf (cond b 1 0) (s y) (v y)) (sym (lt-ltb y m l))) in
    let late : product_all (tabulate (n - m) (λ y. f (m + y))) ≡ 1 = all_ones (n - m) (λ y. f (m + y)) (λ y. ap (λ b. leaf (cond b 1 0) (s (m + y)) (v (m + y))) (le-ltb (m + y) m (omega arith)) ∙ no_leaf (s (m + y)) (v (m + y))) in
    ap product_all early ∙ sym (times_one (product_all (tabulate m f))) ∙ ap (mul (product_all (tabulate m f))) (sym late)
    ∙ sym (product_all-append (tabulate m f) (tabulate (n - m) (λ y. f (m + y)))) ∙ ap product_all (sym (tabulate-add m (n - m) f)) ∙ ap (λ k. product_all (tabulate k f)) e

pub selected_is : (values : ℕ → List ℕ) (selector : Option ℕ) (row : ℕ) → selected_at (option_map values selector) row ≡ selector_at values selector row
selected_is values None row = refl
selected_is values (Some s) row = refl

pub rows_of : {X : Type 0} (now : X → List ℕ) (row : ℕ) (ls : List X) → map (λ l. slice_index (now l) row) ls ≡ map (λ (list : List ℕ). slice_index list row) (map now ls)
rows_of now row [] = refl
rows_of now row (l ∷ ls) = ap (λ xs. slice_index (now l) row ∷ xs) (rows_of now row ls)

-- the lists of a flush's columns are those of its values
pub product_is : {X : Type 0} (now : X → List ℕ) (a g m : ℕ) (values : ℕ → List ℕ) (flush : FlushShape) (ls : List X) (selector : Option (List ℕ)) → map now ls ≡ map values flush.columns → selector ≡ option_map values flush.selector
    → product_all (tabulate m (λ row. leaf 1 (selected_at selector row) (fingerprint a g (map (λ l. slice_index (now l) row) ls)))) ≡ flush_product a g values m flush
product_is now a g m values flush ls selector e d =
    (λ i. product_all (tabulate m (λ row. leaf 1 (selected_at (d i) row) (fingerprint a g (rows_of now row ls i)))))
    ∙ (λ i. product_all (tabulate m (λ row. leaf 1 (selected_is values flush.selector row i) (fingerprint a g (map (λ (list : List ℕ). slice_index list row) (e i))))))
    ∙ (λ i. product_all (tabulate m (λ row. leaf 1 (selector_at values flush.selector row) (fingerprint a g (sym (rows_of values row flush.columns) i)))))
    ∙ rows_alone (2 ^ ceil_log m) m (selector_at values flush.selector) (λ row. fingerprint a g (tuple_at values flush row)) (is_least m).enough

-- ---- two fillings that agree on the columns of a flush
pub same_tuple : (v w : ℕ → List ℕ) (row : ℕ) (cs : List ℕ) → AllByRecursion (λ c. v c ≡ w c) cs → map (λ c. slice_index (v c) row) cs ≡ map (λ c. slice_index (w c) row) cs
same_tuple v w row [] h = refl
same_tuple v w row (c ∷ cs) h = (λ i. slice_index (h.0 i) row ∷ same_tuple v w row cs h.1 i)

pub record Agree (v w : ℕ → List ℕ) (s : Option ℕ) (cs : List ℕ) : Type 0 where
  pub selector : (row : ℕ) → selector_at v s row ≡ selector_at w s row
  pub columns : AllByRecursion (λ c. v c ≡ w c) cs

pub agree : (v w : ℕ → List ℕ) (selector : Option ℕ) (cs : List ℕ) → AllByRecursion (λ c. v c ≡ w c) (selector_columns selector ++ cs) → Agree v w selector cs
agree v w None cs h = record { selector = λ row. refl; columns = h }
agree v w (Some s) cs h = record { selector = λ row. ap (λ list. slice_index list row) h.0; columns = h.1 }

same_product : (F G : Filling) (a g : ℕ) (f : Flushed) → AllByRecursion (λ c. F f.table c ≡ G f.table c) (named_columns f.shape) → product_of F a g f ≡ product_of G a g f
same_product F G a g f h =
    let k = agree (F f.table) (G f.table) f.shape.selector f.shape.columns h in
    (λ i. product_all (tabulate (2 ^ ceil_log f.rows) (λ row. leaf (cond (ltb row f.rows) 1 0) (k.selector row i) (fingerprint a g (same_tuple (F f.table) (G f.table) row f.shape.columns k.columns i)))))

same_products : (F : Filling) (tables : List ColumnTable) (a g : ℕ) (fs : List Flushed) → AreGiven F tables fs → map (product_of F a g) fs ≡ map (product_of (table_of tables) a g) fs
same_products F tables a g [] h = refl
same_products F tables a g (f ∷ fs) h = (λ i. same_product F (table_of tables) a g f h.0 i ∷ same_products F tables a g fs h.1 i)

-- ---- the claim is stated
pub entered : (p next : BalanceProver) (F : Filling) (ch : Channels) (tables : List ColumnTable) (ws : List ℕ) → p.channels.widths ≡ [] → next ≡ record p { stage = Told } → IsNew p ch tables → ch.widths ≡ ws → FollowsBalance next F (opened ch ws)
entered p next F ch tables (w ∷ ws) none is new e = absurd (let k = ap (λ (x : Channels). x.widths) new.channels in cc)
entered p next F ch tables [] none is new e = record {
  alpha = ap (λ (q : BalanceProver). q.alpha) is ∙ new.alpha;
  gamma = ap (λ (q : BalanceProver). q.gamma) is ∙ new.gamma;
  values = ap (λ (q : BalanceProver). q.values.items) is ∙ new.untold;
  hold = ap (map (product_of F 0 0)) (sym (new.none e));
}

pub entered_some : (p next : BalanceProver) (F : Filling) (ch : Channels) (tables : List ColumnTable) (ws : List ℕ) → ¬ (p.channels.widths ≡ []) → next ≡ record p { stage = Stated } → IsNew p ch tables → AreGiven F tables ch.flushes → ch.widths ≡ ws → FollowsBalance next F (opened ch ws)
entered_some p next F ch tables [] some is new given e = absurd (some (ap (λ (x : Channels). x.widths) new.channels ∙ e))
entered_some p next F ch tables (w ∷ ws) some is new given e =
    let same = ap (λ (q : BalanceProver). q.tables.now) is ∙ new.tables in
    record {
      stage = ap (λ (q : BalanceProver). q.stage) is;
      channels = ap (λ (q : BalanceProver). q.channels) is ∙ new.channels;
      there = subst (λ (ts : List ColumnTable). AreThere ts ch.flushes) (sym same) new.there;
      given = subst (λ (ts : List ColumnTable). AreGiven F ts ch.flushes) (sym same) given;
    }

-- ---- the message
pub lists_there : (p : BalanceProver) (F : Filling) (s : Balancing) → FollowsBalance p F s → AwaitsSome (balancing_entries s) → AreThere p.tables.now p.channels.flushes
lists_there p F (waiting ch) h w = absurd h
lists_there p F (stated ch) h w = absurd w
lists_there p F (collapsing ch a) h w = absurd w
lists_there p F (multiplying ch a g) h w = subst (λ (x : Channels). AreThere p.tables.now x.flushes) (sym h.2.channels) h.2.there
lists_there p F (told ch a g v) h w = absurd w

products_are : (p : BalanceProver) (F : Filling) (ch : Channels) (a g : ℕ) → FollowsBalance p F (multiplying ch a g) → map (product_of (table_of p.tables.now) p.alpha p.gamma) p.channels.flushes ≡ map (product_of F a g) ch.flushes
products_are p F ch a g h = (λ i. map (product_of (table_of p.tables.now) (h.0 i) (h.1 i)) (h.2.channels i).flushes) ∙ sym (same_products F p.tables.now a g ch.flushes h.2.given)

pub message_values : (p : BalanceProver) (v : List ℕ) → v ≡ map (product_of (table_of p.tables.now) p.alpha p.gamma) p.channels.flushes → (F : Filling) (s : Balancing) → FollowsBalance p F s → AwaitsSome (balancing_entries s) → v ≡ balancing_honest F s
message_values p v e F (waiting ch) h w = absurd h
message_values p v e F (stated ch) h w = absurd w
message_values p v e F (collapsing ch a) h w = absurd w
message_values p v e F (multiplying ch a g) h w = e ∙ products_are p F ch a g h
message_values p v e F (told ch a g x) h w = absurd w

pub message_follows : (p next : BalanceProver) → next ≡ record p { stage = Told; values = next.values } → next.values.items ≡ map (product_of (table_of p.tables.now) p.alpha p.gamma) p.channels.flushes
    → (F : Filling) (s : Balancing) → FollowsBalance p F s → AwaitsSome (balancing_entries s) → FollowsBalance next F (balancing_message s (balancing_honest F s))
message_follows p next is e F (waiting ch) h w = absurd h
message_follows p next is e F (stated ch) h w = absurd w
message_follows p next is e F (collapsing ch a) h w = absurd w
message_follows p next is e F (told ch a g x) h w = absurd w
message_follows p next is e F (multiplying ch a g) h w = record {
  alpha = ap (λ (q : BalanceProver). q.alpha) is ∙ h.0;
  gamma = ap (λ (q : BalanceProver). q.gamma) is ∙ h.1;
  values = e ∙ products_are p F ch a g h;
  hold = refl;
}

-- ---- a draw
pub alpha_drawn : (p next : BalanceProver) (r : ℕ) → next ≡ record p { stage = Collapsing; alpha = r } → p.stage ≡ Stated → (F : Filling) (s : Balancing) → FollowsBalance p F s → AwaitsDraw (balancing_entries s) → FollowsBalance next F (balancing_draw s r)
alpha_drawn p next r is at F (waiting ch) h w = absurd h
alpha_drawn p next r is at F (stated ch) h w =
    let same = ap (λ (q : BalanceProver). q.tables.now) is in (
      ap (λ (q : BalanceProver). q.alpha) is,
      record {
        stage = ap (λ (q : BalanceProver). q.stage) is;
        channels = ap (λ (q : BalanceProver). q.channels) is ∙ h.channels;
        there = subst (λ (ts : List ColumnTable). AreThere ts ch.flushes) (sym same) h.there;
        given = subst (λ (ts : List ColumnTable). AreGiven F ts ch.flushes) (sym same) h.given;
      },
    )
alpha_drawn p next r is at F (collapsing ch a) h w = absurd (let e = h.1.stage in cc)
alpha_drawn p next r is at F (multiplying ch a g) h w = absurd w
alpha_drawn p next r is at F (told ch a g v) h w = absurd w

pub gamma_drawn : (p next : BalanceProver) (r : ℕ) → next ≡ record p { stage = Multiplying; gamma = r } → p.stage ≡ Collapsing → (F : Filling) (s : Balancing) → FollowsBalance p F s → AwaitsDraw (balancing_entries s) → FollowsBalance next F (balancing_draw s r)
gamma_drawn p next r is at F (waiting ch) h w = absurd h
gamma_drawn p next r is at F (stated ch) h w = absurd (let e = h.stage in cc)
gamma_drawn p next r is at F (collapsing ch a) h w =
    let same = ap (λ (q : BalanceProver). q.tables.now) is in (
      ap (λ (q : BalanceProver). q.alpha) is ∙ h.0,
      ap (λ (q : BalanceProver). q.gamma) is,
      record {
        stage = ap (λ (q : BalanceProver). q.stage) is;
        channels = ap (λ (q : BalanceProver). q.channels) is ∙ h.1.channels;
        there = subst (λ (ts : List ColumnTable). AreThere ts ch.flushes) (sym same) h.1.there;
        given = subst (λ (ts : List ColumnTable). AreGiven F ts ch.flushes) (sym same) h.1.given;
      },
    )
gamma_drawn p next r is at F (multiplying ch a g) h w = absurd w
gamma_drawn p next r is at F (told ch a g v) h w = absurd w

-- ---- the columns of a flush are there
pub record NamedThere (tables : List ColumnTable) (f : Flushed) : Type 0 where
  pub columns : AllByRecursion (IsThere tables f.table (2 ^ ceil_log f.rows)) f.shape.columns
  pub selector : (s : ℕ) → f.shape.selector ≡ Some s → IsThere tables f.table (2 ^ ceil_log f.rows) s

named_at : (tables : List ColumnTable) (f : Flushed) (selector : Option ℕ) → f.shape.selector ≡ selector → AllByRecursion (IsThere tables f.table (2 ^ ceil_log f.rows)) (selector_columns selector ++ f.shape.columns) → NamedThere tables f
named_at tables f None e h = record { columns = h; selector = λ s k. absurd cc }
named_at tables f (Some s) e h = record { columns = h.1; selector = λ t k. let d : s ≡ t = cc in subst (IsThere tables f.table (2 ^ ceil_log f.rows)) d h.0 }

pub named_there : (tables : List ColumnTable) (f : Flushed) → FlushIsThere tables f → NamedThere tables f
named_there tables f h = named_at tables f f.shape.selector refl h

pub there_long : (tables : List ColumnTable) (t n c : ℕ) → IsThere tables t n c → length (table_of tables t c) ≡ n
there_long tables t n c h = ap (λ (o : Option (List ℕ)). length (unwrap_or o [])) h.1 ∙ h.2

pub long_lists : {X : Type 0} (now : X → List ℕ) (tables : List ColumnTable) (t m n : ℕ) (cs : List ℕ) (ls : List X) → map now ls ≡ map (table_of tables t) cs → AllByRecursion (IsThere tables t n) cs → m ≤ n → AllByRecursion (λ l. m ≤ length (now l)) ls
long_lists now tables t m n cs [] e h l = tt
long_lists now tables t m n [] (x ∷ ls) e h l = absurd cc
long_lists now tables t m n (c ∷ cs) (x ∷ ls) e h l =
    let here : now x ≡ table_of tables t c = cc in
    let more : map now ls ≡ map (table_of tables t) cs = cc in
    let k = ap length here ∙ there_long tables t n c h.0 in
    ((omega arith), long_lists now tables t m n cs ls more h.1 l)

pub rows_long : {X : Type 0} (now : X → List ℕ) (tables : List ColumnTable) (t m : ℕ) (cs : List ℕ) (ls : List X) → map now ls ≡ map (table_of tables t) cs → AllByRecursion (IsThere tables t (2 ^ ceil_log m)) cs → All (λ l. m ≤ length (now l)) ls
rows_long now tables t m cs ls e h = All-from_recursion (λ l. m ≤ length (now l)) ls (long_lists now tables t m (2 ^ ceil_log m) cs ls e h (is_least m).enough)

pub selector_long : (tables : List ColumnTable) (t m c : ℕ) (list : List ℕ) → list ≡ table_of tables t c → IsThere tables t (2 ^ ceil_log m) c → m ≤ length list
selector_long tables t m c list e h =
    let k = ap length e ∙ there_long tables t (2 ^ ceil_log m) c h in
    let l = (is_least m).enough in
    omega arith

pub selector_longer : (m n : ℕ) (o : Option (List ℕ)) → m ≤ n → SelectorIsLong n o → SelectorIsLong m o
selector_longer m n None l h = tt
selector_longer m n (Some list) l h = omega arith

-- ---- one more row
pub rows_more : (n : ℕ) (f : ℕ → ℕ) (product new : ℕ) → new ≡ mul product (f n) → product ≡ product_all (tabulate n f) → new ≡ product_all (tabulate (n + 1) f)
rows_more n f product new is so_far =
    let next : suc n ≡ n + 1 = omega arith in
    is
    ∙ (λ i. mul (so_far i) (sym (times_one (f n)) i))
    ∙ sym (product_all-append (tabulate n f) (f n ∷ []))
    ∙ ap product_all (sym (tabulate-suc n f))
    ∙ ap (λ k. product_all (tabulate k f)) next
