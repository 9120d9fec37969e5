-- Steps of the prover of a flush's product.
use Rattle.std.proofs.Common.{◌≡◌, ◌∙◌, ℕ, zero, suc, ◌+◌, ◌-◌, ◌^◌, ◌<◌, ◌≤◌, List, [], ◌∷◌, ◌++◌, Option, None, Some, length, map, refl, sym, ap, subst, arith, length-append}
use Rattle.std.specs.List.{AllByRecursion}
use Rattle.list_laws.specs.CeilLog.{ceil_log}
use Rattle.cube_laws.specs.Extension.{fold_low}
use Rattle.cube_laws.specs.SumClaim.{Sum}
use Rattle.cube_laws.specs.Sums.{tabulate}
use Rattle.batch_laws.specs.Batch.{eq_sum}
use Rattle.multiset_laws.specs.Fingerprint.{fingerprint, leaf}
use Rattle.layer_laws.specs.Layers.{layer, layer_sum}
use Rattle.layer_laws.specs.LeafForm.{leaf_form}
use Rattle.layer_laws.proofs.LayerSteps.{length-layer}
use Rattle.sumcheck.specs.declared.column_tables.ColumnTable.{ColumnTable}
use Rattle.sumcheck.specs.Ending.{Ending}
use Rattle.sumcheck.specs.Machine.{Filling, AwaitsDraw}
use Rattle.sumcheck.specs.Proving.{Proving, Goes}
use Rattle.sumcheck.specs.Rounds.{Rounds, sum_claim, round_claim, with_claim, claimed}
use Rattle.sumcheck.specs.Summing.{adding, closed}
use Rattle.sumcheck.proofs.Following.{draw_sets}
use Rattle.table_shape.specs.Lowering.{step}
use Rattle.channel_products.specs.declared.flushed.Flushed.{Flushed}
use Rattle.channel_products.specs.declared.halves.Halves.{Halves}
use Rattle.channel_products.specs.declared.leaf_term.LeafTerm.{LeafTerm}
use Rattle.channel_products.specs.declared.product_prover.ProductProver.{ProductProver}
use Rattle.channel_products.specs.declared.product_prover.Standing.{Standing}
use Rattle.channel_products.specs.declared.product_prover.Standing.TheVariants.{Unmade, Layer, Leaves}
use Rattle.channel_products.specs.Channels.{leaves_of}
use Rattle.channel_products.specs.Descent.{Descent, Layered, Pointed, descending, descent_draw, descent_entries, layered_sum, layers, leaf_lists, leaves, leaves_sum, next_layer, row_steps, row_vars, selector_list, state_product, sum_of_leaves, waiting}
use Rattle.channel_products.specs.DescentProver.{AddsLayer, AddsLeaves, AreStacked, Descends, FollowsProduct, FollowsSum, HoldsDraws, IsFirst, IsNewFor}
use Rattle.channel_products.specs.Following.{IsGiven}
use Rattle.channel_products.specs.Given.{FlushIsThere, named_columns, selector_columns, table_of}
use Rattle.channel_products.specs.Stacked.{stacked}
use Rattle.channel_products.specs.Summands.{halves_form, leaf_term_form}
use Rattle.channel_products.proofs.DescentLaws.{length-leaves}
use Rattle.channel_products.proofs.ProverSteps.{agree, same_tuple}

pub follows_descending : (p : ProductProver) (F : Filling) (f : Flushed) (a g k d : ℕ) (z : List ℕ) (c : ℕ) → p.layer ≡ k → Descends p F (record { flushed = f; alpha = a; gamma = g; point = z }) d → FollowsSum p Unmade F (descending f a g k d z c)
follows_descending p F f a g k zero z c e h = (refl, h)
follows_descending p F f a g k (suc d) z c e h = (refl, e, h)

-- ---- the claim is stated
abbrev pub at_challenges : ℕ → ℕ → Pointed → Pointed
at_challenges a g t = record t { alpha = a; gamma = g }

pub entered : (p next : ProductProver) (a g c : ℕ) → next ≡ record p { at = at_challenges a g p.at } → (F : Filling) (f : Flushed) (tables : List ColumnTable) → IsNewFor p f tables → IsGiven F tables f → FollowsProduct next F (state_product a g c (waiting f))
entered p next a g c e F f tables h k =
    let first : next.layer ≡ 0 = ap (λ (q : ProductProver). q.layer) e ∙ h.first in
    let same : p.tables.now ≡ next.tables.now = ap (λ (q : ProductProver). q.tables.now) (sym e) in
    subst (λ (s : Standing). FollowsSum next s F (state_product a g c (waiting f))) (sym (ap (λ (q : ProductProver). q.sum) e ∙ h.unmade))
    (follows_descending next F f a g 0 (row_vars f) [] c first
    (record {
      has = record {
        at = ap (λ (q : ProductProver). q.at) e ∙ ap (at_challenges a g) h.has.at;
        there = subst (λ (ts : List ColumnTable). FlushIsThere ts f) same h.has.there;
        ending = ap (λ (q : ProductProver). q.ending) e ∙ h.has.ending;
      };
      given = subst (λ (ts : List ColumnTable). IsGiven F ts f) (sym h.tables ∙ same) k;
      point = sym first;
      vars = omega arith;
      kept = subst (λ n. AreStacked next.layers.items (leaves_of F a g f) n (row_vars f)) (sym first) tt;
    }))

-- ---- a draw
abbrev pub with_draw : ℕ → Pointed → Pointed
with_draw c t = record t { point = t.point ++ c ∷ [] }

abbrev pub bound_to : {S : Type 0} → ℕ → Proving S → Proving S
bound_to c p = record p { left = p.left - 1; lists = map (fold_low c) p.lists }

-- one draw more
draws_next : (p next : ProductProver) (s : Standing) (F : Filling) (t : Layered) (z : List ℕ) (c : ℕ) → next ≡ record p { at = with_draw c p.at; sum = s } → HoldsDraws p F t z → HoldsDraws next F t (z ++ c ∷ [])
draws_next p next s F t z c e h =
    let same : p.tables.now ≡ next.tables.now = ap (λ (q : ProductProver). q.tables.now) (sym e) in
    record {
      has = record {
        at = ap (λ (q : ProductProver). q.at) e ∙ ap (with_draw c) h.has.at;
        there = subst (λ (ts : List ColumnTable). FlushIsThere ts t.at.flushed) same h.has.there;
        ending = ap (λ (q : ProductProver). q.ending) e ∙ h.has.ending;
      };
      given = subst (λ (ts : List ColumnTable). IsGiven F ts t.at.flushed) same h.given;
      layer = ap (λ (q : ProductProver). q.layer) e ∙ h.layer;
      vars = h.vars;
      kept = ap (λ (q : ProductProver). q.layers.items) e ∙ h.kept;
    }

pub layer_binds : (p next : ProductProver) (q r : Proving Halves) (c : ℕ) → 0 < q.left → r ≡ bound_to c q → next ≡ record p { at = with_draw c p.at; sum = Layer r }
    → (F : Filling) (s : Descent) → FollowsSum p (Layer q) F s → AwaitsDraw (descent_entries s) → FollowsSum next (Layer r) F (descent_draw s c)
layer_binds p next q r c l b e F (waiting f) h w = absurd h
layer_binds p next q r c l b e F (leaves s) h w = absurd h
layer_binds p next q r c l b e F (layers (closed t)) h w = let z = h.done in absurd (omega arith)
layer_binds p next q r c l b e F (layers (adding t (sum_claim d zero z x))) h w = absurd w
layer_binds p next q r c l b e F (layers (adding t (sum_claim d (suc n) z x))) h w = absurd w
layer_binds p next q r c l b e F (layers (adding t (round_claim d n z v))) h w = record {
  goes = draw_sets layered_sum halves_form q r c b F t (round_claim d n z v) h.goes w;
  all = (let a = h.all in let k = length-append z (c ∷ []) in omega arith);
  holds = draws_next p next (Layer r) F t z c e h.holds;
}

pub layer_joins : (p next : ProductProver) (q : Proving Halves) (c : ℕ) → q.left ≡ 0 → next ≡ record p { at = with_draw c p.at; layer = p.layer + 1; sum = Unmade }
    → (F : Filling) (s : Descent) → FollowsSum p (Layer q) F s → AwaitsDraw (descent_entries s) → FollowsSum next Unmade F (descent_draw s c)
layer_joins p next q c l e F (waiting f) h w = absurd h
layer_joins p next q c l e F (leaves s) h w = absurd h
layer_joins p next q c l e F (layers (adding t (sum_claim d zero z x))) h w = absurd w
layer_joins p next q c l e F (layers (adding t (sum_claim d (suc n) z x))) h w = absurd w
layer_joins p next q c l e F (layers (adding t (round_claim d n z v))) h w = let k = h.goes.left in absurd (omega arith)
layer_joins p next q c l e F (layers (closed t)) h w =
    let k = h.holds in
    let f = t.layered.at.flushed in
    let layer : next.layer ≡ suc t.layered.layer = ap (λ (q : ProductProver). q.layer) e ∙ (let m = k.layer in omega arith) in
    let same : p.tables.now ≡ next.tables.now = ap (λ (q : ProductProver). q.tables.now) (sym e) in
    follows_descending next F f t.layered.at.alpha t.layered.at.gamma (suc t.layered.layer) t.layered.below (t.point ++ c ∷ []) _ layer
    (record {
      has = record {
        at = ap (λ (q : ProductProver). q.at) e ∙ ap (with_draw c) k.has.at;
        there = subst (λ (ts : List ColumnTable). FlushIsThere ts f) same k.has.there;
        ending = ap (λ (q : ProductProver). q.ending) e ∙ k.has.ending;
      };
      given = subst (λ (ts : List ColumnTable). IsGiven F ts f) same k.given;
      point = (let a = h.all in let m = length-append t.point (c ∷ []) in omega arith);
      vars = (let v = k.vars in omega arith);
      kept = subst (λ n. AreStacked next.layers.items (leaves_of F t.layered.at.alpha t.layered.at.gamma f) n t.layered.below) (sym layer) (ap (λ (q : ProductProver). q.layers.items) e ∙ k.kept);
    })

-- ---- a draw on the leaves
abbrev pub one_more : ℕ → Ending → Ending
one_more c e = record e { point = e.point ++ c ∷ [] }

pub leaves_bind : (p next : ProductProver) (q r : Proving LeafTerm) (e : Ending) (c : ℕ) → r ≡ bound_to c q → e ≡ one_more c p.ending → next ≡ record p { sum = Leaves r; ending = e }
    → (F : Filling) (s : Descent) → FollowsSum p (Leaves q) F s → AwaitsDraw (descent_entries s) → FollowsSum next (Leaves r) F (descent_draw s c)
leaves_bind p next q r e c b n is F (waiting f) h w = absurd h
leaves_bind p next q r e c b n is F (layers s) h w = absurd h
leaves_bind p next q r e c b n is F (leaves (closed claims)) h w = absurd w
leaves_bind p next q r e c b n is F (leaves (adding t (sum_claim d zero z x))) h w = absurd w
leaves_bind p next q r e c b n is F (leaves (adding t (sum_claim d (suc k) z x))) h w = absurd w
leaves_bind p next q r e c b n is F (leaves (adding t (round_claim d k z v))) h w = (
  ap (λ (q : ProductProver). q.at) is ∙ h.0,
  record {
    goes = draw_sets leaves_sum leaf_term_form q r c b F t (round_claim d k z v) h.1.goes w;
    ending = ap (λ (q : ProductProver). q.ending) is ∙ n ∙ ap (one_more c) h.1.ending;
    all = (let a = h.1.all in let l = length-append z (c ∷ []) in omega arith);
  },
)

-- ---- the leaves of the filling are those of the lists that are given
same_leaves : (F G : Filling) (a g : ℕ) (f : Flushed) → AllByRecursion (λ c. F f.table c ≡ G f.table c) (named_columns f.shape) → leaves_of F a g f ≡ leaves_of G a g f
same_leaves F G a g f h =
    let k = agree (F f.table) (G f.table) f.shape.selector f.shape.columns h in
    (λ i. tabulate (2 ^ ceil_log f.rows) (λ row. leaf (step f.rows row) (k.selector row i) (fingerprint a g (same_tuple (F f.table) (G f.table) row f.shape.columns k.columns i))))

-- and so are the tables of their sum
same_columns : (v w : ℕ → List ℕ) (cs : List ℕ) → AllByRecursion (λ c. v c ≡ w c) cs → map v cs ≡ map w cs
same_columns v w [] h = refl
same_columns v w (c ∷ cs) h = (λ i. h.0 i ∷ same_columns v w cs h.1 i)

same_lists : (v w : ℕ → List ℕ) (n : ℕ) (s : Option ℕ) (cs : List ℕ) → AllByRecursion (λ c. v c ≡ w c) (selector_columns s ++ cs) → selector_list v n s ∷ map v cs ≡ selector_list w n s ∷ map w cs
same_lists v w n None cs h = ap (λ ls. tabulate (2 ^ n) (λ row. 1) ∷ ls) (same_columns v w cs h)
same_lists v w n (Some s) cs h = (λ i. h.0 i ∷ same_columns v w cs h.1 i)

same_leaf_lists : (F G : Filling) (f : Flushed) → AllByRecursion (λ c. F f.table c ≡ G f.table c) (named_columns f.shape) → leaf_lists F f ≡ leaf_lists G f
same_leaf_lists F G f h = ap (λ ls. row_steps f ∷ ls) (same_lists (F f.table) (G f.table) (row_vars f) f.shape.selector f.shape.columns h)

-- ---- the tables of a sum are made
claimed_is : (d n : ℕ) (r : Rounds) → with_claim 0 r ≡ sum_claim d n [] 0 → r ≡ sum_claim d n [] (claimed r)
claimed_is d n (sum_claim e m z c) h = let a : e ≡ d = cc in let b : m ≡ n = cc in let k : z ≡ [] = cc in cc
claimed_is d n (round_claim e m z v) h = absurd (cc)

-- all layers below the prover's, once those of layer 0 are made
pub all_kept : (p : ProductProver) (F : Filling) (t : Pointed) (d k : ℕ) (kept : List (List ℕ)) → p.layer ≡ k → Descends p F t d → (k ≡ 0 → kept ≡ stacked (leaves_of (table_of p.tables.now) p.at.alpha p.at.gamma p.at.flushed) 0 (row_vars p.at.flushed)) → (¬ (k ≡ 0) → kept ≡ p.layers.items)
    → kept ≡ stacked (leaves_of F t.alpha t.gamma t.flushed) k d
all_kept p F t d zero kept e h first later =
    let n : row_vars t.flushed ≡ d = (let v = h.vars in omega arith) in
    first refl
    ∙ (λ i. stacked (leaves_of (table_of p.tables.now) (h.has.at i).alpha (h.has.at i).gamma (h.has.at i).flushed) 0 (row_vars (h.has.at i).flushed))
    ∙ (λ i. stacked (sym (same_leaves F (table_of p.tables.now) t.alpha t.gamma t.flushed h.given) i) 0 (n i))
all_kept p F t d (suc k) kept e h first later = later (λ z. absurd cc) ∙ subst (λ n. AreStacked p.layers.items (leaves_of F t.alpha t.gamma t.flushed) n d) e h.kept

pub layer_started : (p next : ProductProver) (q : Proving Halves) (below : List ℕ) → next ≡ record p { at = record p.at { point = [] }; layers = next.layers; sum = Layer q }
    → ((c : ℕ) → Goes halves_form q (layer_sum p.layer p.at.point below) (sum_claim 3 p.layer [] c))
    → (F : Filling) (t : Layered) (r : Rounds) → IsFirst 3 t.layer r → p.layer ≡ t.layer → Descends p F t.at (suc t.below) → below ≡ next_layer F t → next.layers.items ≡ stacked (leaves_of F t.at.alpha t.at.gamma t.at.flushed) (suc t.layer) t.below
    → AddsLayer next q F t r
layer_started p next q below e g F t r first same_layer h b kept =
    let same : p.tables.now ≡ next.tables.now = ap (λ (q : ProductProver). q.tables.now) (sym e) in
    let k = claimed_is 3 t.layer r first in
    subst (λ (r : Rounds). AddsLayer next q F t r) (sym k)
    (record {
      goes = subst (λ (s : Sum). Goes halves_form q s (sum_claim 3 t.layer [] (claimed r))) (λ i. layer_sum (same_layer i) (h.has.at i).point (b i)) (subst (λ n. Goes halves_form q (layer_sum p.layer p.at.point below) (sum_claim 3 n [] (claimed r))) same_layer (g (claimed r)));
      all = (omega arith);
      holds = record {
        has = record {
          at = ap (λ (q : ProductProver). q.at) e ∙ ap (λ (x : Pointed). record x { point = [] }) h.has.at;
          there = subst (λ (ts : List ColumnTable). FlushIsThere ts t.at.flushed) same h.has.there;
          ending = ap (λ (q : ProductProver). q.ending) e ∙ h.has.ending;
        };
        given = subst (λ (ts : List ColumnTable). IsGiven F ts t.at.flushed) same h.given;
        layer = ap (λ (q : ProductProver). q.layer) e ∙ same_layer;
        vars = h.vars ∙ ap (λ n. n + suc t.below) same_layer;
        kept = kept;
      };
    })

pub leaves_started : (p next : ProductProver) (q : Proving LeafTerm) → next ≡ record p { sum = Leaves q }
    → ((c : ℕ) → Goes leaf_term_form q (sum_of_leaves (table_of p.tables.now) p.at) (sum_claim 4 (row_vars p.at.flushed) [] c))
    → (F : Filling) (t : Pointed) (r : Rounds) → IsFirst 4 (row_vars t.flushed) r → Descends p F t 0 → (next.at ≡ t) × AddsLeaves q next.ending F t r
leaves_started p next q e g F t r first h =
    let k = claimed_is 4 (row_vars t.flushed) r first in
    let here : (c : ℕ) → Goes leaf_term_form q (sum_of_leaves (table_of p.tables.now) t) (sum_claim 4 (row_vars t.flushed) [] c) = subst (λ (x : Pointed). (c : ℕ) → Goes leaf_term_form q (sum_of_leaves (table_of p.tables.now) x) (sum_claim 4 (row_vars x.flushed) [] c)) h.has.at g in
    let lists = same_leaf_lists F (table_of p.tables.now) t.flushed h.given in (
      ap (λ (q : ProductProver). q.at) e ∙ h.has.at,
      subst (λ (r : Rounds). AddsLeaves q next.ending F t r) (sym k)
          (record {
            goes = subst (λ (ls : List (List ℕ)). Goes leaf_term_form q (eq_sum t.point (leaf_form t.alpha t.gamma (length t.flushed.shape.columns)) ls) (sum_claim 4 (row_vars t.flushed) [] (claimed r))) (sym lists) (here (claimed r));
            ending = ap (λ (q : ProductProver). q.ending) e ∙ h.has.ending;
            all = (omega arith);
          }),
    )

-- ---- the layer below
ends_same : {X : Type 0} (xs ys : List X) (x y : X) → xs ++ x ∷ [] ≡ ys ++ y ∷ [] → (xs ≡ ys) × (x ≡ y)
ends_same [] [] x y e = (refl, cc)
ends_same [] (b ∷ ys) x y e = absurd (let k = ap length e in let m = length-append ys (y ∷ []) in omega arith)
ends_same (a ∷ xs) [] x y e = absurd (let k = ap length e in let m = length-append xs (x ∷ []) in omega arith)
ends_same (a ∷ xs) (b ∷ ys) x y e =
    let first : a ≡ b = cc in
    let rest : xs ++ x ∷ [] ≡ ys ++ y ∷ [] = cc in
    let h = ends_same xs ys x y rest in
    ((λ i. first i ∷ h.0 i), h.1)

-- what is known of a layer's sum before its tables are made
pub record HasNext (p : ProductProver) (kept : List (List ℕ)) : Type 0 where
  pub before : List (List ℕ)
  pub next : List ℕ
  pub is : kept ≡ before ++ next ∷ []
  pub long : length next ≡ 2 ^ p.layer + 2 ^ p.layer

layer_is_long : (F : Filling) (t : Pointed) (k d n : ℕ) → k ≡ n → row_vars t.flushed ≡ k + suc d → length (layer (suc n) d (leaves_of F t.alpha t.gamma t.flushed)) ≡ 2 ^ k + 2 ^ k
layer_is_long F t k d n e v =
    let s : row_vars t.flushed ≡ suc n + d = omega arith in
    let l = length-layer (suc n) d (leaves_of F t.alpha t.gamma t.flushed) (length-leaves F t.alpha t.gamma t.flushed ∙ ap (λ m. 2 ^ m) s) in
    let two : 2 ^ suc n ≡ 2 ^ n + 2 ^ n = omega arith in
    l ∙ two ∙ ap (λ m. 2 ^ m + 2 ^ m) (sym e)

pub has_next : (p : ProductProver) (F : Filling) (s : Descent) (kept : List (List ℕ)) → FollowsSum p Unmade F s → p.layer < row_vars p.at.flushed → ((t : Pointed) (d : ℕ) → Descends p F t d → kept ≡ stacked (leaves_of F t.alpha t.gamma t.flushed) p.layer d) → HasNext p kept
has_next p F (waiting f) kept h l k = absurd h
has_next p F (layers (closed t)) kept h l k = absurd h
has_next p F (leaves (closed claims)) kept h l k = absurd h
has_next p F (leaves (adding t r)) kept h l k = absurd (let m : p.layer < row_vars t.flushed = subst (λ (x : Pointed). p.layer < row_vars x.flushed) h.1.has.at l in let v = h.1.vars in omega arith)
has_next p F (layers (adding t r)) kept h l k = record {
  before = stacked (leaves_of F t.at.alpha t.at.gamma t.at.flushed) (suc p.layer) t.below;
  next = layer (suc p.layer) t.below (leaves_of F t.at.alpha t.at.gamma t.at.flushed);
  is = k t.at (suc t.below) h.2;
  long = layer_is_long F t.at p.layer t.below p.layer refl h.2.vars;
}

pub layer_starts : (p next : ProductProver) (q : Proving Halves) (kept : List (List ℕ)) (below : List ℕ) → next ≡ record p { at = record p.at { point = [] }; layers = next.layers; sum = Layer q } → p.layer < row_vars p.at.flushed
    → ((before : List (List ℕ)) (x : List ℕ) → kept ≡ before ++ x ∷ [] → (next.layers.items ≡ before) × (below ≡ x))
    → ((c : ℕ) → Goes halves_form q (layer_sum p.layer p.at.point below) (sum_claim 3 p.layer [] c))
    → (F : Filling) (s : Descent) → ((t : Pointed) (d : ℕ) → Descends p F t d → kept ≡ stacked (leaves_of F t.alpha t.gamma t.flushed) p.layer d) → FollowsSum p Unmade F s → FollowsSum next (Layer q) F s
layer_starts p next q kept below e l pops g F (waiting f) k h = absurd h
layer_starts p next q kept below e l pops g F (layers (closed t)) k h = absurd h
layer_starts p next q kept below e l pops g F (leaves (closed claims)) k h = absurd h
layer_starts p next q kept below e l pops g F (leaves (adding t r)) k h = absurd (let m : p.layer < row_vars t.flushed = subst (λ (x : Pointed). p.layer < row_vars x.flushed) h.1.has.at l in let v = h.1.vars in omega arith)
layer_starts p next q kept below e l pops g F (layers (adding t r)) k h =
    let table = leaves_of F t.at.alpha t.at.gamma t.at.flushed in
    let popped = pops (stacked table (suc t.layer) t.below) (layer (suc t.layer) t.below table) (k t.at (suc t.below) h.2 ∙ ap (λ n. stacked table n (suc t.below)) h.1) in
    layer_started p next q below e g F t r h.0 h.1 h.2 popped.1 popped.0

pub leaves_start : (p next : ProductProver) (q : Proving LeafTerm) → next ≡ record p { sum = Leaves q } → row_vars p.at.flushed ≤ p.layer
    → ((c : ℕ) → Goes leaf_term_form q (sum_of_leaves (table_of p.tables.now) p.at) (sum_claim 4 (row_vars p.at.flushed) [] c))
    → (F : Filling) (s : Descent) → FollowsSum p Unmade F s → FollowsSum next (Leaves q) F s
leaves_start p next q e l g F (waiting f) h = absurd h
leaves_start p next q e l g F (layers (closed t)) h = absurd h
leaves_start p next q e l g F (leaves (closed claims)) h = absurd h
leaves_start p next q e l g F (leaves (adding t r)) h = leaves_started p next q e g F t r h.0 h.1
leaves_start p next q e l g F (layers (adding t r)) h = absurd (let m : row_vars t.at.flushed ≤ p.layer = subst (λ (x : Pointed). row_vars x.flushed ≤ p.layer) h.2.has.at l in let v = h.2.vars in omega arith)

-- ---- no draw is due before a sum's tables are made
pub no_draw : (p : ProductProver) (F : Filling) (s : Descent) → FollowsSum p Unmade F s → AwaitsDraw (descent_entries s) → ⊥
no_draw p F (waiting f) h w = absurd h
no_draw p F (layers (closed t)) h w = absurd h
no_draw p F (layers (adding t (sum_claim d zero z x))) h w = absurd w
no_draw p F (layers (adding t (sum_claim d (suc n) z x))) h w = absurd w
no_draw p F (layers (adding t (round_claim d n z v))) h w = let k = h.0 in absurd (cc)
no_draw p F (leaves (closed claims)) h w = absurd h
no_draw p F (leaves (adding t (sum_claim d zero z x))) h w = absurd w
no_draw p F (leaves (adding t (sum_claim d (suc n) z x))) h w = absurd w
no_draw p F (leaves (adding t (round_claim d n z v))) h w = let k = h.0 in absurd (cc)
