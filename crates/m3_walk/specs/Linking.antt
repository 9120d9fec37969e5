-- The reductions of a proof one after another: what each takes of the claims that wait, and what it leaves.
-- Source: docs/PROOF.md, "The reductions of a proof" and "The claims that wait".
use Rattle.std.specs.Prelude.{◌≡◌, ◌≤◌, ◌+◌, ◌-◌, ◌^◌, ◌==◌, ◌&&◌, ℕ, suc, Bool, true, false, cond, List, [], ◌∷◌, ◌++◌, length, map, Option, None, Some, is_some, option_to_list}
use Rattle.std.specs.List.{AllByRecursion, filter}
use Rattle.batch_laws.specs.Batch.{zeros}
use Rattle.sumcheck.specs.declared.column_claim.ColumnClaim.{ColumnClaim}
use Rattle.sumcheck.specs.declared.entry.Entry.{Entry}
use Rattle.sumcheck.specs.Claim.{Claim}
use Rattle.sumcheck.specs.Column.{ColumnFits}
use Rattle.sumcheck.specs.Machine.{Filling}
use Rattle.sumcheck.specs.Rounds.{variables}
use Rattle.sumcheck.specs.Summing.{Summed, adding, closed}
use Rattle.table_shape.specs.Placement.{Block, places_log}
use Rattle.table_shape.specs.declared.shape.ShapeTerm.{ShapeTerm}
use Rattle.channel_products.specs.declared.flushed.Flushed.{Flushed}
use Rattle.channel_products.specs.Balancing as balance
use Rattle.channel_products.specs.Balancing.{Balancing, BalancingFits, BalancingHolds, balancing_entries, balancing_pending, state_balance}
use Rattle.channel_products.specs.Descent as descent
use Rattle.channel_products.specs.Descent.{Descent, HasRows, layer_entries, leaf_columns, row_vars, state_product}
use Rattle.zerocheck.specs.Zero as zero
use Rattle.zerocheck.specs.Zero.{Zero, ZeroFits, ZeroHolds, state_zero, zero_entries, zero_pending}
use Rattle.eval_reduce.specs.Linear as linear
use Rattle.eval_reduce.specs.Linear.{IsLinear, Linear}
use Rattle.eval_reduce.specs.Merge as merge
use Rattle.eval_reduce.specs.Merge.{Merge}
use Rattle.eval_reduce.specs.Pack as pack
use Rattle.eval_reduce.specs.Pack.{IsPacked, Pack}
use Rattle.eval_reduce.specs.Project as project
use Rattle.eval_reduce.specs.Project.{IsProjected, Project, projected_claim}
use Rattle.eval_reduce.specs.Shift as shift
use Rattle.eval_reduce.specs.Shift.{IsShifted, Shift, stated_sum}
use Rattle.bit_claim.specs.Batching as batch
use Rattle.bit_claim.specs.Batching.{Batching, BitValue}
use Rattle.bit_claim.specs.Bits.{Stands, bits, block_in}
use Rattle.ring_switch.specs.Switching as switch
use Rattle.ring_switch.specs.Switching.{Switching, valued}
use Rattle.m3_walk.specs.declared.stage.Stage.{Stage}
use Rattle.m3_walk.specs.declared.stage.Stage.TheVariants.{Start, Channels, Flush, Constraints, Merge as Merges, Linear as Combines, Project as Projects, Claimed, Pack as Packs, Shift as Shifts, Bits, Words, Switch}
use Rattle.claim_lists.specs.ByColumn.{by_column}
use Rattle.claim_lists.specs.OnColumn.{but_first_on, first_on, off_column, on_column}
use Rattle.m3_walk.specs.declared.product.Product.{Product}
use Rattle.m3_walk.specs.Kept.{Kept, Packed}
use Rattle.m3_walk.specs.Stages.{flushes_in, staged}

-- ---- what is known of the claims that wait, before any message
-- a claim on a column, at a point of that many coordinates
pub record Place : Type 0 where
  pub table : ℕ
  pub column : ℕ
  pub vars : ℕ

pub record Sizes : Type 0 where
  pub products : List Flushed
  pub columns : List Place
  pub bits : List ℕ
  pub packed : List ℕ
  pub room : ℕ

abbrev pub none_known : Sizes
none_known = record { products = []; columns = []; bits = []; packed = []; room = 0 }

abbrev pub place_of : ColumnClaim → Place
place_of c = record { table = c.table; column = c.column; vars = length c.point }

abbrev pub sizes : Kept → Sizes
sizes w = record {
  products = map (λ (p : Product). p.flushed) w.products;
  columns = map place_of w.columns;
  bits = map (λ (b : BitValue). length b.point) w.bits;
  packed = map (λ (p : Packed). length p.point) w.packed;
  room = w.room;
}

abbrev pub is_place : ℕ → ℕ → Place → Bool
is_place t c p = p.table == t && p.column == c

abbrev pub is_elsewhere : ℕ → ℕ → Place → Bool
is_elsewhere t c p = cond (is_place t c p) false true

-- ---- one claim on a column, and the others
abbrev pub but_first_place : ℕ → ℕ → List Place → List Place
but_first_place t c [] = []
but_first_place t c (p ∷ ps) = cond (is_place t c p) ps (p ∷ but_first_place t c ps)

abbrev pub has_place : ℕ → ℕ → List Place → Bool
has_place t c [] = false
has_place t c (p ∷ ps) = cond (is_place t c p) true (has_place t c ps)

-- ---- committed columns
abbrev pub has_block : List Block → ColumnClaim → Bool
has_block bs c = is_some (block_in c.table c.column bs)

abbrev pub has_no_block : List Block → ColumnClaim → Bool
has_no_block bs c = cond (has_block bs c) false true

abbrev pub place_has_block : List Block → Place → Bool
place_has_block bs p = is_some (block_in p.table p.column bs)

abbrev pub place_has_no_block : List Block → Place → Bool
place_has_no_block bs p = cond (place_has_block bs p) false true

-- ---- a reduction is entered: the claims that it takes become its own
abbrev pub flush_with : List Product → Stage
flush_with [] = Start
flush_with (p ∷ ps) = Flush (state_product p.alpha p.gamma p.value (descent.waiting p.flushed))

abbrev pub but_first : {X : Type 0} → List X → List X
but_first [] = []
but_first (x ∷ xs) = xs

abbrev pub on_claim : Option ColumnClaim → (ColumnClaim → Stage) → Stage
on_claim None make = Start
on_claim (Some c) make = make c

abbrev pub enter_merge : ℕ → ℕ → Merge → List ColumnClaim → Stage
enter_merge t c (merge.waiting n m) cs = Merges (record { table = t; column = c; walk = merge.opening t c n (on_column t c cs) })
enter_merge t c (merge.opening t' c' n ds) cs = Start
enter_merge t c (merge.summed s) cs = Start

abbrev pub enter_linear : Linear → List ColumnClaim → Stage
enter_linear (linear.waiting f) cs = on_claim (first_on f.table f.column cs) (λ c. Combines (linear.stated f c))
enter_linear (linear.stated f c) cs = Start
enter_linear (linear.told ds) cs = Start

abbrev pub enter_project : Project → List ColumnClaim → Stage
enter_project (project.waiting p) cs = on_claim (first_on p.table p.column cs) (λ c. Claimed (projected_claim p c))
enter_project (project.closed c) cs = Start

abbrev pub enter_pack : Pack → List ColumnClaim → Stage
enter_pack (pack.waiting f) cs = on_claim (first_on f.table f.column cs) (λ c. Packs (pack.stated f c))
enter_pack (pack.stated f c) cs = Start
enter_pack (pack.listed f z prefix v n) cs = Start
enter_pack (pack.closed c) cs = Start

abbrev pub enter_shift : Shift → List ColumnClaim → Stage
enter_shift (shift.waiting s) cs = on_claim (first_on s.table s.column cs) (λ c. Shifts (stated_sum s c))
enter_shift (shift.summed s) cs = Start

abbrev pub enter_bits : Batching → List ColumnClaim → Stage
enter_bits (batch.waiting bs m) cs = Bits (batch.opening bs (by_column (filter (has_block bs) cs)))
enter_bits (batch.opening bs ds) cs = Start
enter_bits (batch.summed s) cs = Start

abbrev pub switch_with : List BitValue → Stage
switch_with [] = Start
switch_with (b ∷ bs) = Switch (record { placement = b.blocks; walk = valued b.point b.value })

abbrev pub entered : Stage → Kept → Stage
entered Start w = Start
entered (Channels b) w = Channels (state_balance b)
entered (Flush d) w = flush_with w.products
entered (Constraints z) w = Constraints (state_zero z)
entered (Merges m) w = enter_merge m.table m.column m.walk w.columns
entered (Combines l) w = enter_linear l w.columns
entered (Projects p) w = enter_project p w.columns
entered (Claimed c) w = Start
entered (Packs p) w = enter_pack p w.columns
entered (Shifts s) w = enter_shift s w.columns
entered (Bits b) w = enter_bits b w.columns
entered (Words s) w = switch_with w.bits
entered (Switch s) w = Start

-- ---- and these stay
abbrev pub stay_merge : ℕ → ℕ → Merge → List ColumnClaim → List ColumnClaim
stay_merge t c (merge.waiting n m) cs = off_column t c cs
stay_merge t c (merge.opening t' c' n ds) cs = cs
stay_merge t c (merge.summed s) cs = cs

abbrev pub stay_linear : Linear → List ColumnClaim → List ColumnClaim
stay_linear (linear.waiting f) cs = but_first_on f.table f.column cs
stay_linear (linear.stated f c) cs = cs
stay_linear (linear.told ds) cs = cs

abbrev pub stay_project : Project → List ColumnClaim → List ColumnClaim
stay_project (project.waiting p) cs = but_first_on p.table p.column cs
stay_project (project.closed c) cs = cs

abbrev pub stay_pack : Pack → List ColumnClaim → List ColumnClaim
stay_pack (pack.waiting f) cs = but_first_on f.table f.column cs
stay_pack (pack.stated f c) cs = cs
stay_pack (pack.listed f z prefix v n) cs = cs
stay_pack (pack.closed c) cs = cs

abbrev pub stay_shift : Shift → List ColumnClaim → List ColumnClaim
stay_shift (shift.waiting s) cs = but_first_on s.table s.column cs
stay_shift (shift.summed s) cs = cs

abbrev pub stay_bits : Batching → List ColumnClaim → List ColumnClaim
stay_bits (batch.waiting bs m) cs = filter (has_no_block bs) cs
stay_bits (batch.opening bs ds) cs = cs
stay_bits (batch.summed s) cs = cs

abbrev pub staying : Stage → Kept → Kept
staying Start w = w
staying (Channels b) w = w
staying (Flush d) w = record w { products = but_first w.products }
staying (Constraints z) w = w
staying (Merges m) w = record w { columns = stay_merge m.table m.column m.walk w.columns }
staying (Combines l) w = record w { columns = stay_linear l w.columns }
staying (Projects p) w = record w { columns = stay_project p w.columns }
staying (Claimed c) w = w
staying (Packs p) w = record w { columns = stay_pack p w.columns }
staying (Shifts s) w = record w { columns = stay_shift s w.columns }
staying (Bits b) w = record w { columns = stay_bits b w.columns }
staying (Words s) w = record w { bits = but_first w.bits }
staying (Switch s) w = w

-- ---- a reduction that is done leaves its claims
abbrev pub products_with : (alpha gamma : ℕ) → List Flushed → List ℕ → List Product
products_with a g [] v = []
products_with a g (f ∷ fs) [] = []
products_with a g (f ∷ fs) (x ∷ v) = record { flushed = f; alpha = a; gamma = g; value = x } ∷ products_with a g fs v

abbrev pub products_left : Balancing → List Product
products_left (balance.waiting ch) = []
products_left (balance.stated ch) = []
products_left (balance.collapsing ch a) = []
products_left (balance.multiplying ch a g) = []
products_left (balance.told ch a g v) = products_with a g ch.flushes v

abbrev pub claims_of : {T : Type 0} → Summed T (List ColumnClaim) → List ColumnClaim
claims_of (adding t r) = []
claims_of (closed cs) = cs

abbrev pub claim_of : {T : Type 0} → Summed T ColumnClaim → List ColumnClaim
claim_of (adding t r) = []
claim_of (closed c) = c ∷ []

abbrev pub descent_left : Descent → List ColumnClaim
descent_left (descent.waiting f) = []
descent_left (descent.layers s) = []
descent_left (descent.leaves s) = claims_of s

abbrev pub zero_left : Zero → List ColumnClaim
zero_left (zero.waiting g) = []
zero_left (zero.stated g) = []
zero_left (zero.vector g beta prefix n) = []
zero_left (zero.summed s) = claims_of s

abbrev pub merge_left : Merge → List ColumnClaim
merge_left (merge.waiting n m) = []
merge_left (merge.opening t c n cs) = []
merge_left (merge.summed s) = claim_of s

abbrev pub linear_left : Linear → List ColumnClaim
linear_left (linear.waiting f) = []
linear_left (linear.stated f c) = []
linear_left (linear.told cs) = cs

abbrev pub pack_left : Pack → List ColumnClaim
pack_left (pack.waiting f) = []
pack_left (pack.stated f c) = []
pack_left (pack.listed f z prefix v n) = []
pack_left (pack.closed c) = c ∷ []

abbrev pub shift_left : Shift → List ColumnClaim
shift_left (shift.waiting s) = []
shift_left (shift.summed s) = claim_of s

abbrev pub bits_left : Batching → List BitValue
bits_left (batch.waiting bs m) = []
bits_left (batch.opening bs cs) = []
bits_left (batch.summed (adding t r)) = []
bits_left (batch.summed (closed b)) = b ∷ []

abbrev pub packed_left : List Block → Switching → List Packed
packed_left bs (switch.waiting n) = []
packed_left bs (switch.valued z v) = []
packed_left bs (switch.rowed h p rows n) = []
packed_left bs (switch.summed (adding t r)) = []
packed_left bs (switch.summed (closed p)) = record { blocks = bs; point = p.point; value = p.value } ∷ []

abbrev pub left : Stage → Kept → Kept
left Start w = w
left (Channels b) w = record w { products = w.products ++ products_left b }
left (Flush d) w = record w { columns = w.columns ++ descent_left d }
left (Constraints z) w = record w { columns = w.columns ++ zero_left z }
left (Merges m) w = record w { columns = w.columns ++ merge_left m.walk }
left (Combines l) w = record w { columns = w.columns ++ linear_left l }
left (Projects p) w = w
left (Claimed c) w = record w { columns = w.columns ++ c ∷ [] }
left (Packs p) w = record w { columns = w.columns ++ pack_left p }
left (Shifts s) w = record w { columns = w.columns ++ shift_left s }
left (Bits b) w = record w { bits = w.bits ++ bits_left b }
left (Words s) w = w
left (Switch s) w = record w { packed = w.packed ++ packed_left s.placement s.walk }

-- ---- what each claims by itself before it is entered, and what it asks of a filling
abbrev pub Waits : Filling → Stage → Type 0
Waits F Start = Unit {0}
Waits F (Channels b) = BalancingHolds F (state_balance b)
Waits F (Flush d) = Unit {0}
Waits F (Constraints z) = ZeroHolds F (state_zero z)
Waits F (Merges m) = Unit {0}
Waits F (Combines l) = Unit {0}
Waits F (Projects p) = Unit {0}
Waits F (Claimed c) = Unit {0}
Waits F (Packs p) = Unit {0}
Waits F (Shifts s) = Unit {0}
Waits F (Bits b) = Unit {0}
Waits F (Words s) = Unit {0}
Waits F (Switch s) = Unit {0}

abbrev pub waiting_claims : Stage → List Claim
waiting_claims Start = []
waiting_claims (Channels b) = option_to_list (balance.unstated b)
waiting_claims (Flush d) = []
waiting_claims (Constraints z) = option_to_list (zero.unstated z)
waiting_claims (Merges m) = []
waiting_claims (Combines l) = []
waiting_claims (Projects p) = []
waiting_claims (Claimed c) = []
waiting_claims (Packs p) = []
waiting_claims (Shifts s) = []
waiting_claims (Bits b) = []
waiting_claims (Words s) = []
waiting_claims (Switch s) = []

-- the column has its size
abbrev pub MergeFits : Filling → ℕ → ℕ → Merge → Type 0
MergeFits F t c (merge.waiting n m) = length (F t c) ≡ 2 ^ n
MergeFits F t c (merge.opening t' c' n cs) = Unit {0}
MergeFits F t c (merge.summed s) = Unit {0}

-- the column has the values of its form, whatever claim on it there is
abbrev pub LinearFits : Filling → Linear → Type 0
LinearFits F (linear.waiting f) = (length (F f.table f.column) ≡ 2 ^ f.vars) × ((c : ColumnClaim) → c.table ≡ f.table → c.column ≡ f.column → length c.point ≡ f.vars → IsLinear F f c)
LinearFits F (linear.stated f c) = Unit {0}
LinearFits F (linear.told cs) = Unit {0}

abbrev pub ProjectFits : Filling → Project → Type 0
ProjectFits F (project.waiting p) = (length (F p.table p.column) ≡ 2 ^ p.vars) × IsProjected F p
ProjectFits F (project.closed c) = Unit {0}

abbrev pub PackFits : Filling → Pack → Type 0
PackFits F (pack.waiting f) = (length (F f.table f.column) ≡ 2 ^ f.vars) × ((c : ColumnClaim) → c.table ≡ f.table → c.column ≡ f.column → length c.point ≡ f.vars → IsPacked F f c)
PackFits F (pack.stated f c) = Unit {0}
PackFits F (pack.listed f z prefix v n) = Unit {0}
PackFits F (pack.closed c) = Unit {0}

abbrev pub ShiftFits : Filling → Shift → Type 0
ShiftFits F (shift.waiting s) = (length (F s.table s.column) ≡ 2 ^ s.vars) × IsShifted F s
ShiftFits F (shift.summed s) = Unit {0}

-- the bits of claims on committed columns stand where the blocks say
abbrev pub BitsFit : Filling → Batching → Type 0
BitsFit F (batch.waiting bs m) = (length (bits F bs) ≡ 2 ^ places_log bs) × ((c : ColumnClaim) → has_block bs c ≡ true → ColumnFits F c → Stands F bs c)
BitsFit F (batch.opening bs cs) = Unit {0}
BitsFit F (batch.summed s) = Unit {0}

abbrev pub WaitingFits : Filling → Stage → Type 0
WaitingFits F Start = Unit {0}
WaitingFits F (Channels b) = BalancingFits F (state_balance b) × AllByRecursion (HasRows F) (flushes_in (state_balance b))
WaitingFits F (Flush d) = Unit {0}
WaitingFits F (Constraints z) = ZeroFits F (state_zero z)
WaitingFits F (Merges m) = MergeFits F m.table m.column m.walk
WaitingFits F (Combines l) = LinearFits F l
WaitingFits F (Projects p) = ProjectFits F p
WaitingFits F (Claimed c) = Unit {0}
WaitingFits F (Packs p) = PackFits F p
WaitingFits F (Shifts s) = ShiftFits F s
WaitingFits F (Bits b) = BitsFit F b
WaitingFits F (Words s) = Unit {0}
WaitingFits F (Switch s) = Unit {0}

-- ---- all of this as far as it is known before any message
-- claims on columns of a table, at a point of n coordinates
abbrev pub places_on : (table n : ℕ) → List ℕ → List Place
places_on t n cs = map (λ c. record { table = t; column = c; vars = n }) cs

-- those that a sum on one point ends in
abbrev pub sum_places : {T : Type 0} → (T → List Place) → Summed T (List ColumnClaim) → List Place
sum_places f (adding t r) = f t
sum_places f (closed cs) = map place_of cs

abbrev pub flush_places : Flushed → ℕ → List Place
flush_places f n = places_on f.table n (leaf_columns f)

abbrev pub descent_places : Descent → List Place
descent_places (descent.waiting f) = []
descent_places (descent.layers (adding t r)) = flush_places t.at.flushed (row_vars t.at.flushed)
descent_places (descent.layers (closed p)) = flush_places p.layered.at.flushed (row_vars p.layered.at.flushed)
descent_places (descent.leaves (adding t r)) = flush_places t.flushed (variables r)
descent_places (descent.leaves (closed cs)) = map place_of cs

abbrev pub zero_places : Zero → List Place
zero_places (zero.waiting g) = []
zero_places (zero.stated g) = places_on g.table g.vars g.columns
zero_places (zero.vector g beta prefix n) = places_on g.table g.vars g.columns
zero_places (zero.summed (adding t r)) = places_on t.group.table (variables r) t.group.columns
zero_places (zero.summed (closed cs)) = map place_of cs

abbrev pub merge_places : Merge → List Place
merge_places (merge.waiting n m) = []
merge_places (merge.opening t c n cs) = record { table = t; column = c; vars = n } ∷ []
merge_places (merge.summed (adding t r)) = record { table = t.table; column = t.column; vars = variables r } ∷ []
merge_places (merge.summed (closed c)) = place_of c ∷ []

abbrev pub term_places : ℕ → ℕ → List ShapeTerm → List Place
term_places t n ts = map (λ (s : ShapeTerm). record { table = t; column = s.column; vars = n }) ts

abbrev pub linear_places : Linear → List Place
linear_places (linear.waiting f) = []
linear_places (linear.stated f c) = term_places c.table (length c.point) f.terms
linear_places (linear.told cs) = map place_of cs

abbrev pub pack_places : Pack → List Place
pack_places (pack.waiting f) = []
pack_places (pack.stated f c) = record { table = f.table; column = f.source; vars = f.log + length c.point } ∷ []
pack_places (pack.listed f z prefix v n) = record { table = f.table; column = f.source; vars = length prefix + suc n + length z } ∷ []
pack_places (pack.closed c) = place_of c ∷ []

abbrev pub shift_places : Shift → List Place
shift_places (shift.waiting s) = []
shift_places (shift.summed (adding t r)) = record { table = t.shifting.table; column = t.shifting.source; vars = variables r + (length t.point - t.shifting.block) } ∷ []
shift_places (shift.summed (closed c)) = place_of c ∷ []

abbrev pub bits_sizes : Batching → List ℕ
bits_sizes (batch.waiting bs m) = []
bits_sizes (batch.opening bs cs) = places_log bs ∷ []
bits_sizes (batch.summed (adding t r)) = variables r ∷ []
bits_sizes (batch.summed (closed b)) = length b.point ∷ []

abbrev pub packed_sizes : Switching → List ℕ
packed_sizes (switch.waiting n) = []
packed_sizes (switch.valued z s) = length (switch.high_of z) ∷ []
packed_sizes (switch.rowed h p rows n) = length h ∷ []
packed_sizes (switch.summed (adding t r)) = variables r ∷ []
packed_sizes (switch.summed (closed p)) = length p.point ∷ []

abbrev pub balance_flushes : Balancing → List Flushed
balance_flushes (balance.waiting ch) = []
balance_flushes (balance.stated ch) = ch.flushes
balance_flushes (balance.collapsing ch a) = ch.flushes
balance_flushes (balance.multiplying ch a g) = ch.flushes
balance_flushes (balance.told ch a g v) = map (λ (p : Product). p.flushed) (products_with a g ch.flushes v)

-- what waits once a reduction at work is done
abbrev pub sizes_left : Stage → Sizes → Sizes
sizes_left Start k = k
sizes_left (Channels b) k = record k { products = k.products ++ balance_flushes b }
sizes_left (Flush d) k = record k { columns = k.columns ++ descent_places d }
sizes_left (Constraints z) k = record k { columns = k.columns ++ zero_places z }
sizes_left (Merges m) k = record k { columns = k.columns ++ merge_places m.walk }
sizes_left (Combines l) k = record k { columns = k.columns ++ linear_places l }
sizes_left (Projects p) k = k
sizes_left (Claimed c) k = record k { columns = k.columns ++ place_of c ∷ [] }
sizes_left (Packs p) k = record k { columns = k.columns ++ pack_places p }
sizes_left (Shifts s) k = record k { columns = k.columns ++ shift_places s }
sizes_left (Bits b) k = record k { bits = k.bits ++ bits_sizes b }
sizes_left (Words s) k = k
sizes_left (Switch s) k = record k { packed = k.packed ++ packed_sizes s.walk }

-- ---- a claim for each, of no coordinates' worth: what is due depends on sizes alone
abbrev pub blank_claim : Place → ColumnClaim
blank_claim p = record { table = p.table; column = p.column; point = zeros p.vars; value = 0 }

abbrev pub blank : Sizes → Kept
blank k = record {
  products = map (λ (f : Flushed). record { flushed = f; alpha = 0; gamma = 0; value = 0 }) k.products;
  columns = map blank_claim k.columns;
  bits = map (λ n. record { blocks = []; point = zeros n; value = 0 }) k.bits;
  packed = map (λ n. record { blocks = []; point = zeros n; value = 0 }) k.packed;
  room = k.room;
}

-- what is due of a reduction that is entered with claims of these sizes, and the sizes of all that waits after it
abbrev pub plan_with : Stage → Sizes → List Entry
plan_with g k = staged.entries (entered g (blank k))

abbrev pub sizes_after : Stage → Sizes → Sizes
sizes_after g k = sizes_left (entered g (blank k)) (sizes (staying g (blank k)))

-- ---- what code asks of the claims that a reduction is entered with
abbrev pub IsFor : Descent → List Flushed → Type 0
IsFor (descent.waiting f) [] = ⊥
IsFor (descent.waiting f) (g ∷ gs) = f ≡ g
IsFor (descent.layers s) gs = ⊥
IsFor (descent.leaves s) gs = ⊥

-- the claims on a column, at points of n coordinates each
abbrev pub AllOfVars : ℕ → List Place → Type 0
AllOfVars n ps = AllByRecursion (λ (p : Place). p.vars ≡ n) ps

-- exactly one claim is on the column
abbrev pub IsOne : (t c n : ℕ) → List Place → Type 0
IsOne t c n ps = filter (is_place t c) ps ≡ record { table = t; column = c; vars = n } ∷ []

abbrev pub TakesMerge : ℕ → ℕ → Merge → List Place → Type 0
TakesMerge t c (merge.waiting n m) ps = (2 ≤ length (filter (is_place t c) ps)) × ((length (filter (is_place t c) ps) ≤ m) × AllOfVars n (filter (is_place t c) ps))
TakesMerge t c (merge.opening t' c' n ds) ps = ⊥
TakesMerge t c (merge.summed s) ps = ⊥

-- a claim on a committed column has as many coordinates as its positions
abbrev pub HasBlock : List Block → Place → Type 0
HasBlock bs p = (b : Block) × (_ : block_in p.table p.column bs ≡ Some b) × (b.level + p.vars ≡ b.log_bits)

abbrev pub TakesBits : Batching → List Place → Type 0
TakesBits (batch.waiting bs m) ps = (length ps ≤ m) × AllByRecursion (HasBlock bs) ps
TakesBits (batch.opening bs cs) ps = ⊥
TakesBits (batch.summed s) ps = ⊥

abbrev pub TakesWords : Switching → List ℕ → Type 0
TakesWords (switch.waiting n) [] = ⊥
TakesWords (switch.waiting n) (m ∷ ms) = m ≡ n
TakesWords (switch.valued z s) ms = ⊥
TakesWords (switch.rowed h p rows n) ms = ⊥
TakesWords (switch.summed s) ms = ⊥
