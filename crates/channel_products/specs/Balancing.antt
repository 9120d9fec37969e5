-- Every channel is in balance: as a claim, and its reduction to claims on the products of flushes.
-- Source: docs/REDUCTIONS.md, "Channels".
use Rattle.std.specs.Prelude.{◌≡◌, ℕ, zero, suc, ◌+◌, cond, List, [], ◌∷◌, length, map, Option, None, Some}
use Rattle.std.specs.List.{AllByRecursion}
use Rattle.tower_laws.specs.Tower.{mul}
use Rattle.multiset_laws.specs.Balance.{IsBalanced, IsCollapsed, HasEqualProducts}
use Rattle.poly_forms.specs.declared.check_kind.CheckKind.TheVariants.{Products}
use Rattle.poly_forms.specs.declared.draw_kind.DrawKind.TheVariants.{Alpha, Gamma}
use Rattle.sumcheck.specs.declared.entry.Entry.{Entry}
use Rattle.sumcheck.specs.declared.entry.Entry.TheVariants.{Message, Draw}
use Rattle.sumcheck.specs.declared.refused.Refused.{Refused}
use Rattle.sumcheck.specs.Claim as claim
use Rattle.sumcheck.specs.Claim.{Claim}
use Rattle.sumcheck.specs.Machine.{Filling, Machine}
use Rattle.sumcheck.specs.Rounds.{checked}
use Rattle.table_text.specs.declared.decl.Side.{Side}
use Rattle.table_text.specs.declared.decl.Side.TheVariants.{Push, Pull}
use Rattle.table_shape.specs.Channels.{is_flush_of}
use Rattle.table_shape.specs.Lowering.{boundaries_product}
use Rattle.channel_products.specs.declared.flushed.Flushed.{Flushed}
use Rattle.channel_products.specs.declared.channels.Channels.{Channels}
use Rattle.channel_products.specs.Channels.{balances, product_of, ChannelsFit}

-- ---- the walk's states
pub data Balancing : Type 0 where
  -- before the claim is stated
  waiting : Channels → Balancing
  -- each channel is in balance
  stated : Channels → Balancing
  -- the sums of t_j · alpha ^ j are pushed as often as they are pulled
  collapsing : Channels → (alpha : ℕ) → Balancing
  -- the products of gamma and these sums are equal
  multiplying : Channels → (alpha gamma : ℕ) → Balancing
  -- each value is the product of a flush's leaves
  told : Channels → (alpha gamma : ℕ) → (values : List ℕ) → Balancing

-- ---- the message of products
-- of values, one for each flush, the product of those of one side of channel c
abbrev pub flushed_value : Side → ℕ → List Flushed → List ℕ → ℕ
flushed_value side c [] v = 1
flushed_value side c (f ∷ fs) [] = 1
flushed_value side c (f ∷ fs) (x ∷ v) = mul (cond (is_flush_of side c f.shape) x 1) (flushed_value side c fs v)

-- with the boundaries of that side
abbrev pub side_value : Side → ℕ → ℕ → ℕ → Channels → List ℕ → ℕ
side_value side c a g ch v = mul (flushed_value side c ch.flushes v) (boundaries_product side c a g ch.boundaries)

-- the first refusal of two
abbrev pub or_then : Option Refused → Option Refused → Option Refused
or_then None other = other
or_then (Some refused) other = Some refused

-- the first of n channels from c on whose sides differ
abbrev pub first_unequal : ℕ → ℕ → Channels → List ℕ → ℕ → ℕ → Option Refused
first_unequal a g ch v c zero = None
first_unequal a g ch v c (suc n) = or_then (checked Products (side_value Push c a g ch v) (side_value Pull c a g ch v)) (first_unequal a g ch v (c + 1) n)

-- ---- the machine
abbrev pub balancing_entries : Balancing → List Entry
balancing_entries (waiting ch) = []
balancing_entries (stated ch) = Draw Alpha ch.alphas ∷ Draw Gamma ch.gammas ∷ Message Products (length ch.flushes) ∷ []
balancing_entries (collapsing ch a) = Draw Gamma ch.gammas ∷ Message Products (length ch.flushes) ∷ []
balancing_entries (multiplying ch a g) = Message Products (length ch.flushes) ∷ []
balancing_entries (told ch a g v) = []

abbrev pub balancing_refusal : Balancing → List ℕ → Option Refused
balancing_refusal (waiting ch) v = None
balancing_refusal (stated ch) v = None
balancing_refusal (collapsing ch a) v = None
balancing_refusal (multiplying ch a g) v = first_unequal a g ch v 0 (length ch.widths)
balancing_refusal (told ch a g w) v = None

abbrev pub balancing_message : Balancing → List ℕ → Balancing
balancing_message (waiting ch) v = waiting ch
balancing_message (stated ch) v = stated ch
balancing_message (collapsing ch a) v = collapsing ch a
balancing_message (multiplying ch a g) v = told ch a g v
balancing_message (told ch a g w) v = told ch a g w

abbrev pub balancing_draw : Balancing → ℕ → Balancing
balancing_draw (waiting ch) r = waiting ch
balancing_draw (stated ch) r = collapsing ch r
balancing_draw (collapsing ch a) r = multiplying ch a r
balancing_draw (multiplying ch a g) r = multiplying ch a g
balancing_draw (told ch a g v) r = told ch a g v

-- a claim for each flush
abbrev pub product_claims : ℕ → ℕ → List Flushed → List ℕ → List Claim
product_claims a g [] v = []
product_claims a g (f ∷ fs) [] = []
product_claims a g (f ∷ fs) (x ∷ v) = claim.flush_product f.table f.number a g x ∷ product_claims a g fs v

-- what is claimed by a walk whose claim isn't stated yet, where there is a channel of these widths
abbrev pub balance_of : List ℕ → Option Claim
balance_of [] = None
balance_of (w ∷ ws) = Some claim.balance

abbrev pub unstated : Balancing → Option Claim
unstated (waiting ch) = balance_of ch.widths
unstated (stated ch) = None
unstated (collapsing ch a) = None
unstated (multiplying ch a g) = None
unstated (told ch a g v) = None

abbrev pub balancing_pending : Balancing → List Claim
balancing_pending (waiting ch) = []
balancing_pending (stated ch) = claim.balance ∷ []
balancing_pending (collapsing ch a) = claim.collapsed a ∷ []
balancing_pending (multiplying ch a g) = claim.products a g ∷ []
balancing_pending (told ch a g v) = product_claims a g ch.flushes v

abbrev pub BalancingFits : Filling → Balancing → Type 0
BalancingFits F (waiting ch) = Unit {0}
BalancingFits F (stated ch) = ChannelsFit F ch
BalancingFits F (collapsing ch a) = ChannelsFit F ch
BalancingFits F (multiplying ch a g) = ChannelsFit F ch
BalancingFits F (told ch a g v) = length v ≡ length ch.flushes

abbrev pub BalancingHolds : Filling → Balancing → Type 0
BalancingHolds F (waiting ch) = Unit {0}
BalancingHolds F (stated ch) = AllByRecursion IsBalanced (balances F ch)
BalancingHolds F (collapsing ch a) = AllByRecursion (IsCollapsed a) (balances F ch)
BalancingHolds F (multiplying ch a g) = AllByRecursion (HasEqualProducts a g) (balances F ch)
BalancingHolds F (told ch a g v) = v ≡ map (product_of F a g) ch.flushes

abbrev pub balancing_honest : Filling → Balancing → List ℕ
balancing_honest F (waiting ch) = []
balancing_honest F (stated ch) = []
balancing_honest F (collapsing ch a) = []
balancing_honest F (multiplying ch a g) = map (product_of F a g) ch.flushes
balancing_honest F (told ch a g v) = []

abbrev pub balancing : Machine Balancing
balancing = record {
  entries = balancing_entries;
  refusal = balancing_refusal;
  after_message = balancing_message;
  after_draw = balancing_draw;
  pending = balancing_pending;
  round_claim = λ s. None;
  fits = BalancingFits;
  holds = BalancingHolds;
  honest = balancing_honest;
}

-- ---- what is stated
abbrev pub IsWaiting : Balancing → Type 0
IsWaiting (waiting ch) = Unit {0}
IsWaiting (stated ch) = ⊥
IsWaiting (collapsing ch a) = ⊥
IsWaiting (multiplying ch a g) = ⊥
IsWaiting (told ch a g v) = ⊥

-- where there is no channel there is nothing to show
abbrev pub opened : Channels → List ℕ → Balancing
opened ch [] = told ch 0 0 []
opened ch (w ∷ ws) = stated ch

abbrev pub state_balance : Balancing → Balancing
state_balance (waiting ch) = opened ch ch.widths
state_balance (stated ch) = stated ch
state_balance (collapsing ch a) = collapsing ch a
state_balance (multiplying ch a g) = multiplying ch a g
state_balance (told ch a g v) = told ch a g v

-- the walk has come to its end
abbrev pub BalanceIsDone : Balancing → Type 0
BalanceIsDone (waiting ch) = ⊥
BalanceIsDone (stated ch) = ⊥
BalanceIsDone (collapsing ch a) = ⊥
BalanceIsDone (multiplying ch a g) = ⊥
BalanceIsDone (told ch a g v) = Unit {0}
