-- The walk of channels beside a prover that was given the lists of all flushes.
use Rattle.std.proofs.Common.{◌≡◌, ◌∙◌, ℕ, true, List, [], ◌∷◌, is_none, refl, sym, ap, subst}
use Rattle.std.specs.List.{AllByRecursion}
use Rattle.sumcheck.specs.declared.column_tables.ColumnTable.{ColumnTable}
use Rattle.sumcheck.specs.Machine.{Filling, first_entry}
use Rattle.channel_products.specs.declared.balance_prover.BalanceProver.{BalanceProver}
use Rattle.channel_products.specs.declared.channels.Channels.{Channels}
use Rattle.channel_products.specs.declared.flushed.Flushed.{Flushed}
use Rattle.channel_products.specs.Balancing.{Balancing, waiting, stated, collapsing, multiplying, told, balancing_entries, state_balance}
use Rattle.channel_products.specs.Following.{AreGiven, FollowsBalance, IsNew}
use Rattle.channel_products.specs.Given.{named_columns, table_of}

-- ---- at the beginning, for the filling that has the lists
pub own_lists : (tables : List ColumnTable) (t : ℕ) (cs : List ℕ) → AllByRecursion (λ c. table_of tables t c ≡ table_of tables t c) cs
own_lists tables t [] = tt
own_lists tables t (c ∷ cs) = (refl, own_lists tables t cs)

own_flushes : (tables : List ColumnTable) (fs : List Flushed) → AreGiven (table_of tables) tables fs
own_flushes tables [] = tt
own_flushes tables (f ∷ fs) = (own_lists tables f.table (named_columns f.shape), own_flushes tables fs)

pub balance_starts : (tables : List ColumnTable) (ch : Channels) (p next : BalanceProver) (w v : Balancing) → IsNew p ch tables
    → ((F : Filling) (ch : Channels) (tables : List ColumnTable) → IsNew p ch tables → AreGiven F tables ch.flushes → FollowsBalance next F (state_balance (waiting ch)))
    → w ≡ waiting ch → v ≡ state_balance w → FollowsBalance next (table_of tables) v
balance_starts tables ch p next w v new entered waits states =
    subst (FollowsBalance next (table_of tables)) (sym (states ∙ ap state_balance waits)) (entered (table_of tables) ch tables new (own_flushes tables ch.flushes))

-- ---- at the end
-- where nothing is due, the products are told
pub record IsTold (s : Balancing) : Type 0 where
  pub channels : Channels
  pub alpha : ℕ
  pub gamma : ℕ
  pub values : List ℕ
  pub is : s ≡ told channels alpha gamma values

pub balance_ends : (p : BalanceProver) (F : Filling) (s : Balancing) → FollowsBalance p F s → true ≡ is_none (first_entry (balancing_entries s)) → IsTold s
balance_ends p F (waiting ch) h e = absurd h
balance_ends p F (stated ch) h e = absurd (cc)
balance_ends p F (collapsing ch a) h e = absurd (cc)
balance_ends p F (multiplying ch a g) h e = absurd (cc)
balance_ends p F (told ch a g v) h e = record { channels = ch; alpha = a; gamma = g; values = v; is = refl }
