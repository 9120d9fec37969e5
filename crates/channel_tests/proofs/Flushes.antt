-- The walk of a flush's product beside a prover that was given the lists of its columns.
use Rattle.std.proofs.Common.{◌≡◌, ◌∙◌, ℕ, zero, suc, true, false, List, Option, None, Some, IsSome, is_none, refl, sym, subst}
use Rattle.sumcheck.specs.declared.column_claim.ColumnClaim.{ColumnClaim}
use Rattle.sumcheck.specs.declared.column_tables.ColumnTable.{ColumnTable}
use Rattle.sumcheck.specs.Machine.{Filling, first_entry}
use Rattle.sumcheck.specs.Rounds.{sum_claim, round_claim}
use Rattle.sumcheck.specs.Summing.{adding, closed}
use Rattle.table_shape.specs.declared.shape.FlushShape.{FlushShape}
use Rattle.channel_products.specs.declared.flushed.Flushed.{Flushed}
use Rattle.channel_products.specs.declared.product_prover.ProductProver.{ProductProver}
use Rattle.channel_products.specs.declared.product_prover.Standing.{Standing}
use Rattle.channel_products.specs.Descent.{Descent, descent_entries, layers, leaves, state_product, waiting}
use Rattle.channel_products.specs.DescentProver.{FollowsProduct, FollowsSum, IsNewFor}
use Rattle.channel_products.specs.Following.{IsGiven}
use Rattle.channel_products.specs.Given.{named_columns, table_of}
use Rattle.channel_tests.proofs.Channels.{own_lists}

-- ---- at the beginning, for the filling that has the lists
pub some_flush : (o : Option FlushShape) → IsSome o → (f : FlushShape) × (o ≡ Some f)
some_flush None h = absurd (cc)
some_flush (Some f) h = (f, refl)

-- walk and prover are given equal challenges
pub product_starts : (tables : List ColumnTable) (f : Flushed) (a g alpha gamma value : ℕ) (p next : ProductProver) (w v : Descent) → a ≡ alpha → g ≡ gamma → IsNewFor p f tables
    → ((F : Filling) (f : Flushed) (tables : List ColumnTable) → IsNewFor p f tables → IsGiven F tables f → FollowsProduct next F (state_product alpha gamma value (waiting f)))
    → w ≡ waiting f → v ≡ state_product a g value w → FollowsProduct next (table_of tables) v
product_starts tables f a g alpha gamma value p next w v same_a same_g new entered waits states =
    subst (FollowsProduct next (table_of tables)) (sym (states ∙ (λ i. state_product (same_a i) (same_g i) value (waits i))))
    (entered (table_of tables) f tables new (own_lists tables f.table (named_columns f.shape)))

-- ---- at the end
some_due : false ≡ true → ⊥
some_due e = cc

-- where nothing is due, the claims are told
pub product_ends : (p : ProductProver) (q : Standing) (F : Filling) (s : Descent) → FollowsSum p q F s → is_none (first_entry (descent_entries s)) ≡ true → (claims : List ColumnClaim) × (s ≡ leaves (closed claims))
product_ends p q F (waiting f) h e = absurd h
product_ends p q F (layers (adding t (sum_claim d zero z c))) h e = absurd (some_due e)
product_ends p q F (layers (adding t (sum_claim d (suc n) z c))) h e = absurd (some_due e)
product_ends p q F (layers (adding t (round_claim d n z v))) h e = absurd (some_due e)
product_ends p q F (layers (closed t)) h e = absurd (some_due e)
product_ends p q F (leaves (adding t (sum_claim d zero z c))) h e = absurd (some_due e)
product_ends p q F (leaves (adding t (sum_claim d (suc n) z c))) h e = absurd (some_due e)
product_ends p q F (leaves (adding t (round_claim d n z v))) h e = absurd (some_due e)
product_ends p q F (leaves (closed claims)) h e = (claims, refl)
