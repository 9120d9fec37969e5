-- A prover that was given the lists of a flush's columns goes along with the walk of its product.
use Rattle.std.proofs.Common.{◌≡◌, ◌∙◌, ℕ, List, [], ◌∷◌, Option, None, Some, IsSome, refl, sym, ap, subst}
use Rattle.std.specs.List.{AllByRecursion}
use Rattle.sumcheck.specs.declared.column_tables.ColumnTable.{ColumnTable}
use Rattle.sumcheck.specs.Machine.{Filling}
use Rattle.table_shape.specs.declared.shape.FlushShape.{FlushShape}
use Rattle.channel_products.specs.declared.flushed.Flushed.{Flushed}
use Rattle.channel_products.specs.declared.product_prover.ProductProver.{ProductProver}
use Rattle.channel_products.specs.Descent.{Descent, state_product, waiting}
use Rattle.channel_products.specs.DescentProver.{FollowsProduct, IsNewFor}
use Rattle.channel_products.specs.Following.{IsGiven}
use Rattle.channel_products.specs.Given.{named_columns, table_of}

pub some_flush : (o : Option FlushShape) → IsSome o → (f : FlushShape) × (o ≡ Some f)
some_flush None h = absurd (cc)
some_flush (Some f) h = (f, refl)

-- the filling that has the lists that the prover is given
own_lists : (tables : List ColumnTable) (t : ℕ) (cs : List ℕ) → AllByRecursion (λ c. table_of tables t c ≡ table_of tables t c) cs
own_lists tables t [] = tt
own_lists tables t (c ∷ cs) = (refl, own_lists tables t cs)

pub product_starts : (tables : List ColumnTable) (f : Flushed) (a g product : ℕ) (p next : ProductProver) (w v : Descent) → IsNewFor p f tables
    → ((F : Filling) (f : Flushed) (tables : List ColumnTable) → IsNewFor p f tables → IsGiven F tables f → FollowsProduct next F (state_product a g product (waiting f)))
    → w ≡ waiting f → v ≡ state_product a g product w → FollowsProduct next (table_of tables) v
product_starts tables f a g product p next w v new entered waits states =
    subst (FollowsProduct next (table_of tables)) (sym (states ∙ ap (state_product a g product) waits)) (entered (table_of tables) f tables new (own_lists tables f.table (named_columns f.shape)))
