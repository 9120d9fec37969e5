-- A prover that was given the lists of a group's columns goes along with the walk of the group.
use Rattle.std.proofs.Common.{◌≡◌, ◌∙◌, List, Option, None, Some, IsSome, refl, sym, ap, subst}
use Rattle.sumcheck.specs.declared.column_tables.ColumnTable.{ColumnTable}
use Rattle.sumcheck.specs.Machine.{Filling}
use Rattle.zerocheck.specs.declared.zero_prover.ZeroProver.{ZeroProver}
use Rattle.zerocheck.specs.Given.{given_lists, table_of}
use Rattle.zerocheck.specs.Group.{Group}
use Rattle.zerocheck.specs.Zero.{Zero, columns_of, state_zero, stated, waiting}
use Rattle.zerocheck.specs.ZeroProver.{FollowsZero, IsNew}

-- the filling that has the lists that the prover is given
abbrev pub given : List ColumnTable → Filling
given tables t c = table_of tables t c

pub some_group : (o : Option Group) → IsSome o → (g : Group) × (o ≡ Some g)
some_group None h = absurd (cc)
some_group (Some g) h = (g, refl)

pub group_starts : (tables : List ColumnTable) (g : Group) (p next : ZeroProver) (w v : Zero) → IsNew p g (given_lists tables g.table g.columns)
    → ((F : Filling) (g : Group) → IsNew p g (columns_of F g) → FollowsZero next F (stated g)) → w ≡ waiting g → v ≡ state_zero w → FollowsZero next (given tables) v
group_starts tables g p next w v new entered waits states = subst (FollowsZero next (given tables)) (sym (states ∙ ap state_zero waits)) (entered (given tables) g new)
