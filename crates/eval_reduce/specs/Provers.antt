-- Provers of virtual columns beside their walks, whatever values are claimed.
-- Source: docs/REDUCTIONS.md, "Virtual columns".
use Rattle.std.specs.Prelude.{◌≡◌, ◌≤◌, ◌+◌, ◌^◌, ℕ, suc, List, [], ◌∷◌, ◌++◌, length, map, vec_capacity, None, Some}
use Rattle.std.specs.List.{AllByRecursion}
use Rattle.cube_laws.specs.Extension.{bits_of, extension, fold_all}
use Rattle.cube_laws.specs.SumClaim.{AllLong}
use Rattle.sumcheck.specs.declared.column_claim.ColumnClaim.{ColumnClaim}
use Rattle.sumcheck.specs.declared.column_tables.ColumnTable.{ColumnTable}
use Rattle.sumcheck.specs.Column.{ColumnHolds}
use Rattle.sumcheck.specs.Machine.{Filling}
use Rattle.table_shape.specs.declared.shape.ShapeTerm.{ShapeTerm}
use Rattle.eval_reduce.specs.declared.linear_prover.LinearProver.{LinearProver}
use Rattle.eval_reduce.specs.declared.pack_prover.PackProver.{PackProver}
use Rattle.eval_reduce.specs.declared.project_prover.ProjectProver.{ProjectProver}
use Rattle.eval_reduce.specs.declared.packing.Packing.{Packing}
use Rattle.eval_reduce.specs.Virtual.{IsThere, table_of}
use Rattle.eval_reduce.specs.Ending.{Ending, Tells, drawn, untold}
use Rattle.eval_reduce.specs.Linear.{Combination, Linear, stated, told, term_lists}
use Rattle.eval_reduce.specs.Linear as linear
use Rattle.eval_reduce.specs.Pack.{corner_values}
use Rattle.eval_reduce.specs.Pack as walk
use Rattle.eval_reduce.specs.Project.{Project, waiting, closed}

-- ---- projected columns
-- a prover that was given no claim yet
pub record IsNewProjector (p : ProjectProver) : Type 0 where
  pub none : p.closed ≡ None
  pub empty : p.point.items ≡ []
  pub room : p.projection.log + p.projection.vars ≤ vec_capacity p.point
  pub whole : length p.source.items ≡ 2 ^ (p.projection.log + p.projection.vars)

-- the claim on the source with its true value
abbrev pub true_claim : ProjectProver → List ℕ → ColumnClaim
true_claim p z = record { table = p.projection.table; column = p.projection.source; point = bits_of p.projection.log p.projection.index ++ z; value = extension p.source.items (bits_of p.projection.log p.projection.index ++ z) }

-- there is nothing to give; once the claim is taken, the prover's own claim is true, and at the step's point
abbrev pub FollowsProject : ProjectProver → Filling → Project → Type 0
FollowsProject p F (waiting q) = ⊥
FollowsProject p F (closed claim) = (own : ColumnClaim) × (p.closed ≡ Some own) × (own.point ≡ claim.point) × ColumnHolds F own

-- ---- linear columns
-- the lists of the terms' columns among those that are given
abbrev pub given_lists : List ColumnTable → ℕ → List ShapeTerm → List (List ℕ)
given_lists tables t ts = map (λ (x : ShapeTerm). table_of tables t x.column) ts

abbrev pub TermsAreThere : List ColumnTable → ℕ → ℕ → List ShapeTerm → Type 0
TermsAreThere tables t n [] = Unit {0}
TermsAreThere tables t n (x ∷ ts) = IsThere tables t x.column n × TermsAreThere tables t n ts

-- a prover that was given no claim yet
pub record IsNewTeller (p : LinearProver) : Type 0 where
  pub none : p.claim ≡ None
  pub blank : p.claims.items ≡ []
  pub few : length p.combination.terms ≤ 64
  pub own : p.own ≡ record { vars = p.combination.vars; count = 1 }
  pub points : p.points ≡ record { vars = p.combination.vars; count = length p.combination.terms }
  pub room : length p.combination.terms ≤ vec_capacity p.claims

-- the prover has a claim at the point of the one that is stated
pub record Stands (p : LinearProver) (claim own : ColumnClaim) : Type 0 where
  pub here : p.claim ≡ Some own
  pub table_is : own.table ≡ claim.table
  pub at : own.point ≡ claim.point

-- the prover holds the terms' lists and the claim's point, and has room for the terms' claims
pub record HoldsTerms (p : LinearProver) (F : Filling) (f : Combination) (claim : ColumnClaim) : Type 0 where
  pub same : p.combination ≡ f
  pub lists : p.lists.items ≡ term_lists F f.table f.terms
  pub stands : (own : ColumnClaim) × Stands p claim own
  pub table_is : claim.table ≡ f.table
  pub long : AllLong (2 ^ length claim.point) (term_lists F f.table f.terms)
  pub blank : p.claims.items ≡ []
  pub few : length f.terms ≤ 64
  pub points : p.points ≡ record { vars = length claim.point; count = length f.terms }
  pub room : length f.terms ≤ vec_capacity p.claims

-- the prover has exactly these claims, and they are true
pub record TellsTerms (p : LinearProver) (F : Filling) (cs : List ColumnClaim) : Type 0 where
  pub told : p.claims.items ≡ cs
  pub few : length cs ≤ 64
  pub hold : AllByRecursion (ColumnHolds F) cs

abbrev pub FollowsLinear : LinearProver → Filling → Linear → Type 0
FollowsLinear p F (linear.waiting f) = ⊥
FollowsLinear p F (stated f claim) = HoldsTerms p F f claim
FollowsLinear p F (told cs) = TellsTerms p F cs

-- ---- packed columns
-- a prover that was given no claim yet
pub record IsNewPacker (p : PackProver) : Type 0 where
  pub small : p.packing.log ≤ 7
  pub empty : p.point.items ≡ []
  pub room : p.packing.vars ≤ vec_capacity p.point
  pub ending : p.ending ≡ untold p.packing.table p.packing.source (p.packing.log + p.packing.vars)

-- the ending before the first draw
abbrev pub on_source : Packing → Ending
on_source f = untold f.table f.source (f.log + f.vars)

-- the prover holds the source and the claim's point
pub record HoldsSource (p : PackProver) (F : Filling) (f : Packing) (claim : ColumnClaim) : Type 0 where
  pub small : p.packing.log ≤ 7
  pub same : p.packing ≡ f
  pub source : p.source.items ≡ F f.table f.source
  pub at : p.point.items ≡ claim.point
  pub all : length claim.point ≡ f.vars
  pub long : length (F f.table f.source) ≡ 2 ^ (f.log + f.vars)
  pub ending : p.ending ≡ on_source f

-- the prover holds the claim's point and the draws, and the true values at the corners of the variables that aren't set, of which there are n
pub record HoldsValues (p : PackProver) (F : Filling) (f : Packing) (z prefix v : List ℕ) (n : ℕ) : Type 0 where
  pub at : p.point.items ≡ z
  pub all : length z ≡ f.vars
  pub ending : p.ending ≡ drawn (on_source f) prefix
  pub left : length prefix + n ≡ f.log
  pub values : p.values.items ≡ v
  pub folded : fold_all prefix (corner_values (F f.table f.source) f.log z) ≡ v

abbrev pub FollowsPack : PackProver → Filling → walk.Pack → Type 0
FollowsPack p F (walk.waiting f) = ⊥
FollowsPack p F (walk.stated f claim) = HoldsSource p F f claim
FollowsPack p F (walk.listed f z prefix v n) = HoldsValues p F f z prefix v (suc n)
FollowsPack p F (walk.closed claim) = Tells p.ending F claim
