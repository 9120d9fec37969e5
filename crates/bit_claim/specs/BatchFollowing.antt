-- A prover of a batch goes along with its walk, whatever values are claimed.
-- Source: docs/REDUCTIONS.md, "Bits of columns".
use Rattle.std.specs.Prelude.{◌≡◌, ◌≤◌, ◌^◌, ℕ, suc, List, [], ◌∷◌, ◌++◌, length, map, vec_capacity, Option, None, Some}
use Rattle.cube_laws.specs.Extension.{extension}
use Rattle.sumcheck.specs.declared.column_claim.ColumnClaim.{ColumnClaim}
use Rattle.sumcheck.specs.declared.summand.Pair.{Pair}
use Rattle.sumcheck.specs.Machine.{Filling}
use Rattle.sumcheck.specs.Pair.{pair_form}
use Rattle.sumcheck.specs.Proving.{Proving, Goes, sum_of}
use Rattle.sumcheck.specs.Rounds.{Rounds, bound, sum_claim, true_round, variables, with_claim}
use Rattle.sumcheck.specs.Summing.{adding, closed}
use Rattle.table_shape.specs.Placement.{Block, places_log}
use Rattle.bit_claim.specs.declared.bit_prover.BitProver.{BitProver}
use Rattle.bit_claim.specs.BatchSum.{second}
use Rattle.bit_claim.specs.Batching.{Batched, Batching, BitValue, waiting, opening, summed, batch_sum}
use Rattle.bit_claim.specs.Bits.{bits}

abbrev pub without_value : ColumnClaim → ColumnClaim
without_value c = record c { value = 0 }

-- claims without their values
abbrev pub places : List ColumnClaim → List ColumnClaim
places cs = map without_value cs

-- a prover for columns of these blocks, before the claims are stated
pub record IsNew (bs : List Block) (p : BitProver) : Type 0 where
  pub blocks : p.batched.blocks ≡ bs
  pub whole : length p.bits ≡ 2 ^ places_log bs
  pub none : p.sum ≡ None
  pub draws : p.draws.items ≡ []
  pub memory : places_log bs ≤ vec_capacity p.draws

-- before its first message a prover holds the bits and where the claims are; their values may differ
pub record Ready (p : BitProver) (F : Filling) (bs : List Block) (cs : List ColumnClaim) : Type 0 where
  pub blocks : p.batched.blocks ≡ bs
  pub claims : places p.batched.claims ≡ places cs
  pub held : p.bits ≡ bits F bs
  pub whole : length (bits F bs) ≡ 2 ^ places_log bs
  pub draws : p.draws.items ≡ []
  pub memory : places_log bs ≤ vec_capacity p.draws

-- it goes along with the rounds of the sum, and has their draws
pub record GoesOn (p : BitProver) (q : Proving Pair) (F : Filling) (t : Batched) (r : Rounds) : Type 0 where
  pub goes : Goes pair_form q (batch_sum.sum F t) r
  pub draws : p.draws.items ≡ bound r
  pub vars : variables r ≡ places_log t.blocks
  pub memory : places_log t.blocks ≤ vec_capacity p.draws

-- it has exactly this claim, and it is true
pub record Tells (p : BitProver) (F : Filling) (b : BitValue) : Type 0 where
  pub point : p.draws.items ≡ b.point
  pub value : p.value ≡ b.value
  pub holds : extension (bits F b.blocks) b.point ≡ b.value

abbrev pub FollowsSum : BitProver → Option (Proving Pair) → Filling → Batching → Type 0
FollowsSum p q F (waiting bs m) = ⊥
FollowsSum p None F (opening bs cs) = Ready p F bs cs
FollowsSum p None F (summed (adding t r)) = ((p.batched.lambda ≡ t.lambda) × (with_claim 0 r ≡ sum_claim 2 (places_log t.blocks) [] 0)) × Ready p F t.blocks t.claims
FollowsSum p None F (summed (closed b)) = ⊥
FollowsSum p (Some q) F (opening bs cs) = ⊥
FollowsSum p (Some q) F (summed (adding t r)) = GoesOn p q F t r
FollowsSum p (Some q) F (summed (closed b)) = Tells p F b

abbrev pub FollowsBatch : BitProver → Filling → Batching → Type 0
FollowsBatch p F s = FollowsSum p p.sum F s

-- ---- a message
-- a round; or where none is left the value of the second table
pub record Gives (q : Proving Pair) (told : Option ℕ) (old new : List ℕ) : Type 0 where
  pub round : (n : ℕ) → q.left ≡ suc n → (new ≡ old ++ true_round (sum_of pair_form q) q.degree n []) × (told ≡ None)
  pub last : q.left ≡ 0 → (new ≡ old ++ second q ∷ []) × (told ≡ Some (second q))
