-- Pending claims as data: what the truth of each depends on beside the shape, the row counts and the filling.
-- Source: docs/REDUCTIONS.md, "Claims".
use Rattle.std.specs.Prelude.{ℕ, List}
use Rattle.sumcheck.specs.declared.column_claim.ColumnClaim.{ColumnClaim}
use Rattle.sumcheck.specs.declared.pending.SumOf.{SumOf}
use Rattle.sumcheck.specs.declared.pending.SumOf.TheVariants as terms
use Rattle.sumcheck.specs.declared.pending.Pending.{Pending}
use Rattle.sumcheck.specs.declared.pending.Pending.TheVariants as pending

-- which sum a claim is about
pub data Terms : Type 0 where
  layer_terms : (table flush alpha gamma layer : ℕ) → (point : List ℕ) → Terms
  leaf_terms : (table flush alpha gamma : ℕ) → (point : List ℕ) → Terms
  zero_terms : (table log_values beta : ℕ) → (point : List ℕ) → Terms
  merge_terms : (claims : List ColumnClaim) → (mu : ℕ) → Terms
  shift_terms : (table column : ℕ) → (point : List ℕ) → Terms
  bit_terms : (claims : List ColumnClaim) → (lambda : ℕ) → Terms
  switch_terms : (high combine : List ℕ) → Terms

pub data Claim : Type 0 where
  balance : Claim
  collapsed : (alpha : ℕ) → Claim
  products : (alpha gamma : ℕ) → Claim
  flush_product : (table flush alpha gamma value : ℕ) → Claim
  layer_pair : (table flush alpha gamma layer : ℕ) → (point : List ℕ) → (low high : ℕ) → Claim
  group : (table log_values : ℕ) → Claim
  zero_vector : (table log_values beta : ℕ) → (prefix : List ℕ) → Claim
  sum_value : Terms → (prefix : List ℕ) → (value : ℕ) → Claim
  round_values : Terms → (prefix values : List ℕ) → Claim
  column_value : ColumnClaim → Claim
  column_list : (table column : ℕ) → (point prefix values : List ℕ) → Claim
  bit_value : (point : List ℕ) → (value : ℕ) → Claim
  row_values : (high prefix values : List ℕ) → Claim
  packed_value : (point : List ℕ) → (value : ℕ) → Claim

-- the data of what the program answers
abbrev pub terms_of : SumOf → Terms
terms_of (terms.Layer table flush alpha gamma layer point) = layer_terms table flush alpha gamma layer point.now
terms_of (terms.Leaf table flush alpha gamma point) = leaf_terms table flush alpha gamma point.now
terms_of (terms.Zero table log_values beta point) = zero_terms table log_values beta point.now
terms_of (terms.Merge claims mu) = merge_terms claims.now mu
terms_of (terms.Shift table column point) = shift_terms table column point.now
terms_of (terms.Bits claims lambda) = bit_terms claims.now lambda
terms_of (terms.Switch high combine) = switch_terms high.now combine.now

abbrev pub claim_of : Pending → Claim
claim_of pending.Balance = balance
claim_of (pending.Collapsed alpha) = collapsed alpha
claim_of (pending.Products alpha gamma) = products alpha gamma
claim_of (pending.FlushProduct table flush alpha gamma value) = flush_product table flush alpha gamma value
claim_of (pending.LayerPair table flush alpha gamma layer point low high) = layer_pair table flush alpha gamma layer point.now low high
claim_of (pending.Group table log_values) = group table log_values
claim_of (pending.ZeroVector table log_values beta prefix) = zero_vector table log_values beta prefix.now
claim_of (pending.Sum terms prefix value) = sum_value (terms_of terms) prefix.now value
claim_of (pending.Round terms prefix values) = round_values (terms_of terms) prefix.now values.now
claim_of (pending.Column claim) = column_value claim.now
claim_of (pending.ColumnList table column point prefix values) = column_list table column point.now prefix.now values.now
claim_of (pending.Bit point value) = bit_value point.now value
claim_of (pending.Rows high prefix values) = row_values high.now prefix.now values.now
claim_of (pending.Packed point value) = packed_value point.now value
