-- The laws of parts and products of tables, of batches and of sums with eq, as statements.
-- Source: docs/LAWS.md, "batch_laws: parts of tables, and many as one".
use Rattle.std.specs.Prelude.{◌≡◌, ◌<◌, ◌≤◌, ◌+◌, ◌*◌, ◌-◌, ◌^◌, ℕ, List, [], ◌∷◌, ◌++◌, map, take, drop, length, get_or}
use Rattle.std.specs.List.{AllByRecursion}
use Rattle.tower_laws.specs.Tower.{Fits, mul}
use Rattle.tower_laws.specs.Lists.{AllFit}
use Rattle.counting_laws.specs.Counting.{AtMost}
use Rattle.poly_laws.specs.Polynomial.{horner}
use Rattle.cube_laws.specs.Sums.{tabulate}
use Rattle.cube_laws.specs.Extension.{dot, eq_points, weights, extension, fold_low, fold_all, bits_of, kron}
use Rattle.batch_laws.specs.Batch.{zeros, batched, batch_form, pair_sum, values_of, eq_sum}
use Rattle.cube_laws.specs.Form.{Form, variable, value, degree}
use Rattle.cube_laws.specs.SumClaim.{sum_at, AllLong}

-- products of tables in disjoint variables, and parts of a table by bits in its point
pub record AreParts : Type 0 where
  pub product_at : (ts es : List ℕ) (p q : ℕ) → p < length ts → get_or (kron ts es) (q * length ts + p) 0 ≡ mul (get_or ts p 0) (get_or es q 0)
  pub product_weights : (low high : List ℕ) → weights (low ++ high) ≡ kron (weights low) (weights high)
  pub product : (ts es low high : List ℕ) → length ts ≡ 2 ^ length low → extension (kron ts es) (low ++ high) ≡ mul (extension ts low) (extension es high)
  pub corner : (n p : ℕ) (table : List ℕ) → p < 2 ^ n → extension table (bits_of n p) ≡ get_or table p 0
  -- bits in the highest coordinates take one part of the table
  pub aligned : (g q : ℕ) (table z : List ℕ) → q < 2 ^ g → extension table (z ++ bits_of g q) ≡ extension (take (2 ^ length z) (drop (q * 2 ^ length z) table)) z
  pub against : (g q : ℕ) (table ts : List ℕ) → q < 2 ^ g → dot table (kron ts (weights (bits_of g q))) ≡ dot (take (length ts) (drop (q * length ts) table)) ts
  -- bits in the lowest coordinates take every 2 ^ k-th value
  pub every : (k j : ℕ) (table z : List ℕ) → j < 2 ^ k → extension (tabulate (2 ^ length z) (λ x. get_or table (x * 2 ^ k + j) 0)) z ≡ extension table (bits_of k j ++ z)
  -- the values at all bits in the lowest coordinates, set one by one
  pub list : (table rs z : List ℕ) → fold_all rs (tabulate (2 ^ length rs) (λ u. extension table (bits_of (length rs) u ++ z))) ≡ extension table (rs ++ z) ∷ []

-- many tables or claims as one
pub record AreBatches : Type 0 where
  pub at : (n a p : ℕ) (ts : List (List ℕ)) → get_or (batched n a ts) p 0 ≡ horner (map (λ t. get_or t p 0) ts) a
  pub extended : (n a : ℕ) (ts : List (List ℕ)) (z : List ℕ) → extension (batched n a ts) z ≡ horner (map (λ t. extension t z) ts) a
  -- tables that aren't all 0 batch to 0 for at most one number less than there are tables
  pub zero : (n : ℕ) (ts : List (List ℕ)) → AllLong n ts → ¬ AllByRecursion (λ t. t ≡ zeros n) ts → AtMost (length ts - 1) (λ a. batched n a ts ≡ zeros n)
  pub pair : (n : ℕ) (f g : List ℕ) → length f ≡ 2 ^ n → length g ≡ 2 ^ n → sum_at (pair_sum f g) [] n ≡ dot f g
  -- the sums of several tables against one, as one sum
  pub sum : (n a : ℕ) (ts : List (List ℕ)) (f : List ℕ) → AllLong (2 ^ n) ts → length f ≡ 2 ^ n → sum_at (pair_sum (batched (2 ^ n) a ts) f) [] n ≡ horner (map (dot f) ts) a
  pub last : (n a : ℕ) (ts : List (List ℕ)) (f r : List ℕ) → sum_at (pair_sum (batched n a ts) f) r 0 ≡ mul (horner (map (λ t. extension t r) ts) a) (extension f r)
  -- the values of one table at several points, as one sum
  pub merge : (n a : ℕ) (points : List (List ℕ)) (table : List ℕ) → AllLong n points → length table ≡ 2 ^ n
      → sum_at (pair_sum (batched (2 ^ n) a (map weights points)) table) [] n ≡ horner (map (extension table) points) a
  pub final : (n a : ℕ) (points : List (List ℕ)) (table r : List ℕ) → AllLong n points → length r ≡ n
      → sum_at (pair_sum (batched (2 ^ n) a (map weights points)) table) r 0 ≡ mul (horner (map (λ p. eq_points p r) points) a) (extension table r)

-- many forms as one
pub record AreBatchedForms : Type 0 where
  pub value_is : (a : ℕ) (fs : List Form) (xs : List ℕ) → value (batch_form a fs) xs ≡ horner (map (λ f. value f xs) fs) a
  pub degree_is : (a d : ℕ) (fs : List Form) → AllByRecursion (λ f. degree f ≤ d) fs → degree (batch_form a fs) ≤ d
  -- their values are the batch of the forms' values
  pub values_are : (n a : ℕ) (fs : List Form) (lists : List (List ℕ)) → values_of n (batch_form a fs) lists ≡ batched n a (map (λ f. values_of n f lists) fs)

-- a list that is to be 0, one coordinate set after the other
pub record AreZeros : Type 0 where
  pub coordinate : (n : ℕ) (ts : List ℕ) → length ts ≡ 2 * n → ¬ (ts ≡ zeros (2 * n)) → AtMost 1 (λ r. fold_low r ts ≡ zeros n)
  -- set at all coordinates, the list of a form's values is a sum with eq
  pub set : (z : List ℕ) (form : Form) (lists : List (List ℕ)) → AllLong (2 ^ length z) lists → fold_all z (values_of (2 ^ length z) form lists) ≡ sum_at (eq_sum z form lists) [] (length z) ∷ []

-- a form's values at a point, as a sum with eq
pub record AreEqSums : Type 0 where
  pub sum : (z : List ℕ) (form : Form) (lists : List (List ℕ)) → AllLong (2 ^ length z) lists → extension (values_of (2 ^ length z) form lists) z ≡ sum_at (eq_sum z form lists) [] (length z)
  pub final : (z r : List ℕ) (form : Form) (lists : List (List ℕ)) → length z ≡ length r → sum_at (eq_sum z form lists) r 0 ≡ mul (eq_points z r) (value form (map (λ f. extension f r) lists))
  pub degree_is : (z : List ℕ) (form : Form) (lists : List (List ℕ)) → degree (eq_sum z form lists).form ≡ degree form + 1

-- what is made from numbers of a level stays in the level
pub record StayInLevel : Type 0 where
  pub weights_fit : (i : ℕ) (z : List ℕ) → AllFit i z → AllFit i (weights z)
  pub eq_fits : (i : ℕ) (x y : List ℕ) → AllFit i x → AllFit i y → Fits i (eq_points x y)
  pub extension_fits : (i : ℕ) (table z : List ℕ) → AllFit i table → AllFit i z → Fits i (extension table z)
  pub folds_fit : (i : ℕ) (rs table : List ℕ) → AllFit i rs → AllFit i table → AllFit i (fold_all rs table)
  pub batch_fits : (i n a : ℕ) (ts : List (List ℕ)) → Fits i a → AllByRecursion (AllFit i) ts → AllFit i (batched n a ts)

-- values worked out by hand: 4 · 3 = 12 and 4 · 5 = 13; the weights of 4 are 5 and 4, and 5 · 1 + 4 · 2 = 13
pub record AreWorked : Type 0 where
  pub batch_is : batched 2 4 ((1 ∷ 2 ∷ []) ∷ (3 ∷ 5 ∷ []) ∷ []) ≡ 13 ∷ 15 ∷ []
  pub form_is : value (batch_form 4 (variable 0 ∷ variable 1 ∷ [])) (1 ∷ 3 ∷ []) ≡ 13
  pub pair_is : sum_at (pair_sum (5 ∷ 4 ∷ []) (1 ∷ 2 ∷ [])) [] 1 ≡ 13
  pub eq_sum_is : sum_at (eq_sum (4 ∷ []) (variable 0) ((1 ∷ 2 ∷ []) ∷ [])) [] 1 ≡ 13
