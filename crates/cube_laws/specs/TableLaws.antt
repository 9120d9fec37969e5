-- The laws of tables at points, as statements.
-- Source: docs/LAWS.md, "cube_laws: tables over cubes".
use Rattle.std.specs.Prelude.{◌≡◌, ◌<◌, ◌+◌, ◌*◌, ◌^◌, ℕ, suc, List, [], ◌∷◌, ◌++◌, map, take, drop, length, get_or, bit_xor}
use Rattle.tower_laws.specs.Tower.{mul}
use Rattle.tower_laws.specs.Lists.{product_all, sums}
use Rattle.cube_laws.specs.Sums.{sum_to, tabulate}
use Rattle.cube_laws.specs.Extension.{eq, eq_points, weights, extension, fold_all, bits_of, kron}
use Rattle.cube_laws.specs.Form.{Form}
use Rattle.cube_laws.specs.SumClaim.{Sum, summand, sum_at, AllLong}

-- values worked out by hand: 4 · 2 = 8 and 5 · 3 = 15, so eq of 4 and 2 is 7; 7 · 7 = 11; 2 · 2 = 3 and 2 · 3 = 1
pub record AreWorkedTables : Type 0 where
  pub eq_of_numbers : eq_points (4 ∷ []) (2 ∷ []) ≡ 7
  pub eq_of_points : eq_points (4 ∷ 4 ∷ []) (2 ∷ 2 ∷ []) ≡ 11
  pub sums_are : sums (1 ∷ 2 ∷ 3 ∷ []) (3 ∷ []) ≡ 2 ∷ 2 ∷ 3 ∷ []
  pub product_is : kron (2 ∷ 3 ∷ []) (1 ∷ 2 ∷ []) ≡ 2 ∷ 3 ∷ 3 ∷ 1 ∷ []
  pub fold_is : fold_all (4 ∷ 2 ∷ []) (1 ∷ 2 ∷ 3 ∷ 5 ∷ []) ≡ 8 ∷ []

-- lists that a function of the place tells
pub record AreTabulated : Type 0 where
  pub at : (n k : ℕ) (f : ℕ → ℕ) → k < n → get_or (tabulate n f) k 0 ≡ f k
  pub longer : (n : ℕ) (f : ℕ → ℕ) → tabulate (suc n) f ≡ tabulate n f ++ f n ∷ []
  pub joined : (m n : ℕ) (f : ℕ → ℕ) → tabulate (m + n) f ≡ tabulate m f ++ tabulate n (λ k. f (m + k))
  pub entries : (n : ℕ) (f : ℕ → ℕ) (xs : List ℕ) → length xs ≡ n → ((k : ℕ) → k < n → get_or xs k 0 ≡ f k) → xs ≡ tabulate n f
  pub products : (n : ℕ) (f g : ℕ → ℕ) → product_all (tabulate n (λ k. mul (f k) (g k))) ≡ mul (product_all (tabulate n f)) (product_all (tabulate n g))

-- eq of two points, a corner being the point of its bits
pub record IsEq : Type 0 where
  pub corner : (z : List ℕ) (p : ℕ) → eq z p ≡ eq_points z (bits_of (length z) p)
  pub extension_is : (table z : List ℕ) → extension table z ≡ sum_to (2 ^ length z) (λ p. mul (get_or table p 0) (eq_points z (bits_of (length z) p)))
  pub symmetric : (x y : List ℕ) → eq_points x y ≡ eq_points y x
  pub joined : (x y u v : List ℕ) → length x ≡ length u → eq_points (x ++ y) (u ++ v) ≡ mul (eq_points x u) (eq_points y v)
  pub weights_are : (z : List ℕ) → weights z ≡ tabulate (2 ^ length z) (eq z)
  -- the extension of eq's table
  pub table : (z r : List ℕ) → length z ≡ length r → extension (weights z) r ≡ eq_points z r

-- coordinates of a point, set one by one
pub record AreCoordinates : Type 0 where
  -- the last coordinate chooses between the two halves of the table
  pub halves : (table low : List ℕ) (x : ℕ)
      → extension table (low ++ x ∷ []) ≡ bit_xor (mul (bit_xor 1 x) (extension (take (2 ^ length low) table) low)) (mul x (extension (drop (2 ^ length low) table) low))
  -- in each coordinate an extension is a line
  pub line : (table before after : List ℕ) (x : ℕ)
      → extension table (before ++ x ∷ after) ≡ bit_xor (mul (bit_xor 1 x) (extension table (before ++ 0 ∷ after))) (mul x (extension table (before ++ 1 ∷ after)))
  pub folds : (rs ss table : List ℕ) → fold_all (rs ++ ss) table ≡ fold_all ss (fold_all rs table)
  -- folds set the first coordinates
  pub first : (m : ℕ) (table rs z : List ℕ) → length table ≡ m * 2 ^ length rs → extension (fold_all rs table) z ≡ extension table (rs ++ z)
  -- and at last all of them
  pub all : (table z : List ℕ) → length table ≡ 2 ^ length z → fold_all z table ≡ extension table z ∷ []

-- extensions are linear in the table
pub record AreLinear : Type 0 where
  pub multiple : (c : ℕ) (table z : List ℕ) → extension (map (mul c) table) z ≡ mul c (extension table z)
  pub sum : (f g z : List ℕ) → extension (sums f g) z ≡ bit_xor (extension f z) (extension g z)
  pub constant : (c : ℕ) (z : List ℕ) → extension (tabulate (2 ^ length z) (λ p. c)) z ≡ c
  pub zero : (n : ℕ) (z : List ℕ) → extension (tabulate n (λ p. 0)) z ≡ 0
  pub exchange : (m n : ℕ) (f : ℕ → ℕ → ℕ) → sum_to m (λ i. sum_to n (λ j. f i j)) ≡ sum_to n (λ j. sum_to m (λ i. f i j))

-- sums over a cube whose first variables are set
pub record AreSetSums : Type 0 where
  -- with some variables set, the sum is that of the folded tables
  pub first : (m left : ℕ) (form : Form) (lists : List (List ℕ)) (rs rest : List ℕ) → AllLong (m * 2 ^ length rs) lists
      → sum_at (record { form = form; lists = lists }) (rs ++ rest) left ≡ sum_at (record { form = form; lists = map (fold_all rs) lists }) rest left
  -- with none left, it is the form's value
  pub all : (s : Sum) (r : List ℕ) → sum_at s r 0 ≡ summand s r
