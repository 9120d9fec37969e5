-- Layers of products.
use Rattle.std.proofs.Common.{◌≡◌, ℕ, zero, suc, ◌+◌, ◌^◌, ◌<◌, List, [], ◌∷◌, ◌++◌, take, drop, length, get_or, bit_xor, refl, sym, ◌∙◌, ap, arith, length-take, length-drop}
use Rattle.std.proofs.lemmas.List.{get_or-take, get_or-drop}
use Rattle.tower_laws.specs.Tower.{mul}
use Rattle.tower_laws.specs.Lists.{product_all}
use Rattle.tower_laws.proofs.Field.{identity, field_terms}
use Rattle.tower_laws.proofs.Lists.{product_all-append}
use Rattle.counting_laws.specs.Counting.{AtMost}
use Rattle.counting_laws.proofs.Bounds.{at_most_from}
use Rattle.poly_laws.proofs.Polynomials.{line_poly, same_poly, same_polys}
use Rattle.cube_laws.specs.Sums.{tabulate}
use Rattle.batch_laws.specs.Batch.{values_of}
use Rattle.cube_laws.specs.Extension.{eq_points, extension}
use Rattle.cube_laws.specs.Form.{variable, times}
use Rattle.cube_laws.specs.SumClaim.{sum_at}
use Rattle.cube_laws.proofs.Coordinates.{extension_halves, extension_choice}
use Rattle.cube_laws.proofs.Degrees.{extension_poly}
use Rattle.cube_laws.proofs.Tabulate.{get_or-tabulate, tabulated, product_all-pairs}
use Rattle.cube_laws.proofs.Weights.{tabulate-same, tabulate-add, length-tabulate}
use Rattle.batch_laws.proofs.Zeros.{eq_sum_is, eq_sum_final}
use Rattle.layer_laws.specs.Layers.{halved, layer, layer_sum}

pub halves_are : (k d p : ℕ) (leaves : List ℕ) → p < 2 ^ k → get_or (layer k (suc d) leaves) p 0 ≡ mul (get_or (layer (suc k) d leaves) p 0) (get_or (layer (suc k) d leaves) (p + 2 ^ k) 0)
halves_are k d p leaves h = get_or-tabulate (2 ^ k) p (λ p. mul (get_or (layer (suc k) d leaves) p 0) (get_or (layer (suc k) d leaves) (p + 2 ^ k) 0)) h

pub length-layer : (k d : ℕ) (leaves : List ℕ) → length leaves ≡ 2 ^ (k + d) → length (layer k d leaves) ≡ 2 ^ k
length-layer k zero leaves h = let e : k + zero ≡ k = omega arith in h ∙ ap (λ n. 2 ^ n) e
length-layer k (suc d) leaves h = length-tabulate (2 ^ k) _

-- ---- layer 0
product_all-halved : (n : ℕ) (table : List ℕ) → length table ≡ n + n → product_all (halved n table) ≡ product_all table
product_all-halved n table h =
    product_all-pairs n (λ p. get_or table p 0) (λ p. get_or table (p + n) 0)
    ∙ ap (λ l. mul (product_all (tabulate n (λ p. get_or table p 0))) (product_all l)) (tabulate-same n _ (λ p. get_or table (n + p) 0) (λ p l. let e : p + n ≡ n + p = omega arith in ap (λ k. get_or table k 0) e))
    ∙ sym (product_all-append (tabulate n (λ p. get_or table p 0)) (tabulate n (λ p. get_or table (n + p) 0)))
    ∙ ap product_all (sym (tabulate-add n n (λ p. get_or table p 0)) ∙ tabulated (n + n) table h)

pub product_all-layer : (k d : ℕ) (leaves : List ℕ) → length leaves ≡ 2 ^ (k + d) → product_all (layer k d leaves) ≡ product_all leaves
product_all-layer k zero leaves h = refl
product_all-layer k (suc d) leaves h =
    let e : k + suc d ≡ suc k + d = omega arith in
    let q = h ∙ ap (λ n. 2 ^ n) e in
    let p : 2 ^ suc k ≡ 2 ^ k + 2 ^ k = omega arith in
    product_all-halved (2 ^ k) (layer (suc k) d leaves) (length-layer (suc k) d leaves q ∙ p) ∙ product_all-layer (suc k) d leaves q

one_value : (table : List ℕ) → length table ≡ 1 → extension table [] ≡ product_all table
one_value [] h = absurd (omega arith)
one_value (x ∷ []) h = identity (x ∷ []) (search field_terms depth 60 fits 20000) refl
one_value (x ∷ y ∷ table) h = absurd (omega arith)

pub layer_zero : (n : ℕ) (leaves : List ℕ) → length leaves ≡ 2 ^ n → extension (layer 0 n leaves) [] ≡ product_all leaves
layer_zero n leaves h =
    let e : n ≡ 0 + n = omega arith in
    let q = h ∙ ap (λ m. 2 ^ m) e in
    one_value (layer 0 n leaves) (length-layer 0 n leaves q) ∙ product_all-layer 0 n leaves q

-- ---- a value of a layer
halved_values : (n : ℕ) (below : List ℕ) → halved n below ≡ values_of n (times (variable 0) (variable 1)) (take n below ∷ drop n below ∷ [])
halved_values n below =
    tabulate-same n _ _ (λ p l.
    let e : p + n ≡ n + p = omega arith in
    (λ i. mul (sym (get_or-take n below p 0 l) i) ((ap (λ k. get_or below k 0) e ∙ sym (get_or-drop n below p 0)) i)))

pub layer_claim : (k d : ℕ) (leaves z : List ℕ) → length z ≡ k → length leaves ≡ 2 ^ (k + suc d) → extension (layer k (suc d) leaves) z ≡ sum_at (layer_sum k z (layer (suc k) d leaves)) [] k
layer_claim k d leaves z l h =
    let e : k + suc d ≡ suc k + d = omega arith in
    let below = layer (suc k) d leaves in
    let b = length-layer (suc k) d leaves (h ∙ ap (λ n. 2 ^ n) e) in
    let p : 2 ^ suc k ≡ 2 ^ k + 2 ^ k = omega arith in
    let q : 2 ^ k ≡ 2 ^ length z = ap (λ n. 2 ^ n) (sym l) in
    let t = length-take (2 ^ k) below in
    let d = length-drop (2 ^ k) below in
    ap (λ w. extension w z) (halved_values (2 ^ k) below)
    ∙ ap (λ n. extension (values_of n (times (variable 0) (variable 1)) (take (2 ^ k) below ∷ drop (2 ^ k) below ∷ [])) z) q
    ∙ eq_sum_is z (times (variable 0) (variable 1)) (take (2 ^ k) below ∷ drop (2 ^ k) below ∷ []) ((let m : length (take (2 ^ k) below) ≡ 2 ^ k = omega arith in m ∙ q), ((let m : length (drop (2 ^ k) below) ≡ 2 ^ k = omega arith in m ∙ q), tt))
    ∙ ap (sum_at (layer_sum k z below) []) l

low_half : (a b : ℕ) → a ≡ bit_xor (mul (bit_xor 1 0) a) (mul 0 b)
low_half a b = identity (a ∷ b ∷ []) (search field_terms depth 60 fits 20000) refl

high_half : (a b : ℕ) → b ≡ bit_xor (mul (bit_xor 1 1) a) (mul 1 b)
high_half a b = identity (a ∷ b ∷ []) (search field_terms depth 60 fits 20000) refl

pub layer_last : (k : ℕ) (z r below : List ℕ) → length z ≡ k → length r ≡ k → sum_at (layer_sum k z below) r 0 ≡ mul (eq_points z r) (mul (extension below (r ++ 0 ∷ [])) (extension below (r ++ 1 ∷ [])))
layer_last k z r below lz lr =
    let a = ap (λ n. extension (take (2 ^ n) below) r) (sym lr) ∙ low_half _ _ ∙ sym (extension_halves below r 0) in
    let b = ap (λ n. extension (drop (2 ^ n) below) r) (sym lr) ∙ high_half _ _ ∙ sym (extension_halves below r 1) in
    eq_sum_final z r (times (variable 0) (variable 1)) (take (2 ^ k) below ∷ drop (2 ^ k) below ∷ []) (lz ∙ sym lr)
    ∙ (λ i. mul (eq_points z r) (mul (a i) (b i)))

-- ---- the pair
turned : (a b c : ℕ) → bit_xor (mul (bit_xor 1 c) a) (mul c b) ≡ bit_xor (mul a (bit_xor 1 c)) (mul b c)
turned a b c = identity (a ∷ b ∷ c ∷ []) (search field_terms depth 60 fits 20000) refl

pub pair_joined : (below r : List ℕ) (c : ℕ) → extension below (r ++ c ∷ []) ≡ bit_xor (mul (extension below (r ++ 0 ∷ [])) (bit_xor 1 c)) (mul (extension below (r ++ 1 ∷ [])) c)
pair_joined below r c = extension_choice below r [] c ∙ turned (extension below (r ++ 0 ∷ [])) (extension below (r ++ 1 ∷ [])) c

pair_line : (a b c : ℕ) → bit_xor (mul a (bit_xor 1 c)) (mul b c) ≡ bit_xor a (mul (bit_xor a b) c)
pair_line a b c = identity (a ∷ b ∷ c ∷ []) (search field_terms depth 60 fits 20000) refl

at_zero : (a b : ℕ) → bit_xor (mul a (bit_xor 1 0)) (mul b 0) ≡ a
at_zero a b = identity (a ∷ b ∷ []) (search field_terms depth 60 fits 20000) refl

at_one : (a b : ℕ) → bit_xor (mul a (bit_xor 1 1)) (mul b 1) ≡ b
at_one a b = identity (a ∷ b ∷ []) (search field_terms depth 60 fits 20000) refl

pub pair_counted : (below r : List ℕ) (a b : ℕ) → ¬ ((extension below (r ++ 0 ∷ []) ≡ a) × (extension below (r ++ 1 ∷ []) ≡ b))
    → AtMost 1 (λ c. extension below (r ++ c ∷ []) ≡ bit_xor (mul a (bit_xor 1 c)) (mul b c))
pair_counted below r a b wrong =
    at_most_from (λ c. extension below (r ++ c ∷ []) ≡ bit_xor (mul a (bit_xor 1 c)) (mul b c)) 1
    (λ cs apart each more.
    let same = same_polys 1 (extension_poly below r []) (same_poly 1 (pair_line a b) (line_poly a (bit_xor a b))) cs apart each more in
    wrong (same 0 ∙ at_zero a b, same 1 ∙ at_one a b))
