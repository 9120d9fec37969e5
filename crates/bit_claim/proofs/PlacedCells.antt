-- The table of a claim: numbers at the places of its part, and 0 elsewhere.
use Rattle.std.proofs.Common.{◌≡◌, ◌≢◌, ℕ, zero, suc, ◌+◌, ◌-◌, ◌*◌, ◌/◌, ◌%◌, ◌^◌, ◌<◌, ◌≤◌, ◌==◌, true, false, List, [], ◌∷◌, length, map, get_or, bit_xor, refl, sym, ap, subst, ◌∙◌, inl, inr, ◌⊎◌, arith}
use Rattle.std.proofs.lemmas.Bool.{cases_lt, eqb-true, eq-eqb}
use Rattle.std.proofs.lemmas.List.{get_or_past, get_or-set_other, get_or-set_same, length-set}
use Rattle.std.proofs.lemmas.Nat.{div-add-mod', pow-add}
use Rattle.std.proofs.Math.Nat.{mod-lt}
use Rattle.std.specs.Prelude.{slice_set}
use Rattle.tower_laws.specs.Tower.{mul}
use Rattle.tower_laws.proofs.Field.{identity, field_terms}
use Rattle.tower_laws.proofs.Lists.{get_or-scaled}
use Rattle.tower_laws.proofs.Rules.{field_left, zero_times, times_zero, times_one}
use Rattle.cube_laws.specs.Sums.{tabulate}
use Rattle.cube_laws.specs.Extension.{bits_of, eq, eq_points, kron, weights}
use Rattle.cube_laws.proofs.EqPoints.{eq_is}
use Rattle.cube_laws.proofs.Folding.{length-bits_of, length-weights}
use Rattle.cube_laws.proofs.Kron.{get_or-kron, length-kron}
use Rattle.cube_laws.proofs.Tabulate.{get_or-tabulate}
use Rattle.cube_laws.proofs.Weights.{length-tabulate, weights_at}
use Rattle.batch_laws.proofs.Parts.{length-corner}
use Rattle.column_laws.specs.Columns.{placed}
use Rattle.cube_mle.proofs.Doubling.{weights_are}
use Rattle.list_laws.proofs.Powers.{power_bound}

-- ---- corners
bit_same : (b : ℕ) → b < 2 → bit_xor (mul b b) (mul (bit_xor 1 b) (bit_xor 1 b)) ≡ 1
bit_same zero h = identity [] (search field_terms depth 60 fits 20000) refl
bit_same (suc zero) h = identity [] (search field_terms depth 60 fits 20000) refl
bit_same (suc (suc b)) h = absurd (omega arith)

bit_other : (a b : ℕ) → a < 2 → b < 2 → a ≢ b → bit_xor (mul a b) (mul (bit_xor 1 a) (bit_xor 1 b)) ≡ 0
bit_other zero zero h k n = absurd (n refl)
bit_other zero (suc zero) h k n = identity [] (search field_terms depth 60 fits 20000) refl
bit_other (suc zero) zero h k n = identity [] (search field_terms depth 60 fits 20000) refl
bit_other (suc zero) (suc zero) h k n = absurd (n refl)
bit_other (suc (suc a)) b h k n = absurd (omega arith)
bit_other a (suc (suc b)) h k n = absurd (omega arith)

corner_here : (g q : ℕ) → eq_points (bits_of g q) (bits_of g q) ≡ 1
corner_here zero q = refl
corner_here (suc g) q = (λ i. mul (bit_same (q % 2) (omega arith) i) (corner_here g (q / 2) i)) ∙ times_one 1

corner_other : (g q r : ℕ) → q < 2 ^ g → r < 2 ^ g → q ≢ r → eq_points (bits_of g q) (bits_of g r) ≡ 0
corner_other zero q r h k n = absurd (n (omega arith))
corner_other (suc g) q r h k n =
    elim (q % 2 == r % 2) as (λ t. (q % 2 == r % 2) ≡ t → eq_points (bits_of (suc g) q) (bits_of (suc g) r) ≡ 0) [
      | true ↦ λ e.
          let same = eqb-true (q % 2) (r % 2) e in
          let twice : 2 ^ suc g ≡ 2 * 2 ^ g = omega arith in
          let rest : q / 2 ≢ r / 2 = λ d. n (omega arith) in
          ap (mul (bit_xor (mul (q % 2) (r % 2)) (mul (bit_xor 1 (q % 2)) (bit_xor 1 (r % 2))))) (corner_other g (q / 2) (r / 2) (omega arith) (omega arith) rest)
          ∙ sym (times_zero (bit_xor (mul (q % 2) (r % 2)) (mul (bit_xor 1 (q % 2)) (bit_xor 1 (r % 2)))))
      | false ↦ λ e.
          let other : q % 2 ≢ r % 2 = λ d. let no : true ≡ false = sym (eq-eqb (q % 2) (r % 2) d) ∙ e in absurd cc in
          ap (λ f. mul f (eq_points (bits_of g (q / 2)) (bits_of g (r / 2)))) (bit_other (q % 2) (r % 2) (omega arith) (omega arith) other) ∙ sym (zero_times (eq_points (bits_of g (q / 2)) (bits_of g (r / 2))))
    ] refl

corner_at : (g q r : ℕ) → r < 2 ^ g → get_or (weights (bits_of g q)) r 0 ≡ eq_points (bits_of g q) (bits_of g r)
corner_at g q r h =
    weights_at (bits_of g q) r (subst (λ n. r < 2 ^ n) (sym (length-bits_of g q)) h)
    ∙ eq_is (bits_of g q) r
    ∙ ap (λ n. eq_points (bits_of g q) (bits_of n r)) (length-bits_of g q)

-- ---- a part
abbrev powers : ℕ → List ℕ
powers i = tabulate (2 ^ i) (λ u. 2 ^ u)

abbrev local : ℕ → List ℕ → List ℕ
local i z = kron (powers i) (weights z)

length-powers : (i : ℕ) → length (powers i) ≡ 2 ^ i
length-powers i = length-tabulate (2 ^ i) (λ u. 2 ^ u)

length-local : (i : ℕ) (z : List ℕ) → length (local i z) ≡ 2 ^ (i + length z)
length-local i z =
    let p : 2 ^ (i + length z) ≡ 2 ^ i * 2 ^ length z = pow-add 2 i (length z) in
    let q : 2 ^ length z * 2 ^ i ≡ 2 ^ i * 2 ^ length z = grind arith in
    length-kron (powers i) (weights z) ∙ (λ t. length-weights z t * length-powers i t) ∙ q ∙ sym p

pub positive : (n : ℕ) → 0 < 2 ^ n
positive n = let some = power_bound 0 n (omega arith) in omega (arith, some)

local_at : (i : ℕ) (z : List ℕ) (k : ℕ) → get_or (local i z) k 0 ≡ mul (2 ^ (k % 2 ^ i)) (get_or (weights z) (k / 2 ^ i) 0)
local_at i z k =
    let below : k % 2 ^ i < 2 ^ i = mod-lt k (positive i) in
    ap (λ n. get_or (local i z) n 0) (sym (div-add-mod' k (2 ^ i)) ∙ ap (λ m. k / 2 ^ i * m + k % 2 ^ i) (sym (length-powers i)))
    ∙ get_or-kron (powers i) (weights z) (k % 2 ^ i) (k / 2 ^ i) (subst (λ m. k % 2 ^ i < m) (sym (length-powers i)) below)
    ∙ ap (λ p. mul p (get_or (weights z) (k / 2 ^ i) 0)) (get_or-tabulate (2 ^ i) (k % 2 ^ i) (λ u. 2 ^ u) below)

placed_at_part : (i g q : ℕ) (z : List ℕ) (r k : ℕ) → k < 2 ^ (i + length z) → get_or (placed i z g q) (r * 2 ^ (i + length z) + k) 0 ≡ mul (get_or (local i z) k 0) (get_or (weights (bits_of g q)) r 0)
placed_at_part i g q z r k h =
    ap (λ m. get_or (placed i z g q) (r * m + k) 0) (sym (length-local i z)) ∙ get_or-kron (local i z) (weights (bits_of g q)) k r (subst (λ m. k < m) (sym (length-local i z)) h)

placed_here : (i g q : ℕ) (z : List ℕ) (k : ℕ) → q < 2 ^ g → k < 2 ^ (i + length z) → get_or (placed i z g q) (q * 2 ^ (i + length z) + k) 0 ≡ mul (2 ^ (k % 2 ^ i)) (get_or (weights z) (k / 2 ^ i) 0)
placed_here i g q z k l h =
    placed_at_part i g q z q k h
    ∙ (λ t. mul (local_at i z k t) ((corner_at g q q l ∙ corner_here g q) t))
    ∙ times_one (mul (2 ^ (k % 2 ^ i)) (get_or (weights z) (k / 2 ^ i) 0))

other_corner : (g q r : ℕ) → q < 2 ^ g → q ≢ r → get_or (weights (bits_of g q)) r 0 ≡ 0
other_corner g q r l n = elim (cases_lt r (2 ^ g)) [
  | inl lt ↦ corner_at g q r lt ∙ corner_other g q r l lt n
  | inr le ↦ get_or_past (weights (bits_of g q)) r 0 (subst (λ m. m ≤ r) (sym (length-corner g q)) le)
]

placed_elsewhere : (i g q : ℕ) (z : List ℕ) (p : ℕ) → q < 2 ^ g → (p < q * 2 ^ (i + length z)) ⊎ (q * 2 ^ (i + length z) + 2 ^ (i + length z) ≤ p) → get_or (placed i z g q) p 0 ≡ 0
placed_elsewhere i g q z p l out =
    let m = 2 ^ (i + length z) in
    let below : p % m < m = mod-lt p (positive (i + length z)) in
    let parts = div-add-mod' p m in
    let other : q ≢ p / m = λ e. outside q m p (p % m) (ap (λ r. r * m + p % m) e ∙ parts) below out in
    ap (λ n. get_or (placed i z g q) n 0) (sym parts)
    ∙ placed_at_part i g q z (p / m) (p % m) below
    ∙ ap (mul (get_or (local i z) (p % m) 0)) (other_corner g q (p / m) l other)
    ∙ sym (times_zero (get_or (local i z) (p % m) 0))
  where
    outside : (q m p k : ℕ) → q * m + k ≡ p → k < m → (p < q * m) ⊎ (q * m + m ≤ p) → ⊥
    outside q m p k e below (inl lt) = omega (arith, e, below, lt)
    outside q m p k e below (inr le) = omega (arith, e, below, le)

-- ---- what is added to the table
-- cells of which k from the first on have had numbers added
pub record Cells (old cells : List ℕ) (first k : ℕ) (g : ℕ → ℕ) : Type 0 where
  pub long : length cells ≡ length old
  pub done : (j : ℕ) → j < k → get_or cells (first + j) 0 ≡ bit_xor (get_or old (first + j) 0) (g j)
  pub before : (p : ℕ) → p < first → get_or cells p 0 ≡ get_or old p 0
  pub after : (p : ℕ) → first + k ≤ p → get_or cells p 0 ≡ get_or old p 0

pub cells_start : (old : List ℕ) (first : ℕ) (g : ℕ → ℕ) → Cells old old first 0 g
cells_start old first g = record { long = refl; done = λ j h. absurd (omega arith); before = λ p h. refl; after = λ p h. refl }

pub cells_more : (old cells new : List ℕ) (first k v : ℕ) (g : ℕ → ℕ) → new ≡ slice_set cells (first + k) v → first + k < length cells → v ≡ bit_xor (get_or cells (first + k) 0) (g k) → Cells old cells first k g → Cells old new first (k + 1) g
cells_more old cells new first k v g e h is c = record {
  long = ap length e ∙ length-set cells (first + k) v ∙ c.long;
  done = λ j l. elim (cases_lt j k) [
    | inl lt ↦ ap (λ l. get_or l (first + j) 0) e ∙ get_or-set_other cells (first + k) (first + j) v 0 (λ d. omega arith) ∙ c.done j lt
    | inr le ↦
        let same : k ≡ j = omega arith in
        subst (λ m. get_or new (first + m) 0 ≡ bit_xor (get_or old (first + m) 0) (g m)) same
        (ap (λ l. get_or l (first + k) 0) e ∙ get_or-set_same cells (first + k) v 0 h ∙ is ∙ ap (λ x. bit_xor x (g k)) (c.after (first + k) (omega arith)))
  ];
  before = λ p l. ap (λ l. get_or l p 0) e ∙ get_or-set_other cells (first + k) p v 0 (λ d. omega arith) ∙ c.before p l;
  after = λ p l. ap (λ l. get_or l p 0) e ∙ get_or-set_other cells (first + k) p v 0 (λ d. omega arith) ∙ c.after p (omega arith);
}

-- the products of weights with powers of 2
abbrev pub product_at : ℕ → List ℕ → ℕ → ℕ
product_at level ws k = mul (2 ^ (k % 2 ^ level)) (get_or ws (k / 2 ^ level) 0)

pub cells_of : (old new ws : List ℕ) (first level size : ℕ) → length ws * 2 ^ level ≡ size → length new ≡ length old → ((k : ℕ) → k < length ws * 2 ^ level → get_or new (first + k) 0 ≡ bit_xor (get_or old (first + k) 0) (product_at level ws k))
    → ((p : ℕ) → p < first → get_or new p 0 ≡ get_or old p 0) → ((p : ℕ) → first + length ws * 2 ^ level ≤ p → get_or new p 0 ≡ get_or old p 0) → Cells old new first size (product_at level ws)
cells_of old new ws first level size e long here before after = record { long = long; done = λ k l. here k (subst (λ n. k < n) (sym e) l); before = before; after = λ p l. after p (subst (λ n. first + n ≤ p) (sym e) l) }

pub added_none : (a f : ℕ) → a ≡ bit_xor a (mul f 0)
added_none a f = identity (a ∷ f ∷ []) (search field_terms depth 60 fits 20000) refl

-- a table that had the part added is the old one plus the part's table
pub placed_added : (i g q : ℕ) (z : List ℕ) (factor : ℕ) (old new ws : List ℕ) (first : ℕ) → q < 2 ^ g → ws ≡ map (mul factor) (weights z) → first ≡ q * 2 ^ (i + length z)
    → Cells old new first (2 ^ (i + length z)) (product_at i ws) → (p : ℕ) → get_or new p 0 ≡ bit_xor (get_or old p 0) (mul factor (get_or (placed i z g q) p 0))
placed_added i g q z factor old new ws first part w f cells p =
    elim (cases_lt p first) [
      | inl lt ↦ cells.before p lt ∙ outside (inl (subst (λ n. p < n) f lt))
      | inr le ↦ elim (cases_lt p (first + size)) [
        | inl lt ↦
            let at : first + (p - first) ≡ p = omega arith in
            subst (λ r. get_or new r 0 ≡ bit_xor (get_or old r 0) (mul factor (get_or (placed i z g q) r 0))) at (inside (p - first) (omega arith))
        | inr past ↦ cells.after p past ∙ outside (inr (subst (λ n. n + size ≤ p) f past))
      ]
    ]
  where
    size : ℕ
    size = 2 ^ (i + length z)

    outside : (p < q * 2 ^ (i + length z)) ⊎ (q * 2 ^ (i + length z) + 2 ^ (i + length z) ≤ p) → get_or old p 0 ≡ bit_xor (get_or old p 0) (mul factor (get_or (placed i z g q) p 0))
    outside out = added_none (get_or old p 0) factor ∙ ap (λ v. bit_xor (get_or old p 0) (mul factor v)) (sym (placed_elsewhere i g q z p part out))

    inside : (k : ℕ) → k < 2 ^ (i + length z) → get_or new (first + k) 0 ≡ bit_xor (get_or old (first + k) 0) (mul factor (get_or (placed i z g q) (first + k) 0))
    inside k l =
        let u = 2 ^ (k % 2 ^ i) in
        let j = k / 2 ^ i in
        cells.done k l
        ∙ ap (bit_xor (get_or old (first + k) 0))
        (ap (λ l. mul u (get_or l j 0)) w ∙ ap (mul u) (get_or-scaled factor j (weights z)) ∙ field_left u factor (get_or (weights z) j 0)
        ∙ ap (mul factor) (sym (placed_here i g q z k part l) ∙ ap (λ n. get_or (placed i z g q) (n + k) 0) (sym f)))

-- ---- the weights of a point
pub weights_scaled : (factor : ℕ) (z point made ws : List ℕ) → point ≡ z → made ≡ tabulate (2 ^ length point) (eq point) → ws ≡ map (mul factor) made → ws ≡ map (mul factor) (weights z)
weights_scaled factor z point made ws at m w = w ∙ ap (map (mul factor)) (m ∙ sym (weights_are point) ∙ ap weights at)
