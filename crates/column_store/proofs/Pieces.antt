-- The values of forms, as they are computed.
use Rattle.std.proofs.Common.{◌≡◌, ℕ, ◌+◌, ◌*◌, ◌%◌, ◌^◌, ◌<◌, ◌≤◌, List, [], length, map, drop, get_or, bit_xor, sym, ap, ◌∙◌, arith}
use Rattle.std.proofs.lemmas.Nat.{one_shl, shl_whole, pow_pos, pow-add}
use Rattle.std.proofs.lemmas.List.{drop_all, get_or-map}
use Rattle.std.specs.Int.Bits.{xor_assoc}
use Rattle.column_store.specs.Column.{ColumnValues, list_of, lists}
use Rattle.tower_laws.specs.Lists.{sum_all}
use Rattle.tower_laws.proofs.Rules.{plus_zero}
use Rattle.table_shape.specs.declared.shape.ShapeTerm.{ShapeTerm}
use Rattle.list_laws.proofs.Lists.{drop_here}
use Rattle.list_laws.proofs.Powers.{power_bound}

-- place u of 2 ^ log parts of 2 ^ level bits each
pub part_below : (level log u e : ℕ) → level + log ≤ 7 → e ≡ 1 * 2 ^ log % 18446744073709551616 → u < e → (u < 2 ^ log) × (u * 2 ^ level + 2 ^ level ≤ 128)
part_below level log u e h is lt =
    let w = one_shl log 64 (omega arith) in
    let below : u < 2 ^ log = omega arith in
    let p : 2 ^ (level + log) ≡ 2 ^ level * 2 ^ log = pow-add 2 level log in
    let b : 2 ^ (level + log) ≤ 2 ^ 7 = power_bound (level + log) 7 h in
    (below, let g = more u (2 ^ log) (2 ^ level) below in omega arith)
  where
    more : (u m c : ℕ) → u < m → u * c + c ≤ c * m
    more u m c l = grind arith

pub part_shift : (level log u : ℕ) → level + log ≤ 7 → u < 2 ^ log → (u * 2 ^ level % 18446744073709551616 ≡ u * 2 ^ level) × (1 * 2 ^ (u * 2 ^ level) % 2 ^ 128 ≡ 2 ^ (u * 2 ^ level))
part_shift level log u h lt =
    let p : 2 ^ (level + log) ≡ 2 ^ level * 2 ^ log = pow-add 2 level log in
    let b : 2 ^ (level + log) ≤ 2 ^ 7 = power_bound (level + log) 7 h in
    let g = more u (2 ^ log) (2 ^ level) lt in
    let z = pow_pos level in
    (small (u * 2 ^ level) (omega arith), one_shl (u * 2 ^ level) 128 (omega arith))
  where
    more : (u m c : ℕ) → u < m → u * c + c ≤ c * m
    more u m c l = grind arith

    small : (n : ℕ) → n < 128 → n % 18446744073709551616 ≡ n
    small n h = omega arith

pub no_wrap : (position log : ℕ) → position < 2 ^ 32 → log ≤ 7 → position * 2 ^ log % 18446744073709551616 ≡ position * 2 ^ log
no_wrap position log h l = shl_whole position 32 log 64 h (omega arith)

-- ---- a sum over terms, from the front

pub terms_more : (f : ShapeTerm → ℕ) (terms : List ShapeTerm) (i : ℕ) (term : ShapeTerm) (sum v next total : ℕ) → i < length terms → term ≡ get_or terms i term → v ≡ f term → next ≡ bit_xor sum v
    → bit_xor sum (sum_all (map f (drop i terms))) ≡ total → bit_xor next (sum_all (map f (drop (i + 1) terms))) ≡ total
terms_more f terms i term sum v next total h is ev en so_far =
    let rest : ℕ = sum_all (map f (drop (i + 1) terms)) in
    ap (λ n. bit_xor n rest) (en ∙ ap (bit_xor sum) ev) ∙ xor_assoc sum (f term) rest
    ∙ ap (λ ts. bit_xor sum (sum_all (map f ts))) (sym (drop_here terms i term h is)) ∙ so_far

pub terms_done : (f : ShapeTerm → ℕ) (terms : List ShapeTerm) (i sum total : ℕ) → length terms ≤ i → bit_xor sum (sum_all (map f (drop i terms))) ≡ total → sum ≡ total
terms_done f terms i sum total h so_far = sym (plus_zero sum) ∙ ap (λ ts. bit_xor sum (sum_all (map f ts))) (sym (drop_all i terms h)) ∙ so_far

-- ---- columns

pub list_at : (columns : List ColumnValues) (c : ℕ) (column : ColumnValues) → c < length columns → column ≡ get_or columns c column → list_of (lists columns) c ≡ column.values
list_at columns c column h is = get_or-map (λ (k : ColumnValues). k.values) columns c column [] h ∙ ap (λ (k : ColumnValues). k.values) (sym is)
