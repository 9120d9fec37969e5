-- Words of zeros, and sums of words.
use Rattle.std.proofs.Common.{◌≡◌, ℕ, ◌*◌, ◌/◌, ◌%◌, ◌^◌, ◌<◌, ◌≤◌, List, length, get_or, bit_xor, sym, ◌∙◌, ap, subst, arith}
use Rattle.std.proofs.Math.Nat.{mod-eq_of_lt, zero-div}
use Rattle.std.proofs.lemmas.Nat.{pow_pos, xor_mod, xor_shr}
use Rattle.std.proofs.lemmas.List.{get_or-take}
use Rattle.cube_laws.specs.Sums.{tabulate}
use Rattle.cube_laws.proofs.Tabulate.{entries}
use Rattle.packed_words.specs.Packing.{per_word, element_at, lane, lanes}
use Rattle.packed_words.proofs.Packed.{lane_at, word_lt}
use Rattle.column_store.specs.Column.{ColumnValues, packed_values, IsPacked}
use Rattle.column_store.proofs.Words.{stored, column_len, length-packed}

packed_at : (level count p : ℕ) (words : List ℕ) → IsPacked level count words → p < count → get_or (packed_values level count words) p 0 ≡ lane level words p
packed_at level count p words h below =
    let e = h.enough in
    get_or-take count (lanes level (length words) words) p 0 below ∙ lane_at level (length words) p words (omega arith)

-- the values of a column whose words change, as many as before
changed_values : (level count : ℕ) (words next : List ℕ) (f : ℕ → ℕ) (now : ColumnValues) → IsPacked level count words → stored level (packed_values level count words) ≡ now → length next ≡ length words
    → ((p : ℕ) → p < count → lane level next p ≡ f p) → stored level (packed_values level count next) ≡ stored now.level (tabulate (length now.values) f)
changed_values level count words next f now h view long is =
    let len = column_len level count words now h view in
    let levels : level ≡ now.level = ap (λ (c : ColumnValues). c.level) view in
    let packed : IsPacked level count next = record { is_a_level = h.is_a_level; enough = subst (λ n. count ≤ n * per_word level) (sym long) h.enough } in
    let values : packed_values level count next ≡ tabulate (length now.values) f =
    entries count f (packed_values level count next) (length-packed level count next packed) (λ p l. packed_at level count p next packed l ∙ is p l)
    ∙ ap (λ n. tabulate n f) len in
    λ k. stored (levels k) (values k)

nothing : (i q : ℕ) → element_at i 0 q ≡ 0
nothing i q = ap (λ w. w % 2 ^ (2 ^ i)) (zero-div (2 ^ (2 ^ i * q))) ∙ mod-eq_of_lt (pow_pos (2 ^ i))

pub column_clear : (level count : ℕ) (words next : List ℕ) (now : ColumnValues) → IsPacked level count words → stored level (packed_values level count words) ≡ now → length next ≡ length words
    → ((k : ℕ) → k < length words → get_or next k 0 ≡ 0) → stored level (packed_values level count next) ≡ stored now.level (tabulate (length now.values) (λ _. 0))
column_clear level count words next now h view long is =
    changed_values level count words next (λ _. 0) now h view long (λ p l.
    let e = h.enough in
    ap (λ w. element_at level w (p % per_word level)) (is (p / per_word level) (word_lt level (length words) p (omega arith))) ∙ nothing level (p % per_word level))

-- the lanes of sums of words
lane_sum : (level p : ℕ) (xs ys zs : List ℕ) → get_or zs (p / per_word level) 0 ≡ bit_xor (get_or xs (p / per_word level) 0) (get_or ys (p / per_word level) 0) → lane level zs p ≡ bit_xor (lane level xs p) (lane level ys p)
lane_sum level p xs ys zs e =
    let t : ℕ = 2 ^ (2 ^ level * (p % per_word level)) in
    ap (λ w. w / t % 2 ^ (2 ^ level)) e
    ∙ ap (λ w. w % 2 ^ (2 ^ level)) (xor_shr (get_or xs (p / per_word level) 0) (get_or ys (p / per_word level) 0) (2 ^ level * (p % per_word level)))
    ∙ xor_mod (get_or xs (p / per_word level) 0 / t) (get_or ys (p / per_word level) 0 / t) (2 ^ level)

pub column_add : (level count : ℕ) (words next : List ℕ) (now : ColumnValues) (level' count' : ℕ) (others : List ℕ) (other : ColumnValues)
    → IsPacked level count words → stored level (packed_values level count words) ≡ now → IsPacked level' count' others → stored level' (packed_values level' count' others) ≡ other
    → other.level ≡ now.level → length now.values ≤ length other.values → length next ≡ length words
    → ((k : ℕ) → k < length words → get_or next k 0 ≡ bit_xor (get_or words k 0) (get_or others k 0))
    → stored level (packed_values level count next) ≡ stored now.level (tabulate (length now.values) (λ p. bit_xor (get_or now.values p 0) (get_or other.values p 0)))
column_add level count words next now level' count' others other h view h' view' same many long is =
    let len = column_len level count words now h view in
    let len' = column_len level' count' others other h' view' in
    let levels : level ≡ now.level = ap (λ (c : ColumnValues). c.level) view in
    let levels' : level' ≡ other.level = ap (λ (c : ColumnValues). c.level) view' in
    let one : level' ≡ level = levels' ∙ same ∙ sym levels in
    changed_values level count words next (λ p. bit_xor (get_or now.values p 0) (get_or other.values p 0)) now h view long (λ p l.
    let e = h.enough in
    let here : p / per_word level < length words = word_lt level (length words) p (omega arith) in
    let own : lane level words p ≡ get_or now.values p 0 = sym (packed_at level count p words h l) ∙ ap (λ (c : ColumnValues). get_or c.values p 0) view in
    let theirs : lane level others p ≡ get_or other.values p 0 = ap (λ i. lane i others p) (sym one) ∙ sym (packed_at level' count' p others h' (omega arith)) ∙ ap (λ (c : ColumnValues). get_or c.values p 0) view' in
    lane_sum level p words others next (is (p / per_word level) here) ∙ (λ j. bit_xor (own j) (theirs j)))
