-- Steps of the sum of a batch on packed words.
use Rattle.std.proofs.Common.{◌≡◌, ℕ, zero, suc, ◌+◌, ◌-◌, ◌*◌, ◌^◌, ◌<◌, ◌≤◌, Bool, true, false, cond, Some, List, [], ◌∷◌, ◌++◌, length, map, take, drop, get_or, option_map, unwrap_or, bit_xor, refl, sym, ap, subst, ◌∙◌, arith}
use Rattle.std.proofs.lemmas.List.{append-nil, append_assoc, drop_all, drop_more, ext_get_or, length-append, length-drop, length-map, length-take-le, take-append-drop, take_more}
use Rattle.std.proofs.lemmas.Nat.{pow-add}
use Rattle.std.specs.List.{AllByRecursion}
use Rattle.tower_laws.specs.Tower.{mul}
use Rattle.tower_laws.proofs.Field.{identity, field_terms}
use Rattle.tower_laws.proofs.Levels.{field_one}
use Rattle.tower_laws.proofs.Lists.{get_or-scaled}
use Rattle.tower_laws.proofs.Rules.{times_zero}
use Rattle.poly_laws.specs.Polynomial.{horner}
use Rattle.cube_laws.specs.Extension.{extension, fold_all, fold_low, kron}
use Rattle.cube_laws.specs.SumClaim.{AllLong, round_at, row}
use Rattle.cube_laws.specs.Sums.{tabulate}
use Rattle.cube_laws.proofs.Coordinates.{fold_all-append, fold_all-last, fold_all_is, folds_last, length-fold_all, map_none}
use Rattle.batch_laws.specs.Batch.{batched, pair_sum, zeros}
use Rattle.batch_laws.proofs.Batching.{get_or-batched, get_or-zeros, length-batched}
use Rattle.list_laws.proofs.Lists.{drop_here}
use Rattle.tensor_laws.specs.Tensor.{bits_of_table, column}
use Rattle.sumcheck.specs.declared.column_claim.ColumnClaim.{ColumnClaim}
use Rattle.sumcheck.specs.declared.summand.Pair.{Pair}
use Rattle.sumcheck.specs.Pair.{pair_form}
use Rattle.sumcheck.specs.Proving.{Proving, sum_of}
use Rattle.sumcheck.specs.Rounds.{true_round}
use Rattle.table_shape.specs.Placement.{Block, is_block, places_log}
use Rattle.bit_claim.specs.declared.pairs.Pairs.{Pairs}
use Rattle.bit_claim.specs.declared.part.Part.{Part}
use Rattle.bit_claim.specs.Batching.{Batched}
use Rattle.bit_claim.specs.Bits.{above_in, block_in, claim_table, level_in, part_in, size_in, IsPlaced}
use Rattle.bit_claim.specs.PackedSum.{OnWords, PackedBatch, PackedFits, high_of, high_sum, low_of, packed_proving, tables_of}
use Rattle.bit_claim.specs.Pairs.{pairs_form}
use Rattle.bit_claim.specs.Words.{high_part, low_part, part_tables, word_bits}
use Rattle.bit_claim.proofs.LowHigh.{word_bits_is}
use Rattle.bit_claim.proofs.TablePlaces.{part_fits, tables_long}
use Rattle.bit_claim.proofs.WordRounds.{length-part_tables, long_parts, rounds_agree}
use Rattle.bit_claim.proofs.WordSums.{batch_of_high, fold_low-times, length-bits_of_table, length-low_part, placed_in_parts}

-- ---- numbers
pub eight : (bs : List Block) → 8 ≤ places_log bs
eight bs = omega arith

-- words that have the places
pub words_are : (v count : ℕ) → 7 ≤ v → 128 * count ≡ 2 ^ v → count ≡ 2 ^ (v - 7)
words_are v count h e =
    let sum : v ≡ 7 + (v - 7) = omega arith in
    let p : 2 ^ v ≡ 2 ^ 7 * 2 ^ (v - 7) = ap (λ n. 2 ^ n) sum ∙ pow-add 2 7 (v - 7) in
    omega (arith, e, p)

pub all_bits : (v count : ℕ) → 128 * count ≡ 2 ^ v → 2 ^ v ≡ count * word_bits
all_bits v count e =
    let p : 2 ^ v ≡ count * 2 ^ 7 = omega (arith, e) in
    p ∙ ap (λ n. count * n) (sym word_bits_is)

-- ---- the part of a claim
level_found : (t c : ℕ) (bs : List Block) → AllByRecursion (λ (b : Block). b.level ≤ 7) bs → unwrap_or (option_map (λ (b : Block). b.level) (block_in t c bs)) 0 ≤ 7
level_found t c [] h = omega arith
level_found t c (b ∷ bs) h = go (is_block t c b) (level_found t c bs h.1)
  where
    go : (u : Bool) → unwrap_or (option_map (λ (b : Block). b.level) (block_in t c bs)) 0 ≤ 7 → unwrap_or (option_map (λ (b : Block). b.level) (cond u (Some b) (block_in t c bs))) 0 ≤ 7
    go true rest = h.0
    go false rest = rest

pub level_low : (bs : List Block) (c : ColumnClaim) → AllByRecursion (λ (b : Block). b.level ≤ 7) bs → level_in bs c ≤ 7
level_low bs c h = level_found c.table c.column bs h

pub record PartSpans (p : Part) (z : List ℕ) (count : ℕ) : Type 0 where
  pub wide : 7 ≤ p.level + length z + p.above
  pub small : p.index * 2 ^ (p.level + length z) < 2 ^ 64
  pub part : p.index < 2 ^ p.above
  pub whole : count ≡ 2 ^ (p.level + length z + p.above - 7)

abbrev pub part_of : List Block → ColumnClaim → Part
part_of bs c = record { level = level_in bs c; above = above_in bs c; index = part_in bs c }

pub all_places : (bs : List Block) (c : ColumnClaim) → IsPlaced bs c → level_in bs c + length c.point + above_in bs c ≡ places_log bs
all_places bs c placed = let size = (part_fits bs c placed).size in omega (arith, size)

pub part_spans : (bs : List Block) (c : ColumnClaim) (part : Part) (count : ℕ) → IsPlaced bs c → part ≡ part_of bs c → part.index * 2 ^ size_in bs c + 2 ^ size_in bs c ≤ 2 ^ 24 → 128 * count ≡ 2 ^ places_log bs → PartSpans part c.point count
part_spans bs c part count placed e small whole =
    let all = all_places bs c placed in
    let most = eight bs in
    let index : part.index ≡ part_in bs c = ap (λ (p : Part). p.index) e in
    let begin : part_in bs c * 2 ^ size_in bs c + 2 ^ size_in bs c ≤ 2 ^ 24 = subst (λ q. q * 2 ^ size_in bs c + 2 ^ size_in bs c ≤ 2 ^ 24) index small in
    subst (λ (p : Part). PartSpans p c.point count) (sym e)
    (record {
      wide = omega (arith, all, most);
      small = omega (arith, begin);
      part = (part_fits bs c placed).part;
      whole = words_are (places_log bs) count (omega (arith, most)) whole ∙ ap (λ n. 2 ^ (n - 7)) (sym all);
    })

-- ---- the tables for the place in a word
pub tables_more : {X : Type 0} (low high : X → List ℕ) (n lambda i f next : ℕ) (words : List ℕ) (cs : List X) (c : X) (tables new all : List (List ℕ)) → i < length cs → c ≡ get_or cs i c → next ≡ mul f lambda
    → new ≡ tables ++ map (mul f) (low c) ∷ tabulate n (column (high c) words) ∷ [] → tables ++ part_tables low high n words lambda f (drop i cs) ≡ all → new ++ part_tables low high n words lambda next (drop (i + 1) cs) ≡ all
tables_more low high n lambda i f next words cs c tables new all l at power e left =
    (λ j. e j ++ part_tables low high n words lambda (power j) (drop (i + 1) cs))
    ∙ append_assoc tables (map (mul f) (low c) ∷ tabulate n (column (high c) words) ∷ []) (part_tables low high n words lambda (mul f lambda) (drop (i + 1) cs))
    ∙ ap (λ ds. tables ++ part_tables low high n words lambda f ds) (sym (drop_here cs i c l at))
    ∙ left

pub tables_done : {X : Type 0} (low high : X → List ℕ) (n lambda i f : ℕ) (words : List ℕ) (cs : List X) (tables all : List (List ℕ)) → length cs ≤ i → tables ++ part_tables low high n words lambda f (drop i cs) ≡ all → tables ≡ all
tables_done low high n lambda i f words cs tables all l left =
    sym (append-nil tables) ∙ ap (λ ds. tables ++ part_tables low high n words lambda f ds) (sym (drop_all i cs l)) ∙ left

-- ---- the table for the words
nothing_added : (a : ℕ) → bit_xor a 0 ≡ a
nothing_added a = identity (a ∷ []) (search field_terms depth 60 fits 20000) refl

nothing_before : (a : ℕ) → bit_xor 0 a ≡ a
nothing_before a = identity (a ∷ []) (search field_terms depth 60 fits 20000) refl

added_first : (a b d : ℕ) → bit_xor (bit_xor a b) d ≡ bit_xor a (bit_xor b d)
added_first a b d = identity (a ∷ b ∷ d ∷ []) (search field_terms depth 60 fits 20000) refl

-- what is summed, with what is left of it
abbrev pub HighLeft : {X : Type 0} → (X → List ℕ) → List X → List ℕ → ℕ → List ℕ → Type 0
HighLeft high cs fs i cells = (p : ℕ) → bit_xor (get_or cells p 0) (high_sum high p (drop i cs) (drop (2 * i) fs)) ≡ high_sum high p cs fs

pub high_start : {X : Type 0} (high : X → List ℕ) (cs : List X) (fs : List ℕ) (n : ℕ) (cells : List ℕ) → cells ≡ zeros n → HighLeft high cs fs 0 cells
high_start high cs fs n cells e p =
    ap (λ v. bit_xor v (high_sum high p cs fs)) (ap (λ l. get_or l p 0) e ∙ get_or-zeros n p) ∙ nothing_before (high_sum high p cs fs)

pub high_more : {X : Type 0} (high : X → List ℕ) (cs : List X) (fs : List ℕ) (i f : ℕ) (c : X) (cells new : List ℕ) → i < length cs → c ≡ get_or cs i c → length fs ≡ 2 * length cs → f ≡ get_or fs (2 * i) 0
    → ((p : ℕ) → get_or new p 0 ≡ bit_xor (get_or cells p 0) (mul f (get_or (high c) p 0))) → HighLeft high cs fs i cells → HighLeft high cs fs (i + 1) new
high_more high cs fs i f c cells new l at two is added left p =
    let x = get_or cells p 0 in
    let y = get_or fs (2 * i + 1) 0 in
    let next : 2 * i + 1 + 1 ≡ 2 * (i + 1) = omega arith in
    let here : f ∷ y ∷ drop (2 * (i + 1)) fs ≡ drop (2 * i) fs =
    (λ j. is j ∷ y ∷ drop (sym next j) fs) ∙ ap (λ r. get_or fs (2 * i) 0 ∷ r) (sym (drop_more fs (2 * i + 1) 0 (omega (arith, l, two)))) ∙ sym (drop_more fs (2 * i) 0 (omega (arith, l, two))) in
    ap (λ v. bit_xor v (high_sum high p (drop (i + 1) cs) (drop (2 * (i + 1)) fs))) (added p)
    ∙ added_first x (mul f (get_or (high c) p 0)) (high_sum high p (drop (i + 1) cs) (drop (2 * (i + 1)) fs))
    ∙ (λ j. bit_xor x (high_sum high p (sym (drop_here cs i c l at) j) (here j)))
    ∙ left p

pub high_done : {X : Type 0} (high : X → List ℕ) (cs : List X) (fs : List ℕ) (i : ℕ) (cells : List ℕ) → length cs ≤ i → HighLeft high cs fs i cells → (p : ℕ) → get_or cells p 0 ≡ high_sum high p cs fs
high_done high cs fs i cells l left p =
    sym (nothing_added (get_or cells p 0)) ∙ ap (λ ds. bit_xor (get_or cells p 0) (high_sum high p ds (drop (2 * i) fs))) (sym (drop_all i cs l)) ∙ left p

-- ---- after the last fold
fold_all-times : (rs : List ℕ) (f : ℕ) (ts : List ℕ) → fold_all rs (map (mul f) ts) ≡ map (mul f) (fold_all rs ts)
fold_all-times [] f ts = refl
fold_all-times (r ∷ rs) f ts = ap (fold_all rs) (fold_low-times r f ts) ∙ fold_all-times rs f (fold_low r ts)

first_is : (rs : List ℕ) (f : ℕ) (ts : List ℕ) → length ts ≡ 2 ^ length rs → get_or (fold_all rs (map (mul f) ts)) 0 0 ≡ mul f (extension ts rs)
first_is rs f ts h = ap (λ l. get_or l 0 0) (fold_all-times rs f ts ∙ ap (map (mul f)) (fold_all_is ts rs h))

next_power : (f e h l r : ℕ) → bit_xor (mul (mul f e) h) (mul (mul f l) r) ≡ mul f (bit_xor (mul e h) (mul l r))
next_power f e h l r = identity (f ∷ e ∷ h ∷ l ∷ r ∷ []) (search field_terms depth 60 fits 20000) refl

module _ {X : Type 0} (low : X → List ℕ) (high : X → List ℕ) (n : ℕ) (rs words : List ℕ) (lambda : ℕ) where
  abbrev at_word : ℕ → X → ℕ
  at_word p c = mul (extension (low c) rs) (get_or (high c) p 0)

  sum_is : (p f : ℕ) (cs : List X) → AllByRecursion (λ c. length (low c) ≡ 2 ^ length rs) cs → high_sum high p cs (row (map (fold_all rs) (part_tables low high n words lambda f cs)) 0) ≡ mul f (horner (map (at_word p) cs) lambda)
  sum_is p f [] h = times_zero f
  sum_is p f (c ∷ cs) h =
      (λ j. bit_xor (mul (first_is rs f (low c) h.0 j) (get_or (high c) p 0)) (sum_is p (mul f lambda) cs h.1 j))
      ∙ next_power f (extension (low c) rs) (get_or (high c) p 0) lambda (horner (map (at_word p) cs) lambda)

  scaled_at : (p : ℕ) (cs : List X) → map (at_word p) cs ≡ map (λ t. get_or t p 0) (map (λ c. map (mul (extension (low c) rs)) (high c)) cs)
  scaled_at p [] = refl
  scaled_at p (c ∷ cs) = λ j. sym (get_or-scaled (extension (low c) rs) p (high c)) j ∷ scaled_at p cs j

  -- the sum with the first table's values is the batch with its first variables set
  pub batch_by_words : (m size : ℕ) (cs : List X) (cells : List ℕ) → size ≡ m * 2 ^ length rs → AllByRecursion (λ c. length (low c) ≡ 2 ^ length rs) cs → AllLong size (map (λ c. kron (low c) (high c)) cs)
      → length cells ≡ m → ((p : ℕ) → get_or cells p 0 ≡ high_sum high p cs (row (map (fold_all rs) (part_tables low high n words lambda 1 cs)) 0))
      → cells ≡ fold_all rs (batched size lambda (map (λ c. kron (low c) (high c)) cs))
  batch_by_words m size cs cells s lows long count is =
      let ts = map (λ c. map (mul (extension (low c) rs)) (high c)) cs in
      let set : fold_all rs (batched size lambda (map (λ c. kron (low c) (high c)) cs)) ≡ batched m lambda ts =
      ap (λ k. fold_all rs (batched k lambda (map (λ c. kron (low c) (high c)) cs))) s ∙ batch_of_high low high m lambda rs cs lows (subst (λ k. AllLong k (map (λ c. kron (low c) (high c)) cs)) s long) in
      let size_after : length (fold_all rs (batched size lambda (map (λ c. kron (low c) (high c)) cs))) ≡ m =
      length-fold_all m rs (batched size lambda (map (λ c. kron (low c) (high c)) cs)) (length-batched size lambda (map (λ c. kron (low c) (high c)) cs) long ∙ s) in
      ext_get_or 0 cells (fold_all rs (batched size lambda (map (λ c. kron (low c) (high c)) cs))) (count ∙ sym size_after)
      (λ p l.
      is p ∙ sum_is p 1 cs lows ∙ field_one (horner (map (at_word p) cs) lambda) ∙ ap (λ l. horner l lambda) (scaled_at p cs)
      ∙ sym (get_or-batched m lambda p ts)
      ∙ ap (λ l. get_or l p 0) (sym set))

-- ---- a batch on words
pub lows_long : (bs : List Block) (cs : List ColumnClaim) → AllByRecursion (λ (b : Block). b.level ≤ 7) bs → AllByRecursion (λ c. length (low_of bs c) ≡ 2 ^ 7) cs
lows_long bs [] h = tt
lows_long bs (c ∷ cs) h = (length-low_part 7 (level_in bs c) (part_in bs c) c.point (level_low bs c h), lows_long bs cs h)

all_lows : (n m : ℕ) (bs : List Block) (cs : List ColumnClaim) → n ≡ m → AllByRecursion (λ c. length (low_of bs c) ≡ n) cs → AllByRecursion (λ c. length (low_of bs c) ≡ m) cs
all_lows n m bs cs e h = subst (λ k. AllByRecursion (λ c. length (low_of bs c) ≡ k) cs) e h

pub in_parts : (bs : List Block) (cs : List ColumnClaim) → AllByRecursion (λ (b : Block). b.level ≤ 7) bs → AllByRecursion (IsPlaced bs) cs → map (claim_table bs) cs ≡ map (λ c. kron (low_of bs c) (high_of bs c)) cs
in_parts bs [] low h = refl
in_parts bs (c ∷ cs) low h =
    let all = all_places bs c h.0 in
    let most = eight bs in
    λ j. placed_in_parts 7 (level_in bs c) (above_in bs c) (part_in bs c) c.point (level_low bs c low) (omega (arith, all, most)) j ∷ in_parts bs cs low h.1 j

abbrev pub products : Batched → List (List ℕ)
products b = map (λ c. kron (low_of b.blocks c) (high_of b.blocks c)) b.claims

pub products_long : (b : Batched) (words : List ℕ) → OnWords b words → AllLong (2 ^ places_log b.blocks) (products b)
products_long b words h = subst (AllLong (2 ^ places_log b.blocks)) (in_parts b.blocks b.claims h.low h.placed) (tables_long b.blocks b.claims h.placed)

-- ---- the tables as they begin
pub tables_begin : (b : Batched) (words : List ℕ) → OnWords b words → AllLong (2 ^ 7) (tables_of b words)
tables_begin b words h =
    subst (AllLong (2 ^ 7)) (sym (map_none (tables_of b words)))
    (long_parts (low_of b.blocks) (high_of b.blocks) word_bits (2 ^ 7) [] words b.lambda 1 b.claims (word_bits_is ∙ (let e : 2 ^ 7 ≡ 2 ^ 7 * 2 ^ 0 = omega arith in e)) (all_lows (2 ^ 7) word_bits b.blocks b.claims (sym word_bits_is) (lows_long b.blocks b.claims h.low)))

pub fits_first : (b : Batched) (words : List ℕ) (room : ℕ) (parts : Proving Pairs) → OnWords b words → places_log b.blocks ≤ room → parts ≡ record { summand = record { count = length b.claims }; degree = 2; left = 7; lists = tables_of b words } → PackedFits b words [] room parts
fits_first b words room parts h r e = record {
  known = h;
  few = omega arith;
  enough = r;
  held = e ∙ ap (λ ls. record { summand = record { count = length b.claims }; degree = 2; left = 7; lists = ls }) (map_none (tables_of b words));
}

-- ---- a round
take_whole : (n : ℕ) (xs : List ℕ) → length xs ≤ n → take n xs ≡ xs
take_whole n xs h = sym (append-nil (take n xs)) ∙ ap (λ l. take n xs ++ l) (sym (drop_all n xs h)) ∙ take-append-drop n xs

abbrev part_sum : PackedBatch → List ℕ → ℕ → ℕ → ℕ
part_sum p rs a r = round_at (record { form = pairs_form (length p.batch.claims); lists = map (fold_all rs) (tables_of p.batch p.words) }) [] a r

pub round_is : (p : PackedBatch) (parts : Proving Pairs) (room n : ℕ) (old new : List ℕ) → PackedFits p.batch p.words p.draws room parts → length p.draws < 7
    → ((a : ℕ) → parts.left ≡ suc a → new ≡ old ++ true_round (sum_of (λ (s : Pairs). pairs_form s.count) parts) parts.degree a [])
    → (packed_proving p).left ≡ suc n → new ≡ old ++ true_round (sum_of pair_form (packed_proving p)) 2 n []
round_is p parts room n old new fits short made left =
    let b = p.batch in
    let k = length p.draws in
    let a = 6 - k in
    let v = places_log b.blocks in
    let most = eight b.blocks in
    let count = words_are v (length p.words) (omega (arith, most)) fits.known.whole in
    let part : word_bits ≡ 2 ^ a * 2 ^ suc k =
    let s : 7 ≡ a + suc k = omega (arith, short) in
    word_bits_is ∙ ap (λ m. 2 ^ m) s ∙ pow-add 2 a (suc k) in
    let all : length p.words * 2 ^ a ≡ 2 ^ n =
    let s : (v - 7) + a ≡ n = omega (arith, left, short, most) in
    ap (λ m. m * 2 ^ a) count ∙ sym (pow-add 2 (v - 7) a) ∙ ap (λ m. 2 ^ m) s in
    let whole = all_bits v (length p.words) fits.known.whole in
    let agree : (r : ℕ) → part_sum p p.draws a r ≡ round_at (sum_of pair_form (packed_proving p)) [] n r = λ r.
    sym (rounds_agree (low_of b.blocks) (high_of b.blocks) word_bits a n b.lambda r p.draws p.words b.claims part all
    (all_lows (2 ^ 7) word_bits b.blocks b.claims (sym word_bits_is) (lows_long b.blocks b.claims fits.known.low))
    (subst (λ m. AllLong m (products b)) whole (products_long b p.words fits.known)))
    ∙ (λ j. round_at (pair_sum (fold_all p.draws (batched (sym whole j) b.lambda (sym (in_parts b.blocks b.claims fits.known.low fits.known.placed) j))) (fold_all p.draws (bits_of_table word_bits p.words))) [] n r)
    in
    made a (ap (λ (q : Proving Pairs). q.left) fits.held ∙ (let s : 7 - k ≡ suc a = omega (arith, short) in s))
    ∙ ap (λ (q : Proving Pairs). old ++ true_round (sum_of (λ (s : Pairs). pairs_form s.count) q) q.degree a []) fits.held
    ∙ ap (λ rs. old ++ tabulate 3 (part_sum p rs a)) (take_whole 7 p.draws (omega (arith, short)))
    ∙ (λ j. old ++ tabulate 3 (λ r. agree r j))

-- ---- a draw
take_last : (n : ℕ) (xs : List ℕ) (x : ℕ) → length xs < n → take n (xs ++ x ∷ []) ≡ take n xs ++ x ∷ []
take_last n xs x h =
    let l = length-append xs (x ∷ []) in
    take_whole n (xs ++ x ∷ []) (omega (arith, l, h)) ∙ ap (λ ys. ys ++ x ∷ []) (sym (take_whole n xs (omega (arith, h))))

take_first : (n : ℕ) (xs : List ℕ) (x : ℕ) → n ≤ length xs → take n (xs ++ x ∷ []) ≡ take n xs
take_first zero xs x h = refl
take_first (suc n) [] x h = absurd (omega arith)
take_first (suc n) (y ∷ xs) x h = ap (λ l. y ∷ l) (take_first n xs x (omega arith))

pub bound_in_word : (b : Batched) (words draws : List ℕ) (room next r : ℕ) (parts after : Proving Pairs) → PackedFits b words draws room parts → length draws < places_log b.blocks → 0 < parts.left
    → after ≡ record parts { left = parts.left - 1; lists = map (fold_low r) parts.lists } → room ≤ next → PackedFits b words (draws ++ r ∷ []) next after
bound_in_word b words draws room next r parts after fits few some e more =
    let k = length-append draws (r ∷ []) in
    let left = ap (λ (q : Proving Pairs). q.left) fits.held in
    let space = fits.enough in
    let fewer : 7 - length draws - 1 ≡ 7 - length (draws ++ r ∷ []) = omega (arith, k) in
    let T = tables_of b words in
    record {
      known = fits.known;
      few = omega (arith, k, few);
      enough = omega (arith, space, more);
      held = e ∙ ap (λ (q : Proving Pairs). record q { left = q.left - 1; lists = map (fold_low r) q.lists }) fits.held
          ∙ (λ j. record { summand = record { count = length b.claims }; degree = 2; left = fewer j; lists = (folds_last (take 7 draws) r T ∙ ap (λ ds. map (fold_all ds) T) (sym (take_last 7 draws r (omega (arith, left, some))))) j });
    }

pub bound_after : (b : Batched) (words draws : List ℕ) (room next r : ℕ) (parts : Proving Pairs) → PackedFits b words draws room parts → length draws < places_log b.blocks → parts.left ≤ 0 → room ≤ next → PackedFits b words (draws ++ r ∷ []) next parts
bound_after b words draws room next r parts fits few none more =
    let k = length-append draws (r ∷ []) in
    let left = ap (λ (q : Proving Pairs). q.left) fits.held in
    let space = fits.enough in
    let fewer : 7 - length draws ≡ 7 - length (draws ++ r ∷ []) = omega (arith, k, left, none) in
    record {
      known = fits.known;
      few = omega (arith, k, few);
      enough = omega (arith, space, more);
      held = fits.held ∙ (λ j. record { summand = record { count = length b.claims }; degree = 2; left = fewer j; lists = map (fold_all (sym (take_first 7 draws r (omega (arith, left, none))) j)) (tables_of b words) });
    }

-- with one draw more
pub next_proving : (p : PackedBatch) (r : ℕ) → packed_proving (record p { draws = p.draws ++ r ∷ [] }) ≡ record (packed_proving p) { left = (packed_proving p).left - 1; lists = map (fold_low r) (packed_proving p).lists }
next_proving p r =
    let v = places_log p.batch.blocks in
    let k = length-append p.draws (r ∷ []) in
    let left : v - length (p.draws ++ r ∷ []) ≡ v - length p.draws - 1 = omega (arith, k) in
    λ j. record {
      summand = record {};
      degree = 2;
      left = left j;
      lists = fold_all-last p.draws (batched (2 ^ v) p.batch.lambda (map (claim_table p.batch.blocks) p.batch.claims)) r j ∷ fold_all-last p.draws (bits_of_table word_bits p.words) r j ∷ [];
    }

-- ---- the tables for the words
pub pushed_parts : (bs : List Block) (c : ColumnClaim) (part : Part) (factor : ℕ) (point words low sums : List ℕ) (old new : List (List ℕ)) → part ≡ part_of bs c → point ≡ c.point → low ≡ map (mul factor) (low_part 7 part.level point part.index)
    → sums ≡ tabulate word_bits (column (high_part 7 part.level point part.above part.index) words) → new ≡ old ++ low ∷ sums ∷ [] → new ≡ old ++ map (mul factor) (low_of bs c) ∷ tabulate word_bits (column (high_of bs c) words) ∷ []
pushed_parts bs c part factor point words low sums old new is at l s e =
    e
    ∙ (λ j. old ++ l j ∷ s j ∷ [])
    ∙ (λ j. old ++ map (mul factor) (low_part 7 (is j).level (at j) (is j).index) ∷ tabulate word_bits (column (high_part 7 (is j).level (at j) (is j).above (is j).index) words) ∷ [])

pub table_is : (p : PackedBatch) (parts : Proving Pairs) (room : ℕ) (finals within table : List ℕ) → PackedFits p.batch p.words p.draws room parts → 7 ≤ length p.draws → within ≡ take 7 p.draws → finals ≡ row parts.lists 0 → length table ≡ length p.words
    → ((x : ℕ) → get_or table x 0 ≡ high_sum (high_of p.batch.blocks) x p.batch.claims finals)
    → table ≡ fold_all within (batched (2 ^ places_log p.batch.blocks) p.batch.lambda (map (claim_table p.batch.blocks) p.batch.claims))
table_is p parts room finals within table fits over w f count is =
    let b = p.batch in
    let v = places_log b.blocks in
    let rs = take 7 p.draws in
    let seven : length rs ≡ 7 = length-take-le 7 p.draws over in
    let whole = fits.known.whole in
    let all : 2 ^ v ≡ length p.words * 2 ^ 7 = omega (arith, whole) in
    batch_by_words (low_of b.blocks) (high_of b.blocks) word_bits rs p.words b.lambda (length p.words) (2 ^ v) b.claims table (all ∙ ap (λ n. length p.words * 2 ^ n) (sym seven))
    (subst (λ n. AllByRecursion (λ c. length (low_of b.blocks c) ≡ 2 ^ n) b.claims) (sym seven) (lows_long b.blocks b.claims fits.known.low))
    (products_long b p.words fits.known) count
    (λ x. is x ∙ ap (high_sum (high_of b.blocks) x b.claims) (f ∙ ap (λ (q : Proving Pairs). row q.lists 0) fits.held))
    ∙ (λ j. fold_all (sym w j) (batched (2 ^ v) b.lambda (sym (in_parts b.blocks b.claims fits.known.low fits.known.placed) j)))

pub long_by_words : (b : Batched) (words within table cells : List ℕ) → OnWords b words → length within ≡ 7 → length table ≡ length words → cells ≡ fold_all within (bits_of_table word_bits words) → AllLong (2 ^ (places_log b.blocks - 7)) (table ∷ cells ∷ [])
long_by_words b words within table cells h seven count e =
    let most = eight b.blocks in
    let size = words_are (places_log b.blocks) (length words) (omega (arith, most)) h.whole in
    let bits : length (bits_of_table word_bits words) ≡ length words * 2 ^ length within =
    length-bits_of_table word_bits words ∙ ap (λ n. length words * n) word_bits_is ∙ ap (λ n. length words * 2 ^ n) (sym seven) in
    (count ∙ size, (ap length e ∙ length-fold_all (length words) within (bits_of_table word_bits words) bits ∙ size, tt))

pub by_words_is : (p : PackedBatch) (begun : Proving Pair) (within later table cells : List ℕ) → 7 ≤ length p.draws → within ≡ take 7 p.draws → later ≡ drop 7 p.draws
    → table ≡ fold_all within (batched (2 ^ places_log p.batch.blocks) p.batch.lambda (map (claim_table p.batch.blocks) p.batch.claims)) → cells ≡ fold_all within (bits_of_table word_bits p.words)
    → begun ≡ record { summand = record {}; degree = 2; left = places_log p.batch.blocks - 7; lists = table ∷ cells ∷ [] }
    → record begun { left = begun.left - length later; lists = map (fold_all later) begun.lists } ≡ packed_proving p
by_words_is p begun within later table cells over w l t c e =
    let v = places_log p.batch.blocks in
    let T = batched (2 ^ v) p.batch.lambda (map (claim_table p.batch.blocks) p.batch.claims) in
    let rest : length later ≡ length p.draws - 7 = ap length l ∙ length-drop 7 p.draws in
    let left : v - 7 - length later ≡ v - length p.draws = omega (arith, rest, over) in
    let all : within ++ later ≡ p.draws = (λ i. w i ++ l i) ∙ take-append-drop 7 p.draws in
    let one = λ (x y : List ℕ) (h : x ≡ fold_all within y). ap (fold_all later) h ∙ sym (fold_all-append within later y) ∙ ap (λ ds. fold_all ds y) all in
    ap (λ (q : Proving Pair). record q { left = q.left - length later; lists = map (fold_all later) q.lists }) e
    ∙ (λ j. record { summand = record {}; degree = 2; left = left j; lists = one table T t j ∷ one cells (bits_of_table word_bits p.words) c j ∷ [] })

pub finals_long : (b : Batched) (words draws finals : List ℕ) (room : ℕ) (parts : Proving Pairs) → PackedFits b words draws room parts → finals ≡ row parts.lists 0 → length finals ≡ 2 * length b.claims
finals_long b words draws finals room parts fits f =
    ap length (f ∙ ap (λ (q : Proving Pairs). row q.lists 0) fits.held)
    ∙ length-map (map (fold_all (take 7 draws)) (tables_of b words)) (λ l. get_or l 0 0)
    ∙ length-map (tables_of b words) (fold_all (take 7 draws))
    ∙ length-part_tables (low_of b.blocks) (high_of b.blocks) word_bits words b.lambda 1 b.claims

-- ---- draws that came before
pub bind_start : (s : Proving Pair) → s ≡ record s { left = s.left - 0; lists = map (fold_all []) s.lists }
bind_start s = let all : s.left ≡ s.left - 0 = omega arith in λ j. record s { left = all j; lists = map_none s.lists j }

pub bind_more : (s now next : Proving Pair) (draws : List ℕ) (i r : ℕ) → i < length draws → r ≡ get_or draws i r → next ≡ record now { left = now.left - 1; lists = map (fold_low r) now.lists }
    → now ≡ record s { left = s.left - i; lists = map (fold_all (take i draws)) s.lists } → next ≡ record s { left = s.left - (i + 1); lists = map (fold_all (take (i + 1) draws)) s.lists }
bind_more s now next draws i r l at e h =
    let t : take i draws ++ r ∷ [] ≡ take (i + 1) draws = sym (take_more draws i r l ∙ ap (λ x. take i draws ++ x ∷ []) (sym at)) in
    let left : s.left - i - 1 ≡ s.left - (i + 1) = omega arith in
    e
    ∙ ap (λ (q : Proving Pair). record q { left = q.left - 1; lists = map (fold_low r) q.lists }) h
    ∙ (λ j. record s { left = left j; lists = (folds_last (take i draws) r s.lists ∙ ap (λ ds. map (fold_all ds) s.lists) t) j })
