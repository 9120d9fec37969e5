-- The numbers of a claim's table: those of its part, and 0 elsewhere.
use Rattle.std.proofs.Common.{◌≡◌, ℕ, ◌+◌, ◌*◌, ◌%◌, ◌^◌, ◌<◌, ◌≤◌, List, [], ◌∷◌, length, map, drop, get_or, bit_xor, refl, sym, ap, subst, ◌∙◌, inl, inr, option_map, unwrap_or, arith}
use Rattle.std.proofs.lemmas.Bool.{cases_lt}
use Rattle.std.proofs.lemmas.List.{drop_all, ext_get_or, length-map}
use Rattle.std.proofs.lemmas.Nat.{div-add-mod', pow-add}
use Rattle.std.proofs.Math.Nat.{mul-le-mul_right}
use Rattle.std.specs.List.{AllByRecursion}
use Rattle.tower_laws.specs.Tower.{mul}
use Rattle.tower_laws.proofs.Field.{identity, field_terms}
use Rattle.poly_laws.specs.Polynomial.{horner}
use Rattle.cube_laws.specs.Extension.{weights}
use Rattle.cube_laws.specs.SumClaim.{AllLong}
use Rattle.cube_laws.proofs.Folding.{length-weights}
use Rattle.batch_laws.specs.Batch.{batched, zeros}
use Rattle.batch_laws.proofs.Batching.{get_or-batched, get_or-zeros, length-batched}
use Rattle.column_laws.specs.Columns.{placed}
use Rattle.column_laws.proofs.Placing.{length-placed}
use Rattle.list_laws.proofs.Lists.{drop_here}
use Rattle.sumcheck.specs.declared.column_claim.ColumnClaim.{ColumnClaim}
use Rattle.table_shape.specs.Placement.{Block, offset, places_log}
use Rattle.bit_claim.specs.Bits.{above_in, claim_table, level_in, part_in, size_in, IsPlaced}
use Rattle.bit_claim.proofs.PartSteps.{block_within, log_within}
use Rattle.bit_claim.proofs.PlacedCells.{Cells, added_none, placed_added, positive, product_at}
use Rattle.bit_claim.proofs.Standing.{held}

-- ---- the part of a claim
pub record PartFits (bs : List Block) (c : ColumnClaim) : Type 0 where
  pub size : size_in bs c ≤ places_log bs
  pub part : part_in bs c < 2 ^ above_in bs c
  pub room : part_in bs c * 2 ^ size_in bs c + 2 ^ size_in bs c ≤ 2 ^ places_log bs

pub part_fits : (bs : List Block) (c : ColumnClaim) → IsPlaced bs c → PartFits bs c
part_fits bs c h =
    let b = h.0 in
    let m = 2 ^ size_in bs c in
    let level : level_in bs c ≡ b.level = ap (λ o. unwrap_or (option_map (λ (b : Block). b.level) o) 0) h.1 in
    let log : size_in bs c ≡ b.log_bits = ap (λ l. l + length c.point) level ∙ h.2 in
    let within = block_within c.table c.column bs b h.1 in
    let all = held bs in
    let first = div-add-mod' (offset c.table c.column bs) m in
    let bits : m ≡ 2 ^ b.log_bits = ap (λ n. 2 ^ n) log in
    let size : size_in bs c ≤ places_log bs = subst (λ n. n ≤ places_log bs) (sym log) (log_within c.table c.column bs b h.1) in
    let room : part_in bs c * m + m ≤ 2 ^ places_log bs = omega (arith, first, within, all, bits) in
    let sum : places_log bs ≡ above_in bs c + size_in bs c = omega (arith, size) in
    record {
      size = size;
      part = fewer (part_in bs c) (2 ^ above_in bs c) m (positive (size_in bs c)) (subst (λ n. part_in bs c * m + m ≤ n) (ap (λ n. 2 ^ n) sum ∙ pow-add 2 (above_in bs c) (size_in bs c)) room);
      room = room;
    }
  where
    fewer : (q a m : ℕ) → 0 < m → q * m + m ≤ a * m → q < a
    fewer q a m some h = elim (cases_lt q a) [
      | inl lt ↦ lt
      | inr le ↦ let more = mul-le-mul_right m le in absurd (omega (arith, some, h, more))
    ]

-- ---- what is added to the table
pub claim_added : (bs : List Block) (c : ColumnClaim) (factor : ℕ) (old new ws : List ℕ) (first : ℕ) → IsPlaced bs c → ws ≡ map (mul factor) (weights c.point) → first ≡ part_in bs c * 2 ^ size_in bs c
    → Cells old new first (2 ^ size_in bs c) (product_at (level_in bs c) ws) → (p : ℕ) → get_or new p 0 ≡ bit_xor (get_or old p 0) (mul factor (get_or (claim_table bs c) p 0))
claim_added bs c factor old new ws first h w f cells p = placed_added (level_in bs c) (above_in bs c) (part_in bs c) c.point factor old new ws first (part_fits bs c h).part w f cells p

-- ---- the table of all claims
abbrev pub at_place : List Block → ℕ → ColumnClaim → ℕ
at_place bs p c = get_or (claim_table bs c) p 0

-- the cells with what is left of the batch are the batch
abbrev pub BatchLeft : List Block → List ColumnClaim → ℕ → ℕ → ℕ → List ℕ → Type 0
BatchLeft bs cs lambda i factor cells = (p : ℕ) → bit_xor (get_or cells p 0) (mul factor (horner (map (at_place bs p) (drop i cs)) lambda)) ≡ horner (map (at_place bs p) cs) lambda

pub batch_start : (bs : List Block) (cs : List ColumnClaim) (lambda n : ℕ) (cells : List ℕ) → cells ≡ zeros n → BatchLeft bs cs lambda 0 1 cells
batch_start bs cs lambda n cells e p = ap (λ x. bit_xor x (mul 1 (horner (map (at_place bs p) cs) lambda))) (ap (λ l. get_or l p 0) e ∙ get_or-zeros n p) ∙ from_zero (horner (map (at_place bs p) cs) lambda)
  where
    from_zero : (x : ℕ) → bit_xor 0 (mul 1 x) ≡ x
    from_zero x = identity (x ∷ []) (search field_terms depth 60 fits 20000) refl

one_more : (a f x l r : ℕ) → bit_xor (bit_xor a (mul f x)) (mul (mul f l) r) ≡ bit_xor a (mul f (bit_xor x (mul l r)))
one_more a f x l r = identity (a ∷ f ∷ x ∷ l ∷ r ∷ []) (search field_terms depth 60 fits 20000) refl

pub batch_more : (bs : List Block) (cs : List ColumnClaim) (lambda i factor next : ℕ) (c : ColumnClaim) (cells new : List ℕ) → i < length cs → c ≡ get_or cs i c → next ≡ mul factor lambda
    → ((p : ℕ) → get_or new p 0 ≡ bit_xor (get_or cells p 0) (mul factor (get_or (claim_table bs c) p 0))) → BatchLeft bs cs lambda i factor cells → BatchLeft bs cs lambda (i + 1) next new
batch_more bs cs lambda i factor next c cells new l at e added left p =
    let r = horner (map (at_place bs p) (drop (i + 1) cs)) lambda in
    (λ j. bit_xor (added p j) (mul (e j) r))
    ∙ one_more (get_or cells p 0) factor (at_place bs p c) lambda r
    ∙ ap (λ ds. bit_xor (get_or cells p 0) (mul factor (horner (map (at_place bs p) ds) lambda))) (sym (drop_here cs i c l at))
    ∙ left p

pub tables_long : (bs : List Block) (cs : List ColumnClaim) → AllByRecursion (IsPlaced bs) cs → AllLong (2 ^ places_log bs) (map (claim_table bs) cs)
tables_long bs [] h = tt
tables_long bs (c ∷ cs) h =
    let size = (part_fits bs c h.0).size in
    let all : level_in bs c + length c.point + above_in bs c ≡ places_log bs = omega (arith, size) in
    (length-placed (level_in bs c) (above_in bs c) (part_in bs c) c.point ∙ ap (λ n. 2 ^ n) all, tables_long bs cs h.1)

places_are : (bs : List Block) (p : ℕ) (cs : List ColumnClaim) → map (at_place bs p) cs ≡ map (λ t. get_or t p 0) (map (claim_table bs) cs)
places_are bs p [] = refl
places_are bs p (c ∷ cs) = ap (λ l. at_place bs p c ∷ l) (places_are bs p cs)

pub batch_done : (bs : List Block) (cs : List ColumnClaim) (lambda i factor : ℕ) (cells : List ℕ) → length cs ≤ i → length cells ≡ 2 ^ places_log bs → AllByRecursion (IsPlaced bs) cs → BatchLeft bs cs lambda i factor cells → cells ≡ batched (2 ^ places_log bs) lambda (map (claim_table bs) cs)
batch_done bs cs lambda i factor cells all long placed left =
    ext_get_or 0 cells (batched (2 ^ places_log bs) lambda (map (claim_table bs) cs)) (long ∙ sym (length-batched (2 ^ places_log bs) lambda (map (claim_table bs) cs) (tables_long bs cs placed)))
    (λ p l.
    added_none (get_or cells p 0) factor
    ∙ ap (λ ds. bit_xor (get_or cells p 0) (mul factor (horner (map (at_place bs p) ds) lambda))) (sym (drop_all i cs all))
    ∙ left p
    ∙ ap (λ l. horner l lambda) (places_are bs p cs)
    ∙ sym (get_or-batched (2 ^ places_log bs) lambda p (map (claim_table bs) cs)))

-- ---- the weights of a claim
pub bits_long : (bs : List Block) (c : ColumnClaim) (factor level : ℕ) (ws : List ℕ) → ws ≡ map (mul factor) (weights c.point) → level ≡ level_in bs c → length ws * 2 ^ level ≡ 2 ^ size_in bs c
bits_long bs c factor level ws w l =
    let swap : 2 ^ length c.point * 2 ^ level_in bs c ≡ 2 ^ level_in bs c * 2 ^ length c.point = grind arith in
    (λ i. (ap length w ∙ length-map (weights c.point) (mul factor) ∙ length-weights c.point) i * 2 ^ l i) ∙ swap ∙ sym (pow-add 2 (level_in bs c) (length c.point))

-- where the claim's part begins
pub first_is : (bs : List Block) (c : ColumnClaim) (index n level : ℕ) → index ≡ part_in bs c → n * 2 ^ level ≡ 2 ^ size_in bs c → 2 ^ size_in bs c ≤ 2 ^ 24 → index * (n * 2 ^ level % 18446744073709551616) ≡ part_in bs c * 2 ^ size_in bs c
first_is bs c index n level i e small =
    let whole : n * 2 ^ level % 18446744073709551616 ≡ n * 2 ^ level = omega (arith, e, small) in
    (λ j. i j * whole j) ∙ ap (λ m. part_in bs c * m) e
