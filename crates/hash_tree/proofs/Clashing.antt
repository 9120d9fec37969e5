-- Two lines of digests that part at a leaf and meet at the root.
use Rattle.std.proofs.Common.{◌≡◌, ◌≢◌, ℕ, zero, suc, ◌+◌, ◌*◌, ◌/◌, ◌%◌, ◌^◌, ◌≤◌, List, [], ◌∷◌, ◌++◌, Bool, true, false, cond, eqb, get_or, length, take, drop, ◌<◌, ◌⊎◌, inl, inr, subst, refl, sym, ◌∙◌, ap, arith}
use Rattle.std.proofs.lemmas.List.{take_at, drop_at, length-take, length-drop}
use Rattle.std.proofs.lemmas.Bool.{cases_lt}
use Rattle.sha2.specs.Sha256.{sha256}
use Rattle.sha2.proofs.Facts256.{length-sha256}
use Rattle.hash_tree.specs.Tree.{over, beside, digest_at, digest_by_path, piece, node_bytes}
use Rattle.hash_tree.specs.Clash.{Meets}

-- the bytes over a node are those of the node over it and the one beside it
pub above_is : (leaves : List (List ℕ)) (h p : ℕ) → sha256 (over p (digest_at leaves h p) (digest_at leaves h (beside p))) ≡ digest_at leaves (suc h) (p / 2)
above_is leaves h p = go (p % 2) refl
  where
    go : (r : ℕ) → p % 2 ≡ r → sha256 (cond (eqb (p % 2) 1) (node_bytes (digest_at leaves h (beside p)) (digest_at leaves h p)) (node_bytes (digest_at leaves h p) (digest_at leaves h (beside p)))) ≡ digest_at leaves (suc h) (p / 2)
    go zero e =
        let a : p ≡ 2 * (p / 2) = omega arith in
        let b : beside p ≡ 2 * (p / 2) + 1 = omega arith in
        (λ i. sha256 (cond (eqb (e i) 1) (node_bytes (digest_at leaves h (b i)) (digest_at leaves h (a i))) (node_bytes (digest_at leaves h (a i)) (digest_at leaves h (b i)))))
    go (suc zero) e =
        let a : p ≡ 2 * (p / 2) + 1 = omega arith in
        let b : beside p ≡ 2 * (p / 2) = omega arith in
        (λ i. sha256 (cond (eqb (e i) 1) (node_bytes (digest_at leaves h (b i)) (digest_at leaves h (a i))) (node_bytes (digest_at leaves h (a i)) (digest_at leaves h (b i)))))
    go (suc (suc r)) e = absurd (omega arith)

first_parts : (a b c d : List ℕ) → length a ≡ 32 → length c ≡ 32 → a ++ b ≡ c ++ d → a ≡ c
first_parts a b c d h k e = sym (take_at a b 32 h) ∙ ap (take 32) e ∙ take_at c d 32 k

last_parts : (a b c d : List ℕ) → length a ≡ 32 → length c ≡ 32 → a ++ b ≡ c ++ d → b ≡ d
last_parts a b c d h k e = sym (drop_at a b 32 h) ∙ ap (drop 32) e ∙ drop_at c d 32 k

-- the bytes over two digests that differ are different
pub above_apart : (p : ℕ) (d s e t : List ℕ) → length d ≡ 32 → length s ≡ 32 → length e ≡ 32 → length t ≡ 32 → d ≢ e → over p d s ≢ over p e t
above_apart p d s e t hd hs he ht ne = go (eqb (p % 2) 1)
  where
    go : (b : Bool) → cond b (node_bytes s d) (node_bytes d s) ≢ cond b (node_bytes t e) (node_bytes e t)
    go true q = ne (last_parts s d t e hs ht (ap (drop 1) q))
    go false q = ne (first_parts d s e t hd he (ap (drop 1) q))

pub length-node : (leaves : List (List ℕ)) (h p : ℕ) → length (digest_at leaves h p) ≡ 32
length-node leaves zero p = length-sha256 (0 ∷ get_or leaves p [])
length-node leaves (suc h) p = length-sha256 (node_bytes (digest_at leaves h (2 * p)) (digest_at leaves h (2 * p + 1)))

pub length-digest_by_path : (index : ℕ) (leaf path : List ℕ) (h : ℕ) → length (digest_by_path index leaf path h) ≡ 32
length-digest_by_path index leaf path zero = length-sha256 (0 ∷ leaf)
length-digest_by_path index leaf path (suc h) = length-sha256 (over (index / 2 ^ h) (digest_by_path index leaf path h) (piece path h))

-- two lines that differ at one height and meet at the next
pub clash_is : (leaves : List (List ℕ)) (h p : ℕ) (own s d t kept found new node : List ℕ) → own ≡ digest_at leaves h p → s ≡ digest_at leaves h (beside p) → kept ≡ over p own s → found ≡ over p d t
    → length d ≡ 32 → length t ≡ 32 → d ≢ digest_at leaves h p → new ≡ sha256 found → node ≡ digest_at leaves (h + 1) (p / 2) → new ≡ node
    → (kept ≢ found) × (sha256 kept ≡ sha256 found)
clash_is leaves h p own s d t kept found new node e1 e2 ek ef l3 l4 ne en em same =
    let n : suc h ≡ h + 1 = omega arith in (
      (λ q. above_apart p own s d t (ap length e1 ∙ length-node leaves h p) (ap length e2 ∙ length-node leaves h (beside p)) l3 l4 (λ z. ne (sym z ∙ e1)) (sym ek ∙ q ∙ ef)),
      ap sha256 ek ∙ (λ i. sha256 (over p (e1 i) (e2 i))) ∙ above_is leaves h p ∙ ap (λ k. digest_at leaves k (p / 2)) n ∙ sym em ∙ sym same ∙ en,
    )

-- a piece of a path that is long enough
pub length-piece : (path : List ℕ) (h : ℕ) → 32 * h + 32 ≤ length path → length (piece path h) ≡ 32
length-piece path h l = length-take 32 (drop (32 * h) path) ∙ (let d = length-drop (32 * h) path in omega arith)

-- a path whose digest isn't the tree's at the leaf
pub apart_first : (leaves : List (List ℕ)) (index : ℕ) (leaf path d own : List ℕ) → index < length leaves → d ≡ digest_by_path index leaf path 0 → own ≡ digest_at leaves 0 index → d ≢ own
    → (k : ℕ) → k ≤ 0 → ¬ Meets leaves index leaf path k
apart_first leaves index leaf path d own l e f ne zero m q =
    let z : index / 2 ^ 0 ≡ index = omega arith in
    ne (e ∙ q ∙ ap (digest_at leaves 0) z ∙ sym f)
apart_first leaves index leaf path d own l e f ne (suc k) m q = absurd (omega arith)

-- nor one height higher
pub apart_more : (leaves : List (List ℕ)) (index : ℕ) (leaf path : List ℕ) (h : ℕ) → ((k : ℕ) → k ≤ h → ¬ Meets leaves index leaf path k) → ¬ Meets leaves index leaf path (h + 1)
    → (k : ℕ) → k ≤ h + 1 → ¬ Meets leaves index leaf path k
apart_more leaves index leaf path h below here k m = go (cases_lt h k)
  where
    go : (h < k) ⊎ (k ≤ h) → ¬ Meets leaves index leaf path k
    go (inl l) q = let e : k ≡ h + 1 = omega arith in here (subst (Meets leaves index leaf path) e q)
    go (inr l) q = below k l q
