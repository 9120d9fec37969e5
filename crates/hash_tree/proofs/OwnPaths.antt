-- A tree's own path leads from its leaf to its root.
use Rattle.std.proofs.Common.{◌≡◌, ℕ, zero, suc, ◌+◌, ◌-◌, ◌*◌, ◌/◌, ◌^◌, ◌<◌, ◌≤◌, List, [], ◌++◌, get_or, length, take, refl, sym, ◌∙◌, ap, arith, append_assoc, append-nil, length-append}
use Rattle.std.proofs.Math.Nat.{div-eq_of_lt}
use Rattle.std.proofs.lemmas.List.{take_at, drop_at}
use Rattle.sha2.specs.Sha256.{sha256}
use Rattle.hash_tree.specs.Tree.{IsPath, IsRoot, beside, digest_at, digest_by_path, over, path_up_to, piece, root_by_path}
use Rattle.hash_tree.proofs.Clashing.{above_is, length-node}
use Rattle.hash_tree.proofs.Steps.{place_above}

pub length-path : (leaves : List (List ℕ)) (p h : ℕ) → length (path_up_to leaves p h) ≡ 32 * h
length-path leaves p zero = refl
length-path leaves p (suc h) =
    let a = length-append (path_up_to leaves p h) (digest_at leaves h (beside (p / 2 ^ h))) in
    let i = length-path leaves p h in
    let d = length-node leaves h (beside (p / 2 ^ h)) in
    omega arith

-- a path begins with that up to each height
begins : (leaves : List (List ℕ)) (p n h : ℕ) → (rest : List ℕ) × (path_up_to leaves p (n + h) ≡ path_up_to leaves p h ++ rest)
begins leaves p zero h = ([], (let z : 0 + h ≡ h = omega arith in ap (path_up_to leaves p) z ∙ sym (append-nil (path_up_to leaves p h))))
begins leaves p (suc n) h =
    let i = begins leaves p n h in
    let s : suc n + h ≡ suc (n + h) = omega arith in (
      i.0 ++ digest_at leaves (n + h) (beside (p / 2 ^ (n + h))),
      ap (path_up_to leaves p) s ∙ ap (λ k. k ++ digest_at leaves (n + h) (beside (p / 2 ^ (n + h)))) i.1 ∙ append_assoc (path_up_to leaves p h) i.0 (digest_at leaves (n + h) (beside (p / 2 ^ (n + h)))),
    )

piece_in : (leaves : List (List ℕ)) (p h : ℕ) (rest : List ℕ) → piece (path_up_to leaves p (suc h) ++ rest) h ≡ digest_at leaves h (beside (p / 2 ^ h))
piece_in leaves p h rest =
    ap (λ k. piece k h) (append_assoc (path_up_to leaves p h) (digest_at leaves h (beside (p / 2 ^ h))) rest)
    ∙ ap (take 32) (drop_at (path_up_to leaves p h) (digest_at leaves h (beside (p / 2 ^ h)) ++ rest) (32 * h) (length-path leaves p h))
    ∙ take_at (digest_at leaves h (beside (p / 2 ^ h))) rest 32 (length-node leaves h (beside (p / 2 ^ h)))

pub piece_is : (leaves : List (List ℕ)) (p k h : ℕ) → h < k → piece (path_up_to leaves p k) h ≡ digest_at leaves h (beside (p / 2 ^ h))
piece_is leaves p k h l =
    let b = begins leaves p (k - suc h) (suc h) in
    let e : k ≡ (k - suc h) + suc h = omega arith in
    ap (λ n. piece (path_up_to leaves p n) h) e ∙ ap (λ w. piece w h) b.1 ∙ piece_in leaves p h b.0

along : (leaves : List (List ℕ)) (p k h : ℕ) → h ≤ k → digest_by_path p (get_or leaves p []) (path_up_to leaves p k) h ≡ digest_at leaves h (p / 2 ^ h)
along leaves p k zero l = let z : p ≡ p / 2 ^ 0 = omega arith in ap (digest_at leaves 0) z
along leaves p k (suc h) l =
    let i = along leaves p k h (omega arith) in
    let s = piece_is leaves p k h (omega arith) in
    (λ n. sha256 (over (p / 2 ^ h) (i n) (s n))) ∙ above_is leaves h (p / 2 ^ h) ∙ ap (digest_at leaves (suc h)) (place_above p h)

pub own_path : (leaves : List (List ℕ)) (root path : List ℕ) (k p : ℕ) → length leaves ≡ 2 ^ k → p < length leaves → IsRoot leaves root → IsPath leaves p path → root_by_path p (get_or leaves p []) path ≡ root
own_path leaves root path k p h l r q =
    let e = q k h in
    let n = ap length e ∙ length-path leaves p k in
    let d : length path / 32 ≡ k = omega arith in
    let w : p < 2 ^ k = omega arith in
    let z = div-eq_of_lt w in
    (λ i. digest_by_path p (get_or leaves p []) (e i) (d i)) ∙ along leaves p k k (omega arith) ∙ ap (digest_at leaves k) z ∙ sym (r k h)
