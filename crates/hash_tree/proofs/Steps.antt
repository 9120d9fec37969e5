-- Steps of the walks along a path.
use Rattle.std.proofs.Common.{◌≡◌, ℕ, suc, ◌+◌, ◌-◌, ◌*◌, ◌/◌, ◌^◌, List, ◌++◌, length, take, drop, ◌∙◌, ap, arith}
use Rattle.std.proofs.Math.Nat.{div-div-eq-div-mul}
use Rattle.std.proofs.lemmas.List.{take_at, drop_at, drop_all, append-nil}
use Rattle.sha2.specs.Sha256.{sha256}
use Rattle.hash_tree.specs.Tree.{over, digest_by_path, piece}

-- two parts written over a list of just their length
pub two_parts : (a b t : List ℕ) → length a ≡ 32 → length t ≡ 32 → take 32 (a ++ t) ++ (b ++ drop 32 (drop 32 (a ++ t))) ≡ a ++ b
two_parts a b t h k =
    let x = take_at a t 32 h in
    let y = drop_at a t 32 h in
    let z = drop_all 32 t (omega arith) in
    let w = append-nil b in
    cc

-- the place over
pub place_above : (n h : ℕ) → n / 2 ^ h / 2 ≡ n / 2 ^ suc h
place_above n h = div-div-eq-div-mul n (2 ^ h) 2 ∙ (let e : 2 ^ h * 2 ≡ 2 ^ suc h = omega arith in ap (λ w. n / w) e)

pub place_up : (n h : ℕ) → n / 2 ^ h / 2 ≡ n / 2 ^ (h + 1)
place_up n h = let e : suc h ≡ h + 1 = omega arith in place_above n h ∙ ap (λ w. n / 2 ^ w) e

-- one piece of the path more
pub digest_by_path-suc : (index : ℕ) (leaf path : List ℕ) (h place : ℕ) (d s b r : List ℕ)
    → place ≡ index / 2 ^ h → d ≡ digest_by_path index leaf path h → s ≡ take (32 * h + 32 - 32 * h) (drop (32 * h) path) → b ≡ over place d s → r ≡ sha256 b
    → r ≡ digest_by_path index leaf path (h + 1)
digest_by_path-suc index leaf path h place d s b r hp hd hs hb hr =
    let e : 32 * h + 32 - 32 * h ≡ 32 = omega arith in
    let n : suc h ≡ h + 1 = omega arith in
    let k : s ≡ piece path h = hs ∙ ap (λ w. take w (drop (32 * h) path)) e in
    hr ∙ ap sha256 hb ∙ (λ i. sha256 (over (hp i) (hd i) (k i))) ∙ ap (digest_by_path index leaf path) n
