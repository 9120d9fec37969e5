-- Tables that are products of two in disjoint variables.
use Rattle.std.proofs.Common.{◌≡◌, ℕ, zero, suc, ◌+◌, ◌*◌, ◌^◌, ◌<◌, List, [], ◌∷◌, ◌++◌, map, length, get_or, bit_xor, refl, sym, ◌∙◌, ap, arith}
use Rattle.std.proofs.lemmas.List.{length-map, length-append}
use Rattle.tower_laws.specs.Tower.{mul}
use Rattle.tower_laws.proofs.Field.{identity, from_one, field_terms}
use Rattle.tower_laws.proofs.Levels.{field_one}
use Rattle.tower_laws.proofs.Rules.{zero_times, times_zero, last_swapped}
use Rattle.cube_laws.specs.Extension.{dot, spread, weights, extension, kron}
use Rattle.cube_laws.proofs.Folding.{length-weights}
use Rattle.cube_laws.proofs.Weights.{dot-append, by_weights_is}
use Rattle.cube_laws.proofs.Dots.{dot_nil}

pub spread-append : (x : ℕ) (ts us : List ℕ) → spread x (ts ++ us) ≡ spread x ts ++ spread x us
spread-append x [] us = refl
spread-append x (t ∷ ts) us = ap (λ l. mul t (bit_xor 1 x) ∷ mul t x ∷ l) (spread-append x ts us)

pub spread-scaled : (x e : ℕ) (ts : List ℕ) → spread x (map (λ t. mul t e) ts) ≡ map (λ t. mul t e) (spread x ts)
spread-scaled x e [] = refl
spread-scaled x e (t ∷ ts) = let a = last_swapped t e (bit_xor 1 x) in let b = last_swapped t e x in let r = spread-scaled x e ts in cc

spread-kron : (x : ℕ) (ts es : List ℕ) → spread x (kron ts es) ≡ kron (spread x ts) es
spread-kron x ts [] = refl
spread-kron x ts (e ∷ es) = spread-append x (map (λ t. mul t e) ts) (kron ts es) ∙ (λ i. spread-scaled x e ts i ++ spread-kron x ts es i)

kron_one : (es : List ℕ) → es ≡ kron (1 ∷ []) es
kron_one [] = refl
kron_one (e ∷ es) = let a = field_one e in let r = kron_one es in cc

-- the weights of a joined point
pub weights-joined : (low high : List ℕ) → weights (low ++ high) ≡ kron (weights low) (weights high)
weights-joined [] high = kron_one (weights high)
weights-joined (x ∷ low) high = ap (spread x) (weights-joined low high) ∙ spread-kron x (weights low) (weights high)

pub length-kron : (ts es : List ℕ) → length (kron ts es) ≡ length es * length ts
length-kron ts [] = let e : 0 * length ts ≡ 0 = omega arith in sym e
length-kron ts (e ∷ es) =
    let a = length-map ts (λ t. mul t e) in
    let r = length-kron ts es in
    let q : suc (length es) * length ts ≡ length ts + length es * length ts = grind arith in
    length-append (map (λ t. mul t e) ts) (kron ts es) ∙ (λ i. a i + r i) ∙ sym q

-- ---- the numbers of a product
get_or-multiples : (e p : ℕ) (ts : List ℕ) → get_or (map (λ t. mul t e) ts) p 0 ≡ mul (get_or ts p 0) e
get_or-multiples e p [] = zero_times e
get_or-multiples e zero (t ∷ ts) = refl
get_or-multiples e (suc p) (t ∷ ts) = get_or-multiples e p ts

get_or-front : (xs ys : List ℕ) (p : ℕ) → p < length xs → get_or (xs ++ ys) p 0 ≡ get_or xs p 0
get_or-front [] ys p h = absurd (omega arith)
get_or-front (x ∷ xs) ys zero h = refl
get_or-front (x ∷ xs) ys (suc p) h = get_or-front xs ys p (omega arith)

get_or-back : (xs ys : List ℕ) (p : ℕ) → get_or (xs ++ ys) (length xs + p) 0 ≡ get_or ys p 0
get_or-back [] ys p = let e : 0 + p ≡ p = omega arith in ap (λ n. get_or ys n 0) e
get_or-back (x ∷ xs) ys p = let e : suc (length xs) + p ≡ suc (length xs + p) = omega arith in ap (λ n. get_or (x ∷ (xs ++ ys)) n 0) e ∙ get_or-back xs ys p

pub get_or-kron : (ts es : List ℕ) (p q : ℕ) → p < length ts → get_or (kron ts es) (q * length ts + p) 0 ≡ mul (get_or ts p 0) (get_or es q 0)
get_or-kron ts [] p q h = times_zero (get_or ts p 0)
get_or-kron ts (e ∷ es) p zero h =
    let z : 0 * length ts + p ≡ p = omega arith in
    let l = length-map ts (λ t. mul t e) in
    ap (λ n. get_or (kron ts (e ∷ es)) n 0) z ∙ get_or-front (map (λ t. mul t e) ts) (kron ts es) p (omega arith) ∙ get_or-multiples e p ts
get_or-kron ts (e ∷ es) p (suc q) h =
    let l = length-map ts (λ t. mul t e) in
    let z : suc q * length ts + p ≡ length ts + (q * length ts + p) = grind arith in
    ap (λ n. get_or (kron ts (e ∷ es)) n 0) (z ∙ ap (λ n. n + (q * length ts + p)) (sym l))
    ∙ get_or-back (map (λ t. mul t e) ts) (kron ts es) (q * length ts + p) ∙ get_or-kron ts es p q h

-- ---- two products against each other
scaled_cell : (t u e v d : ℕ) (r : ℕ) → r ≡ mul d (mul e v) → bit_xor (mul (mul t e) (mul u v)) r ≡ mul (bit_xor (mul t u) d) (mul e v)
scaled_cell t u e v d r h = from_one 1 h (identity (t ∷ u ∷ e ∷ v ∷ d ∷ r ∷ []) (search field_terms depth 60 fits 20000) refl)

dot-both : (e v : ℕ) (ts us : List ℕ) → dot (map (λ t. mul t e) ts) (map (λ u. mul u v) us) ≡ mul (dot ts us) (mul e v)
dot-both e v [] us = zero_times (mul e v)
dot-both e v (t ∷ ts) [] = zero_times (mul e v)
dot-both e v (t ∷ ts) (u ∷ us) = scaled_cell t u e v (dot ts us) _ (dot-both e v ts us)

join_step : (d e v s : ℕ) → bit_xor (mul d (mul e v)) (mul d s) ≡ mul d (bit_xor (mul e v) s)
join_step d e v s = identity (d ∷ e ∷ v ∷ s ∷ []) (search field_terms depth 60 fits 20000) refl

pub dot-krons : (ts us es vs : List ℕ) → length ts ≡ length us → dot (kron ts es) (kron us vs) ≡ mul (dot ts us) (dot es vs)
dot-krons ts us [] vs h = times_zero (dot ts us)
dot-krons ts us (e ∷ es) [] h = dot_nil (map (λ t. mul t e) ts ++ kron ts es) ∙ times_zero (dot ts us)
dot-krons ts us (e ∷ es) (v ∷ vs) h =
    let a = length-map ts (λ t. mul t e) in
    let b = length-map us (λ u. mul u v) in
    dot-append (map (λ t. mul t e) ts) (kron ts es) (map (λ u. mul u v) us) (kron us vs) (a ∙ h ∙ sym b)
    ∙ (λ i. bit_xor (dot-both e v ts us i) (dot-krons ts us es vs h i))
    ∙ join_step (dot ts us) e v (dot es vs)

-- the extension of a product is the product of the extensions
pub extension-kron : (ts es ys xs : List ℕ) → length ts ≡ 2 ^ length ys → extension (kron ts es) (ys ++ xs) ≡ mul (extension ts ys) (extension es xs)
extension-kron ts es ys xs h =
    sym (by_weights_is (kron ts es) (ys ++ xs))
    ∙ ap (dot (kron ts es)) (weights-joined ys xs)
    ∙ dot-krons ts (weights ys) es (weights xs) (h ∙ sym (length-weights ys))
    ∙ (λ i. mul (by_weights_is ts ys i) (by_weights_is es xs i))
