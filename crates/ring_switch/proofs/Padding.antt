-- Points with zeros after their last coordinate.
use Rattle.std.proofs.Common.{◌≡◌, ◌∙◌, ℕ, zero, suc, ◌+◌, List, [], ◌∷◌, ◌++◌, map, length, get_or, bit_xor, refl, sym, ap, arith, length-append}
use Rattle.std.proofs.lemmas.Nat.{pow_pos}
use Rattle.std.proofs.lemmas.Nat.Bits.{bit_at-zero}
use Rattle.std.specs.List.{AllByRecursion}
use Rattle.tower_laws.specs.Tower.{mul}
use Rattle.tower_laws.specs.Lists.{AllFit}
use Rattle.tower_laws.proofs.Rules.{times_zero}
use Rattle.tower_laws.proofs.Levels.{field_zero}
use Rattle.tower_laws.proofs.Field.{identity, field_terms}
use Rattle.cube_laws.specs.Extension.{bit, dot, weights}
use Rattle.cube_laws.proofs.Kron.{weights-joined}
use Rattle.tensor_laws.specs.Tensor.{row}

-- ---- zeros at the end of a list
abbrev AllZero : List ℕ → Type 0
AllZero zs = AllByRecursion (λ z. z ≡ 0) zs

nothing_added : (a x : ℕ) → a ≡ 0 → bit_xor (mul x a) 0 ≡ 0
nothing_added a x h = ap (λ a. bit_xor (mul x a) 0) h ∙ ap (λ w. bit_xor w 0) (sym (times_zero x))

dot-nothing : (xs zs : List ℕ) → AllZero zs → dot xs zs ≡ 0
dot-nothing [] zs h = refl
dot-nothing (x ∷ xs) [] h = refl
dot-nothing (x ∷ xs) (z ∷ zs) h = ap (bit_xor (mul x z)) (dot-nothing xs zs h.1) ∙ nothing_added z x h.0

dot-zeros_after : (xs ys zs : List ℕ) → AllZero zs → dot xs (ys ++ zs) ≡ dot xs ys
dot-zeros_after [] ys zs h = refl
dot-zeros_after (x ∷ xs) [] zs h = dot-nothing (x ∷ xs) zs h
dot-zeros_after (x ∷ xs) (y ∷ ys) zs h = ap (bit_xor (mul x y)) (dot-zeros_after xs ys zs h)

zero_times : (z y : ℕ) → z ≡ 0 → bit_xor (mul z y) 0 ≡ 0
zero_times z y h = ap (λ z. bit_xor (mul z y) 0) h ∙ ap (λ w. bit_xor w 0) (field_zero y)

nothing-dot : (zs ys : List ℕ) → AllZero zs → dot zs ys ≡ 0
nothing-dot [] ys h = refl
nothing-dot (z ∷ zs) [] h = refl
nothing-dot (z ∷ zs) (y ∷ ys) h = ap (bit_xor (mul z y)) (nothing-dot zs ys h.1) ∙ zero_times z y h.0

zeros_after-dot : (xs zs ys : List ℕ) → AllZero zs → dot (xs ++ zs) ys ≡ dot xs ys
zeros_after-dot [] zs ys h = nothing-dot zs ys h
zeros_after-dot (x ∷ xs) zs [] h = refl
zeros_after-dot (x ∷ xs) zs (y ∷ ys) h = ap (bit_xor (mul x y)) (zeros_after-dot xs zs ys h)

-- ---- the weights of a point with one zero more
once : (t : ℕ) → mul t (mul 1 (bit_xor 1 0)) ≡ t
once t = identity (t ∷ []) (search field_terms depth 60 fits 20000) refl

never : (t : ℕ) → mul t (mul 1 0) ≡ 0
never t = identity (t ∷ []) (search field_terms depth 60 fits 20000) refl

all_once : (ts : List ℕ) → map (λ t. mul t (mul 1 (bit_xor 1 0))) ts ≡ ts
all_once [] = refl
all_once (t ∷ ts) = (λ i. once t i ∷ all_once ts i)

all_never : (ts : List ℕ) → AllZero (map (λ t. mul t (mul 1 0)) ts ++ [])
all_never [] = tt
all_never (t ∷ ts) = (never t, all_never ts)

nothings : List ℕ → List ℕ
nothings z = map (λ t. mul t (mul 1 0)) (weights z) ++ []

weights-zero_after : (z : List ℕ) → weights (z ++ 0 ∷ []) ≡ weights z ++ nothings z
unfolding nothings
weights-zero_after z = weights-joined z (0 ∷ []) ∙ ap (λ w. w ++ nothings z) (all_once (weights z))

bits-append : (u : ℕ) (xs ys : List ℕ) → map (λ e. bit e u) (xs ++ ys) ≡ map (λ e. bit e u) xs ++ map (λ e. bit e u) ys
bits-append u [] ys = refl
bits-append u (x ∷ xs) ys = ap (λ w. bit x u ∷ w) (bits-append u xs ys)

no_bits : (u : ℕ) (zs : List ℕ) → AllZero zs → AllZero (map (λ e. bit e u) zs)
no_bits u [] h = tt
no_bits u (z ∷ zs) h = (ap (λ z. bit z u) h.0 ∙ bit_at-zero u, no_bits u zs h.1)

row-high : (high table : List ℕ) (u : ℕ) → row (weights (high ++ 0 ∷ [])) table u ≡ row (weights high) table u
unfolding nothings
row-high high table u =
    ap (λ es. row es table u) (weights-zero_after high) ∙ ap (λ bs. dot bs table) (bits-append u (weights high) (nothings high))
    ∙ zeros_after-dot (map (λ e. bit e u) (weights high)) (map (λ e. bit e u) (nothings high)) table (no_bits u (nothings high) (all_never (weights high)))

row-at : (es at : List ℕ) (u : ℕ) → row es (weights (at ++ 0 ∷ [])) u ≡ row es (weights at) u
unfolding nothings
row-at es at u = ap (λ t. row es t u) (weights-zero_after at) ∙ dot-zeros_after (map (λ e. bit e u) es) (weights at) (nothings at) (all_never (weights at))

-- ---- several zeros
abbrev pub padded : ℕ → List ℕ → List ℕ
padded zero z = z
padded (suc k) z = padded k z ++ 0 ∷ []

pub length-padded : (k : ℕ) (z : List ℕ) → length (padded k z) ≡ length z + k
length-padded zero z = omega arith
length-padded (suc k) z = let a = length-append (padded k z) (0 ∷ []) in let h = length-padded k z in omega arith

get_or-zero_after : (z : List ℕ) (j : ℕ) → get_or (z ++ 0 ∷ []) j 0 ≡ get_or z j 0
get_or-zero_after [] zero = refl
get_or-zero_after [] (suc j) = refl
get_or-zero_after (x ∷ z) zero = refl
get_or-zero_after (x ∷ z) (suc j) = get_or-zero_after z j

pub get_or-padded : (k : ℕ) (z : List ℕ) (j : ℕ) → get_or (padded k z) j 0 ≡ get_or z j 0
get_or-padded zero z j = refl
get_or-padded (suc k) z j = get_or-zero_after (padded k z) j ∙ get_or-padded k z j

fit-zero_after : (z : List ℕ) → AllFit 7 z → AllFit 7 (z ++ 0 ∷ [])
fit-zero_after [] h = (pow_pos 128, tt)
fit-zero_after (x ∷ z) h = (h.0, fit-zero_after z h.1)

pub padded-fit : (k : ℕ) (z : List ℕ) → AllFit 7 z → AllFit 7 (padded k z)
padded-fit zero z h = h
padded-fit (suc k) z h = fit-zero_after (padded k z) (padded-fit k z h)

pub row-padded : (j k : ℕ) (high at : List ℕ) (u : ℕ) → row (weights (padded j high)) (weights (padded k at)) u ≡ row (weights high) (weights at) u
row-padded zero zero high at u = refl
row-padded zero (suc k) high at u = row-at (weights high) (padded k at) u ∙ row-padded zero k high at u
row-padded (suc j) k high at u = row-high (padded j high) (weights (padded k at)) u ∙ row-padded j k high at u
