-- Sums of products of two lists.
use Rattle.std.proofs.Common.{◌≡◌, ℕ, zero, suc, List, [], ◌∷◌, ◌++◌, map, take, drop, length, bit_xor, refl, sym, ◌∙◌, ap}
use Rattle.std.specs.Int.Bits.{xor_assoc}
use Rattle.tower_laws.specs.Tower.{mul}
use Rattle.tower_laws.specs.Lists.{sums}
use Rattle.tower_laws.proofs.Field.{identity, from_one, field_terms}
use Rattle.tower_laws.proofs.Rules.{zero_times, times_zero, plus_zero, more_scaled, more_summed}
use Rattle.cube_laws.specs.Sums.{sum_to, tabulate}
use Rattle.cube_laws.specs.Extension.{dot}

pub dot_nil : (xs : List ℕ) → dot xs [] ≡ 0
dot_nil [] = refl
dot_nil (x ∷ xs) = refl

comm_step : (x y d e : ℕ) → d ≡ e → bit_xor (mul x y) d ≡ bit_xor (mul y x) e
comm_step x y d e h = from_one 1 h (identity (x ∷ y ∷ d ∷ e ∷ []) (search field_terms depth 60 fits 20000) refl)

pub dot-comm : (xs ys : List ℕ) → dot xs ys ≡ dot ys xs
dot-comm [] [] = refl
dot-comm [] (y ∷ ys) = refl
dot-comm (x ∷ xs) [] = refl
dot-comm (x ∷ xs) (y ∷ ys) = comm_step x y _ _ (dot-comm xs ys)

-- ---- multiples
pub dot-scale : (c : ℕ) (xs ys : List ℕ) → dot (map (mul c) xs) ys ≡ mul c (dot xs ys)
dot-scale c [] ys = times_zero c
dot-scale c (x ∷ xs) [] = times_zero c
dot-scale c (x ∷ xs) (y ∷ ys) = more_scaled c x y _ _ (dot-scale c xs ys)

out_step : (x t e s r : ℕ) → r ≡ mul s e → bit_xor (mul x (mul t e)) r ≡ mul (bit_xor (mul x t) s) e
out_step x t e s r h = from_one 1 h (identity (x ∷ t ∷ e ∷ s ∷ r ∷ []) (search field_terms depth 60 fits 20000) refl)

pub dot-scaled : (xs ts : List ℕ) (e : ℕ) → dot xs (map (λ t. mul t e) ts) ≡ mul (dot xs ts) e
dot-scaled [] ts e = zero_times e
dot-scaled (x ∷ xs) [] e = zero_times e
dot-scaled (x ∷ xs) (t ∷ ts) e = out_step x t e _ _ (dot-scaled xs ts e)

-- ---- sums
pub dot-sums : (xs ys zs : List ℕ) → dot (sums xs ys) zs ≡ bit_xor (dot xs zs) (dot ys zs)
dot-sums [] ys zs = identity (dot ys zs ∷ []) (search field_terms depth 60 fits 20000) refl
dot-sums (x ∷ xs) [] zs = sym (plus_zero (dot (x ∷ xs) zs))
dot-sums (x ∷ xs) (y ∷ ys) [] = refl
dot-sums (x ∷ xs) (y ∷ ys) (z ∷ zs) = more_summed x y z _ _ _ (dot-sums xs ys zs)

-- ---- lists of zeros
none_step : (z s : ℕ) → s ≡ 0 → bit_xor (mul 0 z) s ≡ 0
none_step z s h = from_one 1 h (identity (z ∷ s ∷ []) (search field_terms depth 60 fits 20000) refl)

pub dot-zeros : (n : ℕ) (ys : List ℕ) → dot (tabulate n (λ p. 0)) ys ≡ 0
dot-zeros zero ys = refl
dot-zeros (suc n) [] = refl
dot-zeros (suc n) (y ∷ ys) = none_step y _ (dot-zeros n ys)

-- ---- a list against two that are joined
join_step : (a b c d : ℕ) → b ≡ bit_xor c d → bit_xor a b ≡ bit_xor (bit_xor a c) d
join_step a b c d h = ap (bit_xor a) h ∙ sym (xor_assoc a c d)

pub dot-split : (xs us vs : List ℕ) → dot xs (us ++ vs) ≡ bit_xor (dot (take (length us) xs) us) (dot (drop (length us) xs) vs)
dot-split xs [] vs = identity (dot xs vs ∷ []) (search field_terms depth 60 fits 20000) refl
dot-split [] (u ∷ us) vs = refl
dot-split (x ∷ xs) (u ∷ us) vs = join_step (mul x u) _ _ _ (dot-split xs us vs)

-- ---- functions of the place
pub dot-tabulate_sum : (n : ℕ) (f g : ℕ → ℕ) (ws : List ℕ) → dot (tabulate n (λ p. bit_xor (f p) (g p))) ws ≡ bit_xor (dot (tabulate n f) ws) (dot (tabulate n g) ws)
dot-tabulate_sum zero f g ws = refl
dot-tabulate_sum (suc n) f g [] = refl
dot-tabulate_sum (suc n) f g (w ∷ ws) = more_summed (f 0) (g 0) w _ _ _ (dot-tabulate_sum n (λ p. f (suc p)) (λ p. g (suc p)) ws)

times_step : (f e w s r : ℕ) → r ≡ mul s e → bit_xor (mul (mul f e) w) r ≡ mul (bit_xor (mul f w) s) e
times_step f e w s r h = from_one 1 h (identity (f ∷ e ∷ w ∷ s ∷ r ∷ []) (search field_terms depth 60 fits 20000) refl)

pub dot-tabulate_times : (n e : ℕ) (f : ℕ → ℕ) (ws : List ℕ) → dot (tabulate n (λ p. mul (f p) e)) ws ≡ mul (dot (tabulate n f) ws) e
dot-tabulate_times zero e f ws = zero_times e
dot-tabulate_times (suc n) e f [] = zero_times e
dot-tabulate_times (suc n) e f (w ∷ ws) = times_step (f 0) e w _ _ (dot-tabulate_times n e (λ p. f (suc p)) ws)

-- two sums in the other order
pub dot-exchange : (m n : ℕ) (g : ℕ → ℕ → ℕ) (ws vs : List ℕ) → dot (tabulate m (λ h. dot (tabulate n (g h)) vs)) ws ≡ dot (tabulate n (λ p. dot (tabulate m (λ h. g h p)) ws)) vs
dot-exchange zero n g ws vs = sym (dot-zeros n vs)
dot-exchange (suc m) n g [] vs = sym (dot-zeros n vs)
dot-exchange (suc m) n g (w ∷ ws) vs =
    (λ i. bit_xor (sym (dot-tabulate_times n w (g 0) vs) i) (dot-exchange m n (λ h. g (suc h)) ws vs i))
    ∙ sym (dot-tabulate_sum n (λ p. mul (g 0 p) w) (λ p. dot (tabulate m (λ h. g (suc h) p)) ws) vs)

pub sum_to-dot : (n : ℕ) (f g : ℕ → ℕ) → sum_to n (λ p. mul (f p) (g p)) ≡ dot (tabulate n f) (tabulate n g)
sum_to-dot zero f g = refl
sum_to-dot (suc n) f g = ap (bit_xor (mul (f 0) (g 0))) (sum_to-dot n (λ p. f (suc p)) (λ p. g (suc p)))

pub sum_to-zeros : (n : ℕ) → sum_to n (λ k. 0) ≡ 0
sum_to-zeros zero = refl
sum_to-zeros (suc n) = ap (bit_xor 0) (sum_to-zeros n)

plus_step : (a b s d e : ℕ) → s ≡ bit_xor d e → bit_xor (bit_xor a b) s ≡ bit_xor (bit_xor a d) (bit_xor b e)
plus_step a b s d e h = from_one 1 h (identity (a ∷ b ∷ s ∷ d ∷ e ∷ []) (search field_terms depth 60 fits 20000) refl)

pub sum_to-plus : (n : ℕ) (f g : ℕ → ℕ) → sum_to n (λ k. bit_xor (f k) (g k)) ≡ bit_xor (sum_to n f) (sum_to n g)
sum_to-plus zero f g = refl
sum_to-plus (suc n) f g = plus_step (f 0) (g 0) _ _ _ (sum_to-plus n (λ k. f (suc k)) (λ k. g (suc k)))

pub sum_to-exchange : (m n : ℕ) (f : ℕ → ℕ → ℕ) → sum_to m (λ i. sum_to n (λ j. f i j)) ≡ sum_to n (λ j. sum_to m (λ i. f i j))
sum_to-exchange zero n f = sym (sum_to-zeros n)
sum_to-exchange (suc m) n f = ap (bit_xor (sum_to n (f 0))) (sum_to-exchange m n (λ i. f (suc i))) ∙ sym (sum_to-plus n (f 0) (λ j. sum_to m (λ i. f (suc i) j)))
