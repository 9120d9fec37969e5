-- Counts of vectors of draws.
use Rattle.std.proofs.Common.{◌≡◌, ℕ, zero, suc, ◌+◌, ◌-◌, ◌*◌, ◌^◌, ◌<◌, ◌≤◌, List, [], ◌∷◌, ◌++◌, length, Bool, true, false, not, eqb, ◌⊎◌, inl, inr, refl, sym, ◌∙◌, ap, subst, arith}
use Rattle.std.specs.List.{AllByRecursion}
use Rattle.std.proofs.lemmas.Bool.{eqb-true, eq-eqb, eqb-false, not-true, cases_eq}
use Rattle.std.proofs.Math.Nat.{pow-zero, pow-suc, mul_comm, mul_assoc, suc-mul}
use Rattle.counting_laws.specs.Counting.{Distinct, AtMost}
use Rattle.counting_laws.proofs.Bounds.{AllByRecursion-weaker, at_most_split, at_most_weaker, at_most_none}

-- a property of a head and a tail
abbrev pub Split : (ℕ → List ℕ → Type 0) → List ℕ → Type 0
Split P [] = ⊥
Split P (c ∷ w) = P c w

abbrev headed : ℕ → List ℕ → Bool
headed c [] = false
headed c (d ∷ w) = eqb d c

abbrev tails : List (List ℕ) → List (List ℕ)
tails [] = []
tails ([] ∷ vs) = [] ∷ tails vs
tails ((c ∷ w) ∷ vs) = w ∷ tails vs

length-tails : (vs : List (List ℕ)) → length (tails vs) ≡ length vs
length-tails [] = refl
length-tails ([] ∷ vs) = ap suc (length-tails vs)
length-tails ((c ∷ w) ∷ vs) = ap suc (length-tails vs)

other_tails : (P : ℕ → List ℕ → Type 0) (c : ℕ) (w : List ℕ) (vs : List (List ℕ)) → AllByRecursion (λ v. Split P v × (headed c v ≡ true)) vs → AllByRecursion (λ v. v ≡ c ∷ w → ⊥) vs → AllByRecursion (λ u. u ≡ w → ⊥) (tails vs)
other_tails P c w [] h d = tt
other_tails P c w ([] ∷ vs) h d = absurd h.0.0
other_tails P c w ((e ∷ u) ∷ vs) h d = (λ (q : u ≡ w). let p = eqb-true e c h.0.1 in d.0 (cc), other_tails P c w vs h.1 d.1)

distinct_tails : (P : ℕ → List ℕ → Type 0) (c : ℕ) (vs : List (List ℕ)) → AllByRecursion (λ v. Split P v × (headed c v ≡ true)) vs → Distinct vs → Distinct (tails vs)
distinct_tails P c [] h d = tt
distinct_tails P c ([] ∷ vs) h d = absurd h.0.0
distinct_tails P c ((e ∷ w) ∷ vs) h d =
    let p = eqb-true e c h.0.1 in
    (other_tails P c w vs h.1 (subst (λ k. AllByRecursion (λ v. v ≡ k ∷ w → ⊥) vs) p d.0), distinct_tails P c vs h.1 d.1)

each_tail : (P : ℕ → List ℕ → Type 0) (c : ℕ) (vs : List (List ℕ)) → AllByRecursion (λ v. Split P v × (headed c v ≡ true)) vs → AllByRecursion (P c) (tails vs)
each_tail P c [] h = tt
each_tail P c ([] ∷ vs) h = absurd h.0.0
each_tail P c ((e ∷ w) ∷ vs) h = (subst (λ k. P k w) (eqb-true e c h.0.1) h.0.0, each_tail P c vs h.1)

-- vectors of one head are as many as their tails
one_head : (P : ℕ → List ℕ → Type 0) (c b : ℕ) → AtMost b (P c) → AtMost b (λ v. Split P v × (headed c v ≡ true))
one_head P c b h vs d e = let r = h (tails vs) (distinct_tails P c vs e d) (each_tail P c vs e) in let l = length-tails vs in omega arith

below : (n : ℕ) (P : ℕ → List ℕ → Type 0) (v : List ℕ) → Split (λ c w. (c < suc n) × P c w) v × (not (headed n v) ≡ true) → Split (λ c w. (c < n) × P c w) v
below n P [] h = h.0
below n P (c ∷ w) h = let l = h.0.0 in let q = eqb-false c n (not-true (eqb c n) h.1) in (go l (cases_eq c n) q, h.0.1)
  where
    go : c < suc n → (c ≡ n) ⊎ (c ≡ n → ⊥) → (c ≡ n → ⊥) → c < n
    go l (inl e) q = absurd (q e)
    go l (inr e) q = omega arith

forget : (n : ℕ) (P : ℕ → List ℕ → Type 0) (v : List ℕ) → Split (λ c w. (c < n) × P c w) v → Split P v
forget n P [] h = h
forget n P (c ∷ w) h = h.1

-- with n heads, n times as many
pub heads : (n b : ℕ) (P : ℕ → List ℕ → Type 0) → ((c : ℕ) → AtMost b (P c)) → AtMost (n * b) (Split (λ c w. (c < n) × P c w))
heads zero b P h = at_most_none (Split (λ c w. (c < zero) × P c w)) (0 * b) none
  where
    none : (v : List ℕ) → Split (λ c w. (c < zero) × P c w) v → ⊥
    none [] e = e
    none (c ∷ w) e = let l = e.0 in omega arith
heads (suc n) b P h =
    let l : b + n * b ≤ suc n * b = more n b in
    at_most_weaker (Split (λ c w. (c < suc n) × P c w)) (Split (λ c w. (c < suc n) × P c w)) (b + n * b) (suc n * b) (λ v r. r) l
    (at_most_split (headed n) (Split (λ c w. (c < suc n) × P c w)) b (n * b)
    (at_most_weaker (λ v. Split (λ c w. (c < suc n) × P c w) v × (headed n v ≡ true)) (λ v. Split P v × (headed n v ≡ true)) b b (λ v r. (forget (suc n) P v r.0, r.1)) (omega arith) (one_head P n b (h n)))
    (at_most_weaker (λ v. Split (λ c w. (c < suc n) × P c w) v × (not (headed n v) ≡ true)) (Split (λ c w. (c < n) × P c w)) (n * b) (n * b) (below n P) (omega arith) (heads n b P h)))
  where
    more : (n b : ℕ) → b + n * b ≤ suc n * b
    more n b = grind arith

-- vectors of k numbers below q
abbrev pub Vector : ℕ → ℕ → List ℕ → Type 0
Vector q zero [] = Unit {0}
Vector q zero (c ∷ w) = ⊥
Vector q (suc k) [] = ⊥
Vector q (suc k) (c ∷ w) = (c < q) × Vector q k w

split_vector : (q k : ℕ) (v : List ℕ) → Vector q (suc k) v → Split (λ c w. (c < q) × Vector q k w) v
split_vector q k [] h = h
split_vector q k (c ∷ w) h = h

no_two : (q : ℕ) (x y : List ℕ) → Vector q zero x → Vector q zero y → (y ≡ x → ⊥) → ⊥
no_two q [] [] h k d = d refl
no_two q [] (c ∷ w) h k d = k
no_two q (c ∷ w) y h k d = h

pub vectors : (q k : ℕ) → AtMost (q ^ k) (Vector q k)
vectors q zero [] d h = omega arith
vectors q zero (x ∷ []) d h = let z = pow-zero q in omega arith
vectors q zero (x ∷ y ∷ xs) d h = absurd (no_two q x y h.0 h.1.0 d.0.0)
vectors q (suc k) xs d h =
    let e : q ^ suc k ≡ q * q ^ k = power q k in
    let r = heads q (q ^ k) (λ c w. Vector q k w) (λ c. vectors q k) xs d (AllByRecursion-weaker (Vector q (suc k)) (Split (λ c w. (c < q) × Vector q k w)) (split_vector q k) xs h) in
    omega arith
  where
    power : (q k : ℕ) → q ^ suc k ≡ q * q ^ k
    power q k = pow-suc q k ∙ mul_comm (q ^ k) q

-- a bound may rest on what any member shows
at_most_when : {X : Type 0} (R : Type 0) (P : X → Type 0) (k : ℕ) → ((x : X) → P x → R) → (R → AtMost k P) → AtMost k P
at_most_when R P k f g [] d h = omega arith
at_most_when R P k f g (x ∷ xs) d h = g (f x h.0) (x ∷ xs) d h

-- ---- chains of draws, each of which at most one number passes
abbrev Reaches : ℕ → ℕ → (List ℕ → Bool) → List ℕ → Type 0
Reaches q k t v = Vector q k v × (t v ≡ true)

abbrev head_bad : (List ℕ → Bool) → List ℕ → Bool
head_bad t [] = true
head_bad t (c ∷ w) = t (c ∷ [])

-- two numbers that pass are one
one_passes : (t : List ℕ → Bool) (e c : ℕ) → AtMost 1 (λ r. t (r ∷ []) ≡ true) → t (e ∷ []) ≡ true → t (c ∷ []) ≡ true → e ≡ c
one_passes t e c h p q = go (cases_eq e c)
  where
    go : (e ≡ c) ⊎ (e ≡ c → ⊥) → e ≡ c
    go (inl r) = r
    go (inr ne) = let l = h (e ∷ c ∷ []) (((λ (r : c ≡ e). ne (sym r)), tt), (tt, tt)) (p, (q, tt)) in absurd (omega arith)

one_bad : (q k c : ℕ) (t : List ℕ → Bool) (v : List ℕ) → AtMost 1 (λ r. t (r ∷ []) ≡ true) → t (c ∷ []) ≡ true → Reaches q (suc k) t v × (head_bad t v ≡ true) → Split (λ e w. Vector q k w) v × (headed c v ≡ true)
one_bad q k c t [] m b h = absurd h.0.0
one_bad q k c t (e ∷ w) m b h = (h.0.0.1, eq-eqb e c (one_passes t e c m h.1 b))

bad_head : (q k : ℕ) (t : List ℕ → Bool) → AtMost 1 (λ r. t (r ∷ []) ≡ true) → AtMost (q ^ k) (λ v. Reaches q (suc k) t v × (head_bad t v ≡ true))
bad_head q k t m =
    at_most_when ((c : ℕ) × (t (c ∷ []) ≡ true)) (λ v. Reaches q (suc k) t v × (head_bad t v ≡ true)) (q ^ k) some
    (λ r. at_most_weaker (λ v. Reaches q (suc k) t v × (head_bad t v ≡ true)) (λ v. Split (λ e w. Vector q k w) v × (headed r.0 v ≡ true)) (q ^ k) (q ^ k)
    (λ v h. one_bad q k r.0 t v m r.1 h) (omega arith) (one_head (λ e w. Vector q k w) r.0 (q ^ k) (vectors q k)))
  where
    some : (v : List ℕ) → Reaches q (suc k) t v × (head_bad t v ≡ true) → (c : ℕ) × (t (c ∷ []) ≡ true)
    some [] h = absurd h.0.0
    some (c ∷ w) h = (c, h.1)

good_head : (q k c : ℕ) (t : List ℕ → Bool) → (t (c ∷ []) ≡ false → AtMost (k * q ^ (k - 1)) (Reaches q k (λ w. t (c ∷ w))))
    → AtMost (k * q ^ (k - 1)) (λ w. (t (c ∷ []) ≡ false) × Reaches q k (λ w. t (c ∷ w)) w)
good_head q k c t h =
    at_most_when (t (c ∷ []) ≡ false) (λ w. (t (c ∷ []) ≡ false) × Reaches q k (λ w. t (c ∷ w)) w) (k * q ^ (k - 1)) (λ w r. r.0)
    (λ e. at_most_weaker (λ w. (t (c ∷ []) ≡ false) × Reaches q k (λ w. t (c ∷ w)) w) (Reaches q k (λ w. t (c ∷ w))) (k * q ^ (k - 1)) (k * q ^ (k - 1)) (λ w r. r.1) (omega arith) (h e))

split_good : (q k : ℕ) (t : List ℕ → Bool) (v : List ℕ) → Reaches q (suc k) t v × (not (head_bad t v) ≡ true) → Split (λ c w. (c < q) × ((t (c ∷ []) ≡ false) × Reaches q k (λ w. t (c ∷ w)) w)) v
split_good q k t [] h = h.0.0
split_good q k t (c ∷ w) h = (h.0.0.0, (not-true (t (c ∷ [])) h.1, (h.0.0.1, h.0.1)))

next_power : (q k : ℕ) → q ^ suc k ≡ q * q ^ k
next_power q k = pow-suc q k ∙ mul_comm (q ^ k) q

sum_bound : (q k : ℕ) → q ^ k + q * (k * q ^ (k - 1)) ≤ suc k * q ^ k
sum_bound q zero = let z : q * (0 * q ^ (0 - 1)) ≡ 0 = grind arith in let e : suc 0 * q ^ 0 ≡ q ^ 0 = grind arith in omega arith
sum_bound q (suc k) =
    let p : suc k - 1 ≡ k = omega arith in
    subst (λ n. q ^ suc k + q * (suc k * q ^ n) ≤ suc (suc k) * q ^ suc k) (sym p) (go (q ^ suc k) (q ^ k) (next_power q k))
  where
    go : (m n : ℕ) → m ≡ q * n → m + q * (suc k * n) ≤ suc (suc k) * m
    go m n e = let r : q * (suc k * n) ≡ suc k * (q * n) = sym (mul_assoc q (suc k) n) ∙ ap (λ w. w * n) (mul_comm q (suc k)) ∙ mul_assoc (suc k) q n in let t : q * (suc k * n) ≡ suc k * m = r ∙ ap (λ w. suc k * w) (sym e) in let u : suc (suc k) * m ≡ suc k * m + m = suc-mul (suc k) m in omega arith

-- of k draws, of which at most one number passes each where none before it did, at most k q ^ (k - 1) vectors of numbers below q pass
pub chain_bound : (q k : ℕ) (t : List ℕ → Bool) → t [] ≡ false → ((v : List ℕ) → length v < k → t v ≡ false → AtMost 1 (λ r. t (v ++ r ∷ []) ≡ true)) → AtMost (k * q ^ (k - 1)) (λ v. Vector q k v × (t v ≡ true))
chain_bound q zero t f step = at_most_none (Reaches q zero t) (0 * q ^ (0 - 1)) none
  where
    none : (v : List ℕ) → Reaches q zero t v → ⊥
    none [] h = let e = sym f ∙ h.1 in absurd (cc)
    none (c ∷ w) h = h.0
chain_bound q (suc k) t f step =
    let e : k ≡ suc k - 1 = omega arith in
    subst (λ n. AtMost (suc k * q ^ n) (Reaches q (suc k) t)) e
    (at_most_weaker (Reaches q (suc k) t) (Reaches q (suc k) t) (q ^ k + q * (k * q ^ (k - 1))) (suc k * q ^ k) (λ v r. r) (sum_bound q k)
    (at_most_split (head_bad t) (Reaches q (suc k) t) (q ^ k) (q * (k * q ^ (k - 1)))
    (bad_head q k t (step [] (omega arith) f))
    (at_most_weaker (λ v. Reaches q (suc k) t v × (not (head_bad t v) ≡ true)) (Split (λ c w. (c < q) × ((t (c ∷ []) ≡ false) × Reaches q k (λ w. t (c ∷ w)) w)))
    (q * (k * q ^ (k - 1))) (q * (k * q ^ (k - 1))) (λ v r. split_good q k t v r) (omega arith)
    (heads q (k * q ^ (k - 1)) (λ c w. (t (c ∷ []) ≡ false) × Reaches q k (λ w. t (c ∷ w)) w)
    (λ c. good_head q k c t (λ g. chain_bound q k (λ w. t (c ∷ w)) g (λ v l h. step (c ∷ v) (omega arith) h)))))))

pub length-vector : (q k : ℕ) (v : List ℕ) → Vector q k v → length v ≡ k
length-vector q zero [] h = refl
length-vector q zero (c ∷ v) h = absurd h
length-vector q (suc k) [] h = absurd h
length-vector q (suc k) (c ∷ v) h = ap suc (length-vector q k v h.1)

-- ---- vectors in plain words
pub vector_of : (q k : ℕ) (v : List ℕ) → length v ≡ k → AllByRecursion (λ c. c < q) v → Vector q k v
vector_of q zero [] l h = tt
vector_of q zero (c ∷ v) l h = absurd (omega arith)
vector_of q (suc k) [] l h = absurd (omega arith)
vector_of q (suc k) (c ∷ v) l h = (h.0, vector_of q k v (omega arith) h.1)

pub chains_counted : (q k : ℕ) (t : List ℕ → Bool) → t [] ≡ false → ((v : List ℕ) → length v < k → t v ≡ false → AtMost 1 (λ r. t (v ++ r ∷ []) ≡ true))
    → AtMost (k * q ^ (k - 1)) (λ v. (length v ≡ k) × AllByRecursion (λ c. c < q) v × (t v ≡ true))
chains_counted q k t f step =
    at_most_weaker (λ v. (length v ≡ k) × AllByRecursion (λ c. c < q) v × (t v ≡ true)) (Reaches q k t) (k * q ^ (k - 1)) (k * q ^ (k - 1)) (λ v h. (vector_of q k v h.0 h.1, h.2)) (omega arith) (chain_bound q k t f step)
