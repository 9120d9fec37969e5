-- Steps of a loop over elements.
use Rattle.std.proofs.Common.{◌≡◌, ◌∙◌, ℕ, suc, ◌+◌, ◌<◌, ◌≤◌, ◌^◌, List, ◌∷◌, length, drop, get_or, ap, sym, subst, add-one, drop-cons, drop_of_length-le}
use Rattle.tower_laws.specs.Lists.{AllFit}

pub fit_more : (i : ℕ) (values : List ℕ) (v : ℕ) → i < length values → v ≡ get_or values i v → v < 2 ^ 128 → (AllFit 7 (drop i values) → AllFit 7 values) → AllFit 7 (drop (i + 1) values) → AllFit 7 values
fit_more i values v l e s h rest =
    let d : drop i values ≡ v ∷ drop (i + 1) values = drop-cons values i v l ∙ rw add-one (ap (λ x. x ∷ drop (suc i) values) (sym e)) in
    h (subst (AllFit 7) (sym d) (s, rest))

pub fit_all : (i : ℕ) (values : List ℕ) → length values ≤ i → AllFit 7 (drop i values)
fit_all i values l = subst (AllFit 7) (sym (drop_of_length-le values l)) tt
