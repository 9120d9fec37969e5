-- Tests of the names of a list.
use Rattle.std.proofs.Common.{◌≡◌, ℕ, ◌+◌, Bool, ◌||◌, false, cond, List, [], ◌∷◌, ◌++◌, map, Option, Some, refl, ap, ◌∙◌}
use Rattle.std.specs.List.{list_any, position, position_from}
use Rattle.std.proofs.lemmas.Iterator.Adapters.{position_from-zero}
use Rattle.std.proofs.lemmas.List.{map-append}

pub list_any-map : {X Y : Type 0} (p : Y → Bool) (f : X → Y) (xs : List X) → list_any (λ x. p (f x)) xs ≡ list_any p (map f xs)
list_any-map p f [] = refl
list_any-map p f (x ∷ xs) = ap (λ b. p (f x) || b) (list_any-map p f xs)

pub position_from-map : {X Y : Type 0} (p : Y → Bool) (f : X → Y) (i : ℕ) (xs : List X) → position_from (λ x. p (f x)) i xs ≡ position_from p i (map f xs)
position_from-map p f i [] = refl
position_from-map p f i (x ∷ xs) = ap (λ (o : Option ℕ). cond (p (f x)) (Some i) o) (position_from-map p f (i + 1) xs)

-- the names, once one that is new stands at the end
pub names_added : {X Y : Type 0} (p : X → Bool) (f : X → Y) (keys new : List X) (k : X) → list_any p keys ≡ false → new ≡ cond (list_any p keys) keys (keys ++ k ∷ []) → map f new ≡ map f keys ++ f k ∷ []
names_added p f keys new k absent is = ap (map f) (is ∙ ap (λ (b : Bool). cond b keys (keys ++ k ∷ [])) absent) ∙ map-append f keys (k ∷ [])

-- the place of a name among the names
pub position_is : {X Y : Type 0} (p : Y → Bool) (f : X → Y) (xs : List X) → position (λ x. p (f x)) xs ≡ position_from p 0 (map f xs)
position_is p f xs = position_from-zero (λ x. p (f x)) xs ∙ position_from-map p f 0 xs
