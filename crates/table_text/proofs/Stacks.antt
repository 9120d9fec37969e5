-- The last element of a list.
use Rattle.std.proofs.Common.{◌≡◌, List, [], ◌∷◌, ◌++◌, Some, false, length, refl, sym, ap, ◌∙◌}
use Rattle.std.proofs.lemmas.List.{reverse-append}
use Rattle.std.proofs.Math.Dec.{eqb-suc-zero}
use Rattle.std.specs.Prelude.{◌==◌, reverse}
use Rattle.table_text.specs.Drafts.{is_done}
use Rattle.table_text.specs.declared.slots.Slot.{Slot}
use Rattle.table_text.specs.Machine.{split_last, put_front}

pub split_last-append : {X : Type 0} (xs : List X) (x : X) → split_last (xs ++ x ∷ []) ≡ Some (xs, x)
split_last-append [] x = refl
split_last-append (y ∷ xs) x = ap (λ r. Some (put_front y r)) (split_last-append xs x)

pub split_last_of : {X : Type 0} (xs ys : List X) (y : X) → xs ≡ ys ++ y ∷ [] → split_last xs ≡ Some (ys, y)
split_last_of xs ys y h = ap split_last h ∙ split_last-append ys y

is_done-append : (slots : List Slot) (slot : Slot) → is_done (slots ++ slot ∷ []) ≡ false
is_done-append [] slot = refl
is_done-append (s ∷ slots) slot = refl

pub done_reverse : (slots : List Slot) → is_done (reverse slots) ≡ (length slots == 0)
done_reverse [] = refl
done_reverse (slot ∷ slots) = ap is_done (reverse-append (slot ∷ []) slots) ∙ is_done-append (reverse slots) slot ∙ sym (eqb-suc-zero (length slots))
