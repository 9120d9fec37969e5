-- What is owed at an entry, told of the entry's own kind and number; and a machine inside another.
use Rattle.std.proofs.Common.{◌≡◌, ℕ, List, ◌∷◌, subst}
use Rattle.sumcheck.specs.declared.entry.Entry.{Entry}
use Rattle.sumcheck.specs.declared.entry.Entry.TheVariants.{Message, Draw}
use Rattle.poly_forms.specs.declared.check_kind.CheckKind.{CheckKind}
use Rattle.poly_forms.specs.declared.draw_kind.DrawKind.{DrawKind}
use Rattle.sumcheck.specs.Machine.{Machine, Filling, AtMessage, AtDraw}

pub same_message : {S : Type 0} (M : Machine S) (s : S) (F : Filling) (c d : CheckKind) (m n : ℕ) (es ds : List Entry) → Message c m ∷ es ≡ Message d n ∷ ds → AtMessage M s m es F → AtMessage M s n ds F
same_message M s F c d m n es ds e h =
    let a : m ≡ n = cc in let b : es ≡ ds = cc in subst (λ n. AtMessage M s n ds F) a (subst (λ es. AtMessage M s m es F) b h)

pub same_draw : {S : Type 0} (M : Machine S) (s : S) (F : Filling) (c d : DrawKind) (m n : ℕ) (es ds : List Entry) → Draw c m ∷ es ≡ Draw d n ∷ ds → AtDraw M s m es F → AtDraw M s n ds F
same_draw M s F c d m n es ds e h =
    let a : m ≡ n = cc in let b : es ≡ ds = cc in subst (λ n. AtDraw M s n ds F) a (subst (λ es. AtDraw M s m es F) b h)
