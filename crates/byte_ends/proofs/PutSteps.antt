use Rattle.std.proofs.Common.{◌≡◌, ℕ, ◌+◌, List, ◌++◌, take, drop, ap, ◌∙◌, sym, subst, append_assoc, Bool}
use Rattle.std.specs.Prelude.{IsTrue}
use Rattle.byte_ends.specs.Sink.{SinkState, Puts}
use Rattle.byte_ends.proofs.Pieces.{take-add}

-- what is told stays told along an equation
pub told_along : (a b : Bool) → a ≡ b → IsTrue b → IsTrue a
told_along a b same told = let P : Bool → Type 0 = λ v. IsTrue v in subst P (sym same) told

-- a first part of the bytes, and then a first part of the others, is a longer first part
pub put_more : (first middle last : SinkState) (bytes : List ℕ) (done count : ℕ)
    → middle.told ≡ first.told
    → Puts first middle (take done bytes)
    → Puts middle last (take count (drop done bytes))
    → Puts first last (take (done + count) bytes)
put_more first middle last bytes done count same begun more told =
    more (told_along middle.told first.told same told)
    ∙ ap (λ front. front ++ take count (drop done bytes)) (begun told)
    ∙ append_assoc first.bytes (take done bytes) (take count (drop done bytes))
    ∙ ap (λ back. first.bytes ++ back) (sym (take-add done count bytes))
