-- Steps of the writer of a proof, and of the reader of its values.
use Rattle.std.proofs.Common.{◌≡◌, ◌∙◌, sym, ap, subst, arith, ℕ, suc, ◌+◌, ◌<◌, List, [], ◌∷◌, ◌++◌, length, take, drop, append_assoc, length-append, get_or, add-one, drop-cons}
use Rattle.std.specs.Int.{from_le_bytes, to_le_bytes, w128}
use Rattle.transcript.specs.Transcript.{bytes_of}
use Rattle.proof_format.specs.TextParts.{HasRoom, TextParts, with_bytes}
use Rattle.proof_format.specs.Values.{values_of}

-- ---- bytes are appended
pub room_left : (text new : TextParts) (bytes : List ℕ) (n k m : ℕ) → new ≡ with_bytes text bytes → length bytes ≡ n → k ≡ n + m → HasRoom text k → HasRoom new m
room_left text new bytes n k m e l d room =
    subst (λ t. HasRoom t m) (sym e) (let a = length-append text.bytes bytes in omega arith)

pub value_written : (i : ℕ) (values : List ℕ) (v : ℕ) (text : TextParts) (bytes : List ℕ) → i < length values → v ≡ get_or values i v → bytes ≡ to_le_bytes w128 v
    → with_bytes (with_bytes text bytes) (bytes_of (drop (i + 1) values)) ≡ with_bytes text (bytes_of (drop i values))
value_written i values v text bytes l e b =
    let d : drop i values ≡ v ∷ drop (i + 1) values = drop-cons values i v l ∙ rw add-one (ap (λ x. x ∷ drop (suc i) values) (sym e)) in
    ap (λ (bs : List ℕ). record text { bytes = bs }) (append_assoc text.bytes bytes (bytes_of (drop (i + 1) values)) ∙ ap (λ (bs : List ℕ). text.bytes ++ (bs ++ bytes_of (drop (i + 1) values))) b ∙ ap (λ vs. text.bytes ++ bytes_of vs) (sym d))

-- ---- a value is read
pub value_read : (n m : ℕ) (bytes rest out pushed all : List ℕ) (v : ℕ) → suc n ≡ m → v ≡ from_le_bytes w128 (take 16 bytes) → rest ≡ drop 16 bytes → pushed ≡ out ++ v ∷ []
    → out ++ values_of m bytes ≡ all → pushed ++ values_of n rest ≡ all
value_read n m bytes rest out pushed all v e w r p h =
    ap (λ x. x ++ values_of n rest) p ∙ ap (λ x. (out ++ v ∷ []) ++ values_of n x) r ∙ append_assoc out (v ∷ []) (values_of n (drop 16 bytes))
    ∙ ap (λ x. out ++ x ∷ values_of n (drop 16 bytes)) w ∙ ap (λ k. out ++ values_of k bytes) e ∙ h
