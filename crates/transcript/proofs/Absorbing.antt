-- Values taken in one after the other.
use Rattle.std.proofs.Common.{◌≡◌, ℕ, ◌+◌, ◌*◌, ◌<◌, List, [], ◌∷◌, ◌++◌, length, take, get_or, refl, sym, ◌∙◌, ap, subst, arith, append_assoc}
use Rattle.std.proofs.lemmas.List.{flat_map_more, take_more, take_all, get_or_read, length-append, append-nil}
use Rattle.std.specs.Int.{w64, w128, to_le_bytes}
use Rattle.sha2.specs.Sha256.{sha256}
use Rattle.sha2.specs.Hashers.{Holds256}
use Rattle.sha2.specs.declared.Sha256.{Sha256}
use Rattle.transcript.specs.Transcript.{Event, after, after_all, after_absorb, bytes_of}

pub after_all-push : (state : List ℕ) (es : List Event) (e : Event) → after_all state (es ++ e ∷ []) ≡ after (after_all state es) e
after_all-push state [] e = refl
after_all-push state (f ∷ es) e = after_all-push (after state f) es e

-- what a hasher holds after the first values
abbrev pub begun : List ℕ → ℕ → List ℕ → ℕ → List ℕ
begun state tag values i = (state ++ 0 ∷ tag ∷ to_le_bytes w64 (16 * length values)) ++ bytes_of (take i values)

pub none_taken : (h : Sha256) (state : List ℕ) (tag : ℕ) (values : List ℕ) → Holds256 h (state ++ 0 ∷ tag ∷ to_le_bytes w64 (16 * length values)) → Holds256 h (begun state tag values 0)
none_taken h state tag values m = subst (Holds256 h) (sym (append-nil (state ++ 0 ∷ tag ∷ to_le_bytes w64 (16 * length values)))) m

pub value_more : (h : Sha256) (state : List ℕ) (tag : ℕ) (values : List ℕ) (i v : ℕ) (d : List ℕ) → i < length values → v ≡ get_or values i v → d ≡ to_le_bytes w128 v
    → Holds256 h (begun state tag values i ++ d) → Holds256 h (begun state tag values (i + 1))
value_more h state tag values i v d l e f m =
    let t = take_more values i 0 l in
    let r = get_or_read values i v l e 0 in
    let q = flat_map_more (to_le_bytes w128) (state ++ 0 ∷ tag ∷ to_le_bytes w64 (16 * length values)) (take i values) (get_or values i 0) in
    subst (Holds256 h) (ap (λ w. begun state tag values i ++ w) (f ∙ ap (to_le_bytes w128) r) ∙ q ∙ ap (λ w. (state ++ 0 ∷ tag ∷ to_le_bytes w64 (16 * length values)) ++ bytes_of w) (sym t)) m

pub length-bytes : (values : List ℕ) → length (bytes_of values) ≡ 16 * length values
length-bytes [] = refl
length-bytes (v ∷ values) = let h = length-bytes values in let a = length-append (to_le_bytes w128 v) (bytes_of values) in omega arith

pub all_taken : (state : List ℕ) (tag : ℕ) (values : List ℕ) (i : ℕ) → i ≡ length values → sha256 (begun state tag values i) ≡ after_absorb state tag (bytes_of values)
all_taken state tag values i e =
    let t = take_all i values (omega arith) in
    ap (λ w. sha256 ((state ++ 0 ∷ tag ∷ to_le_bytes w64 (16 * length values)) ++ bytes_of w)) t
    ∙ ap sha256 (append_assoc state (0 ∷ tag ∷ to_le_bytes w64 (16 * length values)) (bytes_of values))
    ∙ ap (λ n. sha256 (state ++ 0 ∷ tag ∷ (to_le_bytes w64 n ++ bytes_of values))) (sym (length-bytes values))
