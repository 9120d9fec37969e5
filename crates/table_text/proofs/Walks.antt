-- The walk over a text, piece by piece.
use Rattle.std.proofs.Common.{◌≡◌, ℕ, zero, suc, ◌+◌, ◌-◌, ◌≤◌, ◌<◌, List, [], ◌∷◌, ◌++◌, length, take, drop, length-drop, Option, Some, None, Result, Ok, refl, sym, ◌∙◌, ap, subst, arith}
use Rattle.std.proofs.lemmas.List.{drop-drop, drop_all, take_all}
use Rattle.table_text.specs.Lexing.{Token, Spot, Piece, piece_at, spot_at, spots_from}
use Rattle.table_text.specs.Reading.{Fails, then_read, after_piece, reading_from, finished}
use Rattle.table_text.specs.declared.decl.Decl.{Decl}
use Rattle.table_text.specs.declared.progress.Progress.{Progress}
use Rattle.table_text.specs.declared.fault.TextFault.{TextFault}
use Rattle.table_text.specs.declared.fault.TextStop.{TextStop}
use Rattle.table_text.specs.declared.fault.TextStop.TheVariants as stop
use Rattle.table_text.proofs.Pieces.{takes}

-- the rest of a piece is skipped
pub spots_from-skip : (place k : ℕ) (bytes : List ℕ) → spots_from place k bytes ≡ spots_from (place + k) 0 (drop k bytes)
unfolding spots_from
spots_from-skip place zero [] = refl
spots_from-skip place (suc k) [] = refl
spots_from-skip place zero (b ∷ bytes) = ap (λ n. spots_from n 0 (b ∷ bytes)) (let z : place ≡ place + 0 = omega arith in z)
spots_from-skip place (suc k) (b ∷ bytes) = spots_from-skip (place + 1) k bytes ∙ ap (λ n. spots_from n 0 (drop k bytes)) (let z : place + 1 + k ≡ place + suc k = omega arith in z)

spots_front : (place : ℕ) (b : ℕ) (bytes : List ℕ) → spots_from place 0 (b ∷ bytes) ≡ spot_at place (piece_at (b ∷ bytes)).token ++ spots_from (place + 1) ((piece_at (b ∷ bytes)).len - 1) bytes
unfolding spots_from
spots_front place b bytes = refl

drop_back : (n b : ℕ) (bytes : List ℕ) → 1 ≤ n → drop (n - 1) bytes ≡ drop n (b ∷ bytes)
drop_back zero b bytes h = absurd (omega arith)
drop_back (suc n) b bytes h = ap (λ k. drop k bytes) (let z : suc n - 1 ≡ n = omega arith in z)

abbrev after_len : ℕ → List ℕ → List Spot
after_len place bytes = spots_from (place + (piece_at bytes).len) 0 (drop (piece_at bytes).len bytes)

spots_next : (place b : ℕ) (bytes : List ℕ) → spots_from place 0 (b ∷ bytes) ≡ spot_at place (piece_at (b ∷ bytes)).token ++ after_len place (b ∷ bytes)
spots_next place b bytes =
    let n = (piece_at (b ∷ bytes)).len in
    let one : 1 ≤ n = (takes b bytes).goes_on in
    let sum : place + 1 + (n - 1) ≡ place + n = omega arith in
    spots_front place b bytes ∙ ap (λ ss. spot_at place (piece_at (b ∷ bytes)).token ++ ss)
    (spots_from-skip (place + 1) (n - 1) bytes ∙ ap (λ k. spots_from k 0 (drop (n - 1) bytes)) sum ∙ ap (spots_from (place + n) 0) (drop_back n b bytes one))

spot_read : (p : Progress) (place : ℕ) (token : Option Token) (spots : List Spot) (end : ℕ) → reading_from p (spot_at place token ++ spots) end ≡ then_read (after_piece p place token) (λ q. reading_from q spots end)
unfolding reading_from
spot_read p place None spots end = refl
spot_read p place (Some token) spots end = refl

-- reading goes on behind the piece at the front
pub reading_next : (p : Progress) (place : ℕ) (bytes : List ℕ) (end : ℕ) → 0 < length bytes
    → reading_from p (spots_from place 0 bytes) end ≡ then_read (after_piece p place (piece_at bytes).token) (λ q. reading_from q (after_len place bytes) end)
reading_next p place [] end h = absurd (omega arith)
reading_next p place (b ∷ bytes) end h = ap (λ ss. reading_from p ss end) (spots_next place b bytes) ∙ spot_read p place (piece_at (b ∷ bytes)).token (after_len place (b ∷ bytes)) end

-- reading goes on behind a piece of this length and token
goes_on_at : (p : Progress) (at len : ℕ) (token : Option Token) (text : List ℕ) → at < length text
    → record { len = len; token = token } ≡ piece_at (drop at text)
    → reading_from p (spots_from at 0 (drop at text)) (length text) ≡ then_read (after_piece p at token) (λ q. reading_from q (spots_from (at + len) 0 (drop (at + len) text)) (length text))
goes_on_at p at len token text inside piece =
    let some : length (drop at text) ≡ length text - at = length-drop at text in
    reading_next p at (drop at text) (length text) (omega arith)
    ∙ ap (λ (w : Piece). then_read (after_piece p at w.token) (λ q. reading_from q (spots_from (at + w.len) 0 (drop w.len (drop at text))) (length text))) (sym piece)
    ∙ ap (λ bs. then_read (after_piece p at token) (λ q. reading_from q (spots_from (at + len) 0 bs) (length text))) (drop-drop len at text)

abbrev onward : (at len : ℕ) (text : List ℕ) → Progress → Result (List Decl) TextFault
onward at len text q = reading_from q (spots_from (at + len) 0 (drop (at + len) text)) (length text)

pub reading_goes_on : (p q : Progress) (at len : ℕ) (token : Option Token) (text : List ℕ) (all : Result (List Decl) TextFault) → at < length text
    → record { len = len; token = token } ≡ piece_at (drop at text) → after_piece p at token ≡ Ok q
    → reading_from p (spots_from at 0 (drop at text)) (length text) ≡ all → reading_from q (spots_from (at + len) 0 (drop (at + len) text)) (length text) ≡ all
reading_goes_on p q at len token text all inside piece step h =
    sym (ap (λ r. then_read r (onward at len text)) step) ∙ sym (goes_on_at p at len token text inside piece) ∙ h

fails_on : (e : TextStop) (r : Result Progress TextFault) (more : Progress → Result (List Decl) TextFault) → Fails e r → Fails e (then_read r more)
fails_on (stop.Fault f) r more h = ap (λ x. then_read x more) h
fails_on stop.NoMemory r more h = tt

pub reading_fails : (p : Progress) (e : TextStop) (at len : ℕ) (token : Option Token) (text : List ℕ) (all : Result (List Decl) TextFault) → at < length text
    → record { len = len; token = token } ≡ piece_at (drop at text) → Fails e (after_piece p at token)
    → reading_from p (spots_from at 0 (drop at text)) (length text) ≡ all → Fails e all
reading_fails p e at len token text all inside piece failed h =
    subst (Fails e) (sym (goes_on_at p at len token text inside piece) ∙ h) (fails_on e _ (onward at len text) failed)

pub reading_ends : (p : Progress) (at : ℕ) (text : List ℕ) (all : Result (List Decl) TextFault) → length text ≤ at
    → reading_from p (spots_from at 0 (drop at text)) (length text) ≡ all → finished p.state (length text) ≡ all
unfolding reading_from spots_from
reading_ends p at text all end h = ap (λ bs. reading_from p (spots_from at 0 bs) (length text)) (sym (drop_all at text end)) ∙ h

-- what a slice from a place on has
pub tail_is : (at : ℕ) (text : List ℕ) → take (length text - at) (drop at text) ≡ drop at text
tail_is at text = take_all (length text - at) (drop at text) (let e : length (drop at text) ≡ length text - at = length-drop at text in omega arith)

pub tail_len : (at : ℕ) (text : List ℕ) → length (take (length text - at) (drop at text)) ≡ length text - at
tail_len at text = ap length (tail_is at text) ∙ length-drop at text
