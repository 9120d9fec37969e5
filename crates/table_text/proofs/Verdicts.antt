-- The reading answers the declarations of a text of them, and the first fault of each other text.
use Rattle.std.proofs.Common.{◌≡◌, ℕ, suc, ◌+◌, ◌≤◌, ◌<◌, inl, inr, Bool, true, false, cond, List, [], ◌∷◌, ◌++◌, length, take, Option, Some, None, Result, Ok, Err, refl, sym, ◌∙◌, ap, subst, append_assoc, length-append, arith}
use Rattle.std.proofs.lemmas.List.{append-nil, map-append}
use Rattle.std.proofs.lemmas.Option.{slice_get-map, slice_get_within, slice_get_past}
use Rattle.std.proofs.lemmas.Bool.{cases_order}
use Rattle.std.proofs.Math.Seq.{take-append_seam}
use Rattle.std.specs.Prelude.{map, not, position, slice_get, option_map, MatchOption}
use Rattle.table_text.specs.Bytes.{is_text, open_paren}
use Rattle.table_text.specs.Lexing.{Token, name, reserved, number, mark, wrong, Spot, spots}
use Rattle.table_text.specs.Grammar.{IsFile}
use Rattle.table_text.specs.Limits.{max_open, max_declarations}
use Rattle.table_text.specs.Faults.{own_fault, is_mark_of, behind_boundary, begins_declaration, open_after, begun_in, IsTaken, GrammarRefuses, IsRefused, AreTaken, IsTokenFault, IsFirstFault, IsTablesText}
use Rattle.table_text.specs.Machine.{is_file_stage}
use Rattle.table_text.specs.Reading.{taken as taken_on, then_read, fault_at, finished, begin, reading_from, reading_at, reading}
use Rattle.table_text.specs.declared.decl.Decl.{Decl}
use Rattle.table_text.specs.declared.progress.Progress.{Progress}
use Rattle.table_text.specs.declared.fault.TextFault.{TextFault}
use Rattle.table_text.specs.declared.fault.TextKind.{TextKind}
use Rattle.table_text.specs.declared.fault.TextKind.TheVariants.{NotText, Unexpected, NumberTooWide, NameTooLong, TooDeep, TooMany}
use Rattle.table_text.proofs.Judged.{IsProgress, is_begin, Verdict, judged, ends, ends_not, only_file}

abbrev token_of : Spot → Token
token_of s = s.token

abbrev tokens_of : List Spot → List Token
tokens_of all = map (λ s. s.token) all

-- ---- lists

slice_get-append : {X : Type 0} (xs : List X) (y : X) (ys : List X) → slice_get (xs ++ y ∷ ys) (length xs) ≡ Some y
slice_get-append [] y ys = refl
slice_get-append (x ∷ xs) y ys = slice_get-append xs y ys

length-map : {X Y : Type 0} (f : X → Y) (xs : List X) → length (map f xs) ≡ length xs
length-map f [] = refl
length-map f (x ∷ xs) = ap suc (length-map f xs)

-- ---- one token is taken or refused, and by one kind

abbrev MayStand : List Token → ℕ → Type 0
MayStand ts k = MatchOption (slice_get ts k) ⊥ (IsTaken (take k ts))

one_more : (ts : List Token) (n : ℕ) → AreTaken ts n → MayStand ts n → AreTaken ts (n + 1)
one_more ts n before here k h =
    elim (cases_order k n) [
      | inl same ↦ subst (MayStand ts) (sym same) here
      | inr other ↦ elim other [ inl below ↦ before k below | inr above ↦ absurd (omega arith) ]
    ]

taken_not_refused : (before : List Token) (t : Token) (kind : TextKind) → IsTaken before t → IsRefused before t kind → ⊥
taken_not_refused before t kind a r = by_kind kind (subst (λ o. MatchOption o (GrammarRefuses before t kind) (λ k. kind ≡ k)) a.sound r)
  where
    by_kind : (kind : TextKind) → GrammarRefuses before t kind → ⊥
    by_kind Unexpected g = g a.allowed
    by_kind TooDeep g = let lt : open_after before < max_open = a.shallow g.1 in let ge : max_open ≤ open_after before = g.2 in omega arith
    by_kind TooMany g = let lt : begun_in before < max_declarations = a.few g.1 in let ge : max_declarations ≤ begun_in before = g.2 in omega arith
    by_kind NotText g = g
    by_kind NumberTooWide g = g
    by_kind NameTooLong g = g

no_mark_begins : (behind : Bool) (t : Token) → is_mark_of open_paren t ≡ true → begins_declaration behind t ≡ true → ⊥
no_mark_begins behind (name w) a b = cc
no_mark_begins behind (reserved w) a b = cc
no_mark_begins behind (number n) a b = cc
no_mark_begins behind (mark c) a b = cc
no_mark_begins behind (wrong k) a b = cc

one_kind : (before : List Token) (t : Token) (k l : TextKind) → GrammarRefuses before t k → GrammarRefuses before t l → k ≡ l
one_kind before t Unexpected Unexpected a b = refl
one_kind before t Unexpected TooDeep a b = absurd (a b.0)
one_kind before t Unexpected TooMany a b = absurd (a b.0)
one_kind before t Unexpected NotText a b = absurd b
one_kind before t Unexpected NumberTooWide a b = absurd b
one_kind before t Unexpected NameTooLong a b = absurd b
one_kind before t TooDeep Unexpected a b = absurd (b a.0)
one_kind before t TooDeep TooDeep a b = refl
one_kind before t TooDeep TooMany a b = absurd (no_mark_begins (behind_boundary false before) t a.1 b.1)
one_kind before t TooDeep NotText a b = absurd b
one_kind before t TooDeep NumberTooWide a b = absurd b
one_kind before t TooDeep NameTooLong a b = absurd b
one_kind before t TooMany Unexpected a b = absurd (b a.0)
one_kind before t TooMany TooDeep a b = absurd (no_mark_begins (behind_boundary false before) t b.1 a.1)
one_kind before t TooMany TooMany a b = refl
one_kind before t TooMany NotText a b = absurd b
one_kind before t TooMany NumberTooWide a b = absurd b
one_kind before t TooMany NameTooLong a b = absurd b
one_kind before t NotText l a b = absurd a
one_kind before t NumberTooWide l a b = absurd a
one_kind before t NameTooLong l a b = absurd a

one_kind_own : (before : List Token) (t : Token) (k l : TextKind) (o : Option TextKind) → MatchOption o (GrammarRefuses before t k) (λ own. k ≡ own) → MatchOption o (GrammarRefuses before t l) (λ own. l ≡ own) → k ≡ l
one_kind_own before t k l None a b = one_kind before t k l a b
one_kind_own before t k l (Some own) a b = a ∙ sym b

one_refusal : (before : List Token) (t : Token) (k l : TextKind) → IsRefused before t k → IsRefused before t l → k ≡ l
one_refusal before t k l a b = one_kind_own before t k l (own_fault t) a b

-- ---- one text has one answer

-- what is wrong at a number of tokens
abbrev FaultAt : List Spot → ℕ → TextFault → ℕ → Type 0
FaultAt all end f n = MatchOption (slice_get all n)
    ((n ≡ length all) × ((decls : List Decl) → ¬ IsFile (tokens_of all) decls) × (f.place ≡ end) × (f.kind ≡ Unexpected))
    (λ s. (f.place ≡ s.place) × IsRefused (take n (tokens_of all)) s.token f.kind)

-- a token that may stand isn't at fault
clash : (all : List Spot) (end : ℕ) (f : TextFault) (n : ℕ) → MayStand (tokens_of all) n → FaultAt all end f n → ⊥
clash all end f n may bad = at (slice_get all n) refl
  where
    at : (o : Option Spot) → slice_get all n ≡ o → ⊥
    at None e = subst (λ o. MatchOption o ⊥ (IsTaken (take n (tokens_of all)))) (slice_get-map token_of all n ∙ ap (option_map token_of) e) may
    at (Some s) e =
        let m : IsTaken (take n (tokens_of all)) s.token = subst (λ o. MatchOption o ⊥ (IsTaken (take n (tokens_of all)))) (slice_get-map token_of all n ∙ ap (option_map token_of) e) may in
        let w : (f.place ≡ s.place) × IsRefused (take n (tokens_of all)) s.token f.kind = subst (λ o. MatchOption o ((n ≡ length all) × ((decls : List Decl) → ¬ IsFile (tokens_of all) decls) × (f.place ≡ end) × (f.kind ≡ Unexpected)) (λ (s : Spot). (f.place ≡ s.place) × IsRefused (take n (tokens_of all)) s.token f.kind)) e bad in
        taken_not_refused (take n (tokens_of all)) s.token f.kind m w.1

same_fault : (f g : TextFault) → f.place ≡ g.place → f.kind ≡ g.kind → f ≡ g
same_fault f g p k = ap (λ n. fault_at n f.kind) p ∙ ap (fault_at g.place) k

same_at : (all : List Spot) (end n : ℕ) (f g : TextFault) (o : Option Spot)
    → MatchOption o ((n ≡ length all) × ((decls : List Decl) → ¬ IsFile (tokens_of all) decls) × (f.place ≡ end) × (f.kind ≡ Unexpected)) (λ s. (f.place ≡ s.place) × IsRefused (take n (tokens_of all)) s.token f.kind)
    → MatchOption o ((n ≡ length all) × ((decls : List Decl) → ¬ IsFile (tokens_of all) decls) × (g.place ≡ end) × (g.kind ≡ Unexpected)) (λ s. (g.place ≡ s.place) × IsRefused (take n (tokens_of all)) s.token g.kind) → f ≡ g
same_at all end n f g None a b = same_fault f g (a.2 ∙ sym b.2) (a.3 ∙ sym b.3)
same_at all end n f g (Some s) a b = same_fault f g (a.0 ∙ sym b.0) (one_refusal (take n (tokens_of all)) s.token f.kind g.kind a.1 b.1)

one_token_fault : (all : List Spot) (end : ℕ) (f g : TextFault) → IsTokenFault all end f → IsTokenFault all end g → f ≡ g
one_token_fault all end f g a b =
    elim (cases_order a.at b.at) [
      | inl same ↦ same_at all end b.at f g (slice_get all b.at) (subst (FaultAt all end f) same a.is) b.is
      | inr other ↦ elim other [
        | inl below ↦ absurd (clash all end f a.at (b.taken a.at below) a.is)
        | inr above ↦ absurd (clash all end g b.at (a.taken b.at above) b.is)
      ]
    ]

text_no_fault : (all : List Spot) (end : ℕ) (ds : List Decl) (f : TextFault) → AreTaken (tokens_of all) (length all) → IsFile (tokens_of all) ds → IsTokenFault all end f → ⊥
text_no_fault all end ds f taken file fault = at (slice_get all fault.at) refl
  where
    at : (o : Option Spot) → slice_get all fault.at ≡ o → ⊥
    at None e =
        let w : (fault.at ≡ length all) × ((decls : List Decl) → ¬ IsFile (tokens_of all) decls) × (f.place ≡ end) × (f.kind ≡ Unexpected) = subst (λ o. MatchOption o ((fault.at ≡ length all) × ((decls : List Decl) → ¬ IsFile (tokens_of all) decls) × (f.place ≡ end) × (f.kind ≡ Unexpected)) (λ (s : Spot). (f.place ≡ s.place) × IsRefused (take fault.at (tokens_of all)) s.token f.kind)) e fault.is in
        w.1 ds file
    at (Some s) e = clash all end f fault.at (taken fault.at (slice_get_within all fault.at s e)) fault.is

-- ---- the reading

abbrev Answer : List Spot → ℕ → Result (List Decl) TextFault → Type 0
Answer all end (Ok ds) = AreTaken (tokens_of all) (length all) × IsFile (tokens_of all) ds
Answer all end (Err f) = IsTokenFault all end f

reading_from-cons : (p : Progress) (s : Spot) (rest : List Spot) (end : ℕ) → reading_from p (s ∷ rest) end ≡ then_read (taken_on p s.place s.token) (λ q. reading_from q rest end)
unfolding reading_from
reading_from-cons p s rest end = refl

reading_from-nil : (p : Progress) (end : ℕ) → reading_from p [] end ≡ finished p.state end
unfolding reading_from
reading_from-nil p end = refl

answer_end : (all : List Spot) (end : ℕ) (p : Progress) (b : Bool) → is_file_stage p.state.stage ≡ b → AreTaken (tokens_of all) (length all) → IsProgress (tokens_of all) p → Answer all end (cond b (Ok p.state.decls) (Err (fault_at end Unexpected)))
answer_end all end p true e taken h = (taken, ends (tokens_of all) p.state h.read e)
answer_end all end p false e taken h = record {
  at = length all;
  taken = taken;
  is = subst (λ o. MatchOption o ((length all ≡ length all) × ((decls : List Decl) → ¬ IsFile (tokens_of all) decls) × (end ≡ end) × (Unexpected ≡ Unexpected)) (λ (s : Spot). (end ≡ s.place) × IsRefused (take (length all) (tokens_of all)) s.token Unexpected))
      (sym (slice_get_past all (length all) (omega arith))) (refl, (λ ds. ends_not (tokens_of all) p.state ds h.read e), refl, refl);
}

-- the place of a token in a list
pub record IsNext (all done rest : List Spot) (s : Spot) : Type 0 where
  pub split : done ++ s ∷ rest ≡ all

next_spot : (all done rest : List Spot) (s : Spot) → done ++ s ∷ rest ≡ all → slice_get all (length done) ≡ Some s
next_spot all done rest s h = ap (λ xs. slice_get xs (length done)) (sym h) ∙ slice_get-append done s rest

next_before : (all done rest : List Spot) (s : Spot) → done ++ s ∷ rest ≡ all → take (length done) (tokens_of all) ≡ tokens_of done
next_before all done rest s h =
    ap (λ xs. take (length done) (tokens_of xs)) (sym h) ∙ ap (take (length done)) (map-append token_of done (s ∷ rest))
    ∙ ap (λ n. take n (tokens_of done ++ tokens_of (s ∷ rest))) (sym (length-map token_of done)) ∙ take-append_seam (tokens_of done) (tokens_of (s ∷ rest))

may_stand : (all done rest : List Spot) (s : Spot) → done ++ s ∷ rest ≡ all → IsTaken (tokens_of done) s.token → MayStand (tokens_of all) (length done)
may_stand all done rest s h a =
    subst (λ o. MatchOption o ⊥ (IsTaken (take (length done) (tokens_of all)))) (sym (slice_get-map token_of all (length done) ∙ ap (option_map token_of) (next_spot all done rest s h)))
    (subst (λ ts. IsTaken ts s.token) (sym (next_before all done rest s h)) a)

fault_here : (all done rest : List Spot) (s : Spot) (end : ℕ) (f : TextFault) → done ++ s ∷ rest ≡ all → AreTaken (tokens_of all) (length done) → (f.place ≡ s.place) × IsRefused (tokens_of done) s.token f.kind → IsTokenFault all end f
fault_here all done rest s end f h taken r = record {
  at = length done;
  taken = taken;
  is = subst (λ o. MatchOption o ((length done ≡ length all) × ((decls : List Decl) → ¬ IsFile (tokens_of all) decls) × (f.place ≡ end) × (f.kind ≡ Unexpected)) (λ (s : Spot). (f.place ≡ s.place) × IsRefused (take (length done) (tokens_of all)) s.token f.kind))
      (sym (next_spot all done rest s h)) (r.0, subst (λ ts. IsRefused ts s.token f.kind) (sym (next_before all done rest s h)) r.1);
}

answer_step : (all done rest : List Spot) (s : Spot) (end : ℕ) → done ++ s ∷ rest ≡ all → AreTaken (tokens_of all) (length done)
    → ((q : Progress) → (done ++ s ∷ []) ++ rest ≡ all → AreTaken (tokens_of all) (length (done ++ s ∷ [])) → IsProgress (tokens_of (done ++ s ∷ [])) q → Answer all end (reading_from q rest end))
    → (r : Result Progress TextFault) → Verdict (tokens_of done) s.place s.token r → Answer all end (then_read r (λ q. reading_from q rest end))
answer_step all done rest s end h taken more (Ok q) v =
    let longer : length done + 1 ≡ length (done ++ s ∷ []) = sym (length-append done (s ∷ [])) in
    more q (append_assoc done (s ∷ []) rest ∙ h) (subst (AreTaken (tokens_of all)) longer (one_more (tokens_of all) (length done) taken (may_stand all done rest s h v.0)))
    (subst (λ ts. IsProgress ts q) (sym (map-append token_of done (s ∷ []))) v.1)
answer_step all done rest s end h taken more (Err f) v = fault_here all done rest s end f h taken v

answers : (all : List Spot) (end : ℕ) (done rest : List Spot) (p : Progress) → done ++ rest ≡ all → AreTaken (tokens_of all) (length done) → IsProgress (tokens_of done) p → Answer all end (reading_from p rest end)
answers all end done [] p h taken progress =
    let same : done ≡ all = sym (append-nil done) ∙ h in
    subst (Answer all end) (sym (reading_from-nil p end)) (answer_end all end p (is_file_stage p.state.stage) refl
    (subst (λ ds. AreTaken (tokens_of all) (length ds)) same taken) (subst (λ ds. IsProgress (tokens_of ds) p) same progress))
answers all end done (s ∷ rest) p h taken progress =
    subst (Answer all end) (sym (reading_from-cons p s rest end))
    (answer_step all done rest s end h taken (λ q split t r. answers all end (done ++ s ∷ []) rest q split t r) (taken_on p s.place s.token) (judged (tokens_of done) p s.place s.token progress))

-- what is right about an answer to a text
abbrev pub IsAnswer : List ℕ → Result (List Decl) TextFault → Type 0
IsAnswer text (Ok ds) = IsTablesText text ds
IsAnswer text (Err f) = IsFirstFault text f

abbrev first_byte : List ℕ → Option ℕ
first_byte text = position (λ b. not (is_text b)) text

from_tokens : (text : List ℕ) (r : Result (List Decl) TextFault) → first_byte text ≡ None → Answer (spots text) (length text) r → IsAnswer text r
from_tokens text (Ok ds) e a = record { bytes = e; taken = a.0; file = a.1 }
from_tokens text (Err f) e a = subst (λ o. MatchOption o (IsTokenFault (spots text) (length text) f) (λ place. (f.place ≡ place) × (f.kind ≡ NotText))) (sym e) a

answers_at : (text : List ℕ) (o : Option ℕ) → first_byte text ≡ o → IsAnswer text (reading_at text o)
answers_at text None e = from_tokens text (reading_from begin (spots text) (length text)) e (answers (spots text) (length text) [] (spots text) begin refl (λ k h. absurd (omega arith)) is_begin)
answers_at text (Some place) e = subst (λ o. MatchOption o (IsTokenFault (spots text) (length text) (fault_at place NotText)) (λ at. (place ≡ at) × (NotText ≡ NotText))) (sym e) (refl, refl)

pub reading_is : (text : List ℕ) → IsAnswer text (reading text)
reading_is text = answers_at text (first_byte text) refl

one_fault_at : (text : List ℕ) (o : Option ℕ) (f g : TextFault)
    → MatchOption o (IsTokenFault (spots text) (length text) f) (λ place. (f.place ≡ place) × (f.kind ≡ NotText))
    → MatchOption o (IsTokenFault (spots text) (length text) g) (λ place. (g.place ≡ place) × (g.kind ≡ NotText)) → f ≡ g
one_fault_at text None f g a b = one_token_fault (spots text) (length text) f g a b
one_fault_at text (Some place) f g a b = same_fault f g (a.0 ∙ sym b.0) (a.1 ∙ sym b.1)

one_fault : (text : List ℕ) (f g : TextFault) → IsFirstFault text f → IsFirstFault text g → f ≡ g
one_fault text f g a b = one_fault_at text (first_byte text) f g a b

text_or_fault : (text : List ℕ) (ds : List Decl) (f : TextFault) → IsTablesText text ds → IsFirstFault text f → ⊥
text_or_fault text ds f t a = text_no_fault (spots text) (length text) ds f t.taken t.file
    (subst (λ o. MatchOption o (IsTokenFault (spots text) (length text) f) (λ place. (f.place ≡ place) × (f.kind ≡ NotText))) t.bytes a)

only_ok : (text : List ℕ) (ds : List Decl) (r : Result (List Decl) TextFault) → IsAnswer text r → IsTablesText text ds → r ≡ Ok ds
only_ok text ds (Ok es) a t = ap Ok (only_file (tokens_of (spots text)) es ds a.file t.file)
only_ok text ds (Err f) a t = absurd (text_or_fault text ds f t a)

only_err : (text : List ℕ) (f : TextFault) (r : Result (List Decl) TextFault) → IsAnswer text r → IsFirstFault text f → r ≡ Err f
only_err text f (Ok ds) a b = absurd (text_or_fault text ds f a b)
only_err text f (Err g) a b = ap Err (one_fault text g f a b)

-- each text of declarations is read so, and nothing else is
pub reading-tables : (text : List ℕ) (ds : List Decl) → IsTablesText text ds → reading text ≡ Ok ds
reading-tables text ds t = only_ok text ds (reading text) (reading_is text) t

pub tables-reading : (text : List ℕ) (ds : List Decl) → reading text ≡ Ok ds → IsTablesText text ds
tables-reading text ds e = subst (IsAnswer text) e (reading_is text)

pub reading-fault : (text : List ℕ) (f : TextFault) → IsFirstFault text f → reading text ≡ Err f
reading-fault text f t = only_err text f (reading text) (reading_is text) t

pub fault-reading : (text : List ℕ) (f : TextFault) → reading text ≡ Err f → IsFirstFault text f
fault-reading text f e = subst (IsAnswer text) e (reading_is text)
