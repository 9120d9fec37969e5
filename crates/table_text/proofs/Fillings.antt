-- What may stand at places, and that a draft has just read something of it.
use Rattle.std.proofs.Common.{◌≡◌, ℕ, ◌⊎◌, inl, inr, List, [], ◌∷◌, ◌++◌, Option, Some, None, refl, sym, ◌∙◌, ap, subst, append_assoc, true}
use Rattle.std.proofs.lemmas.Option.{cond_some, none-some, same_Some}
use Rattle.std.specs.Prelude.{cond, codes, option_map, option_and_then}
use Rattle.table_text.specs.Bytes.{close_paren, times_sign, plus_sign, comma, semicolon}
use Rattle.table_text.specs.Lexing.{Token, name, reserved, number, mark, wrong}
use Rattle.table_text.specs.Faults.{is_mark_of}
use Rattle.table_text.specs.TokenClasses.{name_of, number_in, is_word}
use Rattle.table_text.specs.Grammar.{TermTree, plain_term, times_term, term_tokens, more_term_tokens, constant_tokens, more_name_tokens, more_number_tokens, selector_tokens}
use Rattle.table_text.specs.Drafts.{with_name, with_column, with_number, with_term, with_held, with_constant, draft_at, summand_step, slot_step, slots_step, draft_step, is_done}
use Rattle.table_text.specs.declared.slots.Slot.{Slot}
use Rattle.table_text.specs.declared.slots.Slot.TheVariants.{Mark, Name, Number, Value, ValueEnd, Column, ColumnEnd, Selector, FirstSummand, FirstSign, Summand, TimesSign, TermColumn, TermEnd}
use Rattle.table_text.specs.declared.draft.Parts.{Parts}
use Rattle.table_text.specs.declared.draft.Draft.{Draft}
use Rattle.table_text.proofs.FromTests.{marked, mark_from, name_from, number_from, word_from, chosen, mapped}

-- ---- what may stand at places

abbrev pub Filling : List Slot → Type 0
Filling [] = Unit {0}
Filling (Mark b ∷ slots) = Filling slots
Filling (Name ∷ slots) = List ℕ × Filling slots
Filling (Number ∷ slots) = ℕ × Filling slots
Filling (Value ∷ slots) = ℕ × List ℕ × Filling slots
Filling (ValueEnd ∷ slots) = List ℕ × Filling slots
Filling (Column ∷ slots) = List ℕ × List (List ℕ) × Filling slots
Filling (ColumnEnd ∷ slots) = List (List ℕ) × Filling slots
Filling (Selector ∷ slots) = Option (List ℕ) × Filling slots
Filling (FirstSummand ∷ slots) = Option ℕ × TermTree × List TermTree × Filling slots
Filling (FirstSign ∷ slots) = (TermTree ⊎ List ℕ) × List TermTree × Filling slots
Filling (Summand ∷ slots) = TermTree × List TermTree × Filling slots
Filling (TimesSign ∷ slots) = List ℕ × List TermTree × Filling slots
Filling (TermColumn ∷ slots) = List ℕ × List TermTree × Filling slots
Filling (TermEnd ∷ slots) = List TermTree × Filling slots

-- terms behind the first, and the parenthesis behind them
abbrev pub terms_end : List TermTree → List Token → List Token
terms_end ts rest = more_term_tokens ts ++ mark close_paren ∷ rest

abbrev pub sign_tokens : TermTree ⊎ List ℕ → List Token
sign_tokens (inl t) = mark plus_sign ∷ term_tokens t
sign_tokens (inr c) = mark times_sign ∷ name c ∷ []

-- the tokens of a filling
abbrev pub filled_tokens : (slots : List Slot) → Filling slots → List Token
filled_tokens [] f = []
filled_tokens (Mark b ∷ slots) f = mark b ∷ filled_tokens slots f
filled_tokens (Name ∷ slots) f = name f.0 ∷ filled_tokens slots f.1
filled_tokens (Number ∷ slots) f = number f.0 ∷ filled_tokens slots f.1
filled_tokens (Value ∷ slots) f = number f.0 ∷ (more_number_tokens f.1 ++ mark close_paren ∷ filled_tokens slots f.2)
filled_tokens (ValueEnd ∷ slots) f = more_number_tokens f.0 ++ mark close_paren ∷ filled_tokens slots f.1
filled_tokens (Column ∷ slots) f = name f.0 ∷ (more_name_tokens f.1 ++ mark close_paren ∷ filled_tokens slots f.2)
filled_tokens (ColumnEnd ∷ slots) f = more_name_tokens f.0 ++ mark close_paren ∷ filled_tokens slots f.1
filled_tokens (Selector ∷ slots) f = selector_tokens f.0 ++ mark semicolon ∷ filled_tokens slots f.1
filled_tokens (FirstSummand ∷ slots) f = constant_tokens f.0 ++ (term_tokens f.1 ++ terms_end f.2 (filled_tokens slots f.3))
filled_tokens (FirstSign ∷ slots) f = sign_tokens f.0 ++ terms_end f.1 (filled_tokens slots f.2)
filled_tokens (Summand ∷ slots) f = term_tokens f.0 ++ terms_end f.1 (filled_tokens slots f.2)
filled_tokens (TimesSign ∷ slots) f = mark times_sign ∷ name f.0 ∷ terms_end f.1 (filled_tokens slots f.2)
filled_tokens (TermColumn ∷ slots) f = name f.0 ∷ terms_end f.1 (filled_tokens slots f.2)
filled_tokens (TermEnd ∷ slots) f = terms_end f.0 (filled_tokens slots f.1)

-- ---- what was read once places are filled

abbrev pub read_term : TermTree → Parts → Parts
read_term (plain_term c) p = with_term p 1 c
read_term (times_term k c) p = with_term (with_held p k) k c

abbrev pub read_terms : List TermTree → Parts → Parts
read_terms [] p = p
read_terms (t ∷ ts) p = read_terms ts (read_term t p)

abbrev pub read_constant : Option ℕ → Parts → Parts
read_constant None p = p
read_constant (Some n) p = with_constant (with_held p n)

abbrev pub read_numbers : List ℕ → Parts → Parts
read_numbers [] p = p
read_numbers (n ∷ ns) p = read_numbers ns (with_number p n)

abbrev pub read_columns : List (List ℕ) → Parts → Parts
read_columns [] p = p
read_columns (w ∷ ws) p = read_columns ws (with_column p w)

abbrev pub read_selector : Option (List ℕ) → Parts → Parts
read_selector None p = p
read_selector (Some s) p = with_name p s

abbrev pub read_sign : TermTree ⊎ List ℕ → Parts → Parts
read_sign (inl t) p = read_term t (with_constant p)
read_sign (inr c) p = with_term p p.held c

abbrev pub filled : (slots : List Slot) → Filling slots → Parts → Parts
filled [] f p = p
filled (Mark b ∷ slots) f p = filled slots f p
filled (Name ∷ slots) f p = filled slots f.1 (with_name p f.0)
filled (Number ∷ slots) f p = filled slots f.1 (with_number p f.0)
filled (Value ∷ slots) f p = filled slots f.2 (read_numbers f.1 (with_number p f.0))
filled (ValueEnd ∷ slots) f p = filled slots f.1 (read_numbers f.0 p)
filled (Column ∷ slots) f p = filled slots f.2 (read_columns f.1 (with_column p f.0))
filled (ColumnEnd ∷ slots) f p = filled slots f.1 (read_columns f.0 p)
filled (Selector ∷ slots) f p = filled slots f.1 (read_selector f.0 p)
filled (FirstSummand ∷ slots) f p = filled slots f.3 (read_terms f.2 (read_term f.1 (read_constant f.0 p)))
filled (FirstSign ∷ slots) f p = filled slots f.2 (read_terms f.1 (read_sign f.0 p))
filled (Summand ∷ slots) f p = filled slots f.2 (read_terms f.1 (read_term f.0 p))
filled (TimesSign ∷ slots) f p = filled slots f.2 (read_terms f.1 (with_term p p.held f.0))
filled (TermColumn ∷ slots) f p = filled slots f.2 (read_terms f.1 (with_term p p.held f.0))
filled (TermEnd ∷ slots) f p = filled slots f.1 (read_terms f.0 p)

-- places can always be filled
abbrev pub some_filling : (slots : List Slot) → Filling slots
some_filling [] = tt
some_filling (Mark b ∷ slots) = some_filling slots
some_filling (Name ∷ slots) = ([], some_filling slots)
some_filling (Number ∷ slots) = (0, some_filling slots)
some_filling (Value ∷ slots) = (0, [], some_filling slots)
some_filling (ValueEnd ∷ slots) = ([], some_filling slots)
some_filling (Column ∷ slots) = ([], [], some_filling slots)
some_filling (ColumnEnd ∷ slots) = ([], some_filling slots)
some_filling (Selector ∷ slots) = (None, some_filling slots)
some_filling (FirstSummand ∷ slots) = (None, plain_term [], [], some_filling slots)
some_filling (FirstSign ∷ slots) = (inr [], [], some_filling slots)
some_filling (Summand ∷ slots) = (plain_term [], [], some_filling slots)
some_filling (TimesSign ∷ slots) = ([], [], some_filling slots)
some_filling (TermColumn ∷ slots) = ([], [], some_filling slots)
some_filling (TermEnd ∷ slots) = ([], some_filling slots)

-- ---- from what was read to what stands there

-- places filled with these tokens, from which these parts come
pub record Fills (d : Draft) (tokens : List Token) (q : Parts) : Type 0 where
  pub filling : Filling d.slots
  pub spells : filled_tokens d.slots filling ≡ tokens
  pub gives : filled d.slots filling d.parts ≡ q

-- a place was passed by a token
passed : (slot : Slot) (slots next : List Slot) (p r : Parts) (t u : Token) (d : Draft) (tokens : List Token) (q : Parts)
    → (up : Filling next → Filling (slot ∷ slots))
    → ((f : Filling next) → filled_tokens (slot ∷ slots) (up f) ≡ u ∷ filled_tokens next f)
    → ((f : Filling next) → filled (slot ∷ slots) (up f) p ≡ filled next f r)
    → t ≡ u → draft_at next r ≡ d → Fills d tokens q → Fills (draft_at (slot ∷ slots) p) (t ∷ tokens) q
passed slot slots next p r t u d tokens q up spell give same at h =
    let g : Fills (draft_at next r) tokens q = subst (λ (e : Draft). Fills e tokens q) (sym at) h in
    record {
      filling = up g.filling;
      spells = spell g.filling ∙ ap (λ ts. u ∷ ts) g.spells ∙ ap (λ x. x ∷ tokens) (sym same);
      gives = give g.filling ∙ g.gives;
    }

abbrev by_sign : (slots : List Slot) (n : ℕ) → TermTree ⊎ List ℕ → List TermTree → Filling slots → Filling (FirstSummand ∷ slots)
by_sign slots n (inl t) ts f = (Some n, t, ts, f)
by_sign slots n (inr c) ts f = (None, times_term n c, ts, f)

sign_spells : (slots : List Slot) (n : ℕ) (x : TermTree ⊎ List ℕ) (ts : List TermTree) (f : Filling slots)
    → filled_tokens (FirstSummand ∷ slots) (by_sign slots n x ts f) ≡ number n ∷ (sign_tokens x ++ terms_end ts (filled_tokens slots f))
sign_spells slots n (inl t) ts f = refl
sign_spells slots n (inr c) ts f = refl

sign_gives : (slots : List Slot) (n : ℕ) (x : TermTree ⊎ List ℕ) (ts : List TermTree) (f : Filling slots) (p : Parts)
    → filled (FirstSummand ∷ slots) (by_sign slots n x ts f) p ≡ filled slots f (read_terms ts (read_sign x (with_held p n)))
sign_gives slots n (inl t) ts f p = refl
sign_gives slots n (inr c) ts f p = refl

first_back : (slots : List Slot) (p : Parts) (t : Token) (d : Draft) (tokens : List Token) (q : Parts)
    → summand_step FirstSign slots p t ≡ Some d → Fills d tokens q → Fills (draft_at (FirstSummand ∷ slots) p) (t ∷ tokens) q
first_back slots p (name w) d tokens q e h = passed FirstSummand slots (TermEnd ∷ slots) p (with_term p 1 w) (name w) (name w) d tokens q (λ f. (None, plain_term w, f.0, f.1)) (λ f. refl) (λ f. refl) refl (same_Some _ _ e) h
first_back slots p (reserved w) d tokens q e h = absurd (none-some d e)
first_back slots p (number n) d tokens q e h = passed FirstSummand slots (FirstSign ∷ slots) p (with_held p n) (number n) (number n) d tokens q
    (λ f. by_sign slots n f.0 f.1 f.2) (λ f. sign_spells slots n f.0 f.1 f.2) (λ f. sign_gives slots n f.0 f.1 f.2 p) refl (same_Some _ _ e) h
first_back slots p (mark b) d tokens q e h = absurd (none-some d e)
first_back slots p (wrong kind) d tokens q e h = absurd (none-some d e)

summand_back : (slots : List Slot) (p : Parts) (t : Token) (d : Draft) (tokens : List Token) (q : Parts)
    → summand_step TimesSign slots p t ≡ Some d → Fills d tokens q → Fills (draft_at (Summand ∷ slots) p) (t ∷ tokens) q
summand_back slots p (name w) d tokens q e h = passed Summand slots (TermEnd ∷ slots) p (with_term p 1 w) (name w) (name w) d tokens q (λ f. (plain_term w, f.0, f.1)) (λ f. refl) (λ f. refl) refl (same_Some _ _ e) h
summand_back slots p (reserved w) d tokens q e h = absurd (none-some d e)
summand_back slots p (number n) d tokens q e h = passed Summand slots (TimesSign ∷ slots) p (with_held p n) (number n) (number n) d tokens q (λ f. (times_term n f.0, f.1, f.2)) (λ f. refl) (λ f. refl) refl (same_Some _ _ e) h
summand_back slots p (mark b) d tokens q e h = absurd (none-some d e)
summand_back slots p (wrong kind) d tokens q e h = absurd (none-some d e)

-- a place that one mark passes
mark_back : (slot : Slot) (slots next : List Slot) (p r : Parts) (c : ℕ) (t : Token) (d : Draft) (tokens : List Token) (q : Parts)
    → (up : Filling next → Filling (slot ∷ slots))
    → ((f : Filling next) → filled_tokens (slot ∷ slots) (up f) ≡ mark c ∷ filled_tokens next f)
    → ((f : Filling next) → filled (slot ∷ slots) (up f) p ≡ filled next f r)
    → cond (is_mark_of c t) (Some (draft_at next r)) None ≡ Some d → Fills d tokens q → Fills (draft_at (slot ∷ slots) p) (t ∷ tokens) q
mark_back slot slots next p r c t d tokens q up spell give e h = let m = marked c (draft_at next r) d t e in passed slot slots next p r t (mark c) d tokens q up spell give m.0 m.1 h

-- a place that one of two marks passes
marks_back : (slot : Slot) (slots next last : List Slot) (p r s : Parts) (c b : ℕ) (t : Token) (d : Draft) (tokens : List Token) (q : Parts)
    → (up : Filling next → Filling (slot ∷ slots))
    → ((f : Filling next) → filled_tokens (slot ∷ slots) (up f) ≡ mark c ∷ filled_tokens next f)
    → ((f : Filling next) → filled (slot ∷ slots) (up f) p ≡ filled next f r)
    → (over : Filling last → Filling (slot ∷ slots))
    → ((f : Filling last) → filled_tokens (slot ∷ slots) (over f) ≡ mark b ∷ filled_tokens last f)
    → ((f : Filling last) → filled (slot ∷ slots) (over f) p ≡ filled last f s)
    → cond (is_mark_of c t) (Some (draft_at next r)) (cond (is_mark_of b t) (Some (draft_at last s)) None) ≡ Some d
    → Fills d tokens q → Fills (draft_at (slot ∷ slots) p) (t ∷ tokens) q
marks_back slot slots next last p r s c b t d tokens q up spell give over spells gives e h =
    elim (chosen (is_mark_of c t) _ _ (Some d) e) [
      | inl k ↦ passed slot slots next p r t (mark c) d tokens q up spell give (mark_from c t k.0) (same_Some _ _ k.1) h
      | inr k ↦ mark_back slot slots last p s b t d tokens q over spells gives k.1 h
    ]

-- a place that a name passes
name_back : (slot : Slot) (slots next : List Slot) (p : Parts) (r : List ℕ → Parts) (t : Token) (d : Draft) (tokens : List Token) (q : Parts)
    → (up : List ℕ → Filling next → Filling (slot ∷ slots))
    → ((w : List ℕ) (f : Filling next) → filled_tokens (slot ∷ slots) (up w f) ≡ name w ∷ filled_tokens next f)
    → ((w : List ℕ) (f : Filling next) → filled (slot ∷ slots) (up w f) p ≡ filled next f (r w))
    → option_map (λ w. draft_at next (r w)) (name_of t) ≡ Some d → Fills d tokens q → Fills (draft_at (slot ∷ slots) p) (t ∷ tokens) q
name_back slot slots next p r t d tokens q up spell give e h =
    let n = mapped (λ w. draft_at next (r w)) (name_of t) d e in
    passed slot slots next p (r n.value) t (name n.value) d tokens q (up n.value) (spell n.value) (give n.value) (name_from t n.value n.from) n.is h

-- a place that a number passes
number_back : (slot : Slot) (slots next : List Slot) (p : Parts) (r : ℕ → Parts) (t : Token) (d : Draft) (tokens : List Token) (q : Parts)
    → (up : ℕ → Filling next → Filling (slot ∷ slots))
    → ((n : ℕ) (f : Filling next) → filled_tokens (slot ∷ slots) (up n f) ≡ number n ∷ filled_tokens next f)
    → ((n : ℕ) (f : Filling next) → filled (slot ∷ slots) (up n f) p ≡ filled next f (r n))
    → option_map (λ n. draft_at next (r n)) (number_in t) ≡ Some d → Fills d tokens q → Fills (draft_at (slot ∷ slots) p) (t ∷ tokens) q
number_back slot slots next p r t d tokens q up spell give e h =
    let n = mapped (λ n. draft_at next (r n)) (number_in t) d e in
    passed slot slots next p (r n.value) t (number n.value) d tokens q (up n.value) (spell n.value) (give n.value) (number_from t n.value n.from) n.is h

more_spells : (slots : List Slot) (f : Filling (Summand ∷ slots)) → filled_tokens (TermEnd ∷ slots) (f.0 ∷ f.1, f.2) ≡ mark plus_sign ∷ filled_tokens (Summand ∷ slots) f
more_spells slots f = ap (λ ts. mark plus_sign ∷ ts) (append_assoc (term_tokens f.0) (more_term_tokens f.1) (mark close_paren ∷ filled_tokens slots f.2))

selector_back : (slots : List Slot) (p : Parts) (t : Token) (d : Draft) (tokens : List Token) (q : Parts)
    → slot_step Selector slots p t ≡ Some d → Fills d tokens q → Fills (draft_at (Selector ∷ slots) p) (t ∷ tokens) q
selector_back slots p t d tokens q e h =
    elim (chosen (is_mark_of semicolon t) _ _ (Some d) e) [
      | inl k ↦ passed Selector slots slots p p t (mark semicolon) d tokens q (λ f. (None, f)) (λ f. refl) (λ f. refl) (mark_from semicolon t k.0) (same_Some _ _ k.1) h
      | inr k ↦
          let m : (is_word (codes "if") t ≡ true) × (draft_at (Name ∷ Mark semicolon ∷ slots) p ≡ d) = cond_some _ _ d k.1 in
          passed Selector slots (Name ∷ Mark semicolon ∷ slots) p p t (reserved (codes "if")) d tokens q (λ f. (Some f.0, f.1)) (λ f. refl) (λ f. refl) (word_from (codes "if") t m.0) m.1 h
    ]

-- what a token passed stands before what is read behind it
pub back : (slots : List Slot) (p : Parts) (t : Token) (d : Draft) (tokens : List Token) (q : Parts) → slots_step slots p t ≡ Some d → Fills d tokens q → Fills (draft_at slots p) (t ∷ tokens) q
back [] p t d tokens q e h = absurd (none-some d e)
back (Mark b ∷ slots) p t d tokens q e h = mark_back (Mark b) slots slots p p b t d tokens q (λ f. f) (λ f. refl) (λ f. refl) e h
back (Name ∷ slots) p t d tokens q e h = name_back Name slots slots p (with_name p) t d tokens q (λ w f. (w, f)) (λ w f. refl) (λ w f. refl) e h
back (Number ∷ slots) p t d tokens q e h = number_back Number slots slots p (with_number p) t d tokens q (λ n f. (n, f)) (λ n f. refl) (λ n f. refl) e h
back (Value ∷ slots) p t d tokens q e h = number_back Value slots (ValueEnd ∷ slots) p (with_number p) t d tokens q (λ n f. (n, f.0, f.1)) (λ n f. refl) (λ n f. refl) e h
back (ValueEnd ∷ slots) p t d tokens q e h = marks_back ValueEnd slots (Value ∷ slots) slots p p p comma close_paren t d tokens q
    (λ f. (f.0 ∷ f.1, f.2)) (λ f. refl) (λ f. refl) (λ f. ([], f)) (λ f. refl) (λ f. refl) e h
back (Column ∷ slots) p t d tokens q e h = name_back Column slots (ColumnEnd ∷ slots) p (with_column p) t d tokens q (λ w f. (w, f.0, f.1)) (λ w f. refl) (λ w f. refl) e h
back (ColumnEnd ∷ slots) p t d tokens q e h = marks_back ColumnEnd slots (Column ∷ slots) slots p p p comma close_paren t d tokens q
    (λ f. (f.0 ∷ f.1, f.2)) (λ f. refl) (λ f. refl) (λ f. ([], f)) (λ f. refl) (λ f. refl) e h
back (Selector ∷ slots) p t d tokens q e h = selector_back slots p t d tokens q e h
back (FirstSummand ∷ slots) p t d tokens q e h = first_back slots p t d tokens q e h
back (FirstSign ∷ slots) p t d tokens q e h = marks_back FirstSign slots (Summand ∷ slots) (TermColumn ∷ slots) p (with_constant p) p plus_sign times_sign t d tokens q
    (λ f. (inl f.0, f.1, f.2)) (λ f. refl) (λ f. refl) (λ f. (inr f.0, f.1, f.2)) (λ f. refl) (λ f. refl) e h
back (Summand ∷ slots) p t d tokens q e h = summand_back slots p t d tokens q e h
back (TimesSign ∷ slots) p t d tokens q e h = mark_back TimesSign slots (TermColumn ∷ slots) p p times_sign t d tokens q (λ f. f) (λ f. refl) (λ f. refl) e h
back (TermColumn ∷ slots) p t d tokens q e h = name_back TermColumn slots (TermEnd ∷ slots) p (with_term p p.held) t d tokens q (λ w f. (w, f.0, f.1)) (λ w f. refl) (λ w f. refl) e h
back (TermEnd ∷ slots) p t d tokens q e h = marks_back TermEnd slots (Summand ∷ slots) slots p p p plus_sign close_paren t d tokens q
    (λ f. (f.0 ∷ f.1, f.2)) (more_spells slots) (λ f. refl) (λ f. ([], f)) (λ f. refl) (λ f. refl) e h

-- the draft after these tokens
abbrev pub drafted : Draft → List Token → Option Draft
drafted d [] = Some d
drafted d (t ∷ tokens) = option_and_then (λ e. drafted e tokens) (draft_step d t)

unread_at : (o : Option Draft) (d e : Draft) (t : Token) (tokens more : List Token) (q : Parts) → draft_step d t ≡ o → option_and_then (λ c. drafted c tokens) o ≡ Some e
    → ((c : Draft) → drafted c tokens ≡ Some e → Fills c (tokens ++ more) q) → Fills d (t ∷ tokens ++ more) q
unread_at None d e t tokens more q is h rest = absurd (none-some e h)
unread_at (Some c) d e t tokens more q is h rest = back d.slots d.parts t c (tokens ++ more) q is (rest c h)

-- what was read stands before what fills the places that are left
pub unread : (tokens : List Token) (d e : Draft) (more : List Token) (q : Parts) → drafted d tokens ≡ Some e → Fills e more q → Fills d (tokens ++ more) q
unread [] d e more q is h = subst (λ (c : Draft). Fills c more q) (sym (same_Some d e is)) h
unread (t ∷ tokens) d e more q is h = unread_at (draft_step d t) d e t tokens more q refl is (λ c k. unread tokens c e more q k h)

drafted_at : (o : Option Draft) (d e f : Draft) (t u : Token) (tokens : List Token) → draft_step d t ≡ o → option_and_then (λ c. drafted c tokens) o ≡ Some e
    → ((c : Draft) → drafted c tokens ≡ Some e → drafted c (tokens ++ u ∷ []) ≡ Some f) → drafted d (t ∷ tokens ++ u ∷ []) ≡ Some f
drafted_at None d e f t u tokens is h rest = absurd (none-some e h)
drafted_at (Some c) d e f t u tokens is h rest = ap (option_and_then (λ x. drafted x (tokens ++ u ∷ []))) is ∙ rest c h

pub drafted-one : (tokens : List Token) (d e f : Draft) (u : Token) → drafted d tokens ≡ Some e → draft_step e u ≡ Some f → drafted d (tokens ++ u ∷ []) ≡ Some f
drafted-one [] d e f u is step = ap (λ c. option_and_then (λ x. drafted x []) (draft_step c u)) (same_Some d e is) ∙ ap (option_and_then (λ x. drafted x [])) step
drafted-one (t ∷ tokens) d e f u is step = drafted_at (draft_step d t) d e f t u tokens refl is (λ c k. drafted-one tokens c e f u k step)

-- all was read
pub all_read : (slots : List Slot) (p : Parts) → is_done slots ≡ true → Fills (draft_at slots p) [] p
all_read [] p e = record { filling = tt; spells = refl; gives = refl }
all_read (slot ∷ slots) p e = absurd (cc)

-- whatever is left can be filled
pub record CanGoOn (d : Draft) : Type 0 where
  pub tokens : List Token
  pub parts : Parts
  pub fills : Fills d tokens parts

pub can_go_on : (d : Draft) → CanGoOn d
can_go_on d = record { tokens = filled_tokens d.slots (some_filling d.slots); parts = filled d.slots (some_filling d.slots) d.parts; fills = record { filling = some_filling d.slots; spells = refl; gives = refl } }
