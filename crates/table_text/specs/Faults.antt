-- Which texts are read, and the first fault of each other one.
-- Source: docs/LANGUAGE.md, "Faults".
use Rattle.std.specs.Prelude.{◌≡◌, ℕ, ◌+◌, ◌-◌, ◌<◌, ◌≤◌, not, ◌&&◌, ◌||◌, ◌==◌, if◌then◌else◌, List, [], ◌∷◌, ◌++◌, length, take, map, position, count_by, slice_get, codes, Bool, true, false, Option, Some, None, MatchOption}
use Rattle.std.specs.List.{list_any}
use Rattle.std.specs.Str.{bytes_eq}
use Rattle.table_text.specs.Bytes.{is_text, open_paren, close_paren}
use Rattle.table_text.specs.Limits.{max_open, max_declarations}
use Rattle.table_text.specs.Lexing.{Token, name, reserved, number, mark, wrong, Spot, spots}
use Rattle.table_text.specs.Grammar.{IsFile, Begins}
use Rattle.table_text.specs.declared.decl.Decl.{Decl}
use Rattle.table_text.specs.declared.fault.TextFault.{TextFault}
use Rattle.table_text.specs.declared.fault.TextKind.{TextKind}
use Rattle.table_text.specs.declared.fault.TextKind.TheVariants.{NotText, Unexpected, NumberTooWide, NameTooLong, TooDeep, TooMany}

-- what is wrong with a token wherever it stands
abbrev pub own_fault : Token → Option TextKind
own_fault (name w) = None
own_fault (reserved w) = None
own_fault (number n) = None
own_fault (mark b) = None
own_fault (wrong kind) = Some kind

abbrev pub is_mark_of : ℕ → Token → Bool
is_mark_of b (name w) = false
is_mark_of b (reserved w) = false
is_mark_of b (number n) = false
is_mark_of b (mark c) = b == c
is_mark_of b (wrong kind) = false

abbrev pub is_one_of : List (List ℕ) → Token → Bool
is_one_of words (name w) = false
is_one_of words (reserved w) = list_any (bytes_eq w) words
is_one_of words (number n) = false
is_one_of words (mark b) = false
is_one_of words (wrong kind) = false

-- the words with which declarations begin, and those with which one begins that isn't behind `boundary`
abbrev pub declaration_words : List (List ℕ)
declaration_words = codes "channel" ∷ codes "boundary" ∷ codes "table" ∷ codes "column" ∷ codes "virtual" ∷ codes "zero" ∷ []

abbrev pub side_words : List (List ℕ)
side_words = codes "push" ∷ codes "pull" ∷ []

abbrev pub is_boundary : Token → Bool
is_boundary token = is_one_of (codes "boundary" ∷ []) token

-- whether a declaration begins with a token, which stands behind `boundary` or not
abbrev pub begins_declaration : Bool → Token → Bool
begins_declaration behind token = is_one_of declaration_words token || (is_one_of side_words token && not behind)

-- whether what follows these tokens is behind `boundary`, if what they follow is or isn't
abbrev pub behind_boundary : Bool → List Token → Bool
behind_boundary behind [] = behind
behind_boundary behind (t ∷ tokens) = behind_boundary (is_boundary t) tokens

-- how many parentheses are open after these tokens
abbrev pub open_after : List Token → ℕ
open_after tokens = count_by (is_mark_of open_paren) tokens - count_by (is_mark_of close_paren) tokens

-- how many declarations begin with these tokens
abbrev pub begun_from : Bool → List Token → ℕ
begun_from behind [] = 0
begun_from behind (t ∷ tokens) = (if begins_declaration behind t then 1 else 0) + begun_from (is_boundary t) tokens

abbrev pub begun_in : List Token → ℕ
begun_in tokens = begun_from false tokens

-- a token that may stand after these
pub record IsTaken (before : List Token) (token : Token) : Type 0 where
  pub sound : own_fault token ≡ None
  pub allowed : Begins (before ++ token ∷ [])
  pub shallow : is_mark_of open_paren token ≡ true → open_after before < max_open
  pub few : begins_declaration (behind_boundary false before) token ≡ true → begun_in before < max_declarations

-- what the grammar and its limits have against a token after these
abbrev pub GrammarRefuses : List Token → Token → TextKind → Type 0
GrammarRefuses before token Unexpected = ¬ Begins (before ++ token ∷ [])
GrammarRefuses before token TooDeep = Begins (before ++ token ∷ []) × (is_mark_of open_paren token ≡ true) × (max_open ≤ open_after before)
GrammarRefuses before token TooMany = Begins (before ++ token ∷ []) × (begins_declaration (behind_boundary false before) token ≡ true) × (max_declarations ≤ begun_in before)
GrammarRefuses before token NotText = ⊥
GrammarRefuses before token NumberTooWide = ⊥
GrammarRefuses before token NameTooLong = ⊥

-- a token's own fault comes before what the grammar has against it
abbrev pub IsRefused : List Token → Token → TextKind → Type 0
IsRefused before token kind = MatchOption (own_fault token) (GrammarRefuses before token kind) (λ own. kind ≡ own)

-- the first tokens, n of them, may each stand after those before it
abbrev pub AreTaken : List Token → ℕ → Type 0
AreTaken tokens n = (k : ℕ) → k < n → MatchOption (slice_get tokens k) ⊥ (IsTaken (take k tokens))

-- a text that ends, after these tokens, where the grammar wants more
abbrev pub EndsTooEarly : List Spot → ℕ → ℕ → TextFault → Type 0
EndsTooEarly all end at fault = (at ≡ length all) × ((decls : List Decl) → ¬ IsFile (map (λ s. s.token) all) decls) × (fault.place ≡ end) × (fault.kind ≡ Unexpected)

-- the fault of tokens whose text ends at a place: the first that is refused, or the end where the grammar wants more
pub record IsTokenFault (all : List Spot) (end : ℕ) (fault : TextFault) : Type 0 where
  pub at : ℕ
  pub taken : AreTaken (map (λ s. s.token) all) at
  pub is : MatchOption (slice_get all at)
      (EndsTooEarly all end at fault)
      (λ s. (fault.place ≡ s.place) × IsRefused (take at (map (λ s. s.token) all)) s.token fault.kind)

-- a byte that no text has comes before all else
abbrev pub IsFirstFault : List ℕ → TextFault → Type 0
IsFirstFault text fault =
    MatchOption (position (λ b. not (is_text b)) text) (IsTokenFault (spots text) (length text) fault) (λ place. (fault.place ≡ place) × (fault.kind ≡ NotText))

-- a text of these declarations
pub record IsTablesText (text : List ℕ) (decls : List Decl) : Type 0 where
  pub bytes : position (λ b. not (is_text b)) text ≡ None
  pub taken : AreTaken (map (λ s. s.token) (spots text)) (length (spots text))
  pub file : IsFile (map (λ s. s.token) (spots text)) decls
