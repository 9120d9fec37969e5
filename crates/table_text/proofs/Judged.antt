-- What the machine refuses is what the grammar and its limits refuse.
use Rattle.std.proofs.Common.{◌≡◌, ℕ, ◌+◌, ◌-◌, ◌≤◌, ◌<◌, Bool, true, false, cond, ◌&&◌, List, [], ◌∷◌, ◌++◌, Option, Some, None, Result, Ok, Err, refl, sym, ◌∙◌, ap, subst, arith}
use Rattle.std.proofs.lemmas.List.{append-nil}
use Rattle.std.proofs.lemmas.List.Sums.{sum_by-append}
use Rattle.std.proofs.lemmas.Option.{none-some, same_Some}
use Rattle.std.proofs.lemmas.Bool.{leb-true, leb-false}
use Rattle.std.specs.Prelude.{nat_le, map, count_by, option_and_then, MatchOption}
use Rattle.table_text.specs.Bytes.{open_paren, close_paren}
use Rattle.table_text.specs.Lexing.{Token}
use Rattle.table_text.specs.Grammar.{FileTree, file_tokens, decl_of, IsFile, Begins}
use Rattle.table_text.specs.Limits.{max_open, max_declarations}
use Rattle.table_text.specs.Faults.{own_fault, is_mark_of, behind_boundary, begins_declaration, open_after, begun_in, IsTaken, GrammarRefuses, IsRefused}
use Rattle.table_text.specs.Machine.{step, run, start, state_at, is_file_stage}
use Rattle.table_text.specs.Reading.{one_if, progress_after, limit_fault, limited, allowed, sound, taken, begin}
use Rattle.table_text.specs.declared.decl.Decl.{Decl}
use Rattle.table_text.specs.declared.state.Stage.TheVariants as stage
use Rattle.table_text.specs.declared.state.State.{State}
use Rattle.table_text.specs.declared.progress.Progress.{Progress}
use Rattle.table_text.specs.declared.fault.TextFault.{TextFault}
use Rattle.table_text.specs.declared.fault.TextKind.{TextKind}
use Rattle.table_text.specs.declared.fault.TextKind.TheVariants.{Unexpected, TooDeep, TooMany}
use Rattle.table_text.proofs.Trees.{TablePart, file, boundary_side, declaring, table_name, table_brace, table, table_stage, spelled, state_of}
use Rattle.table_text.proofs.Begun.{behind_boundary-append, begun_in-one}
use Rattle.table_text.proofs.FromTests.{both}
use Rattle.table_text.proofs.Follows.{follows}
use Rattle.table_text.proofs.Completes.{complete}
use Rattle.table_text.proofs.Accepts.{accepts, prefix_read, run-append}

-- ---- the machine against the grammar

-- the machine has read these tokens
pub record HasRead (before : List Token) (s : State) : Type 0 where
  pub tables : FileTree
  pub part : TablePart
  pub shown : state_of tables part ≡ s
  pub spells : spelled tables part ≡ before
  pub runs : run start before ≡ Some s

pub has_read_none : HasRead [] start
has_read_none = record { tables = []; part = file; shown = refl; spells = refl; runs = refl }

one_step : (s v : State) (t : Token) (o : Option State) → step s t ≡ o → run s (t ∷ []) ≡ o
one_step s v t None e = ap (option_and_then (λ u. run u [])) e
one_step s v t (Some u) e = ap (option_and_then (λ u. run u [])) e

pub has_read_one : (before : List Token) (s v : State) (t : Token) → HasRead before s → step s t ≡ Some v → HasRead (before ++ t ∷ []) v
has_read_one before s v t h e =
    let f = follows h.tables h.part t v (ap (λ u. step u t) h.shown ∙ e) in
    record {
      tables = f.tables';
      part = f.part';
      shown = f.shown;
      spells = f.spells ∙ ap (λ ts. ts ++ t ∷ []) h.spells;
      runs = run-append start s before (t ∷ []) h.runs ∙ one_step s v t (Some v) e;
    }

pub begins : (before : List Token) (s : State) → HasRead before s → Begins before
begins before s h = subst Begins h.spells (complete h.tables h.part)

pub begins_not : (before : List Token) (s : State) (t : Token) → HasRead before s → step s t ≡ None → ¬ Begins (before ++ t ∷ [])
begins_not before s t h e (f, more, is) =
    let all = ap (run start) (sym is) ∙ accepts f in
    let r = prefix_read start (before ++ t ∷ []) more _ all in
    let stuck : run start (before ++ t ∷ []) ≡ None = run-append start s before (t ∷ []) h.runs ∙ one_step s s t None e in
    none-some r.state (sym stuck ∙ r.is)

part_ends : (tables : FileTree) (part : TablePart) → is_file_stage (table_stage part) ≡ true → IsFile (spelled tables part) (map decl_of tables)
part_ends tables file e = (tables, sym (append-nil (file_tokens tables)), refl)
part_ends tables boundary_side e = absurd (cc)
part_ends tables (declaring f tokens d h) e = absurd (cc)
part_ends tables table_name e = absurd (cc)
part_ends tables (table_brace w) e = absurd (cc)
part_ends tables (table w items p) e = absurd (cc)

pub ends : (before : List Token) (s : State) → HasRead before s → is_file_stage s.stage ≡ true → IsFile before s.decls
ends before s h e =
    let f = part_ends h.tables h.part (ap (λ (u : State). is_file_stage u.stage) h.shown ∙ e) in
    subst (λ ts. IsFile ts s.decls) h.spells (subst (λ (u : State). IsFile (spelled h.tables h.part) u.decls) h.shown f)

read_file : (before : List Token) (ds : List Decl) → IsFile before ds → run start before ≡ Some (state_at ds stage.File)
read_file before ds (f, is, means) = ap (run start) (sym is) ∙ accepts f ∙ ap (λ es. Some (state_at es stage.File)) means

pub ends_not : (before : List Token) (s : State) (ds : List Decl) → HasRead before s → is_file_stage s.stage ≡ false → ¬ IsFile before ds
ends_not before s ds h e f =
    let same : s ≡ state_at ds stage.File = same_Some _ _ (sym h.runs ∙ read_file before ds f) in
    let yes : is_file_stage s.stage ≡ true = ap (λ (u : State). is_file_stage u.stage) same in
    absurd (cc)

pub only_file : (tokens : List Token) (ds es : List Decl) → IsFile tokens ds → IsFile tokens es → ds ≡ es
only_file tokens ds es f g = ap (λ (u : State). u.decls) (same_Some (state_at ds stage.File) (state_at es stage.File) (sym (read_file tokens ds f) ∙ read_file tokens es g))

-- ---- one token

-- these tokens were read, and counted
pub record IsProgress (before : List Token) (p : Progress) : Type 0 where
  pub read : HasRead before p.state
  pub opened : p.opened ≡ count_by (is_mark_of open_paren) before
  pub closed : p.closed ≡ count_by (is_mark_of close_paren) before
  pub begun : p.begun ≡ begun_in before
  pub behind : p.behind_boundary ≡ behind_boundary false before

pub is_begin : IsProgress [] begin
is_begin = record { read = has_read_none; opened = refl; closed = refl; begun = refl; behind = refl }

count-one : (test : Token → Bool) (n : ℕ) (before : List Token) (t : Token) → n ≡ count_by test before → n + one_if (test t) ≡ count_by test (before ++ t ∷ [])
count-one test n before t h =
    let s : count_by test (before ++ t ∷ []) ≡ count_by test before + count_by test (t ∷ []) = sum_by-append (λ x. cond (test x) 1 0) before (t ∷ []) in
    let o : count_by test (t ∷ []) ≡ 0 + one_if (test t) = refl in
    omega arith

is_progress_after : (before : List Token) (p : Progress) (t : Token) (v : State) → IsProgress before p → step p.state t ≡ Some v → IsProgress (before ++ t ∷ []) (progress_after p t v)
is_progress_after before p t v h e = record {
  read = has_read_one before p.state v t h.read e;
  opened = count-one (is_mark_of open_paren) p.opened before t h.opened;
  closed = count-one (is_mark_of close_paren) p.closed before t h.closed;
  begun = ap (λ b. p.begun + one_if (begins_declaration b t)) h.behind ∙ ap (λ n. n + one_if (begins_declaration (behind_boundary false before) t)) h.begun ∙ sym (begun_in-one before t);
  behind = sym (behind_boundary-append false before (t ∷ []));
}

open_is : (before : List Token) (p : Progress) → IsProgress before p → p.opened - p.closed ≡ open_after before
open_is before p h = ap (λ n. n - p.closed) h.opened ∙ ap (λ n. count_by (is_mark_of open_paren) before - n) h.closed

-- what is right about an answer after a token
abbrev pub Verdict : List Token → ℕ → Token → Result Progress TextFault → Type 0
Verdict before place t (Ok q) = IsTaken before t × IsProgress (before ++ t ∷ []) q
Verdict before place t (Err f) = (f.place ≡ place) × IsRefused before t f.kind

refused_by_grammar : (before : List Token) (t : Token) (kind : TextKind) → own_fault t ≡ None → GrammarRefuses before t kind → IsRefused before t kind
refused_by_grammar before t kind own g = subst (λ o. MatchOption o (GrammarRefuses before t kind) (λ k. kind ≡ k)) (sym own) g

refused_own : (before : List Token) (t : Token) (kind : TextKind) → own_fault t ≡ Some kind → IsRefused before t kind
refused_own before t kind own = subst (λ o. MatchOption o (GrammarRefuses before t kind) (λ k. kind ≡ k)) (sym own) refl

-- a test that isn't passed along with another one
not_both : (a : Bool) (n m : ℕ) → (a && nat_le n m) ≡ false → a ≡ true → m < n
not_both true n m e h = leb-false n m e
not_both false n m e h = absurd (cc)

judged_limits : (before : List Token) (p : Progress) (place : ℕ) (t : Token) (v : State) → IsProgress before p → own_fault t ≡ None → step p.state t ≡ Some v → Verdict before place t (limited p place t v (limit_fault p t))
judged_limits before p place t v h own e =
    let next = is_progress_after before p t v h e in
    let may : Begins (before ++ t ∷ []) = begins (before ++ t ∷ []) v next.read in
    let depth : p.opened - p.closed ≡ open_after before = open_is before p h in
    let deep = is_mark_of open_paren t && nat_le max_open (p.opened - p.closed) in
    let many = begins_declaration p.behind_boundary t && nat_le max_declarations p.begun in
    elim deep as (λ b. deep ≡ b → Verdict before place t (limited p place t v (cond b (Some TooDeep) (cond many (Some TooMany) None)))) [
      | true ↦ λ d.
          let q : (is_mark_of open_paren t ≡ true) × (nat_le max_open (p.opened - p.closed) ≡ true) = both _ _ d in
          (refl, refused_by_grammar before t TooDeep own (may, q.0, subst (λ n. max_open ≤ n) depth (leb-true max_open (p.opened - p.closed) q.1)))
      | false ↦ λ d. elim many as (λ b. many ≡ b → Verdict before place t (limited p place t v (cond b (Some TooMany) None))) [
        | true ↦ λ m.
            let q : (begins_declaration p.behind_boundary t ≡ true) × (nat_le max_declarations p.begun ≡ true) = both _ _ m in
            (refl, refused_by_grammar before t TooMany own (may, ap (λ b. begins_declaration b t) (sym h.behind) ∙ q.0, subst (λ n. max_declarations ≤ n) h.begun (leb-true max_declarations p.begun q.1)))
        | false ↦ λ m. (
          record {
            sound = own;
            allowed = may;
            shallow = λ x. subst (λ n. n < max_open) depth (not_both (is_mark_of open_paren t) max_open (p.opened - p.closed) d x);
            few = λ x. subst (λ n. n < max_declarations) h.begun (not_both (begins_declaration p.behind_boundary t) max_declarations p.begun m (ap (λ b. begins_declaration b t) h.behind ∙ x));
          },
          next,
        )
      ] refl
    ] refl

judged_grammar : (before : List Token) (p : Progress) (place : ℕ) (t : Token) (o : Option State) → IsProgress before p → own_fault t ≡ None → step p.state t ≡ o → Verdict before place t (allowed p place t o)
judged_grammar before p place t None h own e = (refl, refused_by_grammar before t Unexpected own (begins_not before p.state t h.read e))
judged_grammar before p place t (Some v) h own e = judged_limits before p place t v h own e

judged_own : (before : List Token) (p : Progress) (place : ℕ) (t : Token) (o : Option TextKind) → IsProgress before p → own_fault t ≡ o → Verdict before place t (sound p place t o)
judged_own before p place t None h own = judged_grammar before p place t (step p.state t) h own refl
judged_own before p place t (Some kind) h own = (refl, refused_own before t kind own)

pub judged : (before : List Token) (p : Progress) (place : ℕ) (t : Token) → IsProgress before p → Verdict before place t (taken p place t)
judged before p place t h = judged_own before p place t (own_fault t) h refl
