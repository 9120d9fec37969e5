-- The canonical text of valid declarations is a text of them.
use Rattle.std.proofs.Common.{◌≡◌, ℕ, zero, suc, ◌+◌, ◌≤◌, ◌<◌, true, false, cond, List, [], ◌∷◌, ◌++◌, length, take, Some, None, refl, sym, ◌∙◌, ap, subst, append_assoc, arith, leb-true}
use Rattle.std.proofs.lemmas.List.{append-nil, length-map}
use Rattle.std.proofs.lemmas.Bool.Decides.{nat_tests}
use Rattle.std.specs.Prelude.{not, nat_lt, nat_le, position, slice_get, MatchOption}
use Rattle.std.specs.List.{list_all, prefix_len}
use Rattle.table_text.specs.Bytes.{is_text, open_paren}
use Rattle.table_text.specs.Lexing.{Token, spots}
use Rattle.table_text.specs.Limits.{max_open, max_declarations}
use Rattle.table_text.specs.Grammar.{FileTree, file_tokens}
use Rattle.table_text.specs.Faults.{own_fault, is_mark_of, is_boundary, begins_declaration, behind_boundary, begun_from, begun_in, IsTaken, AreTaken, IsTablesText}
use Rattle.table_text.specs.Canonical.{canonical}
use Rattle.table_text.specs.Valid.{is_valid_decl, declarations, is_valid}
use Rattle.table_text.specs.declared.decl.Decl.{Decl}
use Rattle.table_text.proofs.FromTests.{both}
use Rattle.table_text.proofs.Begun.{begun_from-append}
use Rattle.table_text.proofs.Declared.{begun_file}
use Rattle.table_text.proofs.Lexes.{lexed, tokens_of, lexed-spots}
use Rattle.table_text.proofs.Nesting.{next_open, Shallow, Open, open_none, open_is, open_one}
use Rattle.table_text.proofs.PrintedDecls.{printed_file}

-- ---- each token may stand behind those before it

few_at : (before rest : List Token) (t : Token) → begun_in (before ++ t ∷ rest) ≤ max_declarations → begins_declaration (behind_boundary false before) t ≡ true → begun_in before < max_declarations
few_at before rest t most begins =
    let all : begun_in (before ++ t ∷ rest) ≡ begun_in before + begun_from (behind_boundary false before) (t ∷ rest) = begun_from-append false before (t ∷ rest) in
    let here : begun_from (behind_boundary false before) (t ∷ rest) ≡ 1 + begun_from (is_boundary t) rest = ap (λ b. cond b 1 0 + begun_from (is_boundary t) rest) begins in
    omega arith

taken_at : (f : FileTree) (before rest : List Token) (t : Token) (n : ℕ) → file_tokens f ≡ before ++ t ∷ rest → begun_in (before ++ t ∷ rest) ≤ max_declarations → Open before n
    → own_fault t ≡ None → (is_mark_of open_paren t ≡ true → n < max_open) → IsTaken before t
taken_at f before rest t n is most opened own shallow = record {
  sound = own;
  allowed = (f, rest, is ∙ sym (append_assoc before (t ∷ []) rest));
  shallow = λ e. subst (λ k. k < max_open) (sym (open_is before n opened)) (shallow e);
  few = few_at before rest t most;
}

all_taken : (rest before : List Token) (f : FileTree) (n : ℕ) → file_tokens f ≡ before ++ rest → begun_in (before ++ rest) ≤ max_declarations → Open before n → Shallow n rest
    → (k : ℕ) → k < length rest → MatchOption (slice_get rest k) ⊥ (IsTaken (before ++ take k rest))
all_taken [] before f n is most opened shallow k below = absurd (omega arith)
all_taken (t ∷ rest) before f n is most opened shallow zero below = subst (λ b. IsTaken b t) (sym (append-nil before)) (taken_at f before rest t n is most opened shallow.0 shallow.1)
all_taken (t ∷ rest) before f n is most opened shallow (suc k) below =
    let split : (before ++ t ∷ []) ++ rest ≡ before ++ t ∷ rest = append_assoc before (t ∷ []) rest in
    let more = all_taken rest (before ++ t ∷ []) f (next_open n t) (is ∙ sym split) (subst (λ ts. begun_in ts ≤ max_declarations) (sym split) most) (open_one before n t opened shallow.2) shallow.3 k (omega arith) in
    subst (λ b. MatchOption (slice_get rest k) ⊥ (IsTaken b)) (append_assoc before (t ∷ []) (take k rest)) more

-- ---- each byte is one that a text may have

all_text : (text : List ℕ) → list_all is_text text ≡ true → prefix_len (λ b. not (not (is_text b))) text ≡ length text
all_text [] h = refl
all_text (b ∷ text) h =
    let p : (is_text b ≡ true) × (list_all is_text text ≡ true) = both (is_text b) (list_all is_text text) h in
    let more : prefix_len (λ b. not (not (is_text b))) text ≡ length text = all_text text p.1 in
    ap (λ v. cond (not (not v)) (1 + prefix_len (λ b. not (not (is_text b))) text) 0) p.0 ∙ omega arith

not_below : (n : ℕ) → nat_lt n n ≡ false
not_below n = grind (arith, nat_tests)

no_fault : (text : List ℕ) → list_all is_text text ≡ true → position (λ b. not (is_text b)) text ≡ None
no_fault text h = ap (λ n. cond (nat_lt n (length text)) (Some n) None) (all_text text h) ∙ ap (λ v. cond v (Some (length text)) None) (not_below (length text))

-- ---- the text

lexed_none : lexed 0 [] ≡ []
unfolding lexed
lexed_none = refl

pub reads_again : (decls : List Decl) → is_valid decls ≡ true → IsTablesText (canonical decls) decls
reads_again decls h =
    let v : (list_all is_valid_decl decls ≡ true) × (nat_le (declarations decls) max_declarations ≡ true) = both (list_all is_valid_decl decls) (nat_le (declarations decls) max_declarations) h in
    let p = printed_file decls v.0 in
    let text : List ℕ = canonical decls in
    let all : List Token = file_tokens p.trees in
    let same : tokens_of (spots text) ≡ all =
    lexed-spots 0 0 text ∙ ap (lexed 0) (sym (append-nil text)) ∙ p.reads.on [] ∙ ap (λ ts. all ++ ts) lexed_none ∙ append-nil all in
    let count : begun_in all ≡ declarations decls = (begun_file p.trees).begun ∙ ap declarations p.means in
    let most : begun_in all ≤ max_declarations = subst (λ n. n ≤ max_declarations) (sym count) (leb-true (declarations decls) max_declarations v.1) in
    let shallow : Shallow 0 all = subst (Shallow 0) (append-nil all) (p.nests.on 0 (omega arith) [] tt) in
    let long : length (spots text) ≡ length all = sym (length-map (spots text) (λ s. s.token)) ∙ ap length same in
    let taken : AreTaken all (length all) = λ k below. all_taken all [] p.trees 0 refl most open_none shallow k below in
    record {
      bytes = no_fault text p.reads.bytes;
      taken = subst (λ ts. AreTaken ts (length (spots text))) (sym same) (subst (AreTaken all) (sym long) taken);
      file = (p.trees, sym same, p.means);
    }
