use Rattle.std.proofs.Common.{◌≡◌, ℕ, zero, suc, ◌+◌, ◌<◌, Bool, true, false, cond, List, [], ◌∷◌, ◌++◌, None, Some, length, get_or, refl, ap, ◌∙◌, sym, arith}
use Rattle.std.proofs.Math.ListN.{set}
use Rattle.std.specs.List.{position, position_from}
use Rattle.std.proofs.lemmas.Iterator.Adapters.{position_from-zero}
use Rattle.std.specs.Str.{bytes_eq}
use Rattle.std.proofs.lemmas.Slice.Eq.{bytes_eq-Decides}
use Rattle.std.proofs.lemmas.List.Quantifiers.{position-Some}
use Rattle.byte_ends.specs.MemFile.{FileState, find_file, place_file}

-- whether a file has this name
abbrev pub has_name : List ℕ → FileState → Bool
has_name name file = bytes_eq file.name name

-- the first file of a name is found where the names before it are others
pub find_file-first : (files : List FileState) (name : List ℕ) (place : ℕ) (d : FileState)
    → place < length files
    → has_name name (get_or files place d) ≡ true
    → ((k : ℕ) → k < place → has_name name (get_or files k d) ≡ false)
    → find_file files name ≡ Some (get_or files place d)
find_file-first [] name place d within here before = absurd (omega arith)
find_file-first (file ∷ files) name zero d within here before = rw here refl
find_file-first (file ∷ files) name (suc place) d within here before =
    let first : bytes_eq file.name name ≡ false = before 0 (omega arith) in
    rw first (find_file-first files name place d (omega arith) here (λ k h. before (suc k) (omega arith)))

-- a file of that name goes in its place
pub place_file-first : (files : List FileState) (file : FileState) (place : ℕ) (d : FileState)
    → place < length files
    → has_name file.name (get_or files place d) ≡ true
    → ((k : ℕ) → k < place → has_name file.name (get_or files k d) ≡ false)
    → set files place file ≡ place_file files file
place_file-first [] file place d within here before = absurd (omega arith)
place_file-first (first ∷ files) file zero d within here before = rw here refl
place_file-first (first ∷ files) file (suc place) d within here before =
    let other : bytes_eq first.name file.name ≡ false = before 0 (omega arith) in
    rw other (ap (λ rest. first ∷ rest) (place_file-first files file place d (omega arith) here (λ k h. before (suc k) (omega arith))))

some_none : (i : ℕ) → Some i ≡ None → ⊥
some_none i h = cc

file_none : (file : FileState) → Some file ≡ None → ⊥
file_none file h = cc

-- no file of a name is found where the search for its place from i on finds none
find_file-none_from : (files : List FileState) (name : List ℕ) (i : ℕ)
    → position_from (has_name name) i files ≡ None → find_file files name ≡ None
find_file-none_from [] name i none = refl
find_file-none_from (file ∷ files) name i none =
    elim (bytes_eq file.name name) as (λ b. cond b (Some i) (position_from (has_name name) (i + 1) files) ≡ None
    → cond b (Some file) (find_file files name) ≡ None)
    [ true ↦ λ h. absurd (some_none i h) | false ↦ λ h. find_file-none_from files name (i + 1) h ] none

-- no file of a name is found where there is no place of one
pub find_file-none : (files : List FileState) (name : List ℕ)
    → None ≡ position (has_name name) files → find_file files name ≡ None
find_file-none files name none =
    find_file-none_from files name 0 (sym (position_from-zero (has_name name) files) ∙ sym none)

-- a file of a name that is not there goes behind the others
pub place_file-none : (files : List FileState) (file : FileState)
    → find_file files file.name ≡ None → place_file files file ≡ files ++ file ∷ []
place_file-none [] file none = refl
place_file-none (first ∷ files) file none =
    elim (bytes_eq first.name file.name) as (λ b. cond b (Some first) (find_file files file.name) ≡ None
    → cond b (file ∷ files) (first ∷ place_file files file) ≡ first ∷ (files ++ file ∷ []))
    [ true ↦ λ h. absurd (file_none first h) | false ↦ λ h. ap (λ rest. first ∷ rest) (place_file-none files file h) ] none

-- what is known of the place of a name
pub record IsPlaceOf (files : List FileState) (name : List ℕ) (file : FileState) (place : ℕ) : Type 0 where
  pub found : find_file files name ≡ Some file
  pub named : file.name ≡ name
  pub placed : (other : FileState) → other.name ≡ name → set files place other ≡ place_file files other

pub at_place : (name : List ℕ) {files seen : List FileState} {file : FileState} {place : ℕ}
    → seen ≡ files → Some place ≡ position (has_name name) seen → file ≡ get_or files place file
    → IsPlaceOf files name file place
at_place name {files} {seen} {file} {place} same is read =
    let facts = position-Some (has_name name) files place file (ap (λ fs. position (has_name name) fs) (sym same) ∙ sym is) in
    record {
      found = find_file-first files name place file facts.0 facts.1 facts.2 ∙ ap (λ f. Some f) (sym read);
      named = (bytes_eq-Decides file.name name).0 (ap (λ f. bytes_eq f.name name) read ∙ facts.1);
      placed = λ other same_name. place_file-first files other place file facts.0
          (ap (λ n. bytes_eq (get_or files place file).name n) same_name ∙ facts.1)
          (λ k h. ap (λ n. bytes_eq (get_or files k file).name n) same_name ∙ facts.2 k h);
    }

-- nothing of this name was put or reserved
pub no_place : (name : List ℕ) {files seen : List FileState}
    → seen ≡ files → None ≡ position (has_name name) seen → find_file files name ≡ None
no_place name {files} {seen} same is = find_file-none files name (is ∙ ap (λ fs. position (has_name name) fs) same)
