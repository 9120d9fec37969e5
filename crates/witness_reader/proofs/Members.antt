-- Members of objects by their names.
use Rattle.std.proofs.Common.{◌≡◌, ℕ, ◌==◌, Bool, true, false, cond, map, ◌&&◌, ◌||◌, not, List, [], ◌∷◌, length, Some, None, Ok, Bor, string_bytes, bytes_eq, IsUtf8, refl, sym, ap, subst, ◌∙◌}
use Rattle.std.specs.List.{filter, list_any}
use Rattle.std.specs.Map.{keys_of}
use Rattle.std.specs.Map.Iter.{TakesFirst}
use Rattle.std.specs.Str.Lossy.{utf8_valid_len}
use Rattle.std.proofs.lemmas.Bool.{eq-eqb}
use Rattle.std.proofs.lemmas.Str.{utf8_valid_len-IsUtf8, IsUtf8-string_bytes}
use Rattle.std.proofs.lemmas.Iterator.{YieldsList}
use Rattle.std.proofs.lemmas.Iterator.Consumers.{YieldsList-from_shown}
use Rattle.serde_json.specs.Data.{Data}
use Rattle.serde_json.specs.Read.{read}
use Rattle.serde_json.specs.Find.{get_member}
use Rattle.serde_json.specs.View.{members_view}
use Rattle.serde_json.proofs.Views.{Entry, member_later}
use Rattle.witness_reader.specs.declared.fault.WitnessPlace.TheVariants.{Whole}
use Rattle.witness_reader.specs.declared.fault.WitnessKind.TheVariants.{NotJson}
use Rattle.table_shape.specs.declared.shape.ColumnShape.{ColumnShape}
use Rattle.witness_reader.specs.Witness.{json_of, or_refuse, has_other, is_committed, committed_names}

pub json_is : (bytes text : List ℕ) (json : Data) → text ≡ bytes → IsUtf8 bytes → read text ≡ Some json → or_refuse Whole NotJson (json_of bytes) ≡ Ok json
json_is bytes text json e utf8 is =
    let whole : (utf8_valid_len bytes == length bytes) ≡ true = eq-eqb (utf8_valid_len bytes) (length bytes) (utf8_valid_len-IsUtf8 bytes utf8) in
    let found : read bytes ≡ Some json = ap read (sym e) ∙ is in
    rw (whole, found) refl

-- each name in an object is text
pub no_text : (name : List ℕ) (es : List Entry) → (IsUtf8 name → ⊥) → get_member name (members_view es) ≡ None
no_text name [] h = refl
no_text name (e ∷ es) h = member_later name e es (λ is. h (subst IsUtf8 (sym is) (IsUtf8-string_bytes e.0))) ∙ no_text name es h

pub has_other-keys : (names : List (List ℕ)) (es : List Entry) → list_any (λ k. not (list_any (bytes_eq (string_bytes k)) names)) (keys_of es) ≡ has_other names (members_view es)
has_other-keys names [] = refl
has_other-keys names (e ∷ es) = ap (λ b. not (list_any (bytes_eq (string_bytes e.0)) names) || b) (has_other-keys names es)

pub keys_yield : {K : Type 0} (s ks : List K) → s ≡ ks → YieldsList (TakesFirst (λ (x : Bor K). x.now)) (λ x. x.now) s ks
keys_yield s ks e = subst (YieldsList (TakesFirst (λ x. x.now)) (λ x. x.now) s) e (YieldsList-from_shown (TakesFirst (λ x. x.now)) (λ x. x.now) (λ t. t) (λ t u h. ap length h.0) (λ t x u h. h) s)

-- one of the columns that a witness gives has a name that passes
pub list_any-committed : (f : List ℕ → Bool) (columns : List ColumnShape) → list_any (λ (c : ColumnShape). is_committed c.kind && f c.name) columns ≡ list_any f (committed_names columns)
list_any-committed f [] = refl
list_any-committed f (column ∷ columns) =
    elim (is_committed column.kind) as (λ b. ((b && f column.name) || list_any (λ (c : ColumnShape). is_committed c.kind && f c.name) columns)
    ≡ list_any f (map (λ (c : ColumnShape). c.name) (cond b (column ∷ filter (λ (c : ColumnShape). is_committed c.kind) columns) (filter (λ (c : ColumnShape). is_committed c.kind) columns)))) [
      | true ↦ ap (λ b. f column.name || b) (list_any-committed f columns)
      | false ↦ list_any-committed f columns
    ]
