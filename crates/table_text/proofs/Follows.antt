-- Where the machine goes, the trees go, and they spell the token that it took.
use Rattle.std.proofs.Common.{◌≡◌, ℕ, zero, suc, ◌+◌, ◌-◌, ◌^◌, ◌≤◌, ◌<◌, inl, inr, true, cond, ◌&&◌, List, [], ◌∷◌, ◌++◌, length, Option, Some, None, refl, sym, ◌∙◌, ap, subst, append_assoc, length-append, arith}
use Rattle.std.proofs.lemmas.List.{append-nil, map-append}
use Rattle.std.proofs.lemmas.Grind.{flat_map-append}
use Rattle.std.proofs.lemmas.Option.{cond_some, none-some, same_Some}
use Rattle.std.proofs.lemmas.Bool.{eqb-true}
use Rattle.std.proofs.lemmas.Slice.Eq.{bytes_eq-Decides}
use Rattle.std.specs.Prelude.{◌==◌, slice_index_or, map, codes, option_map, option_and_then}
use Rattle.std.specs.List.{flat_map}
use Rattle.std.specs.Str.{bytes_eq}
use Rattle.table_text.specs.Bytes.{open_paren, close_paren, times_sign, plus_sign, equals_sign, colon, semicolon, open_brace, close_brace}
use Rattle.table_text.specs.Lexing.{Token, name, reserved, number, mark, wrong}
use Rattle.table_text.specs.Faults.{is_mark_of}
use Rattle.table_text.specs.TokenClasses.{name_of, is_word, place_among, level_of, number_in, count_among, value_counts, log_values_of}
use Rattle.table_text.specs.Drafts.{is_done, no_parts, draft_at, draft_step}
use Rattle.table_text.specs.Forms.{form_word, side_of, item_slots, item_from, decl_slots, decl_from}
use Rattle.table_text.specs.Grammar.{Sum, Product, Atom, constant, column, parens, ItemTree, one_value, several_values, column_item, zero_item, table_tree, FileTree, product_tokens, atom_tokens, atom_expr, factors, sum_of, product_of, type_word, type_words, item_tokens, side_word, decl_tokens, file_tokens, item_of, decl_of}
use Rattle.table_text.specs.Machine.{back_in, innermost, closed, body_at, settled, begun, decl_settled, body_step, operand_step, operator_step, stage_step, step, state_at, is_start}
use Rattle.table_text.specs.declared.formula.Formula.{Formula}
use Rattle.table_text.specs.declared.expr.Expr.{Expr}
use Rattle.table_text.specs.declared.decl.Item.TheVariants as item
use Rattle.table_text.specs.declared.decl.Decl.TheVariants as decl
use Rattle.table_text.specs.declared.body.ItemStage.{ItemStage}
use Rattle.table_text.specs.declared.body.ItemStage.TheVariants as its
use Rattle.table_text.specs.declared.state.Stage.TheVariants as stage
use Rattle.table_text.specs.declared.body.Body.{Body}
use Rattle.table_text.specs.declared.state.State.{State}
use Rattle.table_text.specs.declared.draft.Draft.{Draft}
use Rattle.table_text.specs.declared.forms.FormWord.{FormWord}
use Rattle.table_text.specs.declared.forms.ItemForm.{ItemForm}
use Rattle.table_text.specs.declared.forms.ItemForm.TheVariants as form
use Rattle.table_text.specs.declared.forms.DeclForm.{DeclForm}
use Rattle.table_text.specs.declared.forms.DeclForm.TheVariants as declared
use Rattle.table_text.specs.declared.decl.Side.{Side}
use Rattle.table_text.proofs.Stacks.{split_last-append}
use Rattle.table_text.proofs.FromTests.{marked, mark_from, name_from, word_from, named, numbered, mapped, chosen, both}
use Rattle.table_text.proofs.Fillings.{drafted, drafted-one, all_read, unread}
use Rattle.table_text.proofs.FormTrees.{word_codes, word_from_form, side_from, item_head, item_filled, decl_head, decl_filled}
use Rattle.table_text.proofs.Trees.{plus_tokens, times_tokens, plus_terms, times_factors, with_product, with_atom, FrameTree, frame_of, outer_tokens, outer_frames, Part, start, column_name, column_colon, column_type, column_end, column_values, column_last, virtual_name, virtual_equals, virtual_form, drafting, zero_name, zero_colon, operand, operator, stage_of, part_tokens, items_tokens, TablePart, file, boundary_side, declaring, table_name, table_brace, table, table_stage, table_part_tokens, spelled, state_of, product_tokens-with_atom, sum_tokens-with_product, factors-with_atom, terms-with_product}

-- ---- types' words

-- a word that stands at a place among words
abbrev pub at_place : ℕ → List (List ℕ) → List ℕ
at_place n words = slice_index_or words n []

pub place_among-is : (n : ℕ) (words : List (List ℕ)) (w : List ℕ) (level : ℕ) → place_among n words w ≡ Some level → (n ≤ level) × (level < n + length words) × (w ≡ at_place (level - n) words)
place_among-is n [] w level e = absurd (none-some level e)
place_among-is n (word ∷ words) w level e =
    elim (chosen (bytes_eq w word) (Some n) (place_among (n + 1) words w) (Some level) e) [
      | inl h ↦ let l : n ≡ level = same_Some _ _ h.1 in (omega arith, omega arith, (bytes_eq-Decides w word).0 h.0 ∙ ap (λ k. at_place k (word ∷ words)) (let z : 0 ≡ level - n = omega arith in z))
      | inr h ↦ let r : (n + 1 ≤ level) × (level < n + 1 + length words) × (w ≡ at_place (level - (n + 1)) words) = place_among-is (n + 1) words w level h.1 in
          let le : n + 1 ≤ level = r.0 in let lt : level < n + 1 + length words = r.1 in
          (omega arith, omega arith, r.2 ∙ ap (λ k. at_place k (word ∷ words)) (let z : suc (level - (n + 1)) ≡ level - n = omega arith in z))
    ]

pub record IsLevel (w : List ℕ) (level : ℕ) : Type 0 where
  pub fits : level ≤ 7
  pub word : w ≡ type_word level

pub level_of-is : (w : List ℕ) (level : ℕ) → level_of w ≡ Some level → IsLevel w level
level_of-is w level e =
    let r = place_among-is 0 type_words w level e in
    record { fits = let lt : level < 0 + length type_words = r.1 in omega arith; word = r.2 ∙ ap type_word (let z : level - 0 ≡ level = omega arith in z) }

-- ---- numbers of values

-- a number that stands at a place among numbers
abbrev pub count_at : ℕ → List ℕ → ℕ
count_at n counts = slice_index_or counts n 0

pub count_among-is : (n : ℕ) (counts : List ℕ) (k v : ℕ) → count_among n counts k ≡ Some v → (n ≤ v) × (v < n + length counts) × (k ≡ count_at (v - n) counts)
count_among-is n [] k v e = absurd (none-some v e)
count_among-is n (count ∷ counts) k v e =
    elim (chosen (k == count) (Some n) (count_among (n + 1) counts k) (Some v) e) [
      | inl h ↦ let l : n ≡ v = same_Some _ _ h.1 in (omega arith, omega arith, eqb-true k count h.0 ∙ ap (λ i. count_at i (count ∷ counts)) (let z : 0 ≡ v - n = omega arith in z))
      | inr h ↦ let r : (n + 1 ≤ v) × (v < n + 1 + length counts) × (k ≡ count_at (v - (n + 1)) counts) = count_among-is (n + 1) counts k v h.1 in
          let le : n + 1 ≤ v = r.0 in let lt : v < n + 1 + length counts = r.1 in
          (omega arith, omega arith, r.2 ∙ ap (λ i. count_at i (count ∷ counts)) (let z : suc (v - (n + 1)) ≡ v - n = omega arith in z))
    ]

counts_are_powers : (v : ℕ) → v ≤ 7 → count_at v value_counts ≡ 2 ^ v
counts_are_powers zero h = refl
counts_are_powers (suc zero) h = refl
counts_are_powers (suc (suc zero)) h = refl
counts_are_powers (suc (suc (suc zero))) h = refl
counts_are_powers (suc (suc (suc (suc zero)))) h = refl
counts_are_powers (suc (suc (suc (suc (suc zero))))) h = refl
counts_are_powers (suc (suc (suc (suc (suc (suc zero)))))) h = refl
counts_are_powers (suc (suc (suc (suc (suc (suc (suc zero))))))) h = refl
counts_are_powers (suc (suc (suc (suc (suc (suc (suc (suc n)))))))) h = absurd (omega arith)

pub record IsPower (k v : ℕ) : Type 0 where
  pub fits : v ≤ 7
  pub power : k ≡ 2 ^ v

pub log_values_of-is : (k v : ℕ) → log_values_of k ≡ Some v → IsPower k v
log_values_of-is k v e =
    let r = count_among-is 0 value_counts k v e in
    let fits : v ≤ 7 = let lt : v < 0 + length value_counts = r.1 in omega arith in
    record { fits = fits; power = r.2 ∙ ap (λ i. count_at i value_counts) (let z : v - 0 ≡ v = omega arith in z) ∙ counts_are_powers v fits }

-- ---- items

-- the trees after a token, with the body that the machine has then
pub record FollowsBody (items : List ItemTree) (part : Part) (t : Token) (b : Body) : Type 0 where
  pub items' : List ItemTree
  pub part' : Part
  pub shown : body_at (map item_of items') (stage_of part') ≡ b
  pub spelled : items_tokens items' part' ≡ items_tokens items part ++ t ∷ []

-- the part alone changes
stays : (items : List ItemTree) (part next : Part) (t u : Token) (b : Body) → t ≡ u → part_tokens next ≡ part_tokens part ++ u ∷ [] → body_at (map item_of items) (stage_of next) ≡ b → FollowsBody items part t b
stays items part next t u b same spell shown = record {
  items' = items;
  part' = next;
  shown = shown;
  spelled = ap (λ ts. flat_map item_tokens items ++ ts) (spell ∙ ap (λ v. part_tokens part ++ v ∷ []) (sym same)) ∙ sym (append_assoc (flat_map item_tokens items) (part_tokens part) (t ∷ []));
}

-- an item is finished
ends : (items : List ItemTree) (part : Part) (i : ItemTree) (t u : Token) (b : Body) → t ≡ u → item_tokens i ≡ part_tokens part ++ u ∷ [] → body_at (map item_of items ++ item_of i ∷ []) (stage_of start) ≡ b → FollowsBody items part t b
ends items part i t u b same spell shown = record {
  items' = items ++ i ∷ [];
  part' = start;
  shown = ap (λ is. body_at is (stage_of start)) (map-append item_of items (i ∷ [])) ∙ shown;
  spelled = append-nil _ ∙ flat_map-append item_tokens items (i ∷ []) ∙ ap (λ ts. flat_map item_tokens items ++ ts) (append-nil _ ∙ spell ∙ ap (λ v. part_tokens part ++ v ∷ []) (sym same)) ∙ sym (append_assoc (flat_map item_tokens items) (part_tokens part) (t ∷ []));
}

abbrev zero_tokens : List ℕ → List Token → List Token
zero_tokens w ts = reserved (codes "zero") ∷ name w ∷ mark colon ∷ ts

abbrev shown_items : List ItemTree → ItemStage → Body
shown_items items s = body_at (map item_of items) s

abbrev formula_of : List FrameTree → List Expr → List Expr → Formula
formula_of o ts fs = record { outer = outer_frames o; terms = ts; factors = fs }

abbrev shown_zero : List ItemTree → List ℕ → Option Sum → Product → Body
shown_zero items w s p = body_at (map item_of items ++ item.Zero w (sum_of (plus_terms s ++ product_of (factors p) ∷ [])) ∷ []) its.Start

-- an atom of one token
atom_read : (items : List ItemTree) (w : List ℕ) (o : List FrameTree) (s : Option Sum) (p : Option Product) (a : Atom) (t : Token) (b : Body)
    → atom_tokens a ≡ t ∷ [] → shown_items items (its.Operator w (formula_of o (plus_terms s) (times_factors p ++ atom_expr a ∷ []))) ≡ b → FollowsBody items (operand w o s p) t b
atom_read items w o s p a t b one shown = stays items (operand w o s p) (operator w o s (with_atom p a)) t t b refl
    (ap (zero_tokens w) (ap (λ ts. (outer_tokens o ++ plus_tokens s) ++ ts) (product_tokens-with_atom p a ∙ ap (λ ts. times_tokens p ++ ts) one) ∙ sym (append_assoc (outer_tokens o ++ plus_tokens s) (times_tokens p) (t ∷ []))))
    (ap (λ fs. shown_items items (its.Operator w (formula_of o (plus_terms s) fs))) (factors-with_atom p a) ∙ shown)

-- a parenthesis opens
opens : (items : List ItemTree) (w : List ℕ) (o : List FrameTree) (s : Option Sum) (p : Option Product) (t : Token) (b : Body)
    → t ≡ mark open_paren → shown_items items (its.Operand w (formula_of (record { sum = s; product = p } ∷ o) [] [])) ≡ b → FollowsBody items (operand w o s p) t b
opens items w o s p t b same shown = stays items (operand w o s p) (operand w (record { sum = s; product = p } ∷ o) None None) t (mark open_paren) b same
    (ap (zero_tokens w) (append-nil _ ∙ append-nil _)) shown

operand_read : (items : List ItemTree) (w : List ℕ) (o : List FrameTree) (s : Option Sum) (p : Option Product) (t : Token) (b : Body)
    → option_map (body_at (map item_of items)) (operand_step w (formula_of o (plus_terms s) (times_factors p)) t) ≡ Some b → FollowsBody items (operand w o s p) t b
operand_read items w o s p (name v) b e = atom_read items w o s p (column v) (name v) b refl (same_Some _ _ e)
operand_read items w o s p (reserved v) b e = absurd (none-some b e)
operand_read items w o s p (number n) b e = atom_read items w o s p (constant n) (number n) b refl (same_Some _ _ e)
operand_read items w o s p (mark c) b e =
    let m = mapped (body_at (map item_of items)) _ b e in
    let h : ((c == open_paren) ≡ true) × (its.Operand w (formula_of (record { sum = s; product = p } ∷ o) [] []) ≡ m.value) = cond_some _ _ m.value m.from in
    opens items w o s p (mark c) b (ap mark (eqb-true c open_paren h.0)) (ap (body_at (map item_of items)) h.1 ∙ m.is)
operand_read items w o s p (wrong kind) b e = absurd (none-some b e)

-- behind a product: `*`, `+`, `)` and `;`
times_read : (items : List ItemTree) (w : List ℕ) (o : List FrameTree) (s : Option Sum) (p : Product) (t : Token) (b : Body)
    → t ≡ mark times_sign → shown_items items (its.Operand w (formula_of o (plus_terms s) (factors p))) ≡ b → FollowsBody items (operator w o s p) t b
times_read items w o s p t b same shown = stays items (operator w o s p) (operand w o s (Some p)) t (mark times_sign) b same
    (ap (zero_tokens w) (sym (append_assoc (outer_tokens o ++ plus_tokens s) (product_tokens p) (mark times_sign ∷ [])))) shown

plus_read : (items : List ItemTree) (w : List ℕ) (o : List FrameTree) (s : Option Sum) (p : Product) (t : Token) (b : Body)
    → t ≡ mark plus_sign → shown_items items (its.Operand w (formula_of o (plus_terms s ++ product_of (factors p) ∷ []) [])) ≡ b → FollowsBody items (operator w o s p) t b
plus_read items w o s p t b same shown = stays items (operator w o s p) (operand w o (Some (with_product s p)) None) t (mark plus_sign) b same
    (ap (zero_tokens w) (simp (append-nil, append_assoc, sum_tokens-with_product) refl))
    (ap (λ ts. shown_items items (its.Operand w (formula_of o ts []))) (terms-with_product s p) ∙ shown)

closes_to : (items : List ItemTree) (w : List ℕ) (f : FrameTree) (fs : List FrameTree) (s : Option Sum) (p : Product) (t : Token) (b : Body)
    → t ≡ mark close_paren → shown_items items (its.Operator w (formula_of fs (plus_terms f.sum) (times_factors f.product ++ sum_of (plus_terms s ++ product_of (factors p) ∷ []) ∷ []))) ≡ b → FollowsBody items (operator w (f ∷ fs) s p) t b
closes_to items w f fs s p t b same shown = stays items (operator w (f ∷ fs) s p) (operator w fs f.sum (with_atom f.product (parens (with_product s p)))) t (mark close_paren) b same
    (ap (zero_tokens w) (simp (append_assoc, product_tokens-with_atom, sum_tokens-with_product) refl))
    (ap (λ gs. shown_items items (its.Operator w (formula_of fs (plus_terms f.sum) gs)))
    (factors-with_atom f.product (parens (with_product s p)) ∙ ap (λ ts. times_factors f.product ++ sum_of ts ∷ []) (terms-with_product s p)) ∙ shown)

close_read : (items : List ItemTree) (w : List ℕ) (o : List FrameTree) (s : Option Sum) (p : Product) (t : Token) (b : Body)
    → t ≡ mark close_paren → option_map (λ g. body_at (map item_of items) (its.Operator w g)) (closed (formula_of o (plus_terms s) (factors p))) ≡ Some b → FollowsBody items (operator w o s p) t b
close_read items w [] s p t b same e = absurd (none-some b e)
close_read items w (f ∷ fs) s p t b same e =
    let split : closed (formula_of (f ∷ fs) (plus_terms s) (factors p)) ≡ Some (back_in (innermost (formula_of (f ∷ fs) (plus_terms s) (factors p))) (outer_frames fs, frame_of f)) =
    ap (option_map (back_in (innermost (formula_of (f ∷ fs) (plus_terms s) (factors p))))) (split_last-append (outer_frames fs) (frame_of f)) in
    closes_to items w f fs s p t b same (same_Some _ _ (sym (ap (option_map (λ g. body_at (map item_of items) (its.Operator w g))) split) ∙ e))

no_outer : (f : FrameTree) (fs : List FrameTree) → (length (outer_frames (f ∷ fs)) == 0) ≡ true → ⊥
no_outer f fs e = let h : length (outer_frames fs ++ frame_of f ∷ []) ≡ 0 = eqb-true _ 0 e in omega (arith, h, length-append (outer_frames fs) (frame_of f ∷ []))

end_read : (items : List ItemTree) (w : List ℕ) (o : List FrameTree) (s : Option Sum) (p : Product) (t : Token) (b : Body)
    → t ≡ mark semicolon → (length (outer_frames o) == 0) ≡ true → shown_zero items w s p ≡ b → FollowsBody items (operator w o s p) t b
end_read items w [] s p t b same none shown = ends items (operator w [] s p) (zero_item w (with_product s p)) t (mark semicolon) b same
    (ap (zero_tokens w) (ap (λ ts. ts ++ mark semicolon ∷ []) (sum_tokens-with_product s p)))
    (ap (λ ts. body_at (map item_of items ++ item.Zero w (sum_of ts) ∷ []) its.Start) (terms-with_product s p) ∙ shown)
end_read items w (f ∷ fs) s p t b same none shown = absurd (no_outer f fs none)

operator_read : (items : List ItemTree) (w : List ℕ) (o : List FrameTree) (s : Option Sum) (p : Product) (t : Token) (b : Body)
    → operator_step (map item_of items) w (formula_of o (plus_terms s) (factors p)) t ≡ Some b → FollowsBody items (operator w o s p) t b
operator_read items w o s p t b e =
    elim (chosen (is_mark_of times_sign t) _ _ (Some b) e) [
      | inl h ↦ times_read items w o s p t b (mark_from times_sign t h.0) (same_Some _ _ h.1)
      | inr h ↦ elim (chosen (is_mark_of plus_sign t) _ _ (Some b) h.1) [
        | inl k ↦ plus_read items w o s p t b (mark_from plus_sign t k.0) (same_Some _ _ k.1)
        | inr k ↦ elim (chosen (is_mark_of close_paren t) _ _ (Some b) k.1) [
          | inl m ↦ close_read items w o s p t b (mark_from close_paren t m.0) m.1
          | inr m ↦
              let r : ((is_mark_of semicolon t && (length (outer_frames o) == 0)) ≡ true) × (shown_zero items w s p ≡ b) = cond_some _ _ b m.1 in
              let q : (is_mark_of semicolon t ≡ true) × ((length (outer_frames o) == 0) ≡ true) = both _ _ r.0 in
              end_read items w o s p t b (mark_from semicolon t q.0) q.1 r.1
        ]
      ]
    ]

start_read : (items : List ItemTree) (t : Token) (b : Body) → body_step (map item_of items) its.Start t ≡ Some b → FollowsBody items start t b
start_read items t b e =
    elim (chosen (is_word (codes "column") t) _ _ (Some b) e) [
      | inl h ↦ stays items start column_name t (reserved (codes "column")) b (word_from (codes "column") t h.0) refl (same_Some _ _ h.1)
      | inr h ↦ elim (chosen (is_word (codes "virtual") t) _ _ (Some b) h.1) [
        | inl k ↦ stays items start virtual_name t (reserved (codes "virtual")) b (word_from (codes "virtual") t k.0) refl (same_Some _ _ k.1)
        | inr k ↦ elim (chosen (is_word (codes "zero") t) _ _ (Some b) k.1) [
          | inl m ↦ stays items start zero_name t (reserved (codes "zero")) b (word_from (codes "zero") t m.0) refl (same_Some _ _ m.1)
          | inr m ↦
              let begun : Side → Draft = λ side. draft_at (item_slots (form.Flush side)) no_parts in
              let s = mapped (λ side. body_at (map item_of items) (its.Drafting (form.Flush side) (begun side))) (side_of t) b m.1 in
              stays items start (drafting (form.Flush s.value) [] (begun s.value) refl) t (reserved (side_word s.value)) b (side_from t s.value s.from) refl s.is
        ]
      ]
    ]

name_read : (items : List ItemTree) (part : Part) (f : List ℕ → ItemStage) (next : List ℕ → Part) (t : Token) (b : Body)
    → ((w : List ℕ) → stage_of (next w) ≡ f w) → ((w : List ℕ) → part_tokens (next w) ≡ part_tokens part ++ name w ∷ [])
    → option_map (λ w. body_at (map item_of items) (f w)) (name_of t) ≡ Some b → FollowsBody items part t b
name_read items part f next t b is spell e =
    let n = mapped (λ w. body_at (map item_of items) (f w)) (name_of t) b e in
    stays items part (next n.value) t (name n.value) b (name_from t n.value n.from) (spell n.value) (ap (body_at (map item_of items)) (is n.value) ∙ n.is)

mark_read : (items : List ItemTree) (part next : Part) (c : ℕ) (t : Token) (b : Body)
    → part_tokens next ≡ part_tokens part ++ mark c ∷ []
    → cond (is_mark_of c t) (Some (body_at (map item_of items) (stage_of next))) None ≡ Some b → FollowsBody items part t b
mark_read items part next c t b spell e = let m = marked c _ b t e in stays items part next t (mark c) b m.0 spell m.1

type_read : (items : List ItemTree) (w : List ℕ) (t : Token) (b : Body)
    → option_map (λ level. body_at (map item_of items) (its.ColumnEnd w level)) (option_and_then level_of (name_of t)) ≡ Some b → FollowsBody items (column_type w) t b
type_read items w t b e =
    let m = mapped (λ level. body_at (map item_of items) (its.ColumnEnd w level)) _ b e in
    let n = named level_of t m.value m.from in
    let l = level_of-is n.word m.value n.is in
    stays items (column_type w) (column_end w m.value l.fits) t (name (type_word m.value)) b (n.token ∙ ap name l.word) refl m.is

column_read : (items : List ItemTree) (w : List ℕ) (level : ℕ) (h : level ≤ 7) (t : Token) (b : Body)
    → body_step (map item_of items) (its.ColumnEnd w level) t ≡ Some b → FollowsBody items (column_end w level h) t b
column_read items w level h t b e =
    elim (chosen (is_mark_of semicolon t) _ _ (Some b) e) [
      | inl k ↦ ends items (column_end w level h) (column_item w (one_value level h)) t (mark semicolon) b (mark_from semicolon t k.0) refl (same_Some _ _ k.1)
      | inr k ↦
          let x : (is_word (codes "x") t ≡ true) × (shown_items items (its.ColumnValues w level) ≡ b) = cond_some _ _ b k.1 in
          stays items (column_end w level h) (column_values w level h) t (reserved (codes "x")) b (word_from (codes "x") t x.0) refl x.1
    ]

values_read : (items : List ItemTree) (w : List ℕ) (level : ℕ) (h : level ≤ 7) (t : Token) (b : Body)
    → option_map (λ v. body_at (map item_of items) (its.ColumnLast w level v)) (option_and_then log_values_of (number_in t)) ≡ Some b → FollowsBody items (column_values w level h) t b
values_read items w level h t b e =
    let m = mapped (λ v. body_at (map item_of items) (its.ColumnLast w level v)) _ b e in
    let n = numbered log_values_of t m.value m.from in
    let p = log_values_of-is n.count m.value n.is in
    stays items (column_values w level h) (column_last w level m.value h p.fits) t (number (2 ^ m.value)) b (n.token ∙ ap number p.power) refl m.is

last_read : (items : List ItemTree) (w : List ℕ) (level v : ℕ) (h : level ≤ 7) (k : v ≤ 7) (t : Token) (b : Body)
    → cond (is_mark_of semicolon t) (Some (body_at (map item_of items ++ item.Column w level v ∷ []) its.Start)) None ≡ Some b → FollowsBody items (column_last w level v h k) t b
last_read items w level v h k t b e = let m = marked semicolon _ b t e in ends items (column_last w level v h k) (column_item w (several_values level v h k)) t (mark semicolon) b m.0 refl m.1

form_read : (items : List ItemTree) (w : List ℕ) (t : Token) (b : Body)
    → option_map (λ word. body_at (map item_of items) (its.Drafting (form.Virtual w word) (draft_at (item_slots (form.Virtual w word)) no_parts))) (form_word t) ≡ Some b → FollowsBody items (virtual_form w) t b
form_read items w t b e =
    let begun : FormWord → Draft = λ word. draft_at (item_slots (form.Virtual w word)) no_parts in
    let m = mapped (λ word. body_at (map item_of items) (its.Drafting (form.Virtual w word) (begun word))) (form_word t) b e in
    stays items (virtual_form w) (drafting (form.Virtual w m.value) [] (begun m.value) refl) t (reserved (word_codes m.value)) b (word_from_form t m.value m.from) refl m.is

-- something of an item is read
drafted_on : (items : List ItemTree) (f : ItemForm) (tokens : List Token) (d e : Draft) (h : drafted (draft_at (item_slots f) no_parts) tokens ≡ Some d) (t : Token) (b : Body)
    → drafted (draft_at (item_slots f) no_parts) (tokens ++ t ∷ []) ≡ Some e → settled (map item_of items) f e ≡ Some b → FollowsBody items (drafting f tokens d h) t b
drafted_on items f tokens d e h t b longer is =
    elim (chosen (is_done e.slots) _ _ (Some b) is) [
      | inl k ↦
          let m = mapped (λ i. body_at (map item_of items ++ i ∷ []) its.Start) (item_from f e.parts) b k.1 in
          let whole = unread (tokens ++ t ∷ []) (draft_at (item_slots f) no_parts) e [] e.parts longer (all_read e.slots e.parts k.0) in
          let i = item_filled f ((tokens ++ t ∷ []) ++ []) e.parts whole in
          let same : item_of i.tree ≡ m.value = same_Some _ _ (sym i.means ∙ m.from) in
          ends items (drafting f tokens d h) i.tree t t b refl
          (i.spells ∙ ap (λ ts. item_head f ++ ts) (append-nil (tokens ++ t ∷ [])) ∙ sym (append_assoc (item_head f) tokens (t ∷ [])))
          (ap (λ x. body_at (map item_of items ++ x ∷ []) its.Start) same ∙ m.is)
      | inr k ↦ stays items (drafting f tokens d h) (drafting f (tokens ++ t ∷ []) e longer) t t b refl (sym (append_assoc (item_head f) tokens (t ∷ []))) (same_Some _ _ k.1)
    ]

draft_read_at : (items : List ItemTree) (f : ItemForm) (tokens : List Token) (d : Draft) (h : drafted (draft_at (item_slots f) no_parts) tokens ≡ Some d) (t : Token) (b : Body) (o : Option Draft)
    → draft_step d t ≡ o → option_and_then (settled (map item_of items) f) o ≡ Some b → FollowsBody items (drafting f tokens d h) t b
draft_read_at items f tokens d h t b None is e = absurd (none-some b e)
draft_read_at items f tokens d h t b (Some c) is e = drafted_on items f tokens d c h t b (drafted-one tokens (draft_at (item_slots f) no_parts) d c t h is) e

pub follows_body : (items : List ItemTree) (part : Part) (t : Token) (b : Body) → body_step (map item_of items) (stage_of part) t ≡ Some b → FollowsBody items part t b
follows_body items start t b e = start_read items t b e
follows_body items column_name t b e = name_read items column_name its.ColumnColon column_colon t b (λ w. refl) (λ w. refl) e
follows_body items (column_colon w) t b e = mark_read items (column_colon w) (column_type w) colon t b refl e
follows_body items (column_type w) t b e = type_read items w t b e
follows_body items (column_end w level h) t b e = column_read items w level h t b e
follows_body items (column_values w level h) t b e = values_read items w level h t b e
follows_body items (column_last w level v h k) t b e = last_read items w level v h k t b e
follows_body items virtual_name t b e = name_read items virtual_name its.VirtualEquals virtual_equals t b (λ w. refl) (λ w. refl) e
follows_body items (virtual_equals w) t b e = mark_read items (virtual_equals w) (virtual_form w) equals_sign t b refl e
follows_body items (virtual_form w) t b e = form_read items w t b e
follows_body items (drafting f tokens d h) t b e = draft_read_at items f tokens d h t b (draft_step d t) refl e
follows_body items zero_name t b e = name_read items zero_name its.ZeroColon zero_colon t b (λ w. refl) (λ w. refl) e
follows_body items (zero_colon w) t b e = mark_read items (zero_colon w) (operand w [] None None) colon t b refl e
follows_body items (operand w o s p) t b e = operand_read items w o s p t b e
follows_body items (operator w o s p) t b e = operator_read items w o s p t b e

-- ---- tables

-- the trees after a token, with the state that the machine has then
pub record Follows (tables : FileTree) (part : TablePart) (t : Token) (v : State) : Type 0 where
  pub tables' : FileTree
  pub part' : TablePart
  pub shown : state_of tables' part' ≡ v
  pub spells : spelled tables' part' ≡ spelled tables part ++ t ∷ []

moves : (tables : FileTree) (part next : TablePart) (t u : Token) (v : State) → t ≡ u → table_part_tokens next ≡ table_part_tokens part ++ u ∷ [] → state_at (map decl_of tables) (table_stage next) ≡ v → Follows tables part t v
moves tables part next t u v same spell shown = record {
  tables' = tables;
  part' = next;
  shown = shown;
  spells = ap (λ ts. file_tokens tables ++ ts) (spell ∙ ap (λ x. table_part_tokens part ++ x ∷ []) (sym same)) ∙ sym (append_assoc (file_tokens tables) (table_part_tokens part) (t ∷ []));
}

table_ends : (tables : FileTree) (w : List ℕ) (items : List ItemTree) (t : Token) (v : State) → t ≡ mark close_brace → state_at (map decl_of tables ++ decl.Table w (map item_of items) ∷ []) (table_stage file) ≡ v → Follows tables (table w items start) t v
table_ends tables w items t v same shown = record {
  tables' = tables ++ table_tree w items ∷ [];
  part' = file;
  shown = ap (λ ds. state_at ds (table_stage file)) (map-append decl_of tables (table_tree w items ∷ [])) ∙ shown;
  spells = append-nil _ ∙ flat_map-append decl_tokens tables (table_tree w items ∷ [])
      ∙ ap (λ ts. file_tokens tables ++ ts) (append-nil _ ∙ ap (λ ts. reserved (codes "table") ∷ name w ∷ mark open_brace ∷ ts) (ap (λ ts. ts ++ mark close_brace ∷ []) (sym (append-nil (flat_map item_tokens items))))
      ∙ ap (λ x. table_part_tokens (table w items start) ++ x ∷ []) (sym same))
      ∙ sym (append_assoc (file_tokens tables) (table_part_tokens (table w items start)) (t ∷ []));
}

inside : (tables : FileTree) (w : List ℕ) (items : List ItemTree) (part : Part) (t : Token) (v : State)
    → option_map (λ b. state_at (map decl_of tables) (stage.Table w b)) (body_step (map item_of items) (stage_of part) t) ≡ Some v → Follows tables (table w items part) t v
inside tables w items part t v e =
    let m = mapped (λ b. state_at (map decl_of tables) (stage.Table w b)) _ v e in
    let r = follows_body items part t m.value m.from in
    moves tables (table w items part) (table w r.items' r.part') t t v refl
    (ap (λ ts. reserved (codes "table") ∷ name w ∷ mark open_brace ∷ ts) r.spelled)
    (ap (λ b. state_at (map decl_of tables) (stage.Table w b)) r.shown ∙ m.is)

start_only : (part : Part) → is_start (stage_of part) ≡ true → part ≡ start
start_only start e = refl
start_only column_name e = cc
start_only (column_colon w) e = cc
start_only (column_type w) e = cc
start_only (column_end w level h) e = cc
start_only (column_values w level h) e = cc
start_only (column_last w level v h k) e = cc
start_only virtual_name e = cc
start_only (virtual_equals w) e = cc
start_only (virtual_form w) e = cc
start_only (drafting f tokens d h) e = cc
start_only zero_name e = cc
start_only (zero_colon w) e = cc
start_only (operand w o s p) e = cc
start_only (operator w o s p) e = cc

table_read : (tables : FileTree) (w : List ℕ) (items : List ItemTree) (part : Part) (t : Token) (v : State)
    → stage_step (map decl_of tables) (table_stage (table w items part)) t ≡ Some v → Follows tables (table w items part) t v
table_read tables w items part t v e =
    elim (chosen (is_mark_of close_brace t && is_start (stage_of part)) _ _ (Some v) e) [
      | inl h ↦
          let q : (is_mark_of close_brace t ≡ true) × (is_start (stage_of part) ≡ true) = both _ _ h.0 in
          subst (λ (p : Part). Follows tables (table w items p) t v) (sym (start_only part q.1)) (table_ends tables w items t v (mark_from close_brace t q.0) (same_Some _ _ h.1))
      | inr h ↦ inside tables w items part t v h.1
    ]

-- something of a channel or a boundary is read
declared_on : (tables : FileTree) (f : DeclForm) (tokens : List Token) (d e : Draft) (h : drafted (draft_at (decl_slots f) no_parts) tokens ≡ Some d) (t : Token) (v : State)
    → drafted (draft_at (decl_slots f) no_parts) (tokens ++ t ∷ []) ≡ Some e → decl_settled (map decl_of tables) f e ≡ Some v → Follows tables (declaring f tokens d h) t v
declared_on tables f tokens d e h t v longer is =
    elim (chosen (is_done e.slots) _ _ (Some v) is) [
      | inl k ↦
          let m = mapped (λ x. state_at (map decl_of tables ++ x ∷ []) stage.File) (decl_from f e.parts) v k.1 in
          let whole = unread (tokens ++ t ∷ []) (draft_at (decl_slots f) no_parts) e [] e.parts longer (all_read e.slots e.parts k.0) in
          let r = decl_filled f ((tokens ++ t ∷ []) ++ []) e.parts whole in
          let same : decl_of r.tree ≡ m.value = same_Some _ _ (sym r.means ∙ m.from) in
          record {
            tables' = tables ++ r.tree ∷ [];
            part' = file;
            shown = ap (λ ds. state_at ds stage.File) (map-append decl_of tables (r.tree ∷ [])) ∙ ap (λ x. state_at (map decl_of tables ++ x ∷ []) stage.File) same ∙ m.is;
            spells = append-nil _ ∙ flat_map-append decl_tokens tables (r.tree ∷ [])
                ∙ ap (λ ts. file_tokens tables ++ ts) (append-nil _ ∙ r.spells ∙ ap (λ ts. decl_head f ++ ts) (append-nil (tokens ++ t ∷ [])) ∙ sym (append_assoc (decl_head f) tokens (t ∷ [])))
                ∙ sym (append_assoc (file_tokens tables) (decl_head f ++ tokens) (t ∷ []));
          }
      | inr k ↦ moves tables (declaring f tokens d h) (declaring f (tokens ++ t ∷ []) e longer) t t v refl (sym (append_assoc (decl_head f) tokens (t ∷ []))) (same_Some _ _ k.1)
    ]

declared_at : (tables : FileTree) (f : DeclForm) (tokens : List Token) (d : Draft) (h : drafted (draft_at (decl_slots f) no_parts) tokens ≡ Some d) (t : Token) (v : State) (o : Option Draft)
    → draft_step d t ≡ o → option_and_then (decl_settled (map decl_of tables) f) o ≡ Some v → Follows tables (declaring f tokens d h) t v
declared_at tables f tokens d h t v None is e = absurd (none-some v e)
declared_at tables f tokens d h t v (Some c) is e = declared_on tables f tokens d c h t v (drafted-one tokens (draft_at (decl_slots f) no_parts) d c t h is) e

abbrev begun_draft : DeclForm → Draft
begun_draft f = draft_at (decl_slots f) no_parts

file_read : (tables : FileTree) (t : Token) (v : State) → stage_step (map decl_of tables) stage.File t ≡ Some v → Follows tables file t v
file_read tables t v e =
    elim (chosen (is_word (codes "table") t) _ _ (Some v) e) [
      | inl h ↦ moves tables file table_name t (reserved (codes "table")) v (word_from (codes "table") t h.0) refl (same_Some _ _ h.1)
      | inr h ↦ elim (chosen (is_word (codes "channel") t) _ _ (Some v) h.1) [
        | inl k ↦ moves tables file (declaring declared.Channel [] (begun_draft declared.Channel) refl) t (reserved (codes "channel")) v (word_from (codes "channel") t k.0) refl (same_Some _ _ k.1)
        | inr k ↦
            let m : (is_word (codes "boundary") t ≡ true) × (state_at (map decl_of tables) stage.BoundarySide ≡ v) = cond_some _ _ v k.1 in
            moves tables file boundary_side t (reserved (codes "boundary")) v (word_from (codes "boundary") t m.0) refl m.1
      ]
    ]

side_read : (tables : FileTree) (t : Token) (v : State) → stage_step (map decl_of tables) stage.BoundarySide t ≡ Some v → Follows tables boundary_side t v
side_read tables t v e =
    let s = mapped (λ side. begun (map decl_of tables) (declared.Boundary side)) (side_of t) v e in
    moves tables boundary_side (declaring (declared.Boundary s.value) [] (begun_draft (declared.Boundary s.value)) refl) t (reserved (side_word s.value)) v (side_from t s.value s.from) refl s.is

pub follows : (tables : FileTree) (part : TablePart) (t : Token) (v : State) → step (state_of tables part) t ≡ Some v → Follows tables part t v
follows tables file t v e = file_read tables t v e
follows tables boundary_side t v e = side_read tables t v e
follows tables (declaring f tokens d h) t v e = declared_at tables f tokens d h t v (draft_step d t) refl e
follows tables table_name t v e =
    let n = mapped (λ w. state_at (map decl_of tables) (stage.TableBrace w)) (name_of t) v e in
    moves tables table_name (table_brace n.value) t (name n.value) v (name_from t n.value n.from) refl n.is
follows tables (table_brace w) t v e = let m = marked open_brace _ v t e in moves tables (table_brace w) (table w [] start) t (mark open_brace) v m.0 refl m.1
follows tables (table w items part) t v e = table_read tables w items part t v e
