-- The items that are read place by place, as trees.
use Rattle.std.proofs.Common.{◌≡◌, ℕ, inl, inr, true, List, [], ◌∷◌, ◌++◌, Option, Some, None, refl, sym, ◌∙◌, ap, append_assoc}
use Rattle.std.proofs.lemmas.Option.{cond_some, none-some, same_Some}
use Rattle.std.proofs.lemmas.List.{append-nil}
use Rattle.std.specs.Prelude.{map, codes, option_map}
use Rattle.table_text.specs.Bytes.{equals_sign, semicolon}
use Rattle.table_text.specs.Lexing.{Token, name, reserved, mark}
use Rattle.table_text.specs.Grammar.{TermTree, plain_term, times_term, FormTree, shl_form, shr_form, rol_form, project_form, pack_form, linear_form, ItemTree, virtual_item, flush_item, DeclTree, channel_tree, boundary_tree, side_word, form_tokens, item_tokens, decl_tokens, term_of, form_of, item_of, decl_of}
use Rattle.table_text.specs.TokenClasses.{is_word}
use Rattle.table_text.specs.Drafts.{with_name, with_column, with_number, no_parts, draft_at}
use Rattle.table_text.specs.Forms.{form_word, side_of, form_slots, flush_slots, item_slots, channel_slots, boundary_slots, decl_slots, one, flush_names, form_from, item_from, decl_from}
use Rattle.table_text.specs.declared.decl.Term.{Term}
use Rattle.table_text.specs.declared.decl.VirtualForm.TheVariants as virtual
use Rattle.table_text.specs.declared.decl.Item.TheVariants as item
use Rattle.table_text.specs.declared.draft.Parts.{Parts}
use Rattle.table_text.specs.declared.forms.FormWord.{FormWord}
use Rattle.table_text.specs.declared.forms.FormWord.TheVariants.{Shl, Shr, Rol, Project, Pack, Linear}
use Rattle.table_text.specs.declared.forms.ItemForm.{ItemForm}
use Rattle.table_text.specs.declared.forms.ItemForm.TheVariants.{Virtual, Flush}
use Rattle.table_text.specs.declared.forms.DeclForm.{DeclForm}
use Rattle.table_text.specs.declared.forms.DeclForm.TheVariants.{Channel, Boundary}
use Rattle.table_text.specs.declared.decl.Side.{Side}
use Rattle.table_text.specs.declared.decl.Side.TheVariants.{Push, Pull}
use Rattle.table_text.specs.declared.decl.Item.{Item}
use Rattle.table_text.specs.declared.decl.Decl.TheVariants as decl
use Rattle.table_text.proofs.FromTests.{word_from, chosen}
use Rattle.table_text.proofs.Fillings.{Filling, filled_tokens, filled, read_term, read_terms, read_constant, read_columns, read_numbers, read_selector, Fills}

-- ---- forms of virtual columns

abbrev pub word_codes : FormWord → List ℕ
word_codes Shl = codes "shl"
word_codes Shr = codes "shr"
word_codes Rol = codes "rol"
word_codes Project = codes "project"
word_codes Pack = codes "pack"
word_codes Linear = codes "linear"

one_word : (c : List ℕ) (word : FormWord) (t : Token) (w : FormWord) → word_codes word ≡ c → is_word c t ≡ true → ◌≡◌ {A = Option FormWord} (Some word) (Some w) → t ≡ reserved (word_codes w)
one_word c word t w is e same = word_from c t e ∙ ap reserved (sym is ∙ ap word_codes (same_Some word w same))

pub word_from_form : (t : Token) (w : FormWord) → form_word t ≡ Some w → t ≡ reserved (word_codes w)
word_from_form t w e =
    elim (chosen (is_word (codes "shl") t) _ _ (Some w) e) [
      | inl h ↦ one_word (codes "shl") Shl t w refl h.0 h.1
      | inr e1 ↦ elim (chosen (is_word (codes "shr") t) _ _ (Some w) e1.1) [
        | inl h ↦ one_word (codes "shr") Shr t w refl h.0 h.1
        | inr e2 ↦ elim (chosen (is_word (codes "rol") t) _ _ (Some w) e2.1) [
          | inl h ↦ one_word (codes "rol") Rol t w refl h.0 h.1
          | inr e3 ↦ elim (chosen (is_word (codes "project") t) _ _ (Some w) e3.1) [
            | inl h ↦ one_word (codes "project") Project t w refl h.0 h.1
            | inr e4 ↦ elim (chosen (is_word (codes "pack") t) _ _ (Some w) e4.1) [
              | inl h ↦ one_word (codes "pack") Pack t w refl h.0 h.1
              | inr e5 ↦ elim (chosen (is_word (codes "linear") t) _ _ (Some w) e5.1) [
                | inl h ↦ one_word (codes "linear") Linear t w refl h.0 h.1
                | inr h ↦ absurd (none-some w h.1)
              ]
            ]
          ]
        ]
      ]
    ]

-- ---- the terms of a linear form

pub read_terms-terms : (ts : List TermTree) (p : Parts) → (read_terms ts p).terms ≡ p.terms ++ map term_of ts
read_terms-terms [] p = sym (append-nil p.terms)
read_terms-terms (plain_term c ∷ ts) p = read_terms-terms ts (read_term (plain_term c) p) ∙ append_assoc p.terms (term_of (plain_term c) ∷ []) (map term_of ts)
read_terms-terms (times_term k c ∷ ts) p = read_terms-terms ts (read_term (times_term k c) p) ∙ append_assoc p.terms (term_of (times_term k c) ∷ []) (map term_of ts)

pub read_terms-constant : (ts : List TermTree) (p : Parts) → (read_terms ts p).constant ≡ p.constant
read_terms-constant [] p = refl
read_terms-constant (plain_term c ∷ ts) p = read_terms-constant ts (read_term (plain_term c) p)
read_terms-constant (times_term k c ∷ ts) p = read_terms-constant ts (read_term (times_term k c) p)

-- what is read of a linear form is what it means
pub linear_read : (k : Option ℕ) (t : TermTree) (ts : List TermTree)
    → form_from Linear (read_terms ts (read_term t (read_constant k no_parts))) ≡ Some (form_of (linear_form k t ts))
linear_read k t ts = by_first k t
  where
    same : (n : ℕ) (us vs : List Term) (m : ℕ) → m ≡ n → us ≡ vs → Some (virtual.Linear m us) ≡ Some (virtual.Linear n vs)
    same n us vs m e h = ap (λ x. Some (virtual.Linear x us)) e ∙ ap (λ x. Some (virtual.Linear n x)) h

    by_first : (k : Option ℕ) (t : TermTree) → form_from Linear (read_terms ts (read_term t (read_constant k no_parts))) ≡ Some (form_of (linear_form k t ts))
    by_first None (plain_term c) = same _ _ _ _ (read_terms-constant ts _) (read_terms-terms ts _)
    by_first None (times_term n c) = same _ _ _ _ (read_terms-constant ts _) (read_terms-terms ts _)
    by_first (Some m) (plain_term c) = same _ _ _ _ (read_terms-constant ts _) (read_terms-terms ts _)
    by_first (Some m) (times_term n c) = same _ _ _ _ (read_terms-constant ts _) (read_terms-terms ts _)

-- ---- trees from what fills the places

abbrev form_tree : (word : FormWord) → Filling (form_slots word) → FormTree
form_tree Shl f = shl_form f.0 f.1.0 f.1.1.0
form_tree Shr f = shr_form f.0 f.1.0 f.1.1.0
form_tree Rol f = rol_form f.0 f.1.0 f.1.1.0
form_tree Project f = project_form f.0 f.1.0 f.1.1.0
form_tree Pack f = pack_form f.0 f.1.0
form_tree Linear f = linear_form f.0 f.1 f.2

form_spells : (word : FormWord) (f : Filling (form_slots word)) → form_tokens (form_tree word f) ++ mark semicolon ∷ [] ≡ reserved (word_codes word) ∷ filled_tokens (form_slots word) f
form_spells Shl f = refl
form_spells Shr f = refl
form_spells Rol f = refl
form_spells Project f = refl
form_spells Pack f = refl
form_spells Linear f = simp append_assoc refl

form_means : (word : FormWord) (f : Filling (form_slots word)) → form_from word (filled (form_slots word) f no_parts) ≡ Some (form_of (form_tree word f))
form_means Shl f = refl
form_means Shr f = refl
form_means Rol f = refl
form_means Project f = refl
form_means Pack f = refl
form_means Linear f = linear_read f.0 f.1 f.2

-- ---- tuples

pub side_from : (t : Token) (s : Side) → side_of t ≡ Some s → t ≡ reserved (side_word s)
side_from t s e =
    elim (chosen (is_word (codes "push") t) _ _ (Some s) e) [
      | inl h ↦ word_from (codes "push") t h.0 ∙ ap (λ x. reserved (side_word x)) (same_Some Push s h.1)
      | inr h ↦ let k : (is_word (codes "pull") t ≡ true) × (Pull ≡ s) = cond_some _ _ s h.1 in word_from (codes "pull") t k.0 ∙ ap (λ x. reserved (side_word x)) k.1
    ]

read_columns-columns : (ws : List (List ℕ)) (p : Parts) → (read_columns ws p).columns ≡ p.columns ++ ws
read_columns-columns [] p = sym (append-nil p.columns)
read_columns-columns (w ∷ ws) p = read_columns-columns ws (with_column p w) ∙ append_assoc p.columns (w ∷ []) ws

read_columns-names : (ws : List (List ℕ)) (p : Parts) → (read_columns ws p).names ≡ p.names
read_columns-names [] p = refl
read_columns-names (w ∷ ws) p = read_columns-names ws (with_column p w)

read_numbers-numbers : (ns : List ℕ) (p : Parts) → (read_numbers ns p).numbers ≡ p.numbers ++ ns
read_numbers-numbers [] p = sym (append-nil p.numbers)
read_numbers-numbers (n ∷ ns) p = read_numbers-numbers ns (with_number p n) ∙ append_assoc p.numbers (n ∷ []) ns

read_numbers-names : (ns : List ℕ) (p : Parts) → (read_numbers ns p).names ≡ p.names
read_numbers-names [] p = refl
read_numbers-names (n ∷ ns) p = read_numbers-names ns (with_number p n)

-- a flush of these columns and names
abbrev flush_of : Side → List (List ℕ) → List (List ℕ) → Option Item
flush_of side columns names = option_map (λ (c, s). item.Flush side c columns s) (flush_names names)

-- what is read of a flush is what it means
pub flush_read : (side : Side) (c w : List ℕ) (ws : List (List ℕ)) (s : Option (List ℕ))
    → item_from (Flush side) (read_selector s (read_columns ws (with_column (with_name no_parts c) w))) ≡ Some (item_of (flush_item side c w ws s))
flush_read side c w ws None = let p = with_column (with_name no_parts c) w in ap (flush_of side (read_columns ws p).columns) (read_columns-names ws p) ∙ ap (λ cs. flush_of side cs (c ∷ [])) (read_columns-columns ws p)
flush_read side c w ws (Some s) = let p = with_column (with_name no_parts c) w in
    ap (λ ns. flush_of side (read_columns ws p).columns (ns ++ s ∷ [])) (read_columns-names ws p) ∙ ap (λ cs. flush_of side cs (c ∷ s ∷ [])) (read_columns-columns ws p)

-- what is read of a boundary is what it means
pub boundary_read : (side : Side) (c : List ℕ) (n : ℕ) (ns : List ℕ)
    → decl_from (Boundary side) (read_numbers ns (with_number (with_name no_parts c) n)) ≡ Some (decl_of (boundary_tree side c n ns))
boundary_read side c n ns = let p = with_number (with_name no_parts c) n in
    ap (λ ws. option_map (λ w. decl.Boundary side w (read_numbers ns p).numbers) (one ws)) (read_numbers-names ns p) ∙ ap (λ ks. Some (decl.Boundary side c ks)) (read_numbers-numbers ns p)

-- ---- items

-- the tokens up to the places
abbrev pub item_head : ItemForm → List Token
item_head (Virtual w word) = reserved (codes "virtual") ∷ name w ∷ mark equals_sign ∷ reserved (word_codes word) ∷ []
item_head (Flush side) = reserved (side_word side) ∷ []

flush_spells : (side : Side) (f : Filling flush_slots) → item_tokens (flush_item side f.0 f.1.0 f.1.1 f.1.2.0) ≡ reserved (side_word side) ∷ filled_tokens flush_slots f
flush_spells side f = simp append_assoc refl

-- an item with these tokens behind its head, and with these parts
pub record ItemFilled (form : ItemForm) (tokens : List Token) (q : Parts) : Type 0 where
  pub tree : ItemTree
  pub spells : item_tokens tree ≡ item_head form ++ tokens
  pub means : item_from form q ≡ Some (item_of tree)

pub item_filled : (form : ItemForm) (tokens : List Token) (q : Parts) → Fills (draft_at (item_slots form) no_parts) tokens q → ItemFilled form tokens q
item_filled (Virtual w word) tokens q h = record {
  tree = virtual_item w (form_tree word h.filling);
  spells = ap (λ ts. reserved (codes "virtual") ∷ name w ∷ mark equals_sign ∷ ts) (form_spells word h.filling ∙ ap (λ ts. reserved (word_codes word) ∷ ts) h.spells);
  means = ap (λ r. item_from (Virtual w word) r) (sym h.gives) ∙ ap (option_map (λ f. item.Virtual w f)) (form_means word h.filling);
}
item_filled (Flush side) tokens q h =
    let f : Filling flush_slots = h.filling in
    record {
      tree = flush_item side f.0 f.1.0 f.1.1 f.1.2.0;
      spells = flush_spells side f ∙ ap (λ ts. reserved (side_word side) ∷ ts) h.spells;
      means = ap (λ r. item_from (Flush side) r) (sym h.gives) ∙ flush_read side f.0 f.1.0 f.1.1 f.1.2.0;
    }

-- ---- channels and boundaries

abbrev pub decl_head : DeclForm → List Token
decl_head Channel = reserved (codes "channel") ∷ []
decl_head (Boundary side) = reserved (codes "boundary") ∷ reserved (side_word side) ∷ []

-- a channel or a boundary with these tokens behind its head, and with these parts
pub record DeclFilled (form : DeclForm) (tokens : List Token) (q : Parts) : Type 0 where
  pub tree : DeclTree
  pub spells : decl_tokens tree ≡ decl_head form ++ tokens
  pub means : decl_from form q ≡ Some (decl_of tree)

pub decl_filled : (form : DeclForm) (tokens : List Token) (q : Parts) → Fills (draft_at (decl_slots form) no_parts) tokens q → DeclFilled form tokens q
decl_filled Channel tokens q h =
    let f : Filling channel_slots = h.filling in
    record {
      tree = channel_tree f.0 f.1.0;
      spells = ap (λ ts. reserved (codes "channel") ∷ ts) h.spells;
      means = ap (decl_from Channel) (sym h.gives);
    }
decl_filled (Boundary side) tokens q h =
    let f : Filling boundary_slots = h.filling in
    record {
      tree = boundary_tree side f.0 f.1.0 f.1.1;
      spells = ap (λ ts. reserved (codes "boundary") ∷ reserved (side_word side) ∷ ts) h.spells;
      means = ap (decl_from (Boundary side)) (sym h.gives) ∙ boundary_read side f.0 f.1.0 f.1.1;
    }
