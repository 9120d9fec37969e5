-- A flush or a boundary more, by its names and checks.
use Rattle.std.proofs.Common.{eqb-true, eq-eqb, ◌≡◌, ℕ, ◌==◌, not, true, false, List, [], ◌∷◌, length, map, Option, Some, None, refl, sym, ◌∙◌, ap, subst}
use Rattle.std.specs.List.{slice_get, list_all, AllByRecursion}
use Rattle.std.specs.Option.{option_map, option_and_then, IsSomeAnd}
use Rattle.std.specs.Str.{bytes_eq}
use Rattle.std.proofs.lemmas.Bool.{and_parts, and_from}
use Rattle.table_text.specs.declared.decl.Side.{Side}
use Rattle.table_shape.specs.declared.shape.ChannelShape.{ChannelShape}
use Rattle.table_shape.specs.declared.shape.ColumnShape.{ColumnShape}
use Rattle.table_shape.specs.declared.shape.FlushShape.{FlushShape}
use Rattle.table_shape.specs.Forms.{level_at}
use Rattle.table_shape.specs.Width.{width_at, log_values_at}
use Rattle.table_shape.specs.Fits.{HasOneValue, IsSelector, FlushFits}
use Rattle.table_shape.specs.Shape.{all_some, number_of_name, number_of_channel, resolved_selector, resolved_flush, is_selector, first_fault, flush_checks}
use Rattle.table_shape.specs.ShapeMeaning.{IsFlush}
use Rattle.table_shape.proofs.FormFits.{FoundAt, position_found, number_found, width_there, level_there, option_parts, all_some_parts, one_passed, not_false, some_and, some_parts}

-- ---- channels

pub channel_found : (name : List ℕ) (channels : List ChannelShape) (c : ℕ) → number_of_channel name channels ≡ Some c → FoundAt (λ (d : ChannelShape). bytes_eq name d.name) channels c
channel_found name channels c e = position_found (λ (d : ChannelShape). bytes_eq name d.name) channels c e

channel_width : (channels : List ChannelShape) (c : ℕ) (channel : ChannelShape) → slice_get channels c ≡ Some channel → width_at channels c ≡ channel.width
channel_width channels c channel e = rw (e, width_at) refl

-- as many members as the channel's tuples have
abbrev pub HasWidth : List ChannelShape → ℕ → ℕ → Type 0
HasWidth channels c n = IsSomeAnd (slice_get channels c) (λ (channel : ChannelShape). n ≡ channel.width)

pub width_fits : (channels : List ChannelShape) (name : List ℕ) (c n : ℕ) → number_of_channel name channels ≡ Some c → not (n == width_at channels c) ≡ false → HasWidth channels c n
width_fits channels name c n e h =
    let found = channel_found name channels c e in
    let same = eqb-true n (width_at channels c) (not_false (n == width_at channels c) h) in
    some_and (λ (channel : ChannelShape). n ≡ channel.width) (slice_get channels c) found.item found.at (same ∙ channel_width channels c found.item found.at)

pub width_passes : (channels : List ChannelShape) (c n : ℕ) → HasWidth channels c n → (n == width_at channels c) ≡ true
width_passes channels c n h =
    let s = some_parts (λ (channel : ChannelShape). n ≡ channel.width) (slice_get channels c) h in
    eq-eqb n (width_at channels c) (s.2 ∙ sym (channel_width channels c s.0 s.1))

-- ---- from the checks to what they mean

columns_fit : (columns : List ColumnShape) (names : List (List ℕ)) (cs : List ℕ) → all_some (map (λ name. number_of_name name columns) names) ≡ Some cs → list_all (λ c. log_values_at columns c == 0) cs ≡ true
    → AllByRecursion (HasOneValue columns) cs
columns_fit columns [] cs e h = let none : [] ≡ cs = cc in subst (AllByRecursion (HasOneValue columns)) none tt
columns_fit columns (name ∷ names) cs e h =
    let r = all_some_parts (number_of_name name columns) (map (λ name. number_of_name name columns) names) cs e in
    let split = subst (λ (xs : List ℕ). list_all (λ c. log_values_at columns c == 0) xs ≡ true) (sym r.4) h in
    let p = and_parts (log_values_at columns r.0 == 0) (list_all (λ c. log_values_at columns c == 0) r.1) split in
    let found = number_found name columns r.0 r.2 in
    let one = some_and (λ (column : ColumnShape). column.log_values ≡ 0) (slice_get columns r.0) found.item found.at (sym (width_there columns r.0 found.item found.at) ∙ eqb-true (log_values_at columns r.0) 0 p.0) in
    subst (AllByRecursion (HasOneValue columns)) r.4 (one, columns_fit columns names r.1 r.3 p.1)

-- one bit per row
abbrev IsBit : ColumnShape → Type 0
IsBit column = (column.level ≡ 0) × (column.log_values ≡ 0)

selector_fits : (columns : List ColumnShape) (o : Option (List ℕ)) (s : Option ℕ) → resolved_selector columns o ≡ Some s → is_selector columns s ≡ true → IsSelector columns s
selector_fits columns None s e h = let none : None ≡ s = cc in subst (IsSelector columns) none tt
selector_fits columns (Some name) s e h =
    let r = option_parts (number_of_name name columns) Some s e in
    let found = number_found name columns r.0 r.1 in
    let p = and_parts (level_at columns r.0 == 0) (log_values_at columns r.0 == 0) (subst (λ (s : Option ℕ). is_selector columns s ≡ true) (sym r.2) h) in
    subst (IsSelector columns) r.2 (some_and IsBit (slice_get columns r.0) found.item found.at
    (sym (level_there columns r.0 found.item found.at) ∙ eqb-true (level_at columns r.0) 0 p.0, sym (width_there columns r.0 found.item found.at) ∙ eqb-true (log_values_at columns r.0) 0 p.1))

and_then_parts : {X Y : Type 0} (o : Option X) (g : X → Option Y) (y : Y) → option_and_then g o ≡ Some y → (x : X) × (o ≡ Some x) × (g x ≡ Some y)
and_then_parts None g y e = absurd cc
and_then_parts (Some x) g y e = (x, refl, e)

abbrev flush : Side → ℕ → List ℕ → Option ℕ → FlushShape
flush side c cs s = record { side = side; channel = c; columns = cs; selector = s }

known_flush : (channels : List ChannelShape) (columns : List ColumnShape) (side : Side) (channel : List ℕ) (names : List (List ℕ)) (selector : Option (List ℕ)) (c : ℕ) (cs : List ℕ) (s : Option ℕ)
    → number_of_channel channel channels ≡ Some c → all_some (map (λ name. number_of_name name columns) names) ≡ Some cs → resolved_selector columns selector ≡ Some s → first_fault (flush_checks channels columns (flush side c cs s)) ≡ None
    → IsFlush channels columns side channel names selector (flush side c cs s)
known_flush channels columns side channel names selector c cs s p q r h =
    let wide = one_passed (not (length cs == width_at channels c)) _ _ h in
    let ones = one_passed (not (list_all (λ c. log_values_at columns c == 0) cs)) _ _ wide.1 in
    let bit = one_passed (not (is_selector columns s)) _ _ ones.1 in
    record {
      side_is = refl;
      channel_is = p;
      columns_are = q;
      selector_is = r;
      fits = record {
        width = width_fits channels channel c (length cs) p wide.0;
        one_value = columns_fit columns names cs q (not_false (list_all (λ c. log_values_at columns c == 0) cs) ones.0);
        selector = selector_fits columns selector s r (not_false (is_selector columns s) bit.0);
      };
    }

-- a flush whose names are known and whose checks are through
pub flush_is : (channels : List ChannelShape) (columns : List ColumnShape) (side : Side) (channel : List ℕ) (names : List (List ℕ)) (selector : Option (List ℕ)) (f : FlushShape)
    → resolved_flush channels columns side channel names selector ≡ Some f → first_fault (flush_checks channels columns f) ≡ None → IsFlush channels columns side channel names selector f
flush_is channels columns side channel names selector f e h =
    let a = and_then_parts (number_of_channel channel channels) _ f e in
    let b = and_then_parts (all_some (map (λ name. number_of_name name columns) names)) _ f a.2 in
    let c = option_parts (resolved_selector columns selector) (λ s. flush side a.0 b.0 s) f b.2 in
    subst (λ (f : FlushShape). first_fault (flush_checks channels columns f) ≡ None → IsFlush channels columns side channel names selector f) c.2
    (λ checked. known_flush channels columns side channel names selector a.0 b.0 c.0 a.1 b.1 c.1 checked) h

-- ---- and back

columns_pass : (columns : List ColumnShape) (cs : List ℕ) → AllByRecursion (HasOneValue columns) cs → list_all (λ c. log_values_at columns c == 0) cs ≡ true
columns_pass columns [] h = refl
columns_pass columns (c ∷ cs) h =
    let s = some_parts (λ (column : ColumnShape). column.log_values ≡ 0) (slice_get columns c) h.0 in
    and_from (log_values_at columns c == 0) (list_all (λ c. log_values_at columns c == 0) cs) (eq-eqb (log_values_at columns c) 0 (width_there columns c s.0 s.1 ∙ s.2)) (columns_pass columns cs h.1)

selector_passes : (columns : List ColumnShape) (s : Option ℕ) → IsSelector columns s → is_selector columns s ≡ true
selector_passes columns None h = refl
selector_passes columns (Some c) h =
    let s = some_parts IsBit (slice_get columns c) h in
    and_from (level_at columns c == 0) (log_values_at columns c == 0) (eq-eqb (level_at columns c) 0 (level_there columns c s.0 s.1 ∙ s.2.0)) (eq-eqb (log_values_at columns c) 0 (width_there columns c s.0 s.1 ∙ s.2.1))

pub flush_passes : (channels : List ChannelShape) (columns : List ColumnShape) (f : FlushShape) → FlushFits channels columns f → first_fault (flush_checks channels columns f) ≡ None
flush_passes channels columns f h =
    let wide : (length f.columns == width_at channels f.channel) ≡ true = width_passes channels f.channel (length f.columns) h.width in
    let ones = columns_pass columns f.columns h.one_value in
    let bit = selector_passes columns f.selector h.selector in
    rw (wide, ones, bit) refl

pub flush_known : (channels : List ChannelShape) (columns : List ColumnShape) (side : Side) (channel : List ℕ) (names : List (List ℕ)) (selector : Option (List ℕ)) (f : FlushShape)
    → IsFlush channels columns side channel names selector f → resolved_flush channels columns side channel names selector ≡ Some f
flush_known channels columns side channel names selector f h =
    let rest : ℕ → List ℕ → Option FlushShape = λ c cs. option_map (λ s. flush side c cs s) (resolved_selector columns selector) in
    let then : ℕ → Option FlushShape = λ c. option_and_then (rest c) (all_some (map (λ name. number_of_name name columns) names)) in
    ap (option_and_then then) h.channel_is ∙ ap (option_and_then (rest f.channel)) h.columns_are ∙ ap (option_map (λ s. flush side f.channel f.columns s)) h.selector_is
    ∙ (λ i. Some (record { side = sym h.side_is i; channel = f.channel; columns = f.columns; selector = f.selector }))
