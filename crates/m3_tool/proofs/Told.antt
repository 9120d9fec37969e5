-- The line of a violation, by what was read at its numbers.
use Rattle.std.proofs.Common.{◌≡◌, ℕ, List, Result, Ok, Err, get_or, sym, ◌∙◌, ap, subst}
use Rattle.std.specs.Prelude.{IfOk}
use Rattle.std.proofs.lemmas.Option.{get_or_from_slice_get}
use Rattle.table_shape.specs.declared.shape.ChannelShape.{ChannelShape}
use Rattle.table_shape.specs.declared.shape.ConstraintShape.{ConstraintShape}
use Rattle.table_shape.specs.declared.shape.TableShape.{TableShape}
use Rattle.table_shape.specs.Parts.{ShapeParts}
use Rattle.table_shape.specs.Filling.{Filling}
use Rattle.table_shape.specs.Satisfies.{IsFirstViolation}
use Rattle.m3_judge.specs.declared.verdict.Violation.{Violation}
use Rattle.m3_judge.specs.declared.verdict.Violation.TheVariants.{Constraint, Channel}
use Rattle.m3_judge.specs.Judging.{violation_of}
use Rattle.m3_tool.specs.Lines.{nonzero_line, unequal_line, violation_line}

pub if_ok : {X E : Type 0} (r : Result X E) (P Q : X → Type 0) → ((x : X) → P x → Q x) → IfOk r P → IfOk r Q
if_ok (Ok x) P Q f p = f x p
if_ok (Err e) P Q f p = p

-- a line tells a violation, whatever values it is the first of
abbrev pub Tells : ShapeParts → Violation → List ℕ → Type 0
Tells shape violation line = (rows : List ℕ) (filling : Filling) (first : IsFirstViolation shape rows filling (violation_of violation)) → line ≡ violation_line shape rows filling (violation_of violation) first

pub constraint_told : (shape : ShapeParts) (violation : Violation) (t z row index value : ℕ) (tables : List TableShape) (table : TableShape) (constraints : List ConstraintShape) (constraint : ConstraintShape) (line : List ℕ)
    → violation ≡ Constraint t z row index value → tables ≡ shape.tables → table ≡ get_or tables t table → constraints ≡ table.constraints → constraint ≡ get_or constraints z constraint
    → ((a b : ℕ) → line ≡ nonzero_line table constraint (record { table = a; constraint = b; row = row; index = index; value = value })) → Tells shape violation line
constraint_told shape violation t z row index value tables table constraints constraint line is all at own here said = subst (λ (v : Violation). Tells shape v line) (sym is) told
  where
    told : Tells shape (Constraint t z row index value) line
    told rows filling first =
        let in_shape : table ≡ first.table = at ∙ ap (λ (ts : List TableShape). get_or ts t table) all ∙ get_or_from_slice_get shape.tables t first.table table first.table_is in
        let in_table : constraint ≡ first.constraint =
        here ∙ ap (λ (zs : List ConstraintShape). get_or zs z constraint) (own ∙ ap (λ (s : TableShape). s.constraints) in_shape) ∙ get_or_from_slice_get first.table.constraints z first.constraint constraint first.constraint_is in
        said t z ∙ (λ i. nonzero_line (in_shape i) (in_table i) (record { table = t; constraint = z; row = row; index = index; value = value }))

pub channel_told : (shape : ShapeParts) (violation : Violation) (c : ℕ) (tuple : List ℕ) (pushed pulled : ℕ) (channels : List ChannelShape) (channel : ChannelShape) (numbers line : List ℕ)
    → violation ≡ Channel c tuple pushed pulled → channels ≡ shape.channels → channel ≡ get_or channels c channel → numbers ≡ tuple
    → ((a : ℕ) → line ≡ unequal_line channel (record { channel = a; tuple = numbers; pushed = pushed; pulled = pulled })) → Tells shape violation line
channel_told shape violation c tuple pushed pulled channels channel numbers line is all at same said = subst (λ (v : Violation). Tells shape v line) (sym is) told
  where
    told : Tells shape (Channel c tuple pushed pulled) line
    told rows filling first =
        let in_shape : channel ≡ first.1.channel = at ∙ ap (λ (cs : List ChannelShape). get_or cs c channel) all ∙ get_or_from_slice_get shape.channels c first.1.channel channel first.1.channel_is in
        said c ∙ (λ i. unequal_line (in_shape i) (record { channel = c; tuple = same i; pushed = pushed; pulled = pulled }))
