use Rattle.std.proofs.Common.{◌≡◌, ◌≢◌, ℕ, List, ◌∷◌, ◌-◌, ◌+◌, ◌/◌, ◌%◌, ◌∙◌, sym, ap, arith, false}
use Rattle.std.specs.Fmt.{digit_glyph}
use Rattle.m3_tool.proofs.HexDigits.{hex_onto, hex_onto-start, hex_onto-end, hex_onto-more, hex_onto-last}
use Rattle.m3_tool.proofs.lines.hex.Goals as goal

pub loop-digit-init : goal.loop-digit-init
loop-digit-init c = ap (λ (text : List ℕ). hex_onto 64 c.args.n text) c.new-text.ensures.items ∙ hex_onto-start c.args.n

pub loop-digit-preserved : goal.loop-digit-preserved
loop-digit-preserved c =
    let added : c.insert.new.self.items ≡ digit_glyph false (c.loop-digit.rest % 16) ∷ c.loop-digit.text.items =
    c.in_ok-insert.ensures.items ∙ ap (λ (x : ℕ). x ∷ c.loop-digit.text.items) c.hex_digit.ensures in
    let more : c.loop-digit.rest / 16 ≢ 0 = c.if-rest-eq0.false in
    ap (λ (text : List ℕ). hex_onto (64 - (c.loop-digit._digit + 1)) (c.loop-digit.rest / 16) text) added
    ∙ sym (hex_onto-more c.loop-digit._digit c.loop-digit.rest c.loop-digit.text.items c.loop-digit-test.true more) ∙ c.loop-digit.invariant

pub returns-then-rest-eq0 : goal.returns-then-rest-eq0
returns-then-rest-eq0 c =
    let added : c.insert.new.self.items ≡ digit_glyph false (c.loop-digit.rest % 16) ∷ c.loop-digit.text.items =
    c.in_ok-insert.ensures.items ∙ ap (λ (x : ℕ). x ∷ c.loop-digit.text.items) c.hex_digit.ensures in
    let last : c.loop-digit.rest / 16 ≡ 0 = c.if-rest-eq0.true in
    added ∙ sym (hex_onto-last c.loop-digit._digit c.loop-digit.rest c.loop-digit.text.items c.loop-digit-test.true last) ∙ c.loop-digit.invariant

pub returns : goal.returns
returns c = sym (hex_onto-end (64 - c.loop-digit._digit) c.loop-digit.rest c.loop-digit.text.items (omega arith)) ∙ c.loop-digit.invariant
