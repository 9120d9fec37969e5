use Rattle.std.proofs.Common.{◌≡◌, ◌+◌, ◌*◌, ◌/◌, ◌%◌, ◌^◌, ◌<◌, bit_xor, get_or, length, refl, ◌∙◌, ap, subst, arith}
use Rattle.std.proofs.lemmas.Nat.{one_shl}
use Rattle.std.proofs.Math.Nat.{div-lt_iff_lt-mul}
use Rattle.cube_laws.proofs.Rounds.{index_value}
use Rattle.tower_laws.specs.Tower.{mul}
use Rattle.bit_claim.proofs.PlacedCells.{cells_more, cells_start, positive, product_at}
use Rattle.bit_claim.proofs.cells.add_values.Goals as goal

pub loop-k-init : goal.loop-k-init
loop-k-init c = cells_start c.args.cells.now.items c.args.first (product_at c.args.level c.args.weights.now)

pub loop-k-preserved : goal.loop-k-preserved
loop-k-preserved c =
    let k = c.loop-k.k in
    let t = c.loop-k-test.true in
    let low = c.requires.low in
    let size : 1 * 2 ^ c.args.level % 18446744073709551616 ≡ 2 ^ c.args.level = one_shl c.args.level 64 (omega (arith, low)) in
    let all = ap (λ m. length c.args.weights.now * m) size in
    let within : k < length c.args.weights.now * 2 ^ c.args.level = omega (arith, t, all) in
    let room = c.requires.within in
    let long = c.loop-k.invariant.long in
    let weight : c.index-weights-k.result ≡ get_or c.args.weights.now (k / 2 ^ c.args.level) 0 =
    index_value c.index-weights-k.result (k / 2 ^ c.args.level) c.args.weights.now (subst (λ m. c.index-weights-k.result ≡ get_or c.args.weights.now (k / m) c.index-weights-k.result) size c.index-weights-k.is) ((div-lt_iff_lt-mul (positive c.args.level)).1 within)
    in
    let old : c.index.result.now ≡ get_or c.loop-k.cells.items (c.args.first + k) 0 = index_value c.index.result.now (c.args.first + k) c.loop-k.cells.items c.index.ensures (omega (arith, within, room, long)) in
    let power : 2 ^ (k % (1 * 2 ^ c.args.level % 18446744073709551616)) ≡ 2 ^ (k % 2 ^ c.args.level) = ap (λ m. 2 ^ (k % m)) size in
    cells_more c.args.cells.now.items c.loop-k.cells.items _ c.args.first k c.add.result (product_at c.args.level c.args.weights.now) refl (omega (arith, within, room, long))
    (c.add.ensures ∙ (λ i. bit_xor (old i) ((c.times_power.ensures ∙ (λ j. mul (power j) (weight j))) i))) c.loop-k.invariant
