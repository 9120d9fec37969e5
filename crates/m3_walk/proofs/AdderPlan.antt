-- The adder on three rows: its reductions can be entered one after the other, and their plan is that of docs/PROOF.md, "The adder, on three rows".
use Rattle.std.proofs.Common.{◌≡◌, ◌-◌, ◌&&◌, ℕ, zero, suc, Bool, true, leb, List, [], ◌∷◌, ◌++◌, length, None, refl, arith}
use Rattle.std.proofs.lemmas.Bool.{and_parts, leb-true}
use Rattle.list_laws.specs.CeilLog.{ceil_log, ceil_log_from}
use Rattle.cube_mle.specs.declared.shift.ShiftKind.TheVariants.{Shl}
use Rattle.poly_forms.specs.declared.check_kind.CheckKind.{CheckKind}
use Rattle.poly_forms.specs.declared.check_kind.CheckKind.TheVariants as check
use Rattle.poly_forms.specs.declared.draw_kind.DrawKind.{DrawKind}
use Rattle.poly_forms.specs.declared.draw_kind.DrawKind.TheVariants as draw
use Rattle.sumcheck.specs.Rounds.{rounds}
use Rattle.sumcheck.specs.declared.entry.Entry.TheVariants.{Message, Draw}
use Rattle.poly_forms.specs.declared.form.Form.TheVariants.{Constant}
use Rattle.table_text.specs.declared.decl.Side.TheVariants.{Push}
use Rattle.table_shape.specs.declared.shape.ShapeTerm.{ShapeTerm}
use Rattle.table_shape.specs.Placement.{Block}
use Rattle.channel_products.specs.declared.channels.Channels.{Channels as Parts}
use Rattle.channel_products.specs.declared.flushed.Flushed.{Flushed}
use Rattle.channel_products.specs.Balancing as balance
use Rattle.channel_products.specs.Descent as descent
use Rattle.zerocheck.specs.Group.{Group}
use Rattle.zerocheck.specs.Zero as zero
use Rattle.eval_reduce.specs.Linear as linear
use Rattle.eval_reduce.specs.Merge as merge
use Rattle.eval_reduce.specs.Pack as pack
use Rattle.eval_reduce.specs.Shift as shift
use Rattle.bit_claim.specs.Batching as batch
use Rattle.ring_switch.specs.Switching as switch
use Rattle.sumcheck.specs.declared.entry.Entry.{Entry}
use Rattle.m3_walk.specs.declared.stage.Stage.{Stage}
use Rattle.m3_walk.specs.declared.stage.Stage.TheVariants.{Channels, Flush, Constraints, Merge as Merges, Linear as Combines, Pack as Packs, Shift as Shifts, Bits, Words}
use Rattle.m3_walk.specs.Linking.{Sizes}
use Rattle.m3_walk.specs.Linked.{HasRoom, linking}
use Rattle.walk_chain.specs.Chain.{Suits, plan_of}

-- its one flush is of columns 5 to 7
abbrev triples : Flushed
triples = record { table = 0; number = 0; rows = 3; shape = record { side = Push; channel = 0; columns = 5 ∷ 6 ∷ 7 ∷ []; selector = None } }

abbrev channels : Parts
channels = record { widths = 3 ∷ []; flushes = triples ∷ []; boundaries = []; alphas = 12; gammas = 3 }

-- its one constraint is over columns 0 to 3
abbrev carry : Group
carry = record { table = 0; log_values = 5; rows = 3; vars = 7; degree = 2; columns = 0 ∷ 1 ∷ 2 ∷ 3 ∷ []; constraints = Constant 0 ∷ [] }

abbrev packed : ℕ → ℕ → Stage
packed c source = Packs (pack.waiting (record { table = 0; column = c; vars = 2; source = source; level = 0; log = 5 }))

abbrev term : ℕ → ShapeTerm
term c = record { coefficient = 1; column = c }

abbrev sum : Stage
sum = Combines (linear.waiting (record { table = 0; column = 4; vars = 7; constant = 0; terms = term 0 ∷ term 1 ∷ term 3 ∷ [] }))

abbrev carried : Stage
carried = Shifts (shift.waiting (record { table = 0; column = 3; vars = 7; source = 2; kind = Shl; block = 5; offset = 1 }))

abbrev merged : ℕ → ℕ → Stage
merged c claims = Merges (record { table = 0; column = c; walk = merge.waiting 7 claims })

abbrev block : ℕ → Block
block c = record { table = 0; column = c; level = 0; log_bits = 7 }

abbrev stages : List Stage
stages =
    Channels (balance.waiting channels) ∷ Flush (descent.waiting triples) ∷ Constraints (zero.waiting carry) ∷ packed 7 4 ∷ packed 6 1 ∷ packed 5 0 ∷ sum
    ∷ merged 3 2 ∷ carried ∷ merged 2 2 ∷ merged 1 3 ∷ merged 0 3 ∷ Bits (batch.waiting (block 0 ∷ block 1 ∷ block 2 ∷ []) 3) ∷ Words (switch.waiting 9) ∷ []

-- nothing waits, and there is room for nine claims
abbrev none : Sizes
none = record { products = []; columns = []; bits = []; packed = []; room = 9 }

-- ---- what is due
abbrev coordinates : DrawKind → ℕ → List Entry
coordinates kind zero = []
coordinates kind (suc n) = Draw kind 1 ∷ coordinates kind n

abbrev sum_entries : DrawKind → ℕ → ℕ → CheckKind → ℕ → List Entry
sum_entries kind d n last m = rounds kind d n ++ Message last m ∷ []

abbrev merge_entries : ℕ → List Entry
merge_entries j = Draw draw.Merge (j - 1) ∷ sum_entries draw.MergeRound 2 7 check.MergeFinal 1

abbrev pack_entries : List Entry
pack_entries = Message check.Pack 32 ∷ coordinates draw.PackCoordinate 5

plan_is : plan_of linking none stages ≡ Draw draw.Alpha 12 ∷ Draw draw.Gamma 3 ∷ Message check.Products 1 ∷ []
    ++ (Message check.LayerFinal 2 ∷ Draw draw.LayerJoin 1 ∷ sum_entries draw.LayerRound 3 1 check.LayerFinal 2 ++ Draw draw.LayerJoin 1 ∷ sum_entries draw.LeafRound 4 2 check.LeafFinal 3)
    ++ (Draw draw.ConstraintBatch 0 ∷ coordinates draw.ZeroCoordinate 7 ++ sum_entries draw.ZeroRound 4 7 check.ZeroFinal 4)
    ++ pack_entries ++ pack_entries ++ pack_entries ++ Message check.Linear 3 ∷ []
    ++ merge_entries 2 ++ sum_entries draw.ShiftRound 2 5 check.ShiftFinal 1 ++ merge_entries 2 ++ merge_entries 3 ++ merge_entries 3
    ++ (Draw draw.BitBatch 2 ∷ sum_entries draw.BitRound 2 9 check.BitFinal 1)
    ++ (Message check.Tensor 128 ∷ coordinates draw.TensorCoordinate 7 ++ sum_entries draw.SwitchRound 2 2 check.Constant 1)
unfolding ceil_log ceil_log_from
plan_is = refl

-- ---- each can be entered when its turn comes
abbrev is_small : Sizes → Bool
is_small k = leb (length k.columns) 9 && (leb (length k.products) 1 && (leb (length k.bits) 1 && leb (length k.packed) 1))

-- where there is room for nine
roomy : (k : Sizes) → k.room ≡ 9 → is_small k ≡ true → HasRoom k
roomy k r t =
    let a = and_parts (leb (length k.columns) 9) (leb (length k.products) 1 && (leb (length k.bits) 1 && leb (length k.packed) 1)) t in
    let b = and_parts (leb (length k.products) 1) (leb (length k.bits) 1 && leb (length k.packed) 1) a.1 in
    let c = and_parts (leb (length k.bits) 1) (leb (length k.packed) 1) b.1 in
    let columns = leb-true (length k.columns) 9 a.0 in
    let products = leb-true (length k.products) 1 b.0 in
    record {
      columns = omega arith;
      products = omega arith;
      bits = leb-true (length k.bits) 1 c.0;
      packed = leb-true (length k.packed) 1 c.1;
    }

pub suits : Suits linking none stages
unfolding ceil_log ceil_log_from
suits = (
  roomy _ refl refl,
  (
    tt,
    (
      roomy _ refl refl,
      (
        refl,
        (
          roomy _ refl refl,
          (
            tt,
            (
              roomy _ refl refl,
              (
                refl,
                (
                  roomy _ refl refl,
                  (
                    refl,
                    (
                      roomy _ refl refl,
                      (
                        refl,
                        (
                          roomy _ refl refl,
                          (
                            refl,
                            (
                              roomy _ refl refl,
                              (
                                (omega arith, (omega arith, (refl, (refl, tt)))),
                                (
                                  roomy _ refl refl,
                                  (
                                    refl,
                                    (
                                      roomy _ refl refl,
                                      (
                                        (omega arith, (omega arith, (refl, (refl, tt)))),
                                        (
                                          roomy _ refl refl,
                                          (
                                            (omega arith, (omega arith, (refl, (refl, (refl, tt))))),
                                            (
                                              roomy _ refl refl,
                                              (
                                                (omega arith, (omega arith, (refl, (refl, (refl, tt))))),
                                                (
                                                  roomy _ refl refl,
                                                  (
                                                    (omega arith, ((block 2, refl, refl), ((block 1, refl, refl), ((block 0, refl, refl), tt)))),
                                                    (roomy _ refl refl, (refl, roomy _ refl refl)),
                                                  ),
                                                ),
                                              ),
                                            ),
                                          ),
                                        ),
                                      ),
                                    ),
                                  ),
                                ),
                              ),
                            ),
                          ),
                        ),
                      ),
                    ),
                  ),
                ),
              ),
            ),
          ),
        ),
      ),
    ),
  ),
)
