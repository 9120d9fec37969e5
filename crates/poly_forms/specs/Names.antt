-- The printed names of draws and checks.
-- Source: docs/REDUCTIONS.md, "Draws and checks".
use Rattle.std.specs.Prelude.{ℕ, List, codes}
use Rattle.poly_forms.specs.declared.draw_kind.DrawKind.{DrawKind}
use Rattle.poly_forms.specs.declared.draw_kind.DrawKind.TheVariants as draw
use Rattle.poly_forms.specs.declared.check_kind.CheckKind.{CheckKind}
use Rattle.poly_forms.specs.declared.check_kind.CheckKind.TheVariants as check

abbrev pub draw_name : DrawKind → List ℕ
draw_name draw.Alpha = codes "alpha"
draw_name draw.Gamma = codes "gamma"
draw_name draw.ConstraintBatch = codes "constraint-batch"
draw_name draw.ZeroCoordinate = codes "zero-coordinate"
draw_name draw.ZeroRound = codes "zero-round"
draw_name draw.LayerRound = codes "layer-round"
draw_name draw.LayerJoin = codes "layer-join"
draw_name draw.LeafRound = codes "leaf-round"
draw_name draw.Merge = codes "merge"
draw_name draw.MergeRound = codes "merge-round"
draw_name draw.PackCoordinate = codes "pack-coordinate"
draw_name draw.ShiftRound = codes "shift-round"
draw_name draw.BitBatch = codes "bit-batch"
draw_name draw.BitRound = codes "bit-round"
draw_name draw.TensorCoordinate = codes "tensor-coordinate"
draw_name draw.SwitchRound = codes "switch-round"

abbrev pub check_name : CheckKind → List ℕ
check_name check.Products = codes "products"
check_name check.RoundSum = codes "round-sum"
check_name check.LayerFinal = codes "layer-final"
check_name check.LeafFinal = codes "leaf-final"
check_name check.ZeroFinal = codes "zero-final"
check_name check.MergeFinal = codes "merge-final"
check_name check.Linear = codes "linear"
check_name check.Pack = codes "pack"
check_name check.ShiftFinal = codes "shift-final"
check_name check.BitFinal = codes "bit-final"
check_name check.Tensor = codes "tensor"
check_name check.Constant = codes "constant"
