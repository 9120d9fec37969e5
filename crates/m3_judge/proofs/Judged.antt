-- A channel that isn't in balance, after those that are.
use Rattle.std.proofs.Common.{◌≡◌, ◌≢◌, ℕ, ◌<◌, List, [], ◌∷◌, length, Option, Some, None, refl, sym, ◌∙◌, arith}
use Rattle.std.specs.Prelude.{slice_get}
use Rattle.std.proofs.lemmas.Option.{slice_get-get_or}
use Rattle.table_shape.specs.declared.shape.ChannelShape.{ChannelShape}
use Rattle.table_shape.specs.Channels.{IsInBalance}
use Rattle.table_shape.specs.Filling.{Filling}
use Rattle.table_shape.specs.Parts.{ShapeParts}
use Rattle.table_shape.specs.Satisfies.{IsFirstUnequal}
use Rattle.m3_judge.specs.declared.unequal.Unequal.{Unequal}
use Rattle.m3_judge.specs.Judging.{IsLeastOf}

pub first_unequal : (shape : ShapeParts) (rows : List ℕ) (filling : Filling) (channel : ℕ) (found : Unequal) → channel < length shape.channels → IsLeastOf shape rows filling channel found → ((c : ℕ) → c < channel → IsInBalance shape rows filling c)
    → IsFirstUnequal shape rows filling (record { channel = channel; tuple = found.tuple; pushed = found.pushed; pulled = found.pulled })
first_unequal shape rows filling channel found below least before = at (slice_get shape.channels channel) refl (there shape.channels channel below)
  where
    some_none : {X : Type 0} {x : X} → Some x ≡ None → ⊥
    some_none e = cc

    there : (cs : List ChannelShape) (c : ℕ) → c < length cs → slice_get cs c ≢ None
    there [] c h = absurd (omega arith)
    there (d ∷ cs) c h = λ e. some_none (sym (slice_get-get_or (d ∷ cs) c d h) ∙ e)

    at : (o : Option ChannelShape) → slice_get shape.channels channel ≡ o → slice_get shape.channels channel ≢ None → IsFirstUnequal shape rows filling (record { channel = channel; tuple = found.tuple; pushed = found.pushed; pulled = found.pulled })
    at None e some = absurd (some e)
    at (Some c) e some = record {
      channel = c;
      channel_is = e;
      pushed_is = least.pushed_is;
      pulled_is = least.pulled_is;
      unequal = λ h. least.least.unequal (sym least.pushed_is ∙ h ∙ least.pulled_is);
      channels_before = before;
      tuples_before = least.least.below;
    }
