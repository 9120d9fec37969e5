use Rattle.std.proofs.Common.{◌≡◌, ◌<◌, ◌≤◌, ◌∙◌, [], length, ap, sym, subst}
use Rattle.m3_walk.specs.declared.stage.Stage.{Stage}
use Rattle.m3_walk.specs.Linked.{HasRoom}
use Rattle.m3_walk.specs.Linking.{left, sizes, sizes_left}
use Rattle.m3_walk.specs.Stages.{staged}
use Rattle.m3_walk.proofs.HandOver.{bits_done, channels_room, flush_done, none_packed, packed_left_is, switch_done}
use Rattle.m3_walk.proofs.linking.hand_over.Goals as goal

pub add_products-requires-clause-room : goal.add_products-requires-clause-room
add_products-requires-clause-room c =
    let done = subst (λ (s : Stage). staged.entries s ≡ []) c.in-Channels.is c.requires.done in
    let some = subst (λ (s : Stage). 0 < length (staged.pending s)) c.in-Channels.is c.requires.some in
    let room = subst (λ (s : Stage). HasRoom (sizes_left s (sizes c.args.kept.now))) c.in-Channels.is c.requires.room in
    channels_room c.in-Channels.walk c.args.kept.now.products c.leave.result.flushes c.leave.result.values.items c.args.kept.now.room done some
    (λ ch a g v e. let told = c.leave.ensures.told ch a g v e in (told.0, told.3)) c.leave.ensures.few room.products

pub leave-requires-in-Flush : goal.leave-requires-in-Flush
leave-requires-in-Flush c =
    let done = subst (λ (s : Stage). staged.entries s ≡ []) c.in-Flush.is c.requires.done in
    let some = subst (λ (s : Stage). 0 < length (staged.pending s)) c.in-Flush.is c.requires.some in
    flush_done c.in-Flush.walk done some

pub leave-requires-in-Bits : goal.leave-requires-in-Bits
leave-requires-in-Bits c =
    let done = subst (λ (s : Stage). staged.entries s ≡ []) c.in-Bits.is c.requires.done in
    let some = subst (λ (s : Stage). 0 < length (staged.pending s)) c.in-Bits.is c.requires.some in
    bits_done c.in-Bits.walk done some

pub leave-point-requires : goal.leave-point-requires
leave-point-requires c =
    let done = subst (λ (s : Stage). staged.entries s ≡ []) c.in-Switch.is c.requires.done in
    let some = subst (λ (s : Stage). 0 < length (staged.pending s)) c.in-Switch.is c.requires.some in
    switch_done c.in-Switch.switch.walk done some

pub returns-in-Switch : goal.returns-in-Switch
returns-in-Switch c =
    let own = c.in-Switch.switch in
    let done = subst (λ (s : Stage). staged.entries s ≡ []) c.in-Switch.is c.requires.done in
    let some = subst (λ (s : Stage). 0 < length (staged.pending s)) c.in-Switch.is c.requires.some in
    let room = subst (λ (s : Stage). HasRoom (sizes_left s (sizes c.args.kept.now))) c.in-Switch.is c.requires.room in
    let ended = switch_done own.walk done some in
    let none = none_packed own.placement own.walk c.args.kept.now.packed ended room.packed in
    c.add_packed.ensures
    ∙ packed_left_is own.placement own.walk c.args.kept.now c.from_vec.result c.leave-point.result.1 ended (λ p e. let told = c.leave-point.ensures p e in (c.from_vec.ensures ∙ told.0, told.1)) none
    ∙ ap (λ (s : Stage). left s c.args.kept.now) (sym c.in-Switch.is)
