use Rattle.std.proofs.Common.{ap, ◌∙◌, refl}
use Rattle.byte_ends.proofs.FilePlaces.{at_place, no_place}
use Rattle.byte_ends.proofs.mem_shelf.MemShelf.make_empty.Goals as goal

pub returns-in-Some-clause-known : goal.returns-in-Some-clause-known
returns-in-Some-clause-known c =
    let place = at_place c.args.name.now c.deref.ensures.value c.in-Some.ensures c.index_mut.ensures.value in
    rw (← c.self.view_is, place.found) refl

pub returns-in-Some-clause-after : goal.returns-in-Some-clause-after
returns-in-Some-clause-after c =
    let place = at_place c.args.name.now c.deref.ensures.value c.in-Some.ensures c.index_mut.ensures.value in
    let placed = place.placed c.fill.new.self (ap (λ file. file.name) c.fill.ensures ∙ place.named) in
    rw (← c.self.view_is, place.found) (cc)

pub returns-in-None-clause-known : goal.returns-in-None-clause-known
returns-in-None-clause-known c =
    let none = no_place c.args.name.now c.deref.ensures.value c.in-None.ensures in
    rw (← c.self.view_is, none) refl
