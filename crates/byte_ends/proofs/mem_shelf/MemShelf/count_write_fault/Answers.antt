use Rattle.std.proofs.Common.{ap, ◌∙◌}
use Rattle.byte_ends.proofs.FilePlaces.{at_place, no_place}
use Rattle.byte_ends.proofs.mem_shelf.MemShelf.count_write_fault.Goals as goal

pub returns-in-Some : goal.returns-in-Some
returns-in-Some c =
    let place = at_place c.args.name.now c.deref.ensures.value c.in-Some.ensures c.index_mut.ensures.value in
    let placed = place.placed c.count_write_fault.new.self (ap (λ file. file.name) c.count_write_fault.ensures ∙ place.named) in
    rw (← c.self.view_is, place.found) (cc)

pub returns-in-None : goal.returns-in-None
returns-in-None c =
    let none = no_place c.args.name.now c.deref.ensures.value c.in-None.ensures in
    rw (← c.self.view_is, none) (cc)
