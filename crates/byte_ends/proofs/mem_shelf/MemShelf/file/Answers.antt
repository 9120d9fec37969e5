use Rattle.std.proofs.Common.{refl}
use Rattle.byte_ends.proofs.FilePlaces.{at_place, no_place}
use Rattle.byte_ends.proofs.mem_shelf.MemShelf.file.Goals as goal

pub returns-in-Some : goal.returns-in-Some
returns-in-Some c =
    let place = at_place c.args.name.now c.deref.ensures.value c.in-Some.ensures c.index.ensures in
    rw (← c.self.view_is, place.found) c.bytes.ensures

pub returns-in-None : goal.returns-in-None
returns-in-None c =
    let none = no_place c.args.name.now c.deref.ensures.value c.in-None.ensures in
    rw (← c.self.view_is, none) refl
