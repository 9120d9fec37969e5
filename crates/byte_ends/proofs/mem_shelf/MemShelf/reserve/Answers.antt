use Rattle.std.proofs.Common.{ap, ◌∙◌, sym, max}
use Rattle.byte_ends.specs.MemFile.{FileState, find_file, place_file}
use Rattle.byte_ends.specs.contracts.mem_shelf.MemShelf.{the_view}
use Rattle.byte_ends.proofs.FilePlaces.{at_place, no_place, place_file-none}
use Rattle.byte_ends.proofs.mem_shelf.MemShelf.reserve.Goals as goal

pub returns-in_ok-reserve-in-Some-clause-reserved : goal.returns-in_ok-reserve-in-Some-clause-reserved
returns-in_ok-reserve-in-Some-clause-reserved c =
    let place = at_place c.args.name.now c.deref.ensures.value c.in-Some.ensures c.index_mut.ensures.value in
    let changed = c.in_ok-reserve-in-Some.ensures.reserved in
    let placed = place.placed c.reserve.new.self (ap (λ file. file.name) changed ∙ place.named) in
    rw (← c.self.view_is, place.found)
    (ap (λ files. record (the_view c.self.inside) { files = files })
    (placed ∙ ap (λ file. place_file c.self.inside.files.items file) changed))

pub returns-in_ok-push-in-None-clause-reserved : goal.returns-in_ok-push-in-None-clause-reserved
returns-in_ok-push-in-None-clause-reserved c =
    let none = no_place c.args.name.now c.deref.ensures.value c.in-None.ensures in
    let changed = c.in_ok-reserve-in-None.ensures.reserved ∙ ap (λ (file : FileState). record file { room = max file.room c.args.room }) c.in_ok-file-in-None.ensures in
    let placed = place_file-none c.self.inside.files.items c.reserve-in-None.new.self
    (ap (λ file. find_file c.self.inside.files.items file.name) changed ∙ none) in
    rw (← c.self.view_is, none)
    (ap (λ files. record (the_view c.self.inside) { files = files })
    (c.in_ok-push-in-None.ensures.items ∙ sym placed ∙ ap (λ file. place_file c.self.inside.files.items file) changed))
