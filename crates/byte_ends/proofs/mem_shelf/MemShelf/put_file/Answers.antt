use Rattle.std.proofs.Common.{ap, ◌∙◌, sym, Some, max, length}
use Rattle.byte_ends.specs.MemFile.{FileState, find_file, place_file}
use Rattle.byte_ends.specs.contracts.mem_shelf.MemShelf.{the_view}
use Rattle.byte_ends.proofs.FilePlaces.{at_place, no_place, place_file-none}
use Rattle.byte_ends.proofs.mem_shelf.MemShelf.put_file.Goals as goal

pub returns-in_ok-put-in-Some-clause-put : goal.returns-in_ok-put-in-Some-clause-put
returns-in_ok-put-in-Some-clause-put c =
    let place = at_place c.args.name.now c.deref.ensures.value c.in-Some.ensures c.index_mut.ensures.value in
    let changed = c.in_ok-put-in-Some.ensures.put in
    let placed = place.placed c.put.new.self (ap (λ file. file.name) changed ∙ place.named) in
    rw (← c.self.view_is, place.found)
    (ap (λ files. record (the_view c.self.inside) { files = files })
    (placed ∙ ap (λ file. place_file c.self.inside.files.items file) changed))

pub returns-in_ok-push-in-None-clause-put : goal.returns-in_ok-push-in-None-clause-put
returns-in_ok-push-in-None-clause-put c =
    let none = no_place c.args.name.now c.deref.ensures.value c.in-None.ensures in
    let changed = c.in_ok-put-in-None.ensures.put ∙ ap (λ (file : FileState). record file { bytes = Some c.args.bytes.now; room = max file.room (length c.args.bytes.now) }) c.in_ok-file-in-None.ensures in
    let placed = place_file-none c.self.inside.files.items c.put-in-None.new.self
    (ap (λ file. find_file c.self.inside.files.items file.name) changed ∙ none) in
    rw (← c.self.view_is, none)
    (ap (λ files. record (the_view c.self.inside) { files = files })
    (c.in_ok-push-in-None.ensures.items ∙ sym placed ∙ ap (λ file. place_file c.self.inside.files.items file) changed))
