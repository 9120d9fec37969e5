use Rattle.std.proofs.Common.{ap, ◌∙◌, refl, inl}
use Rattle.byte_ends.specs.MemFile.{place_file}
use Rattle.byte_ends.specs.contracts.mem_shelf.MemShelf.{the_view}
use Rattle.byte_ends.proofs.FilePlaces.{at_place, no_place}
use Rattle.byte_ends.proofs.mem_shelf.MemShelf.add_piece.Goals as goal

pub returns-in_err-count-in-Some-clause-fails : goal.returns-in_err-count-in-Some-clause-fails
returns-in_err-count-in-Some-clause-fails c =
    let place = at_place c.args.name.now c.deref.ensures.value c.in-Some.ensures c.index_mut.ensures.value in
    rw (← c.self.view_is, place.found, c.from_residual.ensures) c.in_err-count-in-Some.ensures.fails

pub returns-in_ok-count-in-Some-clause-fails : goal.returns-in_ok-count-in-Some-clause-fails
returns-in_ok-count-in-Some-clause-fails c =
    let place = at_place c.args.name.now c.deref.ensures.value c.in-Some.ensures c.index_mut.ensures.value in
    rw (← c.self.view_is, place.found) c.in_ok-count-in-Some.ensures.fails

pub returns-in_ok-count-in-Some-clause-count : goal.returns-in_ok-count-in-Some-clause-count
returns-in_ok-count-in-Some-clause-count c =
    let place = at_place c.args.name.now c.deref.ensures.value c.in-Some.ensures c.index_mut.ensures.value in
    rw (← c.self.view_is, place.found) c.in_ok-count-in-Some.ensures.count

pub returns-in_ok-count-in-Some-clause-added : goal.returns-in_ok-count-in-Some-clause-added
returns-in_ok-count-in-Some-clause-added c =
    let place = at_place c.args.name.now c.deref.ensures.value c.in-Some.ensures c.index_mut.ensures.value in
    let changed = c.in_ok-count-in-Some.ensures.added in
    let placed = place.placed c.append.new.self (ap (λ file. file.name) changed ∙ place.named) in
    rw (← c.self.view_is, place.found)
    (ap (λ files. record (the_view c.self.inside) { files = files })
    (placed ∙ ap (λ file. place_file c.self.inside.files.items file) changed))

pub returns-in-None-clause-fails : goal.returns-in-None-clause-fails
returns-in-None-clause-fails c =
    let none = no_place c.args.name.now c.deref.ensures.value c.in-None.ensures in
    rw (← c.self.view_is, none) (λ _. inl refl, λ _. refl)
