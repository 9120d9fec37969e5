use Rattle.std.proofs.Common.{◌≡◌, ◌∙◌, ℕ, List, [], get_or, sym, ap, arith}
use Rattle.std.proofs.lemmas.List.{get_or_past, get_or-map, length-map}
use Rattle.column_store.specs.Column.{ColumnValues, list_of, lists}
use Rattle.m3_judge.proofs.constraints.number_at.Goals as goal

pub returns-in-Some : goal.returns-in-Some
returns-in-Some c =
    let found = c.in-Some.ensures.lookup in
    let values : ColumnValues → List ℕ = λ column. column.values in
    let list : list_of (lists c.args.columns.now) c.args.column ≡ c.in-Some.column.now.values = get_or-map values c.args.columns.now c.args.column c.in-Some.column.now [] found.3.0 ∙ ap values (sym found.1) in
    c.get-in-Some.ensures ∙ ap (λ xs. get_or xs c.args.position 0) (sym list)

pub returns-in-None : goal.returns-in-None
returns-in-None c =
    let columns = c.args.columns.now in
    let past = get_or_past (lists columns) c.args.column [] (let a = c.in-None.ensures.lookup.3 in let b = length-map columns (λ (k : ColumnValues). k.values) in omega arith) in
    sym (ap (λ xs. get_or xs c.args.position 0) past)
