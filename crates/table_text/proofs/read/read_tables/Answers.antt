use Rattle.std.proofs.Common.{◌∙◌, ap, sym, Ok}
use Rattle.std.proofs.lemmas.Result.{err_from_is_err_and}
use Rattle.table_text.specs.Reading.{Gives, reading}
use Rattle.table_text.proofs.Clauses.{refused, reads, refuses}
use Rattle.table_text.proofs.ReadDecls.{read_valid}
use Rattle.table_text.proofs.Verdicts.{tables-reading}
use Rattle.table_text.proofs.read.read_tables.Goals as goal

pub returns-in_err-decls-clause-refused : goal.returns-in_err-decls-clause-refused
returns-in_err-decls-clause-refused c =
    let p = err_from_is_err_and c.from_residual.result c.from_residual.ensures.1 in
    let stopped : Gives c.from_residual.result (reading c.args.text.now) = rw (p.1, p.2) c.in_err-decls.ensures in
    λ fault e. refused c.args.text.now c.from_residual.result fault stopped e

pub returns-in_err-decls-clause-reads : goal.returns-in_err-decls-clause-reads
returns-in_err-decls-clause-reads c =
    let p = err_from_is_err_and c.from_residual.result c.from_residual.ensures.1 in
    let stopped : Gives c.from_residual.result (reading c.args.text.now) = rw (p.1, p.2) c.in_err-decls.ensures in
    λ decls t memory. reads c.args.text.now c.from_residual.result decls stopped t memory

pub returns-in_err-decls-clause-refuses : goal.returns-in_err-decls-clause-refuses
returns-in_err-decls-clause-refuses c =
    let p = err_from_is_err_and c.from_residual.result c.from_residual.ensures.1 in
    let stopped : Gives c.from_residual.result (reading c.args.text.now) = rw (p.1, p.2) c.in_err-decls.ensures in
    λ fault t memory. refuses c.args.text.now c.from_residual.result fault stopped t memory

pub new-requires : goal.new-requires
new-requires c = read_valid c.args.text.now c.in_ok-decls.decls (tables-reading c.args.text.now c.in_ok-decls.decls c.in_ok-decls.ensures)

pub returns-clause-found : goal.returns-clause-found
returns-clause-found c = tables-reading c.args.text.now c.new.result (c.in_ok-decls.ensures ∙ ap Ok (sym c.new.ensures))

pub returns-clause-reads : goal.returns-clause-reads
returns-clause-reads c = λ decls t memory. reads c.args.text.now (Ok c.new.result) decls (c.in_ok-decls.ensures ∙ ap Ok (sym c.new.ensures)) t memory

pub returns-clause-refuses : goal.returns-clause-refuses
returns-clause-refuses c = λ fault t memory. refuses c.args.text.now (Ok c.new.result) fault (c.in_ok-decls.ensures ∙ ap Ok (sym c.new.ensures)) t memory
