use Rattle.std.proofs.Common.{◌≡◌, ℕ, List, sym, subst, arith}
use Rattle.std.proofs.lemmas.Grind.{common_steps}
use Rattle.table_text.specs.Faults.{IsTablesText}
use Rattle.table_text.specs.Canonical.{canonical}
use Rattle.table_text.proofs.ReadsAgain.{reads_again}
use Rattle.table_text.proofs.print.print_tables.Goals as goal

pub returns-clause-again : goal.returns-clause-again
returns-clause-again c =
    let text : c.printer.inside.text.items ≡ canonical c.args.tables.now = grind (arith, common_steps) in
    subst (λ (bytes : List ℕ). IsTablesText bytes c.args.tables.now) (sym text) (reads_again c.args.tables.now c.decls.ensures.valid)
