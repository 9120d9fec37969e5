use Rattle.std.proofs.Common.{◌≡◌, true, List, subst}
use Rattle.table_text.specs.Valid.{is_valid}
use Rattle.table_text.specs.declared.decl.Decl.{Decl}
use Rattle.table_text.proofs.Levels.{valid_levels, valid_few}
use Rattle.table_text.proofs.tables.Tables.decls.Goals as goal

pub returns-clause-levels : goal.returns-clause-levels
returns-clause-levels c = valid_levels c.args.self.now (subst (λ (ds : List Decl). is_valid ds ≡ true) c.self.view_is c.self.invariant)

pub returns-clause-few : goal.returns-clause-few
returns-clause-few c = valid_few c.args.self.now (subst (λ (ds : List Decl). is_valid ds ≡ true) c.self.view_is c.self.invariant)
