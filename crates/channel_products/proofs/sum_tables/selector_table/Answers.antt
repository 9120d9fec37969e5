use Rattle.std.proofs.Common.{◌^◌, Option, ℕ, subst}
use Rattle.std.specs.List.{AllByRecursion}
use Rattle.channel_products.specs.Given.{IsThere, selector_columns}
use Rattle.channel_products.proofs.sum_tables.selector_table.Goals as goal

pub copied_list-requires : goal.copied_list-requires
copied_list-requires c = (2 ^ c.args.vars, (subst (λ (o : Option ℕ). AllByRecursion (IsThere c.args.tables.now c.args.table (2 ^ c.args.vars)) (selector_columns o)) c.in-Some.is c.requires.there).0)
