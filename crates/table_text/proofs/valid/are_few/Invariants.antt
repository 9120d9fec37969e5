use Rattle.std.proofs.Common.{◌≡◌, drop}
use Rattle.std.specs.Prelude.{nat_le}
use Rattle.table_text.specs.Limits.{max_declarations}
use Rattle.table_text.specs.Valid.{declarations}
use Rattle.table_text.proofs.valid.are_few.Given as goal

-- there is room for the declarations that are left where there is room for all
abbrev pub invariant-loop-decl : goal.invariant-loop-decl
invariant-loop-decl l = nat_le (declarations (drop l.decl-index l.decls)) l.room ≡ nat_le (declarations l.decls) max_declarations
