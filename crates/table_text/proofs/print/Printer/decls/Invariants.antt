use Rattle.std.proofs.Common.{◌≡◌, ◌++◌, drop}
use Rattle.table_text.specs.Canonical.{canonical}
use Rattle.table_text.specs.Valid.{LevelsFit}
use Rattle.table_text.proofs.print.Printer.decls.Given as goal

-- the text so far and the declarations that are left make the whole text
abbrev pub invariant-loop-decl : goal.invariant-loop-decl
invariant-loop-decl l = record {
  left : l.self ++ canonical (drop l.decl-index l.decls) ≡ l.fn.self ++ canonical l.decls;
  levels : LevelsFit (drop l.decl-index l.decls);
}
