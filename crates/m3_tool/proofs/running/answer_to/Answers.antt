use Rattle.std.proofs.Common.{Some, map, refl, sym}
use Rattle.std.specs.Prelude.{string_bytes}
use Rattle.m3_tool.specs.Command.{check, print, lower, help, row_counts_of}
use Rattle.m3_tool.specs.Lines.{help_text}
use Rattle.m3_tool.proofs.Runs.{concluded, count_concluded, ends_check, printed}
use Rattle.m3_tool.proofs.running.answer_to.Goals as goal

pub returns-in-Some-Check : goal.returns-in-Some-Check
returns-in-Some-Check g c =
    let said = c.answer_to_files.ensures in
    let named = sym (rw c.in-Some-Check.field-0-is at c.in-Some-Check.ensures.seen) in
    concluded _ (Some (check c.in-Some-Check.tables_file.now c.in-Some-Check.witness_file.now)) _ _ c.answer_to_files.result _ named (λ e. cc) refl c.answer_or_stop.ensures said.due said.once (ends_check _ c.answer_to_files.result said.kind) said.failed said.quiet said.reads_only

pub returns-in-Some-Print : goal.returns-in-Some-Print
returns-in-Some-Print g c =
    let said = c.print.ensures in
    let named = sym (rw c.in-Some-Print.field-0-is at c.in-Some-Print.ensures.seen) in
    concluded _ (Some (print c.in-Some-Print.tables_file.now)) _ _ c.print.result _ named (λ e. cc) refl c.answer_or_stop-in-Some-Print.ensures said.due said.once (ends_check _ c.print.result said.kind) said.failed said.quiet said.reads_only

pub returns-in-Some-Lower : goal.returns-in-Some-Lower
returns-in-Some-Lower g c =
    let at = c.in-Some-Lower in
    let said = c.answer_to_files-in-Some-Lower.ensures in
    let named = sym (rw at.field-0-is at at.ensures.seen) in
    concluded _ (Some (lower at.tables_file.now at.witness_file.now at.alpha at.gamma)) _ _ c.answer_to_files-in-Some-Lower.result _ named (λ e. cc) refl c.answer_or_stop-in-Some-Lower.ensures said.due said.once (ends_check _ c.answer_to_files-in-Some-Lower.result said.kind) said.failed said.quiet said.reads_only

pub returns-in-Some-Count : goal.returns-in-Some-Count
returns-in-Some-Count g c =
    let at = c.in-Some-Count in
    let said = c.count.ensures in
    count_concluded _ at.tables_file.now (row_counts_of (map string_bytes at.rows.now)) _ _ c.count.result _ (sym (rw at.field-0-is at at.ensures.seen)) (rw at.field-0-is at at.ensures.rows) c.answer_or_stop-in-Some-Count.ensures
    said.due said.once said.kind said.failed said.quiet said.reads_only

pub returns-in-Some-Help : goal.returns-in-Some-Help
returns-in-Some-Help g c =
    printed _ (Some help) _ help_text _ (sym (rw c.in-Some-Help.field-0-is at c.in-Some-Help.ensures.seen)) (λ e. cc) tt refl c.help.ensures c.help.ensures
