use Rattle.std.proofs.Common.{◌≡◌, ◌+◌, ◌^◌, ap, ◌∙◌, arith}
use Rattle.std.proofs.lemmas.Nat.{one_shl}
use Rattle.list_laws.specs.CeilLog.{ceil_log}
use Rattle.list_laws.proofs.Powers.{log_of_rows, power_bound}
use Rattle.column_store.proofs.columns.count_of.Goals as goal

pub overflow_add-result : goal.overflow_add-result
overflow_add-result c =
    let e : c.ceil_log.result ≡ ceil_log c.args.rows = c.ceil_log.ensures ∙ ap ceil_log c.from.ensures in
    omega (arith, e, log_of_rows c.args.rows c.requires.few, c.requires.values)

pub overflow_shl-result : goal.overflow_shl-result
overflow_shl-result c =
    let e : c.ceil_log.result ≡ ceil_log c.args.rows = c.ceil_log.ensures ∙ ap ceil_log c.from.ensures in
    omega (arith, e, log_of_rows c.args.rows c.requires.few, c.requires.values)

pub returns-clause-value : goal.returns-clause-value
returns-clause-value c =
    let e : c.ceil_log.result ≡ ceil_log c.args.rows = c.ceil_log.ensures ∙ ap ceil_log c.from.ensures in
    one_shl (c.ceil_log.result + c.args.shape.now.log_values) 64 (omega (arith, e, log_of_rows c.args.rows c.requires.few, c.requires.values))
    ∙ ap (λ n. 2 ^ (n + c.args.shape.now.log_values)) e

pub returns-clause-bound : goal.returns-clause-bound
returns-clause-bound c =
    let e : c.ceil_log.result ≡ ceil_log c.args.rows = c.ceil_log.ensures ∙ ap ceil_log c.from.ensures in
    let n = c.ceil_log.result + c.args.shape.now.log_values in
    omega (arith, one_shl n 64 (omega (arith, e, log_of_rows c.args.rows c.requires.few, c.requires.values)), power_bound n 27 (omega (arith, e, log_of_rows c.args.rows c.requires.few, c.requires.values)))
