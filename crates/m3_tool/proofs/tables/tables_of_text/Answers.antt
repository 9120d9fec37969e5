use Rattle.std.proofs.Common.{◌≢◌, Err}
use Rattle.table_text.specs.declared.fault.TextStop.TheVariants.{NoMemory}
use Rattle.m3_tool.proofs.AnswerSteps.{read_once}
use Rattle.m3_tool.proofs.tables.tables_of_text.Goals as goal

pub returns-in-Ok-clause-once : goal.returns-in-Ok-clause-once
returns-in-Ok-clause-once c =
    let memory : c.read_tables.result ≢ Err NoMemory = λ e. cc in
    read_once c.args.text.now c.read_tables.result memory c.read_tables.ensures.reads c.read_tables.ensures.refuses

pub returns-in_ok-line-in-Err-Fault-clause-once : goal.returns-in_ok-line-in-Err-Fault-clause-once
returns-in_ok-line-in-Err-Fault-clause-once c =
    let memory : c.read_tables.result ≢ Err NoMemory = λ e. cc in
    read_once c.args.text.now c.read_tables.result memory c.read_tables.ensures.reads c.read_tables.ensures.refuses
