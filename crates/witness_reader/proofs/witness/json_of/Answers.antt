use Rattle.serde_json.specs.View.{view}
use Rattle.witness_reader.proofs.Members.{json_is}
use Rattle.witness_reader.proofs.witness.json_of.Goals as goal

pub returns-in-Ok-from_str : goal.returns-in-Ok-from_str
returns-in-Ok-from_str c = json_is c.args.file.now c.in-Ok.text.now (view c.in-Ok-from_str.json) c.in-Ok.ensures.cases.0 c.in-Ok.ensures.cases.1 c.in-Ok-from_str.ensures.ok
