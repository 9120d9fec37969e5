use Rattle.std.proofs.Common.{option_map, sym, ap, ◌∙◌}
use Rattle.serde_json.specs.Find.{get_member}
use Rattle.serde_json.specs.View.{view, members_view}
use Rattle.serde_json.proofs.Views.{view_of_ref, view-lookup}
use Rattle.witness_reader.proofs.Members.{no_text}
use Rattle.witness_reader.proofs.witness.member.Goals as goal

pub returns-in_default : goal.returns-in_default
returns-in_default c = sym (no_text c.args.name.now c.args.object.now.entries c.in_default.ensures.cases.0)

pub returns : goal.returns
returns c =
    view_of_ref c.get.result ∙ ap (option_map view) c.get.ensures.value ∙ view-lookup c.in-Ok.name.now c.args.object.now.entries
    ∙ ap (λ name. get_member name (members_view c.args.object.now.entries)) c.in-Ok.ensures.cases.0
