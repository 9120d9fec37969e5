use Rattle.std.proofs.Common.{List, ap, sym, ◌∙◌}
use Rattle.std.specs.List.{list_any}
use Rattle.std.specs.Str.{bytes_eq}
use Rattle.table_shape.specs.declared.shape.ChannelShape.{ChannelShape}
use Rattle.list_laws.proofs.Names.{list_any-map}
use Rattle.table_shape.proofs.channels.Channels.has.Goals as goal

pub returns : goal.returns
returns c =
    let named = bytes_eq c.args.name.now in
    c.has.ensures ∙ ap (list_any named) c.self.invariant ∙ sym (list_any-map named (λ (d : ChannelShape). d.name) c.self.inside.channels)
    ∙ ap (λ (channels : List ChannelShape). list_any (λ d. named d.name) channels) c.self.view_is
