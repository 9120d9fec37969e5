use Rattle.std.proofs.Common.{ap, sym, ◌∙◌}
use Rattle.std.specs.List.{position_from}
use Rattle.std.specs.Str.{bytes_eq}
use Rattle.table_shape.specs.declared.shape.ChannelShape.{ChannelShape}
use Rattle.table_shape.specs.Shape.{number_of_channel}
use Rattle.list_laws.proofs.Names.{position_from-map}
use Rattle.table_shape.proofs.channels.Channels.number_of.Goals as goal

pub returns : goal.returns
returns c =
    let name = c.args.name.now in
    c.number_of.ensures ∙ ap (position_from (bytes_eq name) 0) c.self.invariant ∙ sym (position_from-map (bytes_eq name) (λ (d : ChannelShape). d.name) 0 c.self.inside.channels)
    ∙ ap (number_of_channel name) c.self.view_is
