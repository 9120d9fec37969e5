-- The names of channels, tables, columns and constraints by their numbers.
-- Source: docs/LANGUAGE.md, "What a file means".
use Rattle.std.specs.Prelude.{ℕ, List, Option, option_map, option_and_then, slice_get}
use Rattle.table_shape.specs.declared.shape.ChannelShape.{ChannelShape}
use Rattle.table_shape.specs.declared.shape.TableShape.{TableShape}

-- the name of channel c, where there is one
abbrev pub name_of_channel : List ChannelShape → ℕ → Option (List ℕ)
name_of_channel channels c = option_map (λ channel. channel.name) (slice_get channels c)

-- the name of table t, where there is one
abbrev pub name_of_table : List TableShape → ℕ → Option (List ℕ)
name_of_table tables t = option_map (λ table. table.name) (slice_get tables t)

-- the name of column c of table t, where there is one
abbrev pub name_of_column : List TableShape → ℕ → ℕ → Option (List ℕ)
name_of_column tables t c = option_and_then (λ table. option_map (λ column. column.name) (slice_get table.columns c)) (slice_get tables t)

-- the name of constraint z of table t, where there is one
abbrev pub name_of_constraint : List TableShape → ℕ → ℕ → Option (List ℕ)
name_of_constraint tables t z = option_and_then (λ table. option_map (λ constraint. constraint.name) (slice_get table.constraints z)) (slice_get tables t)
