-- What the program's own types stand for.
-- Source: docs/ARCHITECTURE.md, "Within m3_tool".
use Rattle.std.specs.Prelude.{Option, Some, None, IsSome, map, string_bytes}
use Rattle.std.specs.Option.{option_map}
use Rattle.m3_tool.specs.declared.words.Command.{Command as OwnCommand}
use Rattle.m3_tool.specs.declared.words.Command.TheVariants as own
use Rattle.m3_tool.specs.Command.{Command, check, print, lower, count, help, version, row_counts_of}

abbrev pub seen : Option OwnCommand → Option Command
seen None = None
seen (Some (own.Check tables witness)) = Some (check tables.now witness.now)
seen (Some (own.Print tables)) = Some (print tables.now)
seen (Some (own.Lower tables witness alpha gamma)) = Some (lower tables.now witness.now alpha gamma)
seen (Some (own.Count tables rows)) = option_map (count tables.now) (row_counts_of (map string_bytes rows.now))
seen (Some own.Help) = Some help
seen (Some own.Version) = Some version

-- the words for rows spell numbers of rows
abbrev pub HasRowCounts : Option OwnCommand → Type 0
HasRowCounts None = Unit {0}
HasRowCounts (Some (own.Check tables witness)) = Unit {0}
HasRowCounts (Some (own.Print tables)) = Unit {0}
HasRowCounts (Some (own.Lower tables witness alpha gamma)) = Unit {0}
HasRowCounts (Some (own.Count tables rows)) = IsSome (row_counts_of (map string_bytes rows.now))
HasRowCounts (Some own.Help) = Unit {0}
HasRowCounts (Some own.Version) = Unit {0}
