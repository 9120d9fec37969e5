-- What a shape has.
-- Source: docs/LANGUAGE.md, "What a file means"; FIPS 180-4 for the digest.
use Rattle.std.specs.Prelude.{ℕ, List}
use Rattle.table_shape.specs.declared.shape.ChannelShape.{ChannelShape}
use Rattle.table_shape.specs.declared.shape.BoundaryShape.{BoundaryShape}
use Rattle.table_shape.specs.declared.shape.TableShape.{TableShape}

pub record ShapeParts : Type 0 where
  pub channels : List ChannelShape
  pub boundaries : List BoundaryShape
  pub tables : List TableShape
  -- SHA-256 of the canonical text
  pub digest : List ℕ
