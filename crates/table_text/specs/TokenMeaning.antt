-- The tokens of the code as tokens of a text.
-- Source: docs/ARCHITECTURE.md, "Within table_text".
use Rattle.std.specs.Prelude.{option_map}
use Rattle.table_text.specs.Lexing as lexing
use Rattle.table_text.specs.declared.token.Token.{Token}
use Rattle.table_text.specs.declared.token.Token.TheVariants.{Name, Reserved, Number, Mark, Wrong}
use Rattle.table_text.specs.declared.lexer.Piece.{Piece}

-- a token without where its bytes lie
abbrev pub shown : Token → lexing.Token
shown (Name w) = lexing.name w.now
shown (Reserved w) = lexing.reserved w.now
shown (Number n) = lexing.number n
shown (Mark b) = lexing.mark b
shown (Wrong kind) = lexing.wrong kind

-- a piece with its token shown so
abbrev pub shown_piece : Piece → lexing.Piece
shown_piece p = record { len = p.len; token = option_map shown p.token }
