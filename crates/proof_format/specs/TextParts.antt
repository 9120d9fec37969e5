-- The bytes of a proof while they are written, as contracts see them.
-- Source: docs/PROOF.md, "The bytes".
use Rattle.std.specs.Prelude.{ℕ, ◌+◌, ◌≤◌, List, ◌++◌}
use Rattle.std.specs.Prelude as std

-- the whole length that is due, and the bytes that are written
pub record TextParts : Type 0 where
  pub length : ℕ
  pub bytes : List ℕ

-- n more bytes are due
abbrev pub HasRoom : TextParts → ℕ → Type 0
HasRoom text n = std.length text.bytes + n ≤ text.length

abbrev pub with_bytes : TextParts → List ℕ → TextParts
with_bytes text more = record text { bytes = text.bytes ++ more }
