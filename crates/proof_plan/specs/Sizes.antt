-- How long a proof is, and how many challenges could turn a false claim true.
-- Source: docs/PROOF.md, "The bytes" and "The plan".
use Rattle.std.specs.Prelude.{ℕ, zero, suc, ◌+◌, ◌*◌, List, [], ◌∷◌}
use Rattle.proof_plan.specs.declared.plan_entry.PlanEntry.{PlanEntry}
use Rattle.proof_plan.specs.declared.plan_entry.PlanEntry.TheVariants.{Root, Message, Draw, Constant, Queries}

-- the sum of the counts
abbrev pub total : List PlanEntry → ℕ
total [] = 0
total (Draw kind n ∷ es) = n + total es
total (Root ∷ es) = total es
total (Message check n ∷ es) = total es
total (Constant ∷ es) = total es
total (Queries ∷ es) = total es

-- how many draws are counted
abbrev pub draws : List PlanEntry → ℕ
draws [] = 0
draws (Draw kind n ∷ es) = suc (draws es)
draws (Root ∷ es) = draws es
draws (Message check n ∷ es) = draws es
draws (Constant ∷ es) = draws es
draws (Queries ∷ es) = draws es

-- how many queries there are
abbrev pub query_count : ℕ
query_count = 64

-- of a word whose tree has 2 ^ h leaves: a leaf of two values, and a digest for each height
abbrev pub opening_length : ℕ → ℕ
opening_length h = 32 + 32 * h

-- those of a query over n rounds, the first word of which has 2 ^ (n + 1) leaves
abbrev pub query_length : ℕ → ℕ
query_length zero = 0
query_length (suc n) = opening_length (suc (suc n)) + query_length n

-- an entry, of a packed table of 2 ^ m words
abbrev pub entry_length : ℕ → PlanEntry → ℕ
entry_length m Root = 32
entry_length m (Message check n) = 16 * n
entry_length m (Draw kind n) = 0
entry_length m Constant = 16
entry_length m Queries = query_count * query_length m

abbrev pub entries_length : ℕ → List PlanEntry → ℕ
entries_length m [] = 0
entries_length m (e ∷ es) = entry_length m e + entries_length m es

-- the head: 8 bytes of magic, the version, the digest of the tables, and 4 bytes for each table
abbrev pub head_length : ℕ → ℕ
head_length tables = 41 + 4 * tables

abbrev pub proof_length : ℕ → ℕ → List PlanEntry → ℕ
proof_length tables m es = head_length tables + entries_length m es
