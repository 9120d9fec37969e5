-- What the openings of a proof are judged to be, query by query.
-- Source: docs/PROOF.md, "The verdict"; docs/COMMITMENTS.md, "Queries".
use Rattle.std.specs.Prelude.{ℕ, zero, suc, ◌+◌, ◌%◌, ◌^◌, ◌==◌, ltb, cond, List, length, take, drop, get_or, replicate, slice_index, Option, None, Some, Result, Ok, Err}
use Rattle.std.specs.Str.{bytes_eq}
use Rattle.transcript.specs.Transcript.{after_draw, shown}
use Rattle.proof_plan.specs.Sizes.{opening_length}
use Rattle.fri_fold.specs.Query.{Check, after, opened, root_found}
use Rattle.fri_fold.specs.declared.query.QueryFault.TheVariants.{FoldBad, PathBad}
use Rattle.m3_verifier.specs.declared.halt.Halt.{Halt}
use Rattle.m3_verifier.specs.declared.halt.Halt.TheVariants.{Query, Short}

-- what openings are checked against: how often the word was folded, the roots of the words, the draws that folded them, and the constant
pub record Words : Type 0 where
  pub rounds : ℕ
  pub roots : List (List ℕ)
  pub folds : List ℕ
  pub constant : ℕ

-- a root for each word; 32 bytes 0 past them
abbrev pub root_at : Words → ℕ → List ℕ
root_at w j = get_or w.roots j (replicate 32 0)

abbrev pub fold_at : Words → ℕ → ℕ
fold_at w j = slice_index w.folds j

-- ---- what is wrong first
abbrev pub or_halt : Option Halt → Option Halt → Option Halt
or_halt None next = next
or_halt (Some h) next = Some h

-- fewer bytes are left than are due
abbrev pub short : ℕ → List ℕ → Option Halt
short n bytes = cond (ltb (length bytes) n) (Some Short) None

-- ---- an opening: a leaf of two values, and a digest for each height of its tree
abbrev pub opening_in : ℕ → List ℕ → List ℕ
opening_in height bytes = take (opening_length height) bytes

abbrev pub leaf_of : List ℕ → List ℕ
leaf_of opening = take 32 opening

abbrev pub path_of : List ℕ → List ℕ
path_of opening = drop 32 opening

abbrev pub path_fault : Check → List ℕ → List ℕ → List ℕ → Option Halt
path_fault c root leaf path = cond (bytes_eq (root_found c leaf path) root) None (Some (Query (PathBad c.query c.round root (root_found c leaf path))))

-- the fold of the round before is compared from round 1 on
abbrev pub fold_fault : Check → List ℕ → Option Halt
fold_fault c leaf = cond (c.round == 0) None (cond (c.fold == opened c leaf) None (Some (Query (FoldBad c.query c.round c.fold (opened c leaf)))))

-- the fold of the last round is compared with the constant
abbrev pub last_fault : Check → ℕ → Option Halt
last_fault c constant = cond (c.fold == constant) None (Some (Query (FoldBad c.query c.round c.fold constant)))

-- its path, and then the fold
abbrev pub opening_fault : Words → Check → List ℕ → Option Halt
opening_fault w c opening = or_halt (path_fault c (root_at w c.round) (leaf_of opening) (path_of opening)) (fold_fault c (leaf_of opening))

-- that of a word whose tree has 2 ^ height leaves: whole, and then right
abbrev pub opening_halt : Words → ℕ → Check → List ℕ → Option Halt
opening_halt w height c bytes = or_halt (short (opening_length height) bytes) (opening_fault w c (opening_in height bytes))

abbrev pub after_opening : Words → Check → List ℕ → Check
after_opening w c opening = after c (fold_at w c.round) (leaf_of opening)

-- ---- queries
-- what is left of the bytes, or why the reading halts
abbrev pub unless_halt : Option Halt → Result (List ℕ) Halt → Result (List ℕ) Halt
unless_halt None next = next
unless_halt (Some h) next = Err h

-- of a query the openings that are left, of words whose trees have 2 ^ (k + 1), 2 ^ k, .., 2 ^ 2 leaves
unfoldable pub openings : Words → ℕ → Check → List ℕ → Result (List ℕ) Halt
openings w zero c bytes = unless_halt (last_fault c w.constant) (Ok bytes)
openings w (suc k) c bytes =
    unless_halt (opening_halt w (suc (suc k)) c bytes)
    (openings w k (after_opening w c (opening_in (suc (suc k)) bytes)) (drop (opening_length (suc (suc k))) bytes))

-- the index that is drawn: as many bits as the first tree has heights
abbrev pub index_of : ℕ → List ℕ → ℕ
index_of rounds transcript = shown transcript % 2 ^ (rounds + 1)

abbrev pub first_check : ℕ → ℕ → Check
first_check query index = record { query = query; index = index; round = 0; fold = 0 }

abbrev pub or_stop : Result (List ℕ) Halt → (List ℕ → Result (List ℕ) Halt) → Result (List ℕ) Halt
or_stop (Ok bytes) next = next bytes
or_stop (Err h) next = Err h

-- n queries from query q on, the first of which is drawn next
unfoldable pub queries : Words → (n q : ℕ) → (transcript bytes : List ℕ) → Result (List ℕ) Halt
queries w zero q transcript bytes = Ok bytes
queries w (suc n) q transcript bytes =
    or_stop (openings w w.rounds (first_check q (index_of w.rounds (after_draw transcript))) bytes)
    (queries w n (suc q) (after_draw transcript))

-- the transcript after n draws
abbrev pub after_draws : ℕ → List ℕ → List ℕ
after_draws zero transcript = transcript
after_draws (suc n) transcript = after_draws n (after_draw transcript)
