-- What the fields of a walk of a ring switch stand for.
-- Source: docs/REDUCTIONS.md, "Ring switch".
use Rattle.std.specs.Prelude.{◌≡◌, ◌≤◌, ◌-◌, ◌^◌, ℕ, suc, List, [], take, length}
use Rattle.sumcheck.specs.Rounds.{Rounds, sum_claim}
use Rattle.sumcheck.specs.Summing.{adding, closed}
use Rattle.ring_switch.specs.declared.switch_walk.Stage.{Stage}
use Rattle.ring_switch.specs.declared.switch_walk.Stage.TheVariants.{Waiting, Valued, Setting, Adding, Done}
use Rattle.ring_switch.specs.Switching.{PackedValue, Switched, Switching, high_of, rowed, summed, valued, waiting}

abbrev pub switching_of : Stage → ℕ → List ℕ → ℕ → Switched → List ℕ → ℕ → Rounds → PackedValue → Switching
switching_of Waiting n z s t rows left r p = waiting n
switching_of Valued n z s t rows left r p = valued z s
switching_of Setting n z s t rows left r p = rowed t.high (take (6 - left) t.combine) rows left
switching_of Adding n z s t rows left r p = summed (adding t r)
switching_of Done n z s t rows left r p = summed (closed p)

-- before the sum none of its variables is set
abbrev pub IsFresh : ℕ → Rounds → Type 0
IsFresh n r = r ≡ sum_claim 2 n [] 0

-- what is known in each stage
abbrev pub StageFits : Stage → ℕ → List ℕ → ℕ → Switched → List ℕ → ℕ → Rounds → PackedValue → Type 0
StageFits Waiting n z s t rows left r p = (((z ≡ []) × (t.high ≡ [])) × (rows ≡ [])) × IsFresh (n - 7) r
StageFits Valued n z s t rows left r p = (((length z ≡ n) × (t.high ≡ high_of z)) × (rows ≡ [])) × IsFresh (length t.high) r
StageFits Setting n z s t rows left r p = ((left ≤ 6) × (length rows ≡ 2 ^ suc left)) × IsFresh (length t.high) r
StageFits Adding n z s t rows left r p = Unit {0}
StageFits Done n z s t rows left r p = Unit {0}

-- the rows are still to come
abbrev pub IsBeforeRows : Stage → Type 0
IsBeforeRows Waiting = Unit {0}
IsBeforeRows Valued = Unit {0}
IsBeforeRows Setting = ⊥
IsBeforeRows Adding = ⊥
IsBeforeRows Done = ⊥
