-- Steps of the sum's table.
use Rattle.std.proofs.Common.{◌≡◌, ◌∙◌, ℕ, ◌+◌, ◌^◌, ◌<◌, ◌≤◌, inl, inr, List, [], ◌∷◌, map, length, get_or, set, refl, sym, ap, arith}
use Rattle.std.proofs.Math.ListN.{length-set}
use Rattle.std.proofs.lemmas.Bool.{cases_lt}
use Rattle.std.proofs.lemmas.Grind.{get_or-set_at}
use Rattle.std.proofs.lemmas.List.{get_or_default, get_or-set_other}
use Rattle.cube_laws.specs.Sums.{tabulate}
use Rattle.cube_laws.specs.Extension.{bit, dot, weights}
use Rattle.cube_laws.specs.SumClaim.{AllLong}
use Rattle.cube_laws.proofs.Tabulate.{entries, map-tabulate, tabulated}
use Rattle.tensor_laws.specs.Switch.{combined}
use Rattle.tensor_laws.proofs.Switching.{combined_is}
use Rattle.ring_switch.proofs.SwitchLaws.{length-combined}

abbrev pub under : List ℕ → ℕ → ℕ
under ws e = dot (tabulate 128 (bit e)) ws

-- ---- a list changed in place, one by one
pub record Mapped (f : ℕ → ℕ) (i : ℕ) (old now : List ℕ) : Type 0 where
  pub long : length now ≡ length old
  pub done : (k : ℕ) → k < i → get_or now k 0 ≡ f (get_or old k 0)
  pub kept : (k : ℕ) → i ≤ k → get_or now k 0 ≡ get_or old k 0

pub more_mapped : (f : ℕ → ℕ) (i x v : ℕ) (old now : List ℕ) → i < length now → v ≡ f (get_or now i x) → Mapped f i old now → Mapped f (i + 1) old (set now i v)
more_mapped f i x v old now l e h = record {
  long = length-set now i v ∙ h.long;
  done = λ k m.
      elim (cases_lt k i) [
        | inl below ↦ get_or-set_other now i k v 0 (omega arith) ∙ h.done k below
        | inr above ↦
            let same : k ≡ i = omega arith in
            get_or-set_at now i k v 0 same l ∙ e ∙ ap f (get_or_default now i x 0 l ∙ h.kept i (omega arith)) ∙ ap (λ j. f (get_or old j 0)) (sym same)
      ];
  kept = λ k m. get_or-set_other now i k v 0 (omega arith) ∙ h.kept k (omega arith);
}

pub all_mapped : (f : ℕ → ℕ) (i : ℕ) (old now : List ℕ) → length now ≤ i → Mapped f i old now → now ≡ map f old
all_mapped f i old now l h =
    entries (length old) (λ k. f (get_or old k 0)) now h.long (λ k m. h.done k (let n = h.long in omega arith))
    ∙ sym (map-tabulate (length old) f (λ k. get_or old k 0)) ∙ ap (map f) (tabulated (length old) old refl)

-- ---- the table
pub table_is : (high draws cells ws now : List ℕ) → length draws ≡ 7 → cells ≡ weights high → ws ≡ weights draws → now ≡ map (λ e. dot (tabulate 128 (bit e)) ws) cells → now ≡ combined high draws
table_is high draws cells ws now l ce we e =
    e ∙ (λ i. map (λ e. dot (tabulate 128 (bit e)) (we i)) (ce i))
    ∙ ap (λ n. map (λ e. dot (tabulate (2 ^ n) (bit e)) (weights draws)) (weights high)) (sym l)
    ∙ sym (combined_is high draws)

pub two_long : (high draws cells words : List ℕ) (ts : List (List ℕ)) → cells ≡ combined high draws → length words ≡ 2 ^ length high → ts ≡ cells ∷ words ∷ [] → AllLong (2 ^ length high) ts
two_long high draws cells words ts e l t = rw t (ap length e ∙ length-combined high draws, (l, tt))
