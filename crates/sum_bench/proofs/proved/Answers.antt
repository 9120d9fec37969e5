use Rattle.std.proofs.Common.{◌≡◌, ℕ, ◌≤◌, ◌^◌, List, [], ◌∷◌, ◌++◌, length, subst, sym, ap, ◌∙◌, arith}
use Rattle.cube_laws.specs.SumClaim.{AllLong}
use Rattle.sum_bench.proofs.proved.Goals as goal

three_long : (n : ℕ) (a b c : List ℕ) {none one two three : List (List ℕ)} → none ≡ [] → one ≡ none ++ a ∷ [] → two ≡ one ++ b ∷ [] → three ≡ two ++ c ∷ []
    → length a ≡ n → length b ≡ n → length c ≡ n → AllLong n three
three_long n a b c e f g h la lb lc =
    let is = h ∙ ap (λ (ts : List (List ℕ)). ts ++ c ∷ []) (g ∙ ap (λ (ts : List (List ℕ)). ts ++ b ∷ []) (f ∙ ap (λ (ts : List (List ℕ)). ts ++ a ∷ []) e)) in
    subst (AllLong n) (sym is) (la, (lb, (lc, tt)))

pub begin-requires-clause-long : goal.begin-requires-clause-long
begin-requires-clause-long c =
    let few = c.requires in (
      c.args.log,
      omega arith,
      three_long (2 ^ c.args.log) c.from_vec.result c.from_vec-2.result c.from_vec-3.result c.new-tables.ensures c.in_ok-push.ensures.ok c.in_ok-push-2.ensures.ok c.in_ok-push-3.ensures.ok
          (ap length c.from_vec.ensures ∙ c.in_ok-table.ensures) (ap length c.from_vec-2.ensures ∙ c.in_ok-table-2.ensures) (ap length c.from_vec-3.ensures ∙ c.in_ok-table-3.ensures),
    )
