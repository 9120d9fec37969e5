use Rattle.std.proofs.Common.{◌≡◌, ℕ, suc, ◌+◌, List, [], ◌∷◌, ◌++◌, ◌∙◌, ap, sym, arith}
use Rattle.std.proofs.lemmas.Grind.{common_steps}
use Rattle.std.proofs.lemmas.List.{append_assoc}
use Rattle.cube_laws.specs.Extension.{bit}
use Rattle.cube_laws.specs.Sums.{tabulate}
use Rattle.cube_laws.proofs.Tabulate.{tabulate-suc}
use Rattle.bit_claim.proofs.bit_table.push_bits.Goals as goal

tabulated_more : (n v : ℕ) (f : ℕ → ℕ) (start old new : List ℕ) → old ≡ start ++ tabulate n f → new ≡ old ++ v ∷ [] → v ≡ f n → new ≡ start ++ tabulate (n + 1) f
tabulated_more n v f start old new h e q =
    let p : suc n ≡ n + 1 = omega arith in
    e ∙ (λ i. h i ++ q i ∷ []) ∙ append_assoc start (tabulate n f) (f n ∷ []) ∙ ap (λ l. start ++ l) (sym (tabulate-suc n f)) ∙ ap (λ m. start ++ tabulate m f) p

pub loop-u-preserved : goal.loop-u-preserved
loop-u-preserved c =
    let pushed : c.push.new.self.items ≡ c.loop-u.bits.items ++ c.bit_at.result ∷ [] = grind (arith, common_steps) in
    tabulated_more c.loop-u.u c.bit_at.result (bit c.args.word) c.args.bits.now.items c.loop-u.bits.items c.push.new.self.items c.loop-u.invariant pushed (cc)
