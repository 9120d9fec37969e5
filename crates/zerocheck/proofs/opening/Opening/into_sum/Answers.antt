use Rattle.std.proofs.Common.{◌≤◌, ◌+◌, ◌^◌, ◌∙◌, ap, subst, sym}
use Rattle.cube_laws.specs.SumClaim.{AllLong}
use Rattle.zerocheck.specs.declared.zeroed.Zeroed.TheInside.{Inside}
use Rattle.zerocheck.specs.Opening.{Opening}
use Rattle.zerocheck.specs.Zero.{Zeroed}
use Rattle.zerocheck.proofs.ProverSteps.{begun, begun_long}
use Rattle.zerocheck.proofs.opening.Opening.into_sum.Goals as goal

pub begin-requires-clause-long : goal.begin-requires-clause-long
begin-requires-clause-long c =
    let o : Opening = c.args.self in
    let n = o.zeroed.group.vars in
    let tables = c.in_ok-tables.ensures ∙ ap (λ (x : Opening). (begun x).lists) c.self.view_is in
    let vars = ap (λ (x : Inside). x.group.vars) c.zeroed-inside.view_is ∙ ap (λ (x : Zeroed). x.group.vars) c.zeroed.view_is ∙ ap (λ (x : Opening). x.zeroed.group.vars) c.self.view_is in
    (n, subst (λ m. m ≤ 32) vars c.zeroed-inside.invariant.few, subst (AllLong (2 ^ n)) (sym tables) (begun_long o c.requires.drawn c.requires.long))

pub returns : goal.returns
returns c =
    let o : Opening = c.args.self in
    let n = o.zeroed.group.vars in
    let tables = c.in_ok-tables.ensures ∙ ap (λ (x : Opening). (begun x).lists) c.self.view_is in
    let degree = ap (λ (x : Inside). x.group.degree + 2) c.zeroed-inside.view_is ∙ ap (λ (x : Zeroed). x.group.degree + 2) c.zeroed.view_is ∙ ap (λ (x : Opening). x.zeroed.group.degree + 2) c.self.view_is in
    let zeroed = ap (λ (x : Opening). x.zeroed) c.self.view_is in
    c.in_ok-begin.ensures n (subst (AllLong (2 ^ n)) (sym tables) (begun_long o c.requires.drawn c.requires.long))
    ∙ (λ i. record { summand = zeroed i; degree = degree i; left = n; lists = tables i })
