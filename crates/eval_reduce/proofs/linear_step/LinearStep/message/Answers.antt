use Rattle.std.proofs.Common.{◌≡◌, ◌++◌, length, sym, ◌∙◌, ap, subst, arith}
use Rattle.sumcheck.specs.Machine.{AwaitsMessage}
use Rattle.eval_reduce.specs.Linear.{Linear, linear_entries, term_claims}
use Rattle.eval_reduce.proofs.VirtualSteps.{few_claims, not_told}
use Rattle.eval_reduce.proofs.linear_step.LinearStep.message.Goals as goal

pub invariant_of-self : goal.invariant_of-self
invariant_of-self c =
    let w = c.self.inside in
    let open_yet = not_told (length c.args.values.now) w.told w.combination w.claim w.claims.items (subst (λ (s : Linear). AwaitsMessage (length c.args.values.now) (linear_entries s)) (sym c.self.view_is) c.requires) in
    let made : c.tell.new.claims.items ≡ term_claims c.in-Some.claim w.combination.terms c.args.values.now = c.tell.ensures.claims ∙ ap (λ cs. cs ++ term_claims c.in-Some.claim w.combination.terms c.args.values.now) (c.self.invariant.none open_yet) in
    let few = few_claims c.in-Some.claim w.combination.terms c.args.values.now in
    let small = c.self.invariant.few in
    let long = ap length made in
    record {
      few = small;
      own_vars = c.self.invariant.own_vars;
      vars = c.tell.ensures.vars ∙ c.self.invariant.vars;
      own = c.self.invariant.own;
      many = λ e. absurd (cc);
      space = λ e. absurd (cc);
      none = λ e. absurd (cc);
      told = omega arith;
      short = c.self.invariant.short;
    }
