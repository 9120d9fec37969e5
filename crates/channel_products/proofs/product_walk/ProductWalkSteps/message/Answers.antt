use Rattle.std.proofs.Common.{◌∙◌, arith}
use Rattle.channel_products.proofs.DescentSteps.{leaves_open, told_few}
use Rattle.channel_products.proofs.product_walk.ProductWalkSteps.message.Goals as goal

pub invariant_of-self-then-branch-2 : goal.invariant_of-self-then-branch-2
invariant_of-self-then-branch-2 c =
    let w = c.self.inside in
    record {
      stage = tt;
      columns = c.self.invariant.columns;
      vars = c.push_claims.ensures.vars ∙ c.self.invariant.vars;
      few = c.self.invariant.few;
      many = λ h. absurd h;
      space = λ h. absurd h;
      told = told_few w.claims.items c.push_claims.new.claims.items _ _ _ _ (leaves_open w.stage w.layered w.later.items w.claims.items c.in-Leaves.is c.self.invariant.stage) c.push_claims.ensures.claims (let k = c.self.invariant.few in omega arith);
    }
