use Rattle.std.proofs.Common.{◌≡◌, ◌^◌, ◌∙◌, List, [], ℕ, Some, ap, refl}
use Rattle.sumcheck.specs.Ending.{untold}
use Rattle.zerocheck.specs.Given.{given_lists}
use Rattle.zerocheck.specs.Group.{Group}
use Rattle.zerocheck.specs.ZeroProver.{undrawn}
use Rattle.zerocheck.specs.declared.zero_walk.Stage.TheVariants.{Waiting}
use Rattle.zerocheck.proofs.ProverSteps.{given_long}
use Rattle.zerocheck.proofs.zero_prover.ZeroProver.of.Goals as goal

pub returns : goal.returns
returns c =
    let g : Group = c.args.group in
    let tables = c.args.tables.now in
    let lists : c.in_ok-lists.lists.items ≡ given_lists tables g.table g.columns = c.in_ok-lists.ensures ∙ ap (given_lists tables c.group.inside.table) c.as_slice.ensures.value ∙ ap (λ (x : Group). given_lists tables x.table x.columns) c.group.view_is in
    record {
      opening = ap Some (c.in_ok-begin.ensures ∙ ap (λ (ls : List (List ℕ)). record { stage = Waiting; zeroed = undrawn g; lists = ls }) lists);
      none = refl;
      long = given_long tables g.table (2 ^ g.vars) g.columns c.requires;
      ending = c.in_ok-ending.ensures ∙ ap (λ (cs : List ℕ). untold c.group.inside.table cs c.group.inside.vars []) c.as_slice-2.ensures.value ∙ ap (λ (x : Group). untold x.table x.columns x.vars []) c.group.view_is;
    }
