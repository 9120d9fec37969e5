-- The reductions of a proof hand over to one another, and keep truth.
use Rattle.sumcheck.specs.Machine.{Lawful}
use Rattle.walk_chain.specs.LawfulChain.{LawfulChain}
use Rattle.channel_products.specs.Descent.{ProductsAreMeant}
use Rattle.eval_reduce.specs.Project.{ProjectsKeepTruth}
use Rattle.eval_reduce.specs.Shift.{ShiftsKeepTruth}
use Rattle.m3_walk.specs.Linked.{linking}
use Rattle.m3_walk.specs.Stages.{staged}
use Rattle.m3_walk.proofs.Ending.{ending_draw}
use Rattle.m3_walk.proofs.Entering.{enter_key, enter_plan}
use Rattle.m3_walk.proofs.EnteringFits.{Meanings, enter_fits}
use Rattle.m3_walk.proofs.EnteringHolds.{enter_holds}
use Rattle.m3_walk.proofs.Keys.{draw_key, leave_key, message_key}
use Rattle.m3_walk.proofs.Leaving.{leave_holds}
use Rattle.m3_walk.proofs.LeavingFits.{leave_fits}

pub lawful_linking : Lawful staged → ProductsAreMeant → ProjectsKeepTruth → ShiftsKeepTruth → LawfulChain linking
lawful_linking walks products projects shifts =
    let laws : Meanings = record { products = products; projects = projects; shifts = shifts } in
    record {
      walk = walks;
      message_key = message_key;
      draw_key = draw_key;
      leave_key = leave_key;
      ending_draw = ending_draw;
      leave_fits = leave_fits;
      leave_holds = leave_holds;
      enter_plan = enter_plan;
      enter_key = enter_key;
      enter_fits = enter_fits laws;
      enter_holds = enter_holds laws;
    }
