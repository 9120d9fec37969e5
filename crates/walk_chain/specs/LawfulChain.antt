-- What the walks of a chain and their hand-overs owe.
-- Source: docs/REDUCTIONS.md, "One after another".
use Rattle.std.specs.Prelude.{◌≡◌, ◌↔◌, ℕ, List, [], ◌∷◌, length}
use Rattle.poly_forms.specs.declared.draw_kind.DrawKind.{DrawKind}
use Rattle.sumcheck.specs.declared.entry.Entry.TheVariants.{Draw}
use Rattle.sumcheck.specs.Machine.{AwaitsMessage, Filling, Lawful}
use Rattle.walk_chain.specs.Chain.{Chain}

pub record LawfulChain {A W K : Type 0} (X : Chain A W K) : Type 0 where
  pub walk : Lawful X.walk
  -- ---- a walk that is done
  -- what will be left is known from the start
  pub message_key : (a : A) (v : List ℕ) (k : K) → AwaitsMessage (length v) (X.walk.entries a) → X.left_key (X.walk.after_message a v) k ≡ X.left_key a k
  pub draw_key : (a : A) (r : ℕ) (k : K) → X.left_key (X.walk.after_draw a r) k ≡ X.left_key a k
  pub leave_key : (a : A) (w : W) → X.walk.entries a ≡ [] → X.key (X.leaves a w) ≡ X.left_key a (X.key w)
  -- where a draw ends a walk, any number keeps the sizes: an escape is counted among all numbers
  pub ending_draw : (F : Filling) (a : A) (kind : DrawKind) (n r : ℕ) → X.walk.entries a ≡ Draw kind n ∷ [] → X.walk.fits F a → X.walk.fits F (X.walk.after_draw a r)
  -- its claims are true exactly where those that it leaves are
  pub leave_fits : (F : Filling) (a : A) (w : W) → X.walk.entries a ≡ [] → X.walk.fits F a → X.kept_fits F w → X.kept_fits F (X.leaves a w)
  pub leave_holds : (F : Filling) (a : A) (w : W) → X.walk.entries a ≡ [] → X.walk.fits F a → X.kept_fits F w
      → (X.walk.holds F a × X.kept_holds F w) ↔ X.kept_holds F (X.leaves a w)
  -- ---- a walk that is entered
  pub enter_plan : (g : A) (w : W) → X.walk.entries (X.enter g w) ≡ X.plan g (X.key w)
  pub enter_key : (g : A) (w : W) → X.left_key (X.enter g w) (X.key (X.stays g w)) ≡ X.key_after g (X.key w)
  -- it and what stays are true exactly where it and all that waits were
  pub enter_fits : (F : Filling) (g : A) (w : W) → X.stage_fits F g → X.kept_fits F w → X.walk.fits F (X.enter g w) × X.kept_fits F (X.stays g w)
  pub enter_holds : (F : Filling) (g : A) (w : W) → X.stage_fits F g → X.kept_fits F w
      → (X.walk.holds F (X.enter g w) × X.kept_holds F (X.stays g w)) ↔ (X.waits F g × X.kept_holds F w)
