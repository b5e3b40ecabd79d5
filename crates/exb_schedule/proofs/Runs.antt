-- Steps one after another: what may be made, and what was done.
use Rattle.std.proofs.Common.{◌≡◌, ◌++◌, Bool, List, [], ◌∷◌, append_assoc, append-nil, ap, ◌∙◌}
use Rattle.exb_model.specs.declared.event.Event.{Event}
use Rattle.exb_model.specs.Setup.{Limits}
use Rattle.exb_model.specs.Tree.{Shape}
use Rattle.exb_world_spec.specs.Settling.{nothing, followed_by, run}
use Rattle.exb_world_spec.specs.Steps.{Stepped, stepped}
use Rattle.exb_world_spec.specs.Worlds.{World, Step, Left, Line}
use Rattle.exb_world_spec.specs.Runs.ReachedWorlds.{MayTakeAll}

pub then_nothing : (a : Stepped) → followed_by a (nothing a.world) ≡ a
then_nothing a =
    ap (λ (x : List Event). record { world = a.world; events = x; passed = a.passed ++ []; left = a.left ++ []; lines = a.lines ++ [] }) (append-nil a.events)
    ∙ ap (λ (x : List Bool). record { world = a.world; events = a.events; passed = x; left = a.left ++ []; lines = a.lines ++ [] }) (append-nil a.passed)
    ∙ ap (λ (x : List Left). record { world = a.world; events = a.events; passed = a.passed; left = x; lines = a.lines ++ [] }) (append-nil a.left)
    ∙ ap (λ (x : List Line). record { world = a.world; events = a.events; passed = a.passed; left = a.left; lines = x }) (append-nil a.lines)

pub then_then : (a b c : Stepped) → followed_by (followed_by a b) c ≡ followed_by a (followed_by b c)
then_then a b c = simp append_assoc

module _ (t : Shape) (l : Limits) where
  pub one_step : (step : Step) (w : World) → run t l (step ∷ []) w ≡ stepped t l step w
  unfolding run
  one_step step w = then_nothing (stepped t l step w)

  pub take_then : (xs ys : List Step) (w : World) → MayTakeAll t l w xs → MayTakeAll t l (run t l xs w).world ys → MayTakeAll t l w (xs ++ ys)
  unfolding run
  take_then [] ys w a b = b
  take_then (x ∷ xs) ys w a b = (a.0, take_then xs ys (stepped t l x w).world a.1 b)
