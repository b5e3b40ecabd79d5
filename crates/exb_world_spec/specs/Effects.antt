-- What is done to a world, one thing after another.
use Rattle.std.specs.Prelude.{Bool, List, [], ◌∷◌, ◌++◌}
use Rattle.exb_model.specs.declared.event.Event.{Event}
use Rattle.exb_world_spec.specs.Worlds.{World, Left, Line}

-- The world afterwards, what happened, for each relayed frame whether it passed, what left the ports, and the lines of
-- what was sent, in order.
pub record Effect : Type 0 where
  pub world : World
  pub events : List Event
  pub passed : List Bool
  pub left : List Left
  pub outs : List Line

abbrev pub only : World → Effect
only w = record { world = w; events = []; passed = []; left = []; outs = [] }

-- something is sent
abbrev pub sending : Line → World → Effect
sending line w = record { world = w; events = []; passed = []; left = []; outs = line ∷ [] }

abbrev pub leaving : Line → Left → World → Effect
leaving line x w = record { world = w; events = []; passed = []; left = x ∷ []; outs = line ∷ [] }

-- what happened before comes first
abbrev pub joined : Effect → Effect → Effect
joined e f =
    record {
      world = f.world;
      events = e.events ++ f.events;
      passed = e.passed ++ f.passed;
      left = e.left ++ f.left;
      outs = e.outs ++ f.outs;
    }

abbrev pub then_do : Effect → (World → Effect) → Effect
then_do e f = joined e (f e.world)

-- for each of a list, in order
abbrev pub each : {A : Type 0} → (A → World → Effect) → List A → World → Effect
each f [] w = only w
each f (x ∷ xs) w = then_do (f x w) (each f xs)
