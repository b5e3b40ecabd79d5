-- Runs of which nothing is asked of the words on links: that these are bytes and short is a law.
use Rattle.std.specs.Prelude.{List, [], ◌∷◌, All}
use Rattle.exb_model.specs.declared.setup.Setup.{Setup}
use Rattle.exb_model.specs.History.{Basis, History}
use Rattle.exb_model.specs.Setup.{Limits, IsValid, shape_of, limits_of, start_of}
use Rattle.exb_model.specs.Tree.{Shape}
use Rattle.exb_world_spec.specs.AllowedSteps.{Can}
use Rattle.exb_world_spec.specs.Settling.{run}
use Rattle.exb_world_spec.specs.Steps.{stepped}
use Rattle.exb_world_spec.specs.Worlds.{World, Step, Left, first_world}
use Rattle.exb_world_spec.specs.Runs.SessionLaws.{HasBytes, AreBytes}
use Rattle.exb_world_spec.specs.Runs.Sessions.{AreLow}
use Rattle.exb_world_spec.specs.Runs.FrameBytes.{AreWritten, AreShort}
use Rattle.exb_world_laws.specs.WorldInput.{Given}
use Rattle.exb_world_laws.specs.WorldInvariant.{MayStart, MayDo, MayDoAll, Kept}
use Rattle.exb_world_spec.specs.Runs.ReachedWorlds.{HasVid, HasVidIn}

-- A step that may be made, with a frame of bytes, serials that fit their field and VLANs in their range. All but `can`
-- are facts of the code's types.
pub record MayGo (t : Shape) (l : Limits) (w : World) (step : Step) : Type 0 where
  pub can : Can t w step
  pub has : HasBytes step
  pub low : AreLow w.control.askers
  pub after : AreLow (stepped t l step w).world.control.askers
  pub vid : HasVidIn step

abbrev pub MayGoAll : Shape → Limits → World → List Step → Type 0
MayGoAll t l w [] = Unit {0}
MayGoAll t l w (step ∷ steps) = MayGo t l w step × MayGoAll t l (stepped t l step w).world steps

-- Of a world that is kept and whose words are written, such a step is one of which all laws speak, and words stay
-- written.
abbrev pub StepsGoOn : Type 0
StepsGoOn =
    (t : Shape) (l : Limits) (i : Basis) → MayStart t l i
    → (w : World) (g : List Given) (h : History) (left : List Left) → Kept t l i w g h left → AreWritten w
    → (step : Step) → MayGo t l w step →
    MayDo t l w step × AreWritten (stepped t l step w).world

-- So each such run from the beginning is one of which all laws speak, and at its end each word on a link is a list of
-- bytes, and of at most 9,232.
pub record GoesOn (t : Shape) (l : Limits) (w : World) (steps : List Step) : Type 0 where
  pub may : MayDoAll t l w steps
  pub written : AreWritten (run t l steps w).world
  pub bytes : AreBytes (run t l steps w).world
  pub short : AreShort (run t l steps w).world

abbrev pub RunsGoOn : Type 0
RunsGoOn = (t : Shape) (l : Limits) (i : Basis) → MayStart t l i → (steps : List Step)
    → MayGoAll t l (first_world t l i.start i.ageing) steps → GoesOn t l (first_world t l i.start i.ageing) steps

-- and so each of the world of a valid setup
abbrev pub SetupsGoOn : Type 0
SetupsGoOn =
    (s : Setup) (steps : List Step) → IsValid s → All HasVid s.start
    → let w = first_world (shape_of s) (limits_of s) (start_of s) s.ageing in
    MayGoAll (shape_of s) (limits_of s) w steps → GoesOn (shape_of s) (limits_of s) w steps
