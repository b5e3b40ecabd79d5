-- What an extender sends, in a form that it can be given and to a side that there is.
use Rattle.std.specs.Prelude.{ℕ, ◌<◌, ◌≤◌, List, ⊤}
use Rattle.exb_extender.specs.declared.sends.Side.{Side}
use Rattle.exb_extender.specs.declared.sends.Side.TheVariants as side
use Rattle.exb_extender.specs.declared.sends.Out.{Out}
use Rattle.exb_extender.specs.SentFrames.{CanBeGiven}

-- the number of a port is 1 to 64
abbrev pub IsSide : Side → Type 0
IsSide side.Up = ⊤
IsSide (side.Port k) = (0 < k) × (k ≤ 64)

pub record CanGo (f : List ℕ) (out : Out) : Type 0 where
  pub side : IsSide out.to
  pub form : CanBeGiven f out.form
