-- A frame that goes on to one side alone.
use Rattle.std.specs.Prelude.{◌≡◌, ℕ, ◌<◌, ◌≤◌, List, [], ◌∷◌}
use Rattle.exb_model.specs.ETags.{Tag}
use Rattle.exb_csp.specs.Execution.{ExtenderTables}
use Rattle.exb_extender.specs.declared.sends.Out.{Out}
use Rattle.exb_extender.specs.declared.sends.Side.{Side}
use Rattle.exb_extender.specs.declared.sends.Side.TheVariants.{Port}
use Rattle.exb_extender.specs.Machine.{ExtenderState, Arrives, react}
use Rattle.exb_extender.specs.SentFrames.{CanBeGiven, out_sent, outs_where}

-- a side that is a port has a number from 1 to 64
abbrev pub IsLow : Side → Type 0
IsLow side = (k : ℕ) → side ≡ Port k → (0 < k) × (k ≤ 64)

-- a frame with this E-TAG goes out at one port alone
pub record GoesAt (t : ExtenderTables) (tag : Tag) (out : Out) : Type 0 where
  pub only : outs_where (t.pair tag.ecid) t tag ≡ out ∷ []
  pub low : IsLow out.to

-- A frame from a side goes to one side, in one form that it can be given, and nothing else comes of it, whatever the
-- extender keeps beside these tables.
pub record GoesTo (t : ExtenderTables) (from : Side) (f : List ℕ) (out : Out) : Type 0 where
  pub reacts : (s : ExtenderState) → s.tables ≡ t → react (Arrives from f) s ≡ (s, out_sent f out ∷ [])
  pub given : CanBeGiven f out.form
  pub low : IsLow out.to
