-- The world of the machine for which the parts of a network stand, and how they make its steps.
use Rattle.exb_world_spec.specs.Worlds.{World}
use Rattle.exb_world_spec.specs.Effects.{Effect}
use Rattle.exb_outbox.specs.declared.log.Log.{Log}
use Rattle.exb_bridge.specs.TreeIndexes.{Site}
use Rattle.exb_bridge.specs.BridgeWorlds.{Rest, Whole, whole, world_in as world_of_parts, IsAt as AreAt, Does as Do}
use Rattle.exb_world.specs.declared.parts.WorldParts.{WorldParts}

-- what the bridge doesn't see of it
abbrev pub rest_of : WorldParts → Rest
rest_of c = record { far = c.far; up = c.up; next = c.next; beats = c.beats }

-- all parts of it
abbrev pub whole_of : WorldParts → Whole
whole_of c = whole (rest_of c) c.bridge

abbrev pub world_in : WorldParts → World
world_in c = world_of_parts (whole_of c)

-- its parts are of this site
abbrev pub IsAt : Site → WorldParts → Type 0
IsAt s c = AreAt s (whole_of c)

-- an effect is done in it
abbrev pub Does : Effect → Site → WorldParts → Log → Log → Type 0
Does e s c old new = Do e s (whole_of c) old new
