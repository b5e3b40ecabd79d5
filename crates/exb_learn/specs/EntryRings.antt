-- Entries whose slots stand in rings.
use Rattle.std.specs.Prelude.{◌≡◌, ◌≤◌, ◌<◌, ℕ, ◌+◌, ◌-◌, false, List, length, Option, Some, slice_get}
use Rattle.std.specs.List.{IsDistinct, position_or_len}
use Rattle.std.specs.Map.{keys_of, lookup}
use Rattle.exb_learn.specs.declared.key.StationKey.{StationKey}
use Rattle.exb_learn.specs.declared.entries.DynamicEntry.{DynamicEntry}
use Rattle.exb_learn.specs.Stations.{same, is_live, IsSince}
use Rattle.exb_learn.specs.RingLinks.{RingTable, links_of, room_of, IsLaid}

-- the entries, and for how many more there is room
pub record Stored : Type 0 where
  pub entries : List (StationKey × DynamicEntry)
  pub room : ℕ

-- the entry with this slot was seen no later than any other
pub record IsOldest (es : List (StationKey × DynamicEntry)) (slot : ℕ) : Type 0 where
  pub entry : StationKey × DynamicEntry
  pub there : slice_get es slot ≡ Some entry
  pub since : IsSince entry.1.at es

-- the entry with this slot was seen at a port
pub record IsSeenAt (es : List (StationKey × DynamicEntry)) (port slot : ℕ) : Type 0 where
  pub entry : StationKey × DynamicEntry
  pub there : slice_get es slot ≡ Some entry
  pub seen : entry.1.port ≡ port

-- the entry with this slot is dead
pub record IsDead (es : List (StationKey × DynamicEntry)) (clock ageing slot : ℕ) : Type 0 where
  pub entry : StationKey × DynamicEntry
  pub there : slice_get es slot ≡ Some entry
  pub dead : is_live clock ageing entry.1 ≡ false

-- All slots of these entries stand in one ring by age, and each in the ring of its port. There is room for so many.
pub record IsSlotted (es : List (StationKey × DynamicEntry)) (n : ℕ) (ages ports : RingTable) : Type 0 where
  pub one_ring : ages.heads ≡ 1
  pub port_rings : ports.heads ≡ 4160
  pub ages_fit : n ≤ room_of ages
  pub ports_fit : n ≤ room_of ports
  pub by_age : IsLaid ages.heads (links_of ages) es (λ p. 0) (λ p. p.at)
  pub by_port : IsLaid ports.heads (links_of ports) es (λ p. p.port) (λ p. 0)

-- a station of which this is known is put at a place, and has this slot then
pub record IsPutting (es : List (StationKey × DynamicEntry)) (s : StationKey) (n : ℕ) (ages ports : RingTable)
    (slot : ℕ) (known : Option DynamicEntry) (place : DynamicEntry) : Type 0 where
  pub slotted : IsSlotted es n ages ports
  pub slot_is : slot ≡ position_or_len (same s) (keys_of es)
  pub known_is : known ≡ lookup (same s) es
  pub less : slot < n
  pub within : length es ≤ n
  pub latest : (i : ℕ) (e : StationKey × DynamicEntry) → slice_get es i ≡ Some e → e.1.at ≤ place.at

-- the entry with this slot is taken out, where `last` is the slot of the last one
pub record IsRemoving (es : List (StationKey × DynamicEntry)) (n : ℕ) (ages ports : RingTable)
    (slot last : ℕ) : Type 0 where
  pub slotted : IsSlotted es n ages ports
  pub less : slot < length es
  pub within : length es ≤ n
  pub last_is : last ≡ length es - 1

-- What holds of what is kept: no station stands twice, there is room for so many more, and all slots stand in their
-- rings.
pub record IsStored (es : List (StationKey × DynamicEntry)) (room spare : ℕ) (ages ports : RingTable) : Type 0 where
  pub once : IsDistinct same (keys_of es)
  pub fits : room ≤ spare
  pub slotted : IsSlotted es (length es + room) ages ports
