-- The laws of this crate.
use Rattle.std.specs.Prelude.{◌≡◌, ◌≢◌, ◌↔◌, ◌⊎◌, ℕ, ◌<◌, ◌≤◌, ◌++◌, Bool, true, List, [], ◌∷◌, length, All}
use Rattle.exb_model.specs.ExtenderForwarding.{emits}
use Rattle.exb_csp.specs.declared.group_rows.GroupRow.{GroupRow}
use Rattle.exb_csp.specs.declared.message.Request.TheVariants.{PortCreate, PortDelete, Register, Unregister, RegisterMany}
use Rattle.exb_csp.specs.Execution.{ExtenderTables, in_mask, code_of, row_code}
use Rattle.exb_model.specs.Frames.{IsBytes}
use Rattle.exb_csp.specs.AllTables.{tables_at, port_of}
use Rattle.exb_extender.specs.declared.sends.Side.TheVariants.{Up}
use Rattle.exb_extender.specs.Forwarding.{Sent, is_bare_control, forwarding_of}
use Rattle.exb_extender.specs.IdleExtender.{rests, rested}
use Rattle.exb_extender.specs.Machine.{hears, beats, ExtenderState, Input, Arrives, Beats, react, IsSameDevice, IsExtender, at_power_on}

-- What an extender sends at a port of a frame from upstream is what the tables of all extenders say of that port.
abbrev pub EmitsOfAll : Type 0
EmitsOfAll =
    (all : ℕ → ExtenderTables) (n port : ℕ) (f : List ℕ) → 0 < port → port ≤ 64
    → emits (tables_at all) (port_of n port) f ≡ emits (forwarding_of (all n)) port f

-- ---- codes

abbrev pub IsPortOf : ExtenderTables → ℕ → Type 0
IsPortOf t port = (0 < port) × (port ≤ t.ports)

abbrev pub IsChannel : ℕ → Type 0
IsChannel e = (0 < e) × (e < 4095)

-- a channel or the number of a group
abbrev pub IsEcid : ℕ → Type 0
IsEcid e = IsChannel e ⊎ ((0x1000 ≤ e) × (e < 0x4000))

abbrev pub HasPair : ExtenderTables → ℕ → Type 0
HasPair t e = (port : ℕ) × (0 < port) × (port ≤ 64) × (t.pair e port ≡ true)

-- a bit's port is above the count or has no channel
abbrev pub HasStray : ExtenderTables → ℕ → Type 0
HasStray t mask = (port : ℕ) × (0 < port) × (port ≤ 64) × (in_mask mask port ≡ true)
    × ((t.ports < port) ⊎ (t.own port ≡ 0))

pub record CreateCodes (t : ExtenderTables) (port : ℕ) (kind : Bool) (channel : ℕ) : Type 0 where
  pub one : (code_of t (PortCreate port kind channel) ≡ 1) ↔ (¬ IsPortOf t port)
  pub two : (code_of t (PortCreate port kind channel) ≡ 2) ↔ (IsPortOf t port × (¬ IsChannel channel))
  pub three : (code_of t (PortCreate port kind channel) ≡ 3)
      ↔ (IsPortOf t port × IsChannel channel × ((0 < t.own port) ⊎ HasPair t channel))

pub record DeleteCodes (t : ExtenderTables) (port : ℕ) : Type 0 where
  pub one : (code_of t (PortDelete port) ≡ 1) ↔ (¬ IsPortOf t port)
  pub never : (code_of t (PortDelete port) ≢ 2) × (code_of t (PortDelete port) ≢ 3)

pub record RegisterCodes (t : ExtenderTables) (ecid mask : ℕ) : Type 0 where
  pub two : (code_of t (Register ecid mask) ≡ 2) ↔ (¬ IsEcid ecid)
  pub one : (code_of t (Register ecid mask) ≡ 1) ↔ (IsEcid ecid × HasStray t mask)
  pub three : (code_of t (Register ecid mask) ≡ 3) ↔ (IsEcid ecid × (¬ HasStray t mask) × HasPair t ecid)

pub record UnregisterCodes (t : ExtenderTables) (ecid : ℕ) : Type 0 where
  pub two : (code_of t (Unregister ecid) ≡ 2) ↔ (¬ IsEcid ecid)
  pub never : (code_of t (Unregister ecid) ≢ 1) × (code_of t (Unregister ecid) ≢ 3)

-- Each code comes exactly where the port, the channel or E-CID, or the pairs are so.
pub record CodesExactly : Type 0 where
  pub create : (t : ExtenderTables) (port : ℕ) (kind : Bool) (channel : ℕ) → CreateCodes t port kind channel
  pub delete : (t : ExtenderTables) (port : ℕ) → DeleteCodes t port
  pub register : (t : ExtenderTables) (ecid mask : ℕ) → RegisterCodes t ecid mask
  pub unregister : (t : ExtenderTables) (ecid : ℕ) → UnregisterCodes t ecid

-- the first row with another code than 0, after rows with code 0
pub record IsFirstBad (t : ExtenderTables) (rows before after : List GroupRow) (row : GroupRow)
    (code : ℕ) : Type 0 where
  pub split : rows ≡ before ++ row ∷ after
  pub good : code_of t (RegisterMany before) ≡ 0
  pub bad : row_code t before row.ecid row.mask ≡ code

-- RegisterMany has another code than 0 exactly where a first row has it; the E-CIDs of the rows before it count as ones
-- that have a pair.
abbrev pub ManyCodes : Type 0
ManyCodes =
    (t : ExtenderTables) (rows : List GroupRow) (code : ℕ) → code ≢ 0
    → (code_of t (RegisterMany rows) ≡ code) ↔ ((before : List GroupRow) × (row : GroupRow) × (after : List GroupRow)
    × IsFirstBad t rows before after row code)

-- ---- the machine

-- the bytes of a frame
abbrev pub IsInput : Input → Type 0
IsInput (Arrives side f) = IsBytes f
IsInput Beats = Unit {0}

-- What holds of an extender at power-on, and is kept by each reaction; its number and its ports stay.
pub record StaysExtender : Type 0 where
  pub begins : (number ports : ℕ) → 1 ≤ number → number ≤ 64 → 1 ≤ ports → ports ≤ 64
      → IsExtender (at_power_on number ports)
  pub keeps : (i : Input) (s : ExtenderState) → IsInput i → IsExtender s → IsExtender (react i s).0
  pub device : (i : Input) (s : ExtenderState) → IsSameDevice s (react i s).0

-- At an extender that rests a beat is counted and nothing is sent, and it goes on resting.
pub record RestsThroughBeats : Type 0 where
  pub beat : (s : ExtenderState) → rests s ≡ true → s.beats < 16 → beats s ≡ (rested 1 s, [])
  pub goes_on : (n : ℕ) (s : ExtenderState) → rests (rested n s) ≡ rests s

-- ---- the extender's own frames

-- a frame that goes up: a control frame without an E-TAG, for which one buffer has room
pub record IsOwnFrame (x : Sent) : Type 0 where
  pub side : x.side ≡ Up
  pub control : is_bare_control x.bytes ≡ true
  pub few : length x.bytes ≤ 1100

-- What an extender sends of its own is such a frame: acknowledgements and answers where it hears a control
-- frame, and at a beat announcements and answers again.
pub record SendsControl : Type 0 where
  pub hears : (f : List ℕ) (s : ExtenderState) → IsExtender s → All IsOwnFrame (hears f s).1
  pub beats : (s : ExtenderState) → IsExtender s → All IsOwnFrame (beats s).1
