-- An extender at rest: of a beat it counts that it came, and does nothing else.
use Rattle.std.specs.Prelude.{ℕ, ◌+◌, ◌%◌, ◌&&◌, Bool, if◌then◌else◌, is_none}
use Rattle.exb_extender.specs.Machine.{ExtenderState}

-- it was opened, and sends nothing that waits for an acknowledgement
abbrev pub rests : ExtenderState → Bool
rests s = s.opened && is_none s.ecp.sending

-- so many beats pass at one that rests; any other stays as it is
unfoldable pub rested : ℕ → ExtenderState → ExtenderState
rested beats s = if rests s then record s { beats = (s.beats + beats) % 16 } else s
