-- Which steps may be made, and when a world is settled.
use Rattle.std.specs.Prelude.{◌≡◌, ℕ, ◌+◌, ◌<◌, ◌≤◌, ◌^◌, true, [], length, filter, None, ⊤}
use Rattle.exb_model.specs.Tree.{Shape, is_extender, is_external}
use Rattle.exb_model.specs.Setup.{NamesExternal}
use Rattle.exb_link.specs.LinkFrames.{is_control, is_data, leading}
use Rattle.exb_world_spec.specs.Worlds.{World, Step, Arrive, Carry, Control, Lose, Beat, Tick, Order, Mark}
use Rattle.exb_world_spec.specs.Steps.{words_on}

-- The queue is empty and no change is at work, all links are empty, and every end of the transport is idle.
pub record IsSettled (t : Shape) (w : World) : Type 0 where
  pub queue : w.control.queue ≡ []
  pub work : w.control.work ≡ None
  pub near : (n : ℕ) → is_extender t n ≡ true → (w.near n).sending ≡ None
  pub far : (n : ℕ) → is_extender t n ≡ true → (w.far n).ecp.sending ≡ None
  pub down : (n : ℕ) → is_extender t n ≡ true → w.down n ≡ []
  pub up : (n : ℕ) → is_extender t n ≡ true → w.up n ≡ []

-- The frame comes at an external port, with the port's next index, and isn't too long.
pub record MayArrive (t : Shape) (w : World) (port index size : ℕ) : Type 0 where
  pub external : is_external t port ≡ true
  pub next : index ≡ w.next port
  pub few : index < 2 ^ 63
  pub short : size ≤ 262144

-- By exactly these rules a step may be made. Bytes are bytes by the type of the code's frames.
abbrev pub Can : Shape → World → Step → Type 0
Can t w (Arrive a) = MayArrive t w a.port a.index (length a.bytes)
Can t w (Carry n way) = (is_extender t n ≡ true) × (0 < length (filter is_data (words_on n way w)))
Can t w (Control n way k keep) = (is_extender t n ≡ true) × (k < leading (words_on n way w))
Can t w (Lose n way k) = (is_extender t n ≡ true) × (k < length (filter is_control (words_on n way w)))
Can t w Beat = ⊤
Can t w (Tick seconds) = (1 ≤ seconds) × (w.table.clock + seconds < 2 ^ 63)
Can t w (Order c) = NamesExternal t c × (w.control.given < 65536)
Can t w Mark = IsSettled t w
