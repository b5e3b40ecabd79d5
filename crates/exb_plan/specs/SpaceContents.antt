-- The spaces as what is held in them.
use Rattle.std.specs.Prelude.{◌≡◌, ℕ, ◌+◌, ◌&&◌, true, length, nat_lt}
use Rattle.exb_model.specs.Tree.{Shape, is_cascade}
use Rattle.exb_model.specs.Setup.{Limits}
use Rattle.exb_numbers.specs.Channels.{holder}
use Rattle.exb_numbers.specs.Groups.{set_of}
use Rattle.exb_numbers.specs.Spaces.{Spaces, has_space, channels_at, groups_at}
use Rattle.exb_control_spec.specs.Plans.HeldNumbers.{Held}

-- the port of each channel, and the set of each group
abbrev pub held_by : Spaces → Held
held_by v = record { port = λ k c. holder (channels_at v k) c; set = λ k g. set_of (groups_at v k) g }

-- just the cascade ports of the bridge have spaces, each with so many numbers
pub record HasSpaces (t : Shape) (l : Limits) (v : Spaces) : Type 0 where
  pub spaces : (k : ℕ) → has_space v k ≡ (nat_lt k 64 && is_cascade t k)
  pub channels : (k : ℕ) → has_space v k ≡ true → length (channels_at v k) ≡ l.channels + 1
  pub groups : (k : ℕ) → has_space v k ≡ true → (groups_at v k).limit ≡ l.groups
