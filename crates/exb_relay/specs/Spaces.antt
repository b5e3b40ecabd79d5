-- The numbers that the bridge's spaces give, and what a bridge has to have for its relay.
use Rattle.std.specs.Prelude.{◌≡◌, ℕ, ◌<◌, true}
use Rattle.exb_model.specs.Tree.{Shape, is_cascade, is_external}
use Rattle.exb_model.specs.Configuration.{Bridge}
use Rattle.exb_numbers.specs.Channels.{channel_of}
use Rattle.exb_numbers.specs.Groups.{group_of}
use Rattle.exb_numbers.specs.Spaces.{Spaces, has_space, channels_at, groups_at}
use Rattle.exb_model.specs.Numbers.{Numbers}

abbrev pub numbers_of : Spaces → Numbers
numbers_of s = record { channel = λ k q. channel_of (channels_at s k) q; group = λ k set. group_of (groups_at s k) set }

-- each cascade port of the bridge has a space
abbrev pub HasSpaces : Shape → Spaces → Type 0
HasSpaces t s = (k : ℕ) → k < 64 → is_cascade t k ≡ true → has_space s k ≡ true

-- each present port is an external port of the tree
abbrev pub AreExternal : Shape → Bridge → Type 0
AreExternal t b = (q : ℕ) → b.present q ≡ true → is_external t q ≡ true
