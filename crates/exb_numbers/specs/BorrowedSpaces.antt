-- What the spaces are once what was lent of them has come back.
use Rattle.std.specs.Prelude.{ℕ, List, Option}
use Rattle.std.specs.Borrow.{Lends, MutBor, Fml}
use Rattle.exb_numbers.specs.contracts.spaces.Spaces.{the_row as spaces_row}
use Rattle.exb_numbers.specs.contracts.channels.Channels.{the_row as channels_row}
use Rattle.exb_numbers.specs.contracts.groups.Groups.{the_row as groups_row}
use Rattle.exb_numbers.specs.Groups.{Groups}
use Rattle.exb_numbers.specs.Spaces.{Spaces, with_channels, with_groups}

abbrev pub LendsChannels : MutBor Spaces → ℕ → MutBor (List (Option ℕ)) → Fml
LendsChannels s k r = Lends spaces_row channels_row s r (with_channels s.now k)

abbrev pub LendsGroups : MutBor Spaces → ℕ → MutBor Groups → Fml
LendsGroups s k r = Lends spaces_row groups_row s r (with_groups s.now k)
