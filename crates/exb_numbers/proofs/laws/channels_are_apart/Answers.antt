use Rattle.exb_numbers.proofs.Uniqueness.{channel_range, channel_holder, channel_used, one_channel}
use Rattle.exb_numbers.proofs.laws.channels_are_apart.Goals as goal

pub returns : goal.returns
returns c = record { range = channel_range; holder = channel_holder; used = channel_used; one = one_channel }
