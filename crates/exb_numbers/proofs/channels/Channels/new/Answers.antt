use Rattle.exb_numbers.proofs.ChannelTables.{first_kept}
use Rattle.exb_numbers.proofs.channels.Channels.new.Goals as goal

pub invariant_of-result : goal.invariant_of-result
invariant_of-result c = rw (c.in_ok-no_ports.ensures, c.in_ok-no_channels.ensures) (first_kept c.args.limit c.requires)
