use Rattle.std.proofs.Common.{◌≡◌, take}
use Rattle.exb_journal.specs.Tallies.{counts_of}
use Rattle.exb_net.specs.WrittenOutputs.{tallies_in}
use Rattle.exb_net.specs.Summaries.{added}
use Rattle.exb_net.proofs.net_player.count_all.Given as goal

abbrev pub invariant-loop-desk : goal.invariant-loop-desk
invariant-loop-desk l = counts_of l.total ≡ added (tallies_in (take l.desk-index l.desks))
