-- A game of the code as a player.
use Rattle.exb_outputs.specs.Manifests.{Listed}
use Rattle.exb_play.specs.Disks.{Disk}
use Rattle.exb_play.specs.BridgeRuns.{Player, player}
use Rattle.exb_play.specs.declared.bridge_player.BridgePlayer.{BridgePlayer}
use Rattle.exb_play.specs.declared.script.Schedule.{Schedule}

abbrev pub here : {V : Type 0} {X : V → Type 0} → Schedule → Listed → BridgePlayer V X → Disk → Player
here schedule manifest g d = player schedule manifest g.world g.counted g.outputs d
