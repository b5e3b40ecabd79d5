use Rattle.std.proofs.Common.{◌≡◌, ◌<◌, ◌+◌, ◌^◌, drop}
use Rattle.exb_timeline.specs.Timelines.{left_of}
use Rattle.exb_schedule.specs.SegmentRuns.{letters_in}
use Rattle.exb_play.specs.Disks.{IsApart, disk}
use Rattle.exb_play.specs.BridgeRuns.{player}
use Rattle.exb_play.specs.RunInvariants.{HasGone, Stands}
use Rattle.exb_play.proofs.bridge_player.BridgePlayer.play_all.Given as goal

abbrev pub invariant-events : goal.invariant-events
invariant-events g l =
    let S = g.S.Shelf in
    record {
      stands : Stands S.tells g.R.OfRun.run (player l.schedule l.manifest l.self.world l.self.counted l.self.outputs (disk S l.shelf)) l.last l.feed.programme;
      taken : l.taken ≡ l.feed.programme.taken;
      budget : (goal.Fate-dyn g (l.self.fate.vtable, l.self.fate.value)).left l.self.fate.value + letters_in (drop l.feed.programme.taken l.feed.programme.commands.now) < 2 ^ 57;
      gone : HasGone S.tells (IsApart l.manifest) (disk S l.fn.shelf) l.fn.feed.programme (disk S l.shelf) l.feed.programme;
    }

abbrev pub decreases-events : goal.decreases-events
decreases-events g l = left_of l.feed.programme
