use Rattle.exb_timeline.specs.Timelines.{left_of}
use Rattle.exb_play.specs.Disks.{disk}
use Rattle.exb_play.specs.RunInvariants.{CanFeed, HasRead, HasTakenSecond}
use Rattle.exb_play.proofs.feed.Feed.take_second.Given as goal

abbrev pub invariant-second : goal.invariant-second
invariant-second g l =
    let S = g.S.Shelf in
    record {
      feed : CanFeed (disk S l.shelf) l.self;
      taken : HasTakenSecond S.tells l.fn.second (disk S l.fn.shelf) (disk S l.shelf) l.fn.self l.self;
      read : HasRead S.tells (disk S l.fn.shelf) l.fn.self.programme (disk S l.shelf) l.self.programme;
    }

abbrev pub decreases-second : goal.decreases-second
decreases-second g l = left_of l.self.programme
