use Rattle.std.proofs.Common.{map}
use Rattle.exb_timeline.specs.CaptureMerges.{next_in}
use Rattle.exb_timeline.proofs.SourceTurns.{first_earliest}
use Rattle.exb_timeline.proofs.ListTurns.{none_left}
use Rattle.exb_timeline.proofs.capture_merge.CaptureMerge.moment.Goals as goal

pub first-requires : goal.first-requires
first-requires c = record { turns = (map next_in c.args.self.now.sources.items, c.requires.opened.1.turns) }

pub returns-in-Some : goal.returns-in-Some
returns-in-Some c =
    let xs = c.args.self.now.sources.items in
    first_earliest xs c.in-Some.moment c.in-Some.field-0-1 (c.in-Some.ensures.some (map next_in xs) c.requires.opened.1.turns)

pub returns-in-None : goal.returns-in-None
returns-in-None c =
    let xs = c.args.self.now.sources.items in
    none_left next_in xs (c.in-None.ensures.none (map next_in xs) c.requires.opened.1.turns)
