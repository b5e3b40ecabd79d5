use Rattle.std.proofs.Common.{List, ◌∷◌, drop, ap, arith}
use Rattle.std.proofs.lemmas.Result.{err_from_is_err_and}
use Rattle.exb_model.specs.declared.setup.Timed.{Timed}
use Rattle.exb_schedule.specs.SegmentRuns.{letters_in}
use Rattle.exb_inputs.proofs.Outcomes.{none_at, some_at}
use Rattle.exb_play.specs.Disks.{IsApart, disk}
use Rattle.exb_play.specs.BridgeRuns.{mode_of}
use Rattle.exb_play.proofs.RunSteps.{all-played, can-go-on, cut-reading}
use Rattle.exb_play.proofs.UntouchedFiles.{never-others}
use Rattle.exb_play.proofs.TakenEvents.{comes-commands, comes-fewer}
use Rattle.exb_play.proofs.DiskEffects.{gone-then, gone-writing, plays-broken, plays-read, plays-stopped, gathered-read, gone-reading}
use Rattle.exb_play.proofs.bridge_player.BridgePlayer.play_all.Goals as goal

pub go_on-requires-clause-gathered : goal.go_on-requires-clause-gathered
go_on-requires-clause-gathered g c =
    let S = g.S.Shelf in
    let inv = c.events.invariant in
    let got = some_at _ c.in_ok-second.field-0 c.in-Some.second c.in-Some.is c.in_ok-second.ensures.gathered in
    can-go-on _ _ _ _ _ inv.stands (disk S c.gather.new.shelf) c.gather.ensures.reads.reads c.in-Some.second _ c.gather.new.self got c.in_ok-second.ensures.feed.programme inv.taken

pub go_on-requires-clause-budget : goal.go_on-requires-clause-budget
go_on-requires-clause-budget g c =
    let got = some_at _ c.in_ok-second.field-0 c.in-Some.second c.in-Some.is c.in_ok-second.ensures.gathered in
    let commands = comes-commands c.events.feed.programme c.gather.new.self.programme (got.first ∷ got.more) got.comes in
    let same = ap (λ k. letters_in (drop k c.gather.new.self.programme.commands.now)) c.events.invariant.taken in
    let row = ap (λ (cs : List Timed). letters_in (drop c.events.feed.programme.taken cs)) commands in
    let low = c.events.invariant.budget in
    omega (arith, same, row, low)

pub events-preserved : goal.events-preserved
events-preserved g c =
    let S = g.S.Shelf in
    let inv = c.events.invariant in
    let got = some_at _ c.in_ok-second.field-0 c.in-Some.second c.in-Some.is c.in_ok-second.ensures.gathered in
    let read = gathered-read S.tells (mode_of c.args.schedule) (disk S c.events.shelf) (disk S c.gather.new.shelf) c.in-Some.second c.events.feed.programme c.gather.new.self got c.in_ok-second.field-0 c.in_ok-second.ensures.reads in
    record {
      stands = c.in_ok-go_on.ensures.stands;
      taken = c.taken-taken-in-Some.ensures;
      budget = c.in_ok-go_on.ensures.budget;
      gone =
          gone-then S.tells (IsApart c.args.manifest.now) _ _ _ _ _ inv.gone _
          (gone-writing S.tells c.args.manifest.now (disk S c.events.shelf) c.events.feed.programme (disk S c.gather.new.shelf) (disk S c.go_on.new.shelf) c.gather.new.self.programme c.in_ok-go_on.field-0 read c.in_ok-go_on.ensures.writes);
    }

pub events-smaller : goal.events-smaller
events-smaller g c =
    let got = some_at _ c.in_ok-second.field-0 c.in-Some.second c.in-Some.is c.in_ok-second.ensures.gathered in
    comes-fewer c.events.feed.programme c.gather.new.self.programme got.first got.more got.comes

-- ---- all was played
pub returns-clause-played : goal.returns-clause-played
returns-clause-played g c =
    all-played _ _ _ _ _ c.events.invariant.stands (disk g.S.Shelf c.gather.new.shelf) c.gather.ensures.reads.reads
    (λ t. none_at c.in_ok-second.field-0 c.in_default.is (c.in_ok-second.ensures.end t)) c.runs_are_few.ensures c.runs_are_under_way.ensures

pub returns-clause-plays : goal.returns-clause-plays
returns-clause-plays g c = plays-read _ _ _ _ _ _ _ c.events.invariant.gone c.in_ok-second.field-0 tt c.in_ok-second.ensures.reads

-- ---- captures couldn't be read on
pub returns-in_err-second-clause-cut : goal.returns-in_err-second-clause-cut
returns-in_err-second-clause-cut g c = λ t.
    let e = err_from_is_err_and c.from_residual.result c.from_residual.ensures.1 in
    rw e.1 (cut-reading _ _ _ _ _ c.events.invariant.stands (disk g.S.Shelf c.gather.new.shelf) c.gather.ensures.reads.reads t)

pub returns-in_err-second-clause-plays : goal.returns-in_err-second-clause-plays
returns-in_err-second-clause-plays g c =
    let e = err_from_is_err_and c.from_residual.result c.from_residual.ensures.1 in
    rw (e.1, e.2)
    (plays-stopped _ _ _ _ _ _ _ c.events.invariant.gone c.in_err-second.field-0.0 (never-others _ _ _ _ _ c.events.invariant.stands) c.in_err-second.ensures.reads)

-- ---- or what happened couldn't be played or written
pub returns-in_err-go_on-clause-cut : goal.returns-in_err-go_on-clause-cut
returns-in_err-go_on-clause-cut g c = λ t.
    let e = err_from_is_err_and c.from_residual-in_err-go_on.result c.from_residual-in_err-go_on.ensures.1 in
    rw e.1 (c.in_err-go_on.ensures.cut t)

pub returns-in_err-go_on-clause-plays : goal.returns-in_err-go_on-clause-plays
returns-in_err-go_on-clause-plays g c =
    let S = g.S.Shelf in
    let e = err_from_is_err_and c.from_residual-in_err-go_on.result c.from_residual-in_err-go_on.ensures.1 in
    let got = some_at _ c.in_ok-second.field-0 c.in-Some.second c.in-Some.is c.in_ok-second.ensures.gathered in
    let read = gathered-read S.tells (mode_of c.args.schedule) (disk S c.events.shelf) (disk S c.gather.new.shelf) c.in-Some.second c.events.feed.programme c.gather.new.self got c.in_ok-second.field-0 c.in_ok-second.ensures.reads in
    rw (e.1, e.2) (plays-broken _ _ _ _ _ _ _ (gone-then S.tells (IsApart c.args.manifest.now) _ _ _ _ _ c.events.invariant.gone _ (gone-reading S.tells c.args.manifest.now _ _ _ _ read)) c.in_err-go_on.field-0.0 c.in_err-go_on.ensures.writes)
