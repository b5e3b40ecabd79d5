use Rattle.std.proofs.Common.{refl, [], ◌∷◌}
use Rattle.std.proofs.lemmas.Result.{err_from_is_err_and}
use Rattle.exb_timeline.specs.CaptureMerges.{ids_in}
use Rattle.exb_outputs.proofs.UntouchedInputs.{replays-read}
use Rattle.exb_play.specs.Disks.{disk}
use Rattle.exb_play.proofs.GatheredSeconds.{gathers-more, gathers-same}
use Rattle.exb_play.proofs.DiskEffects.{read-then, reads-err, reads-ok, taken-read}
use Rattle.exb_play.proofs.feed.Feed.take_second.Goals as goal

pub second-preserved : goal.second-preserved
second-preserved g c =
    let S = g.S.Shelf in
    let inv = c.second.invariant in
    let one = c.in_ok-take_within.ensures.taken c.if-branch.true in
    let next = taken-read S.tells (disk S c.second.shelf) (disk S c.take_within.new.shelf) c.second.self (one.d ∷ []) c.take_within.new.self c.in_ok-take_within.field-0 one.has c.in_ok-take_within.ensures.reads in
    record {
      feed = c.in_ok-take_within.ensures.feed;
      taken = gathers-more S.tells c.args.second (disk S c.args.shelf.now) (disk S c.second.shelf) (disk S c.take_within.new.shelf) c.args.self.now c.second.self c.take_within.new.self inv.taken one;
      read = read-then S.tells _ _ _ _ _ _ inv.read next;
    }

pub returns-clause-taken : goal.returns-clause-taken
returns-clause-taken g c =
    let S = g.S.Shelf in
    let inv = c.second.invariant in
    let (programme, gathered) = c.in_ok-take_within.ensures.same c.if-branch.false in
    gathers-same S.tells c.args.second (disk S c.args.shelf.now) (disk S c.second.shelf) (disk S c.take_within.new.shelf) c.args.self.now c.second.self c.take_within.new.self inv.taken programme gathered
    (λ t streams replays. (
      streams,
      refl,
      replays-read (S.file c.second.shelf) (S.file c.take_within.new.shelf) (S.ids c.second.shelf) (S.ids c.take_within.new.shelf) (ids_in c.second.self.programme.captures) c.second.self.programme.captures.sources.items
          streams inv.feed.programme.opened.each (record { files = λ n. c.take_within.ensures.reads.reads.files tt n tt; reads = c.take_within.ensures.reads.reads.ids }) replays,
    ))

pub returns-clause-reads : goal.returns-clause-reads
returns-clause-reads g c = reads-ok _ _ _ _ _ _ c.second.invariant.read c.in_ok-take_within.field-0 tt c.in_ok-take_within.ensures.reads

pub returns-in_err-take_within-clause-reads : goal.returns-in_err-take_within-clause-reads
returns-in_err-take_within-clause-reads g c =
    let e = err_from_is_err_and c.from_residual.result c.from_residual.ensures.1 in
    rw (e.1, e.2) (reads-err _ _ _ _ _ _ c.second.invariant.read c.in_err-take_within.field-0.0 c.in_err-take_within.ensures.reads)
