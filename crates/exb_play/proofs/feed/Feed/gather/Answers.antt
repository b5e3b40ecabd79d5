use Rattle.std.proofs.Common.{◌≡◌, [], ◌∷◌, ap, sym, ◌∙◌}
use Rattle.std.proofs.lemmas.Result.{err_from_is_err_and}
use Rattle.exb_model.specs.Input.{Eager, Seeded}
use Rattle.exb_inputs.proofs.Outcomes.{some_at}
use Rattle.exb_play.specs.Disks.{disk}
use Rattle.exb_play.specs.BridgeRuns.{mode_of}
use Rattle.exb_play.proofs.GatheredSeconds.{gathers-all, gathers-alone}
use Rattle.exb_play.proofs.DiskEffects.{reads-err, reads-ok, taken-read}
use Rattle.exb_play.proofs.feed.Feed.gather.Goals as goal

pub returns-in-Eager-clause-gathered : goal.returns-in-Eager-clause-gathered
returns-in-Eager-clause-gathered g c =
    let S = g.S.Shelf in
    let one = some_at _ c.in_ok-second.field-0 c.in-Some.second c.in-Some.is c.in_ok-second.ensures.taken in
    gathers-alone S.tells (mode_of c.args.schedule) (disk S c.args.shelf.now) (disk S c.take_first.new.shelf) c.in-Some.second _ c.take_first.new.self one c.begin-buffer.ensures
    (λ seeded. let differ : Eager ≡ Seeded = sym (ap mode_of c.in-Eager.is) ∙ seeded in cc)

pub returns-in_ok-take_second-in-Seeded-clause-gathered : goal.returns-in_ok-take_second-in-Seeded-clause-gathered
returns-in_ok-take_second-in-Seeded-clause-gathered g c =
    let S = g.S.Shelf in
    let one = some_at _ c.in_ok-second.field-0 c.in-Some.second c.in-Some.is c.in_ok-second.ensures.taken in
    gathers-all S.tells (mode_of c.args.schedule) (disk S c.args.shelf.now) (disk S c.take_first.new.shelf) (disk S c.take_second.new.shelf) c.in-Some.second _ c.take_first.new.self c.take_second.new.self one
    c.begin-buffer.ensures c.in_ok-take_second-in-Seeded.ensures.taken c.in_ok-take_second-in-Seeded.ensures.end
    (λ eager. let differ : Seeded ≡ Eager = sym (ap mode_of c.in-Seeded.is) ∙ eager in cc)

pub returns-in_ok-take_second-in-Seeded-clause-reads : goal.returns-in_ok-take_second-in-Seeded-clause-reads
returns-in_ok-take_second-in-Seeded-clause-reads g c =
    let one = some_at _ c.in_ok-second.field-0 c.in-Some.second c.in-Some.is c.in_ok-second.ensures.taken in
    reads-ok _ _ _ _ _ _ (taken-read _ _ _ _ (one.d ∷ []) _ c.in_ok-second.field-0 one.has c.in_ok-second.ensures.reads) c.in_ok-take_second-in-Seeded.field-0 _ c.in_ok-take_second-in-Seeded.ensures.reads

pub returns-in_err-take_second-in-Seeded-clause-reads : goal.returns-in_err-take_second-in-Seeded-clause-reads
returns-in_err-take_second-in-Seeded-clause-reads g c =
    let e = err_from_is_err_and c.from_residual-in_err-take_second-in-Seeded.result c.from_residual-in_err-take_second-in-Seeded.ensures.1 in
    let one = some_at _ c.in_ok-second.field-0 c.in-Some.second c.in-Some.is c.in_ok-second.ensures.taken in
    rw (e.1, e.2) (reads-err _ _ _ _ _ _ (taken-read _ _ _ _ (one.d ∷ []) _ c.in_ok-second.field-0 one.has c.in_ok-second.ensures.reads) c.in_err-take_second-in-Seeded.field-0.0 c.in_err-take_second-in-Seeded.ensures.reads)
