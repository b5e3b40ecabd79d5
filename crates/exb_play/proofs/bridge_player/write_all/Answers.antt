use Rattle.std.proofs.Common.{List, [], All, sym, subst}
use Rattle.exb_outbox.specs.declared.log.Left.{Left}
use Rattle.exb_model.specs.declared.event.Event.{Event}
use Rattle.exb_model.specs.Traces.{TraceLine}
use Rattle.exb_outputs.proofs.UntouchedInputs.{reads-none}
use Rattle.exb_outputs.specs.SentFrames.{CanBeWritten}
use Rattle.exb_play.specs.Disks.{disk}
use Rattle.exb_play.specs.RunInvariants.{WritesTold}
use Rattle.exb_play.proofs.bridge_player.write_all.Goals as goal

pub write_told-requires-clause-frames : goal.write_told-requires-clause-frames
write_told-requires-clause-frames g c = subst (All (λ x. CanBeWritten c.args.manifest.now x)) (sym c.left.ensures) c.requires.frames

pub returns : goal.returns
returns g c =
    let S = g.S.Shelf in
    let P = λ (es : List Event) (xs : List Left) (ls : List TraceLine). WritesTold S.tells c.args.manifest.now (disk S c.args.shelf.now) (disk S c.write_told.new.shelf) c.args.outputs.now c.write_told.new.outputs es xs ls c.write_told.result in
    let has = c.write_told.ensures in
    let one : P c.events.result.now c.left.result.now c.trace.result.now = record {
      ready = has.ready;
      texts = has.texts;
      cut = has.cut;
      sent = has.sent;
      writes = record { plays = record { files = has.only.others; ids = reads-none [] (S.ids c.args.shelf.now) (S.ids c.write_told.new.shelf) has.only.kept; faults = has.faults.none_fell }; counts = has.faults.once };
    } in
    let log = c.args.world.now.log in
    subst (P log.events log.left) c.trace.ensures (subst (λ (xs : List Left). P log.events xs c.trace.result.now) c.left.ensures (subst (λ (es : List Event). P es c.left.result.now c.trace.result.now) c.events.ensures one))
