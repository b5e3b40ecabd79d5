use Rattle.std.proofs.Common.{◌≡◌, ℕ, Bool, List, [], length, ap, sym, subst, ◌∙◌, arith}
use Rattle.std.proofs.lemmas.Result.{err_from_is_err_and}
use Rattle.exb_model.specs.declared.event.Event.{Event}
use Rattle.exb_model.specs.Texts.{with_left}
use Rattle.exb_outbox.specs.declared.log.Left.{Left}
use Rattle.exb_bridge.specs.BridgeWorlds.{all_left}
use Rattle.exb_world_spec.specs.Worlds.{left_at}
use Rattle.exb_outputs.specs.WrittenTexts.{pieces_of}
use Rattle.exb_outputs.proofs.OutputPrefixes.{cut_same}
use Rattle.exb_outputs.proofs.WrittenTexts.{kinds_same}
use Rattle.exb_outputs.proofs.CaptureSizes.{sent_as}
use Rattle.exb_journal.specs.Tallies.{counts_of}
use Rattle.exb_outputs.proofs.HistoryCounts.{count_events}
use Rattle.exb_outputs.specs.Counts.{CanCount, CountsOn}
use Rattle.exb_outputs.specs.SentFrames.{sent_with}
use Rattle.exb_outputs.proofs.PortCounts.{counted-on}
use Rattle.exb_net.specs.WrittenOutputs.{text_of}
use Rattle.exb_net.proofs.OutputUpdates.{counted-as, fronts_cut, goes-on, left-on, own_texts, text-on}
use Rattle.exb_net.proofs.bridge_outputs.note.Goals as goal

pub note-requires : goal.note-requires
note-requires g c =
    let n = c.args.world.now in
    let counted = c.args.desk.now.counted in
    let count : ℕ = c.count_left.result in
    let same : length (all_left n.log.left) ≡ count = sym (c.count_left.ensures ∙ ap (λ (xs : List Left). length (all_left xs)) c.left.ensures) in
    subst (λ (es : List Event). CanCount counted es c.passed.result.now count) (sym c.events.ensures)
    (subst (λ (bs : List Bool). CanCount counted n.log.events bs count) (sym c.passed.ensures)
    (subst (λ (k : ℕ). CanCount counted n.log.events n.log.passed k) same c.requires.can.can))

pub overflow_cast-count_left : goal.overflow_cast-count_left
overflow_cast-count_left g c =
    let fits = c.requires.can.can.tally.left in
    let same = c.count_left.ensures ∙ ap (λ (xs : List Left). length (all_left xs)) c.left.ensures in
    omega (arith, fits, same)

pub returns-clause-noted : goal.returns-clause-noted
returns-clause-noted g c told done together more is =
    let desk = c.args.desk.now in
    let manifest = desk.manifest in
    let n = c.args.world.now in
    let old = g.S.Shelf.file c.args.shelf.now in
    let new = g.S.Shelf.file c.write_new.new.shelf in
    let outputs = c.write_new.new.outputs in
    let counts = counts_of desk.counted.tally in
    let tally : counts_of c.note.new.self.tally ≡ with_left (length (all_left n.log.left)) (count_events counts n.log.events) =
    c.note.ensures.tally
    ∙ ap (λ (es : List Event). with_left c.count_left.result (count_events counts es)) c.events.ensures
    ∙ ap (λ (k : ℕ). with_left k (count_events counts n.log.events)) (c.count_left.ensures ∙ ap (λ (xs : List Left). length (all_left xs)) c.left.ensures) in
    let ports : CountsOn desk.counted.ports c.note.new.self.ports n.log.events n.log.passed =
    subst (λ (bs : List Bool). CountsOn desk.counted.ports c.note.new.self.ports n.log.events bs) c.passed.ensures
    (subst (λ (es : List Event). CountsOn desk.counted.ports c.note.new.self.ports es c.passed.result.now) c.events.ensures c.note.ensures.ports) in
    record {
      counted = counted-as told done n more manifest c.note.new.self
          (counted-on manifest desk.counted c.note.new.self told.events n.log.events told.passed n.log.passed told.left n.log.left tally ports together is.counted);
      texts = λ t.
          own_texts manifest (pieces_of outputs) old new (text_of done [])
          (kinds_same manifest old new (pieces_of outputs) _ (text_of done []) (text-on told done n more) (c.in_ok-write_new.ensures.texts t old (text_of told []) (is.texts t)));
      sent = sent_as manifest outputs (sent_with (λ q. left_at q told.left) n.log.left) (λ q. left_at q done.left) (left-on told done n more) (c.in_ok-write_new.ensures.sent (λ q. left_at q told.left) is.sent);
    }

pub returns-in_err-write_new-clause-cut : goal.returns-in_err-write_new-clause-cut
returns-in_err-write_new-clause-cut g c = λ t.
    let e = err_from_is_err_and c.from_residual.result c.from_residual.ensures.1 in
    rw e.1
    (λ told done more is.
    let manifest = c.args.desk.now.manifest in
    let old = g.S.Shelf.file c.args.shelf.now in
    let new = g.S.Shelf.file c.write_new.new.shelf in
    let n = c.args.world.now in
    record {
      counts = [];
      each = fronts_cut manifest (pieces_of c.args.desk.now.outputs) old new (text_of told []) (text_of done []) (goes-on told done n more) (is.texts t)
          (cut_same manifest old new _ (text_of done []) (text-on told done n more) (c.in_err-write_new.ensures.cut t old (text_of told []) (is.texts t)));
    })
