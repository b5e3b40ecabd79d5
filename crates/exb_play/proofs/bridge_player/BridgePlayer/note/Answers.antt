use Rattle.std.proofs.Common.{◌≡◌, ℕ, Bool, List, length, ap, sym, subst, ◌∙◌, arith, rules}
use Rattle.exb_model.specs.declared.event.Event.{Event}
use Rattle.exb_model.specs.Texts.{with_left}
use Rattle.exb_outbox.specs.declared.log.Left.{Left}
use Rattle.exb_bridge.specs.BridgeWorlds.{all_left}
use Rattle.exb_journal.specs.Tallies.{counts_of}
use Rattle.exb_outputs.specs.Counts.{CanCount}
use Rattle.exb_outputs.proofs.HistoryCounts.{count_events}
use Rattle.exb_play.proofs.bridge_player.BridgePlayer.note.Goals as goal

pub note-requires : goal.note-requires
note-requires g c =
    let n = c.args.self.now.world in
    let counted = c.args.self.now.counted in
    let count : ℕ = c.count_left.result in
    let same : length (all_left n.log.left) ≡ count = sym (c.count_left.ensures ∙ ap (λ (xs : List Left). length (all_left xs)) c.left.ensures) in
    subst (λ (es : List Event). CanCount counted es c.passed.result.now count) (sym c.events.ensures)
    (subst (λ (bs : List Bool). CanCount counted n.log.events bs count) (sym c.passed.ensures)
    (subst (λ (k : ℕ). CanCount counted n.log.events n.log.passed k) same c.requires.can))

pub overflow_cast-count_left : goal.overflow_cast-count_left
overflow_cast-count_left g c =
    let fits = c.requires.can.tally.left in
    let same = c.count_left.ensures ∙ ap (λ (xs : List Left). length (all_left xs)) c.left.ensures in
    omega (arith, fits, same)

pub returns-clause-counts : goal.returns-clause-counts
returns-clause-counts g c =
    let n = c.args.self.now.world in
    let counts = counts_of c.args.self.now.counted.tally in
    record {
      tally =
          c.note.ensures.tally ∙ ap (λ (es : List Event). with_left c.count_left.result (count_events counts es)) c.events.ensures
          ∙ ap (λ (k : ℕ). with_left k (count_events counts n.log.events)) (c.count_left.ensures ∙ ap (λ (xs : List Left). length (all_left xs)) c.left.ensures);
      ports = search rules;
    }
