-- What runs do, said of a network.
use Rattle.std.proofs.Common.{◌≡◌, ◌∙◌, ap, sym, subst, List, []}
use Rattle.std.specs.Prelude.{All}
use Rattle.exb_model.specs.declared.event.Event.{Event}
use Rattle.exb_model.specs.EagerHistory.{eager}
use Rattle.exb_model.specs.FlatBridge.{flat}
use Rattle.exb_model.specs.History.{◌then◌}
use Rattle.exb_model.specs.Input.{basis_of}
use Rattle.exb_model.specs.LegalHistory.{Legal}
use Rattle.exb_world_spec.specs.Worlds.{World, Left, left_at}
use Rattle.exb_world_spec.specs.Runs.PassedFrames.{passed_over}
use Rattle.exb_world_laws.specs.Runs.SegmentRuns.{IsCopyOfAny, IsUnderWay, HasWritten, HasWrittenIn, RunsAreUnderWay, RunsSayPassed, RunsWriteEagerly, RunsWriteLegally, arrivals_in}
use Rattle.exb_schedule.specs.SegmentLaws.{PlayedIsUnderWay, PlayedSaysPassed, PlayedWritesEagerly, PlayedWritesLegally}

pub played_is_under_way : RunsAreUnderWay → PlayedIsUnderWay
played_is_under_way law m i so_far n events passed left lines k =
    let u : IsUnderWay i so_far k.done = law m i so_far k.done k.plays in
    record {
      next = λ p. ap (λ (w : World). w.next p) k.world ∙ u.next p;
      commands = ap (λ (w : World). w.control.given) k.world ∙ u.commands;
      clock = ap (λ (w : World). w.table.clock) k.world ∙ u.clock;
      copies = subst (λ (xs : List Left). All (IsCopyOfAny i (arrivals_in so_far)) xs) (sym k.gone) u.copies;
    }

pub played_writes_eagerly : RunsWriteEagerly → PlayedWritesEagerly
played_writes_eagerly law i n events passed left lines timely k =
    let w : HasWritten i k.done = law i k.done timely k.plays in
    record {
      journal = subst (λ (es : List Event). ([] then es) ≡ eager i) (sym k.told) w.journal;
      captures = λ q there. subst (λ (xs : List Left). left_at q xs ≡ flat (basis_of i) (eager i) q) (sym k.gone) (w.captures q there);
    }

pub played_writes_legally : RunsWriteLegally → PlayedWritesLegally
played_writes_legally law m i n events passed left lines timely k =
    let w : HasWrittenIn m i k.done = law m i k.done timely k.plays in
    record {
      journal = subst (λ (es : List Event). Legal m i ([] then es)) (sym k.told) w.journal;
      captures = λ q there.
          subst (λ (xs : List Left). left_at q xs ≡ flat (basis_of i) ([] then events) q) (sym k.gone)
          (subst (λ (es : List Event). left_at q k.done.left ≡ flat (basis_of i) ([] then es) q) (sym k.told) (w.captures q there));
    }

pub played_says_passed : RunsSayPassed → PlayedSaysPassed
played_says_passed law m i n events passed left lines timely k = k.said ∙ (law m i k.done timely k.plays ∙ ap (λ (es : List Event). passed_over (basis_of i) [] es) (sym k.told))
