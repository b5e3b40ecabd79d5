-- The configuration in force has its numbers at every moment.
use Rattle.std.proofs.Common.{◌≡◌, ℕ, Option, Some, None, refl, sym, ◌∙◌, ap, subst, eq-eqb}
use Rattle.exb_model.specs.Configuration.{Bridge}
use Rattle.exb_model.specs.Numbers.{IsReady}
use Rattle.exb_control_spec.specs.Plans.HeldNumbers.{numbers_in}
use Rattle.exb_csp.specs.declared.message.Response.{Response}
use Rattle.exb_csp.specs.declared.session.asker.Taken.{Taken}
use Rattle.exb_csp.specs.Sessions.AskingEnd.{AskerState}
use Rattle.exb_control_spec.proofs.Plans.GroupOwners.{IsGroupOf, group_found}
use Rattle.exb_control_spec.proofs.Plans.ChannelOwners.{IsChannelOf, channel_found}
use Rattle.exb_control_spec.specs.declared.job.Phase.{Phase}
use Rattle.exb_control_spec.specs.declared.job.Phase.TheVariants.{Preparing, Cleaning}
use Rattle.exb_control_spec.specs.Machine.{Work}
use Rattle.exb_control_spec.specs.Runs.MachineInvariant.{waited_for, IsBefore, StandsBy, Works}
use Rattle.exb_control_spec.specs.Runs.PlannedChanges.{planning, ReadyMidway, AnswersAreTaken, HeldAreNumbers}
use Rattle.exb_control_spec.proofs.Runs.AskerAnswers.{takes}
use Rattle.exb_control_spec.proofs.Runs.BothConfigurations.{needed_numbers}
use Rattle.exb_control_spec.proofs.Plans.OptionalNumbers.{some_is}

pub ready_midway : ReadyMidway
ready_midway t y valid stands = by_work y.state.work stands.stands
  where
    by_work : (o : Option Work) → StandsBy (planning t) o y.state y.state.queue y.tables y.answer → IsReady t y.state.bridge (numbers_in y.state.held)
    by_work None h = needed_numbers t valid y.state.bridge y.state.held ((h.0).exact).needed ((h.0).exact).external
    by_work (Some w) h = by_phase w.phase h.bridge
      where
        by_phase : (f : Phase) → IsBefore f w.job h.old y.state.bridge → IsReady t y.state.bridge (numbers_in y.state.held)
        by_phase Preparing e = subst (λ (b : Bridge). IsReady t b (numbers_in y.state.held)) (sym e) (h.during).before
        by_phase Cleaning e = subst (λ (b : Bridge). IsReady t b (numbers_in y.state.held)) (sym e) (h.during).after

pub answers_are_taken : AnswersAreTaken
answers_are_taken t y w response stands e f =
    let h : Works (planning t) w y.state y.state.queue y.tables (Some response) =
    subst (λ (r : Option Response). Works (planning t) w y.state y.state.queue y.tables r) f (subst (λ (o : Option Work). StandsBy (planning t) o y.state y.state.queue y.tables y.answer) e stands.stands) in
    let n : ℕ = w.first.extender in
    let a : AskerState = y.state.askers n in
    let outstanding : a.waiting ≡ waited_for y.state.work n = stands.waits n in
    let asked : a.waiting ≡ Some w.first.request = rw (e, eq-eqb n n refl) at outstanding in
    (ap (λ (x : AskerState × Taken). x.1) (takes a w.first.request response asked (h.answers).0), (h.answers).1)

pub held_are_numbers : HeldAreNumbers
held_are_numbers h =
    record {
      some = λ k q c e. (let is : IsChannelOf h k q c = channel_found h k q c e in is.low);
      small = λ k q c e. (let is : IsChannelOf h k q c = channel_found h k q c e in is.high);
      alone = λ k q r c e f.
          let a : IsChannelOf h k q c = channel_found h k q c e in
          let b : IsChannelOf h k r c = channel_found h k r c f in
          some_is q r (sym a.is ∙ b.is);
      high = λ k g set e. (let is : IsGroupOf h k set g = group_found h k set g e in is.low);
      fits = λ k g set e. (let is : IsGroupOf h k set g = group_found h k set g e in is.high);
    }
