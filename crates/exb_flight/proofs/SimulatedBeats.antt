-- A beat is flown: what is sent again or announced goes out, and the session counts it.
use Rattle.std.proofs.Common.{◌≡◌, ℕ, true, false, List, [], ◌∷◌, Option, Some, None, refl, sym, ◌∙◌, ap, subst, inl, inr}
use Rattle.std.proofs.lemmas.Bool.{cases_Bool}
use Rattle.exb_model.specs.Tree.{Shape, IsTree, is_extender}
use Rattle.exb_model.specs.Setup.{Limits}
use Rattle.exb_model.specs.History.{Basis, History}
use Rattle.exb_frame.specs.TagValues.{TagRoundTrip}
use Rattle.exb_ecp.specs.declared.stop_and_wait.Beat.{Beat as Due}
use Rattle.exb_ecp.specs.declared.stop_and_wait.Beat.TheVariants as due
use Rattle.exb_ecp.specs.StopAndWait.{Sending, beaten, beat_of}
use Rattle.exb_extender.specs.Machine.{ExtenderState, Reaction, Beats, react}
use Rattle.exb_control_spec.specs.Machine.{State, beats}
use Rattle.exb_control_spec.specs.Runs.Systems.{Beat}
use Rattle.exb_control_spec.specs.Runs.PlannedChanges.{IsSetting}
use Rattle.exb_world_spec.specs.Worlds.{World, Left, with_near, with_far, next_beat}
use Rattle.exb_model.specs.Tables.{at}
use Rattle.exb_world_spec.specs.Effects.{Effect, then_do, each}
use Rattle.exb_world_spec.specs.ExtenderSteps.{reacts}
use Rattle.exb_world_spec.specs.ControlFrames.{bridge_address, bridge_request, sends_again, beats_near, beats_control}
use Rattle.exb_world_spec.specs.Steps.{if_there, all_extenders, beats_all}
use Rattle.exb_world_spec.specs.Runs.Sessions.{WasAnswered, Hands, Each, AskedOf, ArePaired, AreLow}
use Rattle.exb_world_spec.specs.Runs.Simulation.{answer_in, system_of, IsSound}
use Rattle.exb_csp.specs.Sessions.AnsweringEnd.{AnswererState}
use Rattle.exb_world_spec.proofs.ExtenderAnswers.{IsSame, SentFits}
use Rattle.exb_world_spec.proofs.LinkFrames.{at_same}
use Rattle.exb_flight.specs.FlightFacts.{WorkGood, AreOf}
use Rattle.exb_world_spec.proofs.Frames.{hands_request, bare_spelled}
use Rattle.exb_world_spec.proofs.ControlFrames.{quiet_sound}
use Rattle.exb_world_spec.proofs.ExtenderSteps.{beat_same, beat_sound, seen_same}
use Rattle.exb_world_spec.proofs.BeatSteps.{HasBeaten, has_beaten, answer_serial, beat_low, control_beats, near_beats, all_near_beat, sound_after}
use Rattle.exb_flight.specs.Flight.{Flight}
use Rattle.exb_flight.specs.SimulationRelation.{Shows}
use Rattle.exb_flight.specs.Simulation.{Flown, BeatsFly}
use Rattle.exb_flight.proofs.PushedTokens.{Pushed, flown_then, pushed_then, pushed_none}
use Rattle.exb_flight.proofs.SimulatedRequests.{shows_near, to_extender_pushed, control_spelled}
use Rattle.exb_flight.proofs.SimulatedControl.{IsMoving, IsGoodFor, good_for, is_moving, moves_flown}
use Rattle.exb_flight.proofs.OwnControlFrames.{own_pushed, all_own, beats_fit, beats_stay}
use Rattle.exb_flight.proofs.OwnControlFrames.{beats_control as far_control}

module _ (t : Shape) (l : Limits) (i : Basis) (tree : IsTree t) (setting : IsSetting t l) (round : TagRoundTrip) where
  -- ---- the bridge's ends
  near_pushed : (w : World) → IsSound t l w → (h : History) (gone : List Left) (f : Flight) → Shows t i w h gone f → (n : ℕ) → is_extender t n ≡ true → Pushed t l i h gone f (beats_near t n w)
  near_pushed w sound h gone f s n there = by_due (beat_of (w.near n).sending) (w.near n).sending refl
    where
      by_due : (d : Due) (o : Option Sending) → (w.near n).sending ≡ o → Pushed t l i h gone f (sends_again t n d o (with_near n (beaten (w.near n)) w))
      by_due due.SendAgain (Some x) e =
          let hands : Hands (bridge_request x.sequence x.payload) (AskedOf w.control.askers n) = hands_request (AskedOf w.control.askers n) bridge_address x.sequence x.payload refl ((sound.fits.ends.asking n).each x e).0 in
          to_extender_pushed t l i tree round (with_near n (beaten (w.near n)) w) h gone f (shows_near t l i tree round w h gone f n (beaten (w.near n)) s) n (bridge_request x.sequence x.payload) there
          (bare_spelled 2 69 66 0 0 0 false x.sequence x.payload) (control_spelled 2 69 66 0 0 0 false x.sequence x.payload) hands
      by_due due.SendAgain None e = pushed_none t l i _ h gone f (shows_near t l i tree round w h gone f n (beaten (w.near n)) s)
      by_due due.Nothing o e = pushed_none t l i _ h gone f (shows_near t l i tree round w h gone f n (beaten (w.near n)) s)
      by_due due.GaveUp o e = pushed_none t l i _ h gone f (shows_near t l i tree round w h gone f n (beaten (w.near n)) s)

  near_one : (w : World) → IsSound t l w → (h : History) (gone : List Left) (f : Flight) → Shows t i w h gone f → (n : ℕ) → Pushed t l i h gone f (if_there t (beats_near t) n w) × IsSound t l (if_there t (beats_near t) n w).world
  near_one w sound h gone f s n =
      elim (cases_Bool (is_extender t n)) [
        | inl there ↦ rw there (near_pushed w sound h gone f s n there, (near_beats t l tree setting round w sound n there).sound)
        | inr other ↦ rw other (pushed_none t l i w h gone f s, sound)
      ]

  near_all : (ns : List ℕ) (w : World) → IsSound t l w → (h : History) (gone : List Left) (f : Flight) → Shows t i w h gone f → Pushed t l i h gone f (each (if_there t (beats_near t)) ns w)
  near_all [] w sound h gone f s = pushed_none t l i w h gone f s
  near_all (n ∷ ns) w sound h gone f s =
      let one = near_one w sound h gone f s n in
      pushed_then t l i h gone f (if_there t (beats_near t) n w) (each (if_there t (beats_near t)) ns) one.0 (near_all ns (if_there t (beats_near t) n w).world one.1 _ _ _ one.0.flown.shows)

  -- ---- the session
  control_flown : (w : World) → IsSound t l w → AreLow w.control.askers → IsGoodFor i w → (h : History) (gone : List Left) (f : Flight) → Shows t i w h gone f → Flown t l i h gone f (beats_control t w)
  control_flown w sound low good h gone f s =
      let c : State = w.control in
      let k : HasBeaten c c.work w.far (beats c) = has_beaten c c.work w.far sound.fits.ends.paired in
      let moving : IsMoving t l (system_of w) w Beat (beats c) =
      is_moving t l i tree setting round w sound Beat tt tt (beat_low t l tree setting round c low) w refl refl (beats c) refl refl k.was
      (ap (λ (o : Option Rattle.exb_control_spec.specs.Machine.Work). answer_in o (beats c).state.askers w.far) k.work ∙ answer_serial c.work c.askers (beats c).state.askers w.far k.serials) in
      moves_flown t l i tree setting round w h gone f s good.work good.queue sound.fits Beat (beats c) moving tt tt

  -- ---- the extenders
  far_pushed : (w : World) → IsSound t l w → (h : History) (gone : List Left) (f : Flight) → Shows t i w h gone f → (n : ℕ) → is_extender t n ≡ true → Pushed t l i h gone f (reacts t n None Beats w)
  far_pushed w sound h gone f s n there =
      let x : ExtenderState = w.far n in
      let r : Reaction = react Beats x in
      let v : World = with_far n r.0 w in
      let same : IsSame x r.0 = beat_same t l tree setting round x in
      let shows : Shows t i v h gone f = record { system = s.system ∙ sym (seen_same w.control n r.0 w.far same); down = s.down; up = s.up; history = s.history; left = s.left; learned = s.learned } in
      let paired : (m : ℕ) → ArePaired (w.control.askers m) (at n r.0 w.far m).session =
      at_same (λ m y. ArePaired (w.control.askers m) y.session) n r.0 w.far (subst (λ (y : AnswererState). ArePaired (w.control.askers n) y) (sym same.session) (sound.fits.ends.paired n)) sound.fits.ends.paired in
      let fit : Each (SentFits (WasAnswered x.session)) r.1 = beats_fit t l tree setting round x (λ y e. ((sound.fits.ends.answering n).each y e).0) in
      let fits : Each (SentFits (WasAnswered r.0.session)) r.1 = subst (λ (y : AnswererState). Each (SentFits (WasAnswered y)) r.1) (sym (beats_stay t l tree setting round x)) fit in
      own_pushed t l i tree round n None r.1 v h gone f shows paired (all_own t l tree setting round w.control.held w.control.askers w.far n there r.0 r.1 fits (far_control x))

  far_one : (w : World) → IsSound t l w → (h : History) (gone : List Left) (f : Flight) → Shows t i w h gone f → (n : ℕ) → Pushed t l i h gone f (if_there t (λ m. reacts t m None Beats) n w) × IsSound t l (if_there t (λ m. reacts t m None Beats) n w).world
  far_one w sound h gone f s n =
      elim (cases_Bool (is_extender t n)) [
        | inl there ↦ rw there (far_pushed w sound h gone f s n there, sound_after t l tree setting round [] w _ _ sound (beat_sound t l tree setting round w sound n there))
        | inr other ↦ rw other (pushed_none t l i w h gone f s, sound)
      ]

  far_all : (ns : List ℕ) (w : World) → IsSound t l w → (h : History) (gone : List Left) (f : Flight) → Shows t i w h gone f → Pushed t l i h gone f (each (if_there t (λ m. reacts t m None Beats)) ns w)
  far_all [] w sound h gone f s = pushed_none t l i w h gone f s
  far_all (n ∷ ns) w sound h gone f s =
      let one = far_one w sound h gone f s n in
      pushed_then t l i h gone f (if_there t (λ m. reacts t m None Beats) n w) (each (if_there t (λ m. reacts t m None Beats)) ns) one.0 (far_all ns (if_there t (λ m. reacts t m None Beats) n w).world one.1 _ _ _ one.0.flown.shows)

  -- ---- all that a beat does
  pub all_flown : (w : World) → IsSound t l w → AreLow w.control.askers → IsGoodFor i w → (h : History) (gone : List Left) (f : Flight) → Shows t i w h gone f → Flown t l i h gone f (beats_all t w)
  unfolding beats_all
  all_flown w sound low good h gone f s =
      let w0 : World = record w { beats = next_beat w.beats } in
      let sound0 : IsSound t l w0 = quiet_sound t l tree setting w w0 sound refl refl (record { ends = sound.fits.ends; downs = sound.fits.downs; ups = sound.fits.ups }) in
      let s0 : Shows t i w0 h gone f = record { system = s.system; down = s.down; up = s.up; history = s.history; left = s.left; learned = s.learned } in
      let e1 : Effect = each (if_there t (beats_near t)) all_extenders w0 in
      let a = near_all all_extenders w0 sound0 h gone f s0 in
      let q = all_near_beat t l tree setting round all_extenders w0 sound0 in
      let low1 : AreLow e1.world.control.askers = subst (λ (c : State). AreLow c.askers) (sym q.control) low in
      let good1 : WorkGood i e1.world.control.work × AreOf i e1.world.control.queue = subst (λ (c : State). WorkGood i c.work × AreOf i c.queue) (sym q.control) (good.work, good.queue) in
      let b = control_flown e1.world q.sound low1 (record { work = good1.0; queue = good1.1 }) _ _ _ a.flown.shows in
      let e2 : Effect = then_do e1 (beats_control t) in
      let ab = flown_then t l i h gone f e1 (beats_control t) a.flown b in
      let sound2 : IsSound t l e2.world = sound_after t l tree setting round [] e1.world e2.world _ q.sound (control_beats t l tree setting round e1.world q.sound low1) in
      let c = far_all all_extenders e2.world sound2 _ _ _ ab.shows in
      flown_then t l i h gone f e2 (each (if_there t (λ m. reacts t m None Beats)) all_extenders) ab c.flown

pub beats_fly : TagRoundTrip → BeatsFly
beats_fly round t l i setting w h gone f sound facts shows may = all_flown t l i setting.tree setting round w sound may.may.low (good_for t i w h gone f facts shows) h gone f shows
