-- A beat puts control words on the way of their extenders, which read as they should.
use Rattle.std.proofs.Common.{◌≡◌, ℕ, zero, suc, ◌+◌, ◌≤◌, Bool, true, false, cond, List, [], ◌∷◌, length, Option, Some, None, refl, ap, sym, ◌∙◌, subst, arith}
use Rattle.exb_model.specs.Setup.{Limits}
use Rattle.exb_model.specs.Tree.{Shape, IsTree, is_extender}
use Rattle.exb_frame.specs.TagValues.{TagRoundTrip}
use Rattle.exb_ecp.specs.declared.stop_and_wait.Beat.{Beat as Due}
use Rattle.exb_ecp.specs.declared.stop_and_wait.Beat.TheVariants as due
use Rattle.exb_ecp.specs.StopAndWait.{Sending, State as Ecp, beaten, beat_of}
use Rattle.exb_csp.specs.Decoding.{read_message}
use Rattle.exb_extender.specs.Machine.{ExtenderState, Beats as EndBeats, react, beats as extender_beats}
use Rattle.exb_control_spec.specs.Plans.HeldNumbers.{Held}
use Rattle.exb_control_spec.specs.InitialState.{first_held}
use Rattle.exb_control_spec.specs.declared.extender_message.Asked.{Asked}
use Rattle.exb_control_spec.specs.Decisions.{decide}
use Rattle.exb_control_spec.specs.Machine.{State}
use Rattle.exb_control_spec.specs.Machine.{beats as control_step}
use Rattle.exb_control_spec.specs.Runs.RequestTargets.{AreAddressed}
use Rattle.exb_control_spec.specs.Runs.PlannedChanges.{IsSetting}
use Rattle.exb_control_spec.specs.Runs.Systems.{Beat as BeatStep, stepped as machine_stepped}
use Rattle.exb_control_spec.proofs.Runs.RequestTargets.{steps_know}
use Rattle.exb_control_spec.proofs.Runs.StepInvariants.{any_steps_stand}
use Rattle.exb_world_spec.specs.Worlds.{World, Beat, with_near, next_beat}
use Rattle.exb_model.specs.Tables.{at}
use Rattle.exb_world_spec.specs.Effects.{only}
use Rattle.exb_world_spec.specs.ExtenderSteps.{reacts}
use Rattle.exb_world_spec.specs.Runs.CascadeChannels.{fixing}
use Rattle.exb_world_spec.specs.ControlFrames.{bridge_request, sends_again, beats_near}
use Rattle.exb_world_spec.specs.Runs.Sessions.{Each, AreLow, AreSent, KeepsCascades}
use Rattle.exb_world_spec.specs.Runs.Simulation.{system_of, IsSound}
use Rattle.exb_world_spec.specs.Steps.{stepped}
use Rattle.exb_world_spec.proofs.BeatSteps.{has_beaten, beat_low}
use Rattle.exb_world_spec.proofs.CascadeChannels.{fixing_plans}
use Rattle.exb_world_spec.proofs.LinkFrames.{at_same, at_other, each_weaker}
use Rattle.exb_world_spec.proofs.WritableRequests.{IsWritten, moved_wrote, all_be_sent}
use Rattle.exb_settling_laws.specs.StopAndWait.{Request as Asks}
use Rattle.exb_settling_laws.specs.SessionInvariant.{IsGoing}
use Rattle.exb_settling_laws.specs.FramePlaces.{WordPlaced, ReadsDown, ReadsUp}
use Rattle.exb_settling_laws.specs.Streams.{message_note}
use Rattle.exb_settling_laws.proofs.BeatLaw.{far_loop, far_turn, after_near, after_control, after_all, stepped_is, near_stays, until}
use Rattle.exb_settling_laws.proofs.StopAndWaitSteps.{IsAged, was_aged}
use Rattle.exb_settling_laws.proofs.FarLoop.{far_now}
use Rattle.exb_settling_laws.proofs.LinkGrowth.{MaySend, does_grows, grows_then, none_grows, same_links}
use Rattle.exb_settling_laws.proofs.NearBeats.{near_loop, near_turn, near_beats_near}
use Rattle.exb_settling_laws.proofs.FramePlaceSteps.{own_rises}
use Rattle.exb_settling_laws.proofs.BridgeFramePlaces.{Puts, IsAskable, GoesWell, requests, to_extender_puts, moves_puts}
use Rattle.exb_settling_laws.proofs.OwnFrames.{Says, beats_says}
use Rattle.exb_settling_laws.proofs.ControlTurns.{to_extender_ends}
use Rattle.exb_settling_laws.proofs.SendableRequests.{to_first}

-- what an end of the bridge sends can be sent again
abbrev pub MayRepeat : Ecp → Type 0
MayRepeat e = (x : Sending) → e.sending ≡ Some x → (length x.payload ≤ 1024) × ((serial : ℕ) × (message_note x.sequence (read_message x.payload) ≡ Some (Asks x.sequence serial)))

repeats_later : (e : Ecp) → MayRepeat e → MayRepeat (beaten e)
repeats_later e may x s =
    let a : IsAged e.sending x = was_aged e.sending x s in
    let P : Sending → Type 0 = λ z. (length z.payload ≤ 1024) × ((serial : ℕ) × (message_note z.sequence (read_message z.payload) ≡ Some (Asks z.sequence serial))) in
    subst P (sym a.older) (may a.from a.is)

-- ---- the bridge's ends
module _ (t : Shape) (l : Limits) (tree : IsTree t) (h : Held) where
  again_puts : (n : ℕ) (d : Due) (o : Option Sending) (v : World) → is_extender t n ≡ true → KeepsCascades t v.control.held h → ((x : Sending) → o ≡ Some x → (length x.payload ≤ 1024) × ((serial : ℕ) × (message_note x.sequence (read_message x.payload) ≡ Some (Asks x.sequence serial)))) →
      Puts t l tree h v (sends_again t n d o v).world
  again_puts n due.SendAgain (Some x) v there keeps may = (let k = may x refl in to_extender_puts t l tree h n (bridge_request x.sequence x.payload) v there (requests n x.sequence k.1.0 x.payload k.0 k.1.1) keeps)
  again_puts n due.SendAgain None v there keeps may = none_grows t l (λ m y. WordPlaced t h ReadsDown m y) (λ m y. WordPlaced t h (ReadsUp t) m y) v
  again_puts n due.Nothing o v there keeps may = none_grows t l (λ m y. WordPlaced t h ReadsDown m y) (λ m y. WordPlaced t h (ReadsUp t) m y) v
  again_puts n due.GaveUp o v there keeps may = none_grows t l (λ m y. WordPlaced t h ReadsDown m y) (λ m y. WordPlaced t h (ReadsUp t) m y) v

  again_control : (n : ℕ) (d : Due) (o : Option Sending) (v : World) → (sends_again t n d o v).world.control ≡ v.control
  again_control n due.SendAgain (Some x) v = (to_extender_ends t n (bridge_request x.sequence x.payload) v).control
  again_control n due.SendAgain None v = refl
  again_control n due.Nothing o v = refl
  again_control n due.GaveUp o v = refl

  -- all ends may repeat what they send, and the channels are kept
  record MayBeat (v : World) : Type 0 where
    repeats : (n : ℕ) → MayRepeat (v.near n)
    keeps : KeepsCascades t v.control.held h

  turn_puts : (n : ℕ) (v : World) → MayBeat v → Puts t l tree h v (near_turn t n v) × MayBeat (near_turn t n v)
  turn_puts n v k = by_there (is_extender t n) refl
    where
      near_is : (beats_near t n v).world.near ≡ at n (beaten (v.near n)) v.near
      near_is = near_beats_near t n v

      control_is : (beats_near t n v).world.control ≡ v.control
      control_is = again_control n (beat_of (v.near n).sending) (v.near n).sending (with_near n (beaten (v.near n)) v)

      by_there : (b : Bool) → is_extender t n ≡ b → Puts t l tree h v (cond b (beats_near t n v) (only v)).world × MayBeat (cond b (beats_near t n v) (only v)).world
      by_there false e = (none_grows t l (λ m y. WordPlaced t h ReadsDown m y) (λ m y. WordPlaced t h (ReadsUp t) m y) v, k)
      by_there true e =
          let P : (ℕ → Ecp) → Type 0 = λ f. (i : ℕ) → MayRepeat (f i) in
          let Q : State → Type 0 = λ s. KeepsCascades t s.held h in (
            grows_then t l (λ m y. WordPlaced t h ReadsDown m y) (λ m y. WordPlaced t h (ReadsUp t) m y) v (with_near n (beaten (v.near n)) v) (beats_near t n v).world (same_links t l (λ m y. WordPlaced t h ReadsDown m y) (λ m y. WordPlaced t h (ReadsUp t) m y) v (with_near n (beaten (v.near n)) v) refl refl)
                (again_puts n (beat_of (v.near n).sending) (v.near n).sending (with_near n (beaten (v.near n)) v) e k.keeps (k.repeats n)),
            record {
              repeats = subst P (sym near_is) (at_same (λ i x. MayRepeat x) n (beaten (v.near n)) v.near (repeats_later (v.near n) (k.repeats n)) k.repeats);
              keeps = subst Q (sym control_is) k.keeps;
            },
          )

  near_puts : (a k : ℕ) (v : World) → MayBeat v → Puts t l tree h v (near_loop t a k v)
  near_puts a zero v may = none_grows t l (λ m y. WordPlaced t h ReadsDown m y) (λ m y. WordPlaced t h (ReadsUp t) m y) v
  near_puts a (suc k) v may =
      let one = turn_puts a v may in
      grows_then t l (λ m y. WordPlaced t h ReadsDown m y) (λ m y. WordPlaced t h (ReadsUp t) m y) v (near_turn t a v) (near_loop t (a + 1) k (near_turn t a v)) one.0 (near_puts (a + 1) k (near_turn t a v) one.1)

-- ---- the control
askables : (t : Shape) (xs : List Asked) → Each IsWritten xs → AreSent xs → AreAddressed t xs → Each (IsAskable t) xs
askables t [] written sent addressed = tt
askables t (x ∷ xs) written sent addressed = (record { there = addressed.0; can = sent.0; request = (written.0).request; content = (written.0).content }, askables t xs written.1 sent.1 addressed.1)

pub beats_well : (t : Shape) (l : Limits) (tree : IsTree t) (setting : IsSetting t l) (round : TagRoundTrip) (w : World) → IsSound t l w → AreLow w.control.askers → GoesWell t l tree (first_held t l) (control_step w.control)
beats_well t l tree setting round w sound low =
    let k = has_beaten w.control w.control.work w.far sound.fits.ends.paired in
    let written = (moved_wrote t l setting (system_of w) BeatStep sound.fits.ends.writes sound.fits.ends.waits).asks in
    let known = (steps_know t l (system_of w) BeatStep sound.fits.ends.knows tt).1 in
    record {
      asks = askables t (control_step w.control).asks written (all_be_sent (control_step w.control).state.askers (control_step w.control).asks written k.was (beat_low t l tree setting round w.control low)) known;
      keeps = to_first t l tree (machine_stepped (decide t l) (system_of w) BeatStep) (any_steps_stand (fixing t l) (decide t l) (fixing_plans t l setting) (system_of w) BeatStep sound.stands tt).0;
    }

-- ---- the extenders
module _ (t : Shape) (l : Limits) (tree : IsTree t) (setting : IsSetting t l) (round : TagRoundTrip) (w : World) (sound : IsSound t l w) where
  -- what each extender whose turn is still to come would send
  abbrev Speak : ℕ → World → Type 0
  Speak a v = (n : ℕ) → a ≤ n → is_extender t n ≡ true → Each (Says t n) (extender_beats (v.far n)).1

  far_turn_puts : (a : ℕ) (v : World) → Speak a v → Puts t l tree (first_held t l) v (far_turn t a v)
  far_turn_puts a v speak = by_there (is_extender t a) refl
    where
      by_there : (b : Bool) → is_extender t a ≡ b → Puts t l tree (first_held t l) v (cond b (reacts t a None EndBeats v) (only v)).world
      by_there false e = none_grows t l (λ m y. WordPlaced t (first_held t l) ReadsDown m y) (λ m y. WordPlaced t (first_held t l) (ReadsUp t) m y) v
      by_there true e =
          does_grows t l (λ m y. WordPlaced t (first_held t l) ReadsDown m y) (λ m y. WordPlaced t (first_held t l) (ReadsUp t) m y) a None (react EndBeats (v.far a)) v
          (each_weaker (Says t a) (MaySend t l (λ m y. WordPlaced t (first_held t l) ReadsDown m y) (λ m y. WordPlaced t (first_held t l) (ReadsUp t) m y) a None) (extender_beats (v.far a)).1
          (λ s k. own_rises t l tree setting round w sound a e None s k) (speak a (omega arith) e))

  speak_on : (a : ℕ) (v : World) → Speak a v → Speak (a + 1) (far_turn t a v)
  speak_on a v speak n low there = by_there (is_extender t a)
    where
      by_there : (b : Bool) → Each (Says t n) (extender_beats ((cond b (reacts t a None EndBeats v) (only v)).world.far n)).1
      by_there false = speak n (omega arith) there
      by_there true =
          let e : (reacts t a None EndBeats v).world.far n ≡ v.far n = ap (λ (g : ℕ → ExtenderState). g n) (far_now t l tree round a v) ∙ at_other a n (extender_beats (v.far a)).0 v.far (λ z. omega arith) in
          let P : ExtenderState → Type 0 = λ s. Each (Says t n) (extender_beats s).1 in
          subst P (sym e) (speak n (omega arith) there)

  far_puts : (a k : ℕ) (v : World) → Speak a v → Puts t l tree (first_held t l) v (far_loop t a k v)
  far_puts a zero v speak = none_grows t l (λ m y. WordPlaced t (first_held t l) ReadsDown m y) (λ m y. WordPlaced t (first_held t l) (ReadsUp t) m y) v
  far_puts a (suc k) v speak =
      grows_then t l (λ m y. WordPlaced t (first_held t l) ReadsDown m y) (λ m y. WordPlaced t (first_held t l) (ReadsUp t) m y) v (far_turn t a v) (far_loop t (a + 1) k (far_turn t a v)) (far_turn_puts a v speak) (far_puts (a + 1) k (far_turn t a v) (speak_on a v speak))

-- ---- all that a beat puts on links
pub beat_puts : (t : Shape) (l : Limits) (tree : IsTree t) (setting : IsSetting t l) (round : TagRoundTrip) (w : World) → IsGoing t l w → AreLow w.control.askers → Puts t l tree (first_held t l) w (stepped t l Beat w).world
beat_puts t l tree setting round w k low = (let P : World → Type 0 = λ v. Puts t l tree (first_held t l) w v in subst P (sym (stepped_is t l w)) all)
  where
    may : MayBeat t l tree (first_held t l) (record w { beats = next_beat w.beats })
    may =
        record {
          repeats = λ n x s. (((k.sound.fits.ends.asking n).each x s).1, ((w.control.askers n).serial, ((k.near n).sending x s).reads));
          keeps = to_first t l tree (system_of w) k.sound.stands;
        }

    speak : Speak t l tree setting round w k.sound 1 (after_control t 1 64 w)
    speak n low there =
        let is = k.sound.fits.ends.extenders n there in
        let P : (ℕ → ExtenderState) → Type 0 = λ f. Each (Says t n) (extender_beats (f n)).1 in
        subst P (sym (until t 1 64 w).far) (beats_says t n (w.far n) (k.devices n there) is.ports.0 is.ports.1 (k.far n there) (λ x e. ((k.sound.fits.ends.answering n).each x e).1))

    well : GoesWell t l tree (first_held t l) (control_step (after_near t 1 64 w).control)
    well =
        let P : State → Type 0 = λ s. GoesWell t l tree (first_held t l) (control_step s) in
        subst P (sym (near_stays t 1 64 w).control) (beats_well t l tree setting round w k.sound low)

    all : Puts t l tree (first_held t l) w (after_all t 1 64 w)
    all =
        grows_then t l (λ m y. WordPlaced t (first_held t l) ReadsDown m y) (λ m y. WordPlaced t (first_held t l) (ReadsUp t) m y) w (after_control t 1 64 w) (after_all t 1 64 w)
        (grows_then t l (λ m y. WordPlaced t (first_held t l) ReadsDown m y) (λ m y. WordPlaced t (first_held t l) (ReadsUp t) m y) w (after_near t 1 64 w) (after_control t 1 64 w)
        (grows_then t l (λ m y. WordPlaced t (first_held t l) ReadsDown m y) (λ m y. WordPlaced t (first_held t l) (ReadsUp t) m y) w (record w { beats = next_beat w.beats }) (after_near t 1 64 w)
        (same_links t l (λ m y. WordPlaced t (first_held t l) ReadsDown m y) (λ m y. WordPlaced t (first_held t l) (ReadsUp t) m y) w (record w { beats = next_beat w.beats }) refl refl)
        (near_puts t l tree (first_held t l) 1 64 (record w { beats = next_beat w.beats }) may))
        (moves_puts t l tree (first_held t l) (control_step (after_near t 1 64 w).control) (after_near t 1 64 w) well))
        (far_puts t l tree setting round w k.sound 1 64 (after_control t 1 64 w) speak)
