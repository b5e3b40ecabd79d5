-- Each step on a link and each beat keep a world going that is orderly before and after.
use Rattle.std.proofs.Common.{◌≡◌, ℕ, zero, suc, ◌+◌, Bool, true, false, cond, List, [], ◌∷◌, Option, Some, None, filter, refl, sym, ◌∙◌, subst, arith}
use Rattle.exb_model.specs.Setup.{Limits}
use Rattle.exb_model.specs.Tree.{Shape, IsTree, is_extender}
use Rattle.exb_frame.specs.TagValues.{TagRoundTrip}
use Rattle.exb_csp.specs.declared.message.Body.TheVariants as body
use Rattle.exb_csp.specs.declared.message.Request.{Request}
use Rattle.exb_model.specs.Frames.{IsBytes}
use Rattle.exb_csp.specs.Sessions.AskingEnd.{AskerState}
use Rattle.exb_extender.specs.declared.sends.Side.TheVariants as side
use Rattle.exb_extender.specs.Forwarding.{is_bare_control}
use Rattle.exb_extender.specs.Machine.{ExtenderState, Arrives, IsSameDevice, react, beats as extender_beats}
use Rattle.exb_extender.specs.Machine.{Beats as EndBeats}
use Rattle.exb_extender.proofs.MachineLemmas.{react_same}
use Rattle.exb_link.specs.declared.link_frame.LinkFrame.{LinkFrame}
use Rattle.exb_link.specs.LinkFrames.{is_control, is_data, without_data, without_control}
use Rattle.exb_control_spec.specs.InitialState.{first_held}
use Rattle.exb_control_spec.specs.declared.extender_message.Asked.{Asked}
use Rattle.exb_control_spec.specs.Decisions.{decide}
use Rattle.exb_control_spec.specs.Machine.{Work, answered}
use Rattle.exb_control_spec.specs.Runs.RequestTargets.{KnowsWork}
use Rattle.exb_control_spec.specs.Runs.PlannedChanges.{IsSetting}
use Rattle.exb_world_spec.specs.Worlds.{World, Way, Up, Down, Step, Beat, with_up, with_down, with_far}
use Rattle.exb_model.specs.Tables.{at}
use Rattle.exb_world_spec.specs.AllowedSteps.{Can}
use Rattle.exb_world_spec.specs.BridgeLearning.{announced}
use Rattle.exb_world_spec.specs.Runs.SessionLaws.{HasBytes, ordered_by}
use Rattle.exb_world_spec.specs.Runs.Sessions.{Each, AreLow, AreSent, CanBeSent, CanAsk, WritesIn}
use Rattle.exb_world_spec.specs.Runs.Simulation.{IsSound}
use Rattle.exb_world_spec.specs.Steps.{words_on, with_words, takes, takes_any, first_data, control_at, rest_of, stepped}
use Rattle.exb_world_spec.proofs.BeatSteps.{sound_after}
use Rattle.exb_world_spec.proofs.SessionLaws.{steps_stay_sound}
use Rattle.exb_world_spec.proofs.Steps.{kept}
use Rattle.exb_world_spec.proofs.TakenAnswers.{IsOutstanding, outstanding}
use Rattle.exb_world_spec.proofs.LinkFrames.{at_same, each_weaker, each_filter, each_get, each_without_data, each_without_control}
use Rattle.exb_world_spec.proofs.WritableRequests.{IsWritten, all_be_sent}
use Rattle.exb_settling_laws.specs.SettlingFacts.{OnLink, carries, delivers, loses}
use Rattle.exb_settling_laws.specs.SessionInvariant.{IsDevice, IsGoing, IsOrderly, HasRoom}
use Rattle.exb_settling_laws.specs.FramePlaces.{WordPlaced, ReadsDown, ReadsUp, ArePlaced}
use Rattle.exb_settling_laws.proofs.BeatLaw.{far_loop, far_turn, after_control, stepped_is, until}
use Rattle.exb_settling_laws.proofs.BeatRemainingFacts.{CanAskAgain}
use Rattle.exb_settling_laws.proofs.SessionRemainingFacts.{EndsLeft, CanGoOn, step_left, beat_left}
use Rattle.exb_settling_laws.proofs.FarRemainingFacts.{MayHear, taken_up_far}
use Rattle.exb_settling_laws.proofs.FarLoop.{far_now}
use Rattle.exb_settling_laws.proofs.InvariantBeat.{beat_puts}
use Rattle.exb_settling_laws.proofs.AllowedRequests.{all_may_hear}
use Rattle.exb_settling_laws.proofs.NearRemainingFacts.{CanSend}
use Rattle.exb_settling_laws.proofs.FramePlaceSteps.{grown, above_puts, below_puts}
use Rattle.exb_settling_laws.proofs.BridgeFramePlaces.{IsAskable, HearsWell}
use Rattle.exb_settling_laws.proofs.UpwardSessions.{each_far}
use Rattle.exb_settling_laws.proofs.SendableRequests.{hears_well}

-- serials that have room for one more fit their field
low_of : (askers : ℕ → AskerState) → HasRoom askers → AreLow askers
low_of askers room n = (let few = room n in omega (arith, few))

has_bytes : (step : Step) → OnLink step → HasBytes step
has_bytes _ (carries n way) = tt
has_bytes _ (delivers n way k keep) = tt
has_bytes _ (loses n way k) = tt

module _ (t : Shape) (l : Limits) (tree : IsTree t) (setting : IsSetting t l) (round : TagRoundTrip) where
  -- ---- the sessions
  pub sound_step : (step : Step) (w : World) → HasBytes step → Can t w step → IsGoing t l w → IsOrderly t w → IsOrderly t (stepped t l step w).world → IsSound t l (stepped t l step w).world
  sound_step step w has can k o after =
      sound_after t l tree setting round (ordered_by step) w (stepped t l step w).world (stepped t l step w).events k.sound
      (steps_stay_sound round t l setting w step k.sound (record { can = can; has = has; bytes = o.bytes; low = low_of w.control.askers o.room; after = low_of (stepped t l step w).world.control.askers after.room }))

  -- ---- what goes out can be sent
  module _ (w : World) (k : IsGoing t l w) (o : IsOrderly t w) where
    well : HearsWell t l tree (first_held t l) w.control
    well = hears_well t l tree setting w k.sound o.room

    sent : (xs : List Asked) → Each (IsAskable t) xs → AreSent xs
    sent xs all = each_weaker (IsAskable t) (λ (x : Asked). CanBeSent x.message) xs (λ x a. a.can) all

    can_send : CanSend t l w.control
    can_send = record { answers = λ n m. sent (answered (decide t l) n m w.control).asks (well.answers n m).asks; hears = λ n a. sent (announced (decide t l) t n a w.control).asks (well.hears n a).asks }

    can_again : CanAskAgain w.control
    can_again n request waits =
        let out : IsOutstanding w.control n request = outstanding w.control n request k.sound.fits.ends.waits waits in
        let P : Option Work → Type 0 = λ x. WritesIn x in
        let first : CanAsk out.work.first.request = (subst P out.is k.sound.fits.ends.writes.work).first in
        let x : Asked = record { extender = n; message = record { serial = (w.control.askers n).serial; body = body.Ask request } } in
        let written : IsWritten (record { extender = n; message = record { serial = (w.control.askers n).serial; body = body.Ask request } }) = record { request = request; content = refl; can = subst CanAsk out.asked first; some = k.sound.fits.ends.writes.numbered n request waits } in
        (all_be_sent w.control.askers (record { extender = n; message = record { serial = (w.control.askers n).serial; body = body.Ask request } } ∷ []) (written, tt) (record { early = omega arith; same = λ other e z. same_request request other (sym waits ∙ z) }, tt) (low_of w.control.askers o.room)).0
      where
        same_request : (x y : Request) → Some x ≡ Some y → x ≡ y
        same_request x y e = cc

    known : (x : Work) → w.control.work ≡ Some x → is_extender t x.first.extender ≡ true
    known x e = (let P : Option Work → Type 0 = KnowsWork t in (subst P e k.sound.fits.ends.knows.work).first)

    pub goes_on : CanGoOn t l w
    goes_on =
        record {
          sends = can_send;
          again = can_again;
          hears = λ n there. all_may_hear t l tree setting round w k.sound (low_of w.control.askers o.room) o.opens n there;
          waits = k.sound.fits.ends.waits;
          there = known;
        }

    ends : EndsLeft t w
    ends = record { near = k.near; far = k.far }

  -- ---- devices
  device_same : (n : ℕ) (s u : ExtenderState) → IsSameDevice s u → IsDevice t n s → IsDevice t n u
  device_same n s u e k = record { number = e.number ∙ k.number; ports = e.ports ∙ k.ports }

  taken_devices : (n : ℕ) (way : Way) (x : LinkFrame) (v : World) → ((i : ℕ) → is_extender t i ≡ true → IsDevice t i (v.far i)) → (i : ℕ) → is_extender t i ≡ true → IsDevice t i ((takes t l n way x v).world.far i)
  taken_devices n Up x v all i there = (let P : (ℕ → ExtenderState) → Type 0 = λ f. IsDevice t i (f i) in subst P (sym (taken_up_far t l n x v)) (all i there))
  taken_devices n Down x v all i there =
      let far : (takes t l n Down x v).world.far ≡ at n (react (Arrives side.Up x.bytes) (v.far n)).0 v.far = each_far t n x.stamp (react (Arrives side.Up x.bytes) (v.far n)).1 (with_far n (react (Arrives side.Up x.bytes) (v.far n)).0 v) in
      let P : (ℕ → ExtenderState) → Type 0 = λ f. IsDevice t i (f i) in
      subst P (sym far)
      (at_same (λ j s. is_extender t j ≡ true → IsDevice t j s) n (react (Arrives side.Up x.bytes) (v.far n)).0 v.far (λ e. device_same n (v.far n) (react (Arrives side.Up x.bytes) (v.far n)).0 (react_same (Arrives side.Up x.bytes) (v.far n)) (all n e)) all i there)

  -- ---- words
  fewer : (n : ℕ) (way : Way) (ws : List LinkFrame) (w : World) → ((P : LinkFrame → Type 0) → Each P (words_on n way w) → Each P ws) → ArePlaced t (first_held t l) w.down w.up → ArePlaced t (first_held t l) (with_words n way ws w).down (with_words n way ws w).up
  fewer n Up ws w less k = record { downs = k.downs; ups = at_same (λ m xs. Each (WordPlaced t (first_held t l) (ReadsUp t) m) xs) n ws w.up (less (WordPlaced t (first_held t l) (ReadsUp t) n) (k.ups n)) k.ups }
  fewer n Down ws w less k = record { downs = at_same (λ m xs. Each (WordPlaced t (first_held t l) ReadsDown m) xs) n ws w.down (less (WordPlaced t (first_held t l) ReadsDown n) (k.downs n)) k.downs; ups = k.ups }

  any_placed : (n : ℕ) (way : Way) (x : Option LinkFrame) (rest : List LinkFrame) (w : World) → is_extender t n ≡ true → IsGoing t l w → IsOrderly t w → ((P : LinkFrame → Type 0) → Each P (words_on n way w) → Each P rest) →
      ((P : LinkFrame → Type 0) (y : LinkFrame) → Each P (words_on n way w) → x ≡ Some y → P y) → ArePlaced t (first_held t l) (takes_any t l n way x rest w).world.down (takes_any t l n way x rest w).world.up
  any_placed n way None rest w there k o less found = k.placed
  any_placed n Up (Some x) rest w there k o less found =
      grown t l (first_held t l) (with_up n rest w) (takes t l n Up x (with_up n rest w)).world (fewer n Up rest w less k.placed)
      (below_puts t l tree setting round w k.sound n x (with_up n rest w) refl refl there (found (λ y. IsBytes y.bytes) x (o.bytes.ups n) refl) (found (WordPlaced t (first_held t l) (ReadsUp t) n) x (k.placed.ups n) refl) (well w k o))
  any_placed n Down (Some x) rest w there k o less found =
      grown t l (first_held t l) (with_down n rest w) (takes t l n Down x (with_down n rest w)).world (fewer n Down rest w less k.placed)
      (above_puts t l tree setting round w k.sound n x (with_down n rest w) refl there (found (WordPlaced t (first_held t l) ReadsDown n) x (k.placed.downs n) refl)
      (found (λ y. is_bare_control y.bytes ≡ true → MayHear (w.far n) y.bytes) x ((goes_on w k o).hears n there) refl))

  any_devices : (n : ℕ) (way : Way) (x : Option LinkFrame) (rest : List LinkFrame) (w : World) → ((i : ℕ) → is_extender t i ≡ true → IsDevice t i (w.far i)) → (i : ℕ) → is_extender t i ≡ true → IsDevice t i ((takes_any t l n way x rest w).world.far i)
  any_devices n way None rest w all = all
  any_devices n Up (Some x) rest w all = taken_devices n Up x (with_up n rest w) all
  any_devices n Down (Some x) rest w all = taken_devices n Down x (with_down n rest w) all

  -- ---- a step on a link
  step_placed : (step : Step) (w : World) → OnLink step → Can t w step → IsGoing t l w → IsOrderly t w → ArePlaced t (first_held t l) (stepped t l step w).world.down (stepped t l step w).world.up
  unfolding stepped
  step_placed _ w (carries n way) can k o =
      any_placed n way (first_data (words_on n way w)) (without_data (words_on n way w)) w can.0 k o (λ P all. each_without_data P (words_on n way w) all)
      (λ P x all e. each_get P (filter is_data (words_on n way w)) 0 x (each_filter P is_data (words_on n way w) all) e)
  step_placed _ w (delivers n way i keep) can k o =
      any_placed n way (control_at (words_on n way w) i) (rest_of keep (words_on n way w) i) w can.0 k o (λ P all. kept t l tree setting round P keep (words_on n way w) i all)
      (λ P x all e. each_get P (filter is_control (words_on n way w)) i x (each_filter P is_control (words_on n way w) all) e)
  step_placed _ w (loses n way i) can k o = fewer n way (without_control (words_on n way w) i) w (λ P all. each_without_control P (words_on n way w) i all) k.placed

  lost_devices : (n : ℕ) (way : Way) (ws : List LinkFrame) (w : World) → ((i : ℕ) → is_extender t i ≡ true → IsDevice t i (w.far i)) → (i : ℕ) → is_extender t i ≡ true → IsDevice t i ((with_words n way ws w).far i)
  lost_devices n Up ws w all = all
  lost_devices n Down ws w all = all

  step_devices : (step : Step) (w : World) → OnLink step → ((i : ℕ) → is_extender t i ≡ true → IsDevice t i (w.far i)) → (i : ℕ) → is_extender t i ≡ true → IsDevice t i ((stepped t l step w).world.far i)
  unfolding stepped
  step_devices _ w (carries n way) all = any_devices n way (first_data (words_on n way w)) (without_data (words_on n way w)) w all
  step_devices _ w (delivers n way i keep) all = any_devices n way (control_at (words_on n way w) i) (rest_of keep (words_on n way w) i) w all
  step_devices _ w (loses n way i) all = lost_devices n way (without_control (words_on n way w) i) w all

  pub step_going : (step : Step) (w : World) → OnLink step → Can t w step → IsGoing t l w → IsOrderly t w → IsOrderly t (stepped t l step w).world → IsGoing t l (stepped t l step w).world
  step_going step w on can k o after =
      let e : EndsLeft t (stepped t l step w).world = step_left t l step w on can (goes_on w k o) (ends w k o) in
      record {
        sound = sound_step step w (has_bytes step on) can k o after;
        near = e.near;
        far = e.far;
        devices = step_devices step w on k.devices;
        placed = step_placed step w on can k o;
      }

  -- ---- a beat
  far_turn_devices : (a : ℕ) (v : World) → ((i : ℕ) → is_extender t i ≡ true → IsDevice t i (v.far i)) → (i : ℕ) → is_extender t i ≡ true → IsDevice t i ((far_turn t a v).far i)
  far_turn_devices a v all = by_there (is_extender t a)
    where
      by_there : (b : Bool) → (i : ℕ) → is_extender t i ≡ true → IsDevice t i ((cond b (Rattle.exb_world_spec.specs.ExtenderSteps.reacts t a None EndBeats v) (Rattle.exb_world_spec.specs.Effects.only v)).world.far i)
      by_there false i there = all i there
      by_there true i there =
          let P : (ℕ → ExtenderState) → Type 0 = λ f. IsDevice t i (f i) in
          subst P (sym (far_now t l tree round a v))
          (at_same (λ j s. is_extender t j ≡ true → IsDevice t j s) a (extender_beats (v.far a)).0 v.far (λ e. device_same a (v.far a) (extender_beats (v.far a)).0 (react_same EndBeats (v.far a)) (all a e)) all i there)

  far_devices : (a k : ℕ) (v : World) → ((i : ℕ) → is_extender t i ≡ true → IsDevice t i (v.far i)) → (i : ℕ) → is_extender t i ≡ true → IsDevice t i ((far_loop t a k v).far i)
  far_devices a zero v all = all
  far_devices a (suc k) v all = far_devices (a + 1) k (far_turn t a v) (far_turn_devices a v all)

  beat_devices : (w : World) → ((i : ℕ) → is_extender t i ≡ true → IsDevice t i (w.far i)) → (i : ℕ) → is_extender t i ≡ true → IsDevice t i ((stepped t l Beat w).world.far i)
  beat_devices w all i there =
      let P : World → Type 0 = λ v. IsDevice t i (v.far i) in
      let Q : (ℕ → ExtenderState) → Type 0 = λ f. (j : ℕ) → is_extender t j ≡ true → IsDevice t j (f j) in
      subst P (sym (stepped_is t l w)) (far_devices 1 64 (after_control t 1 64 w) (subst Q (sym (until t 1 64 w).far) all) i there)

  pub beat_going : (w : World) → IsGoing t l w → IsOrderly t w → IsOrderly t (stepped t l Beat w).world → IsGoing t l (stepped t l Beat w).world
  beat_going w k o after =
      let e : EndsLeft t (stepped t l Beat w).world = beat_left t l tree round w (goes_on w k o) (ends w k o) in
      record {
        sound = sound_step Beat w tt tt k o after;
        near = e.near;
        far = e.far;
        devices = beat_devices w k.devices;
        placed = grown t l (first_held t l) w (stepped t l Beat w).world k.placed (beat_puts t l tree setting round w k (low_of w.control.askers o.room));
      }
