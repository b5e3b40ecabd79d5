-- A beat keeps what holds of the sessions, and is one beat of the machine of changes.
use Rattle.std.proofs.lemmas.List.{append-nil}
use Rattle.std.proofs.Common.{◌≡◌, ℕ, ◌==◌, ◌++◌, Bool, true, false, cond, List, [], ◌∷◌, Option, Some, None, refl, ap, sym, ◌∙◌, subst, arith, inl, inr}
use Rattle.std.specs.Option.{option_map}
use Rattle.std.proofs.lemmas.Bool.{cases_Bool}
use Rattle.exb_model.specs.declared.command.Command.{Command}
use Rattle.exb_model.specs.declared.event.Event.{Event}
use Rattle.exb_learn.specs.Calls.{Table}
use Rattle.exb_model.specs.Tree.{Shape, IsTree, is_extender}
use Rattle.exb_model.specs.Setup.{Limits}
use Rattle.exb_frame.specs.TagValues.{TagRoundTrip}
use Rattle.exb_ecp.specs.StopAndWait.{Sending, beaten, beat_of}
use Rattle.exb_ecp.specs.declared.stop_and_wait.Beat.{Beat as Due}
use Rattle.exb_ecp.specs.declared.stop_and_wait.Beat.TheVariants as due
use Rattle.exb_csp.specs.declared.message.Body.TheVariants as body
use Rattle.exb_csp.specs.declared.message.Message.{Message}
use Rattle.exb_csp.specs.declared.message.Request.{Request}
use Rattle.exb_csp.specs.Sessions.AskingEnd.{AskerState, message_again}
use Rattle.exb_csp.specs.Sessions.AskingEnd.{beaten as beaten_asker}
use Rattle.exb_csp.specs.Sessions.AnsweringEnd.{AnswererState}
use Rattle.exb_extender.specs.Machine.{ExtenderState, Beats}
use Rattle.exb_control_spec.specs.declared.extender_message.Asked.{Asked}
use Rattle.exb_control_spec.specs.Decisions.{decide}
use Rattle.exb_control_spec.specs.Machine.{Work, State, Moved, messages_due, beats_in, beats}
use Rattle.exb_control_spec.specs.Runs.Systems.{System, Beat}
use Rattle.exb_control_spec.specs.Runs.MachineInvariant.{Stands}
use Rattle.exb_control_spec.specs.Runs.PlannedChanges.{IsSetting}
use Rattle.exb_control_spec.proofs.Runs.StepInvariants.{any_steps_stand}
use Rattle.exb_world_spec.specs.Runs.CascadeChannels.{fixing}
use Rattle.exb_world_spec.proofs.CascadeChannels.{fixing_plans}
use Rattle.exb_control_spec.proofs.Runs.AskerAnswers.{beat_waits, beat_serial}
use Rattle.exb_world_spec.specs.Worlds.{World, with_near, next_beat}
use Rattle.exb_model.specs.Tables.{at}
use Rattle.exb_world_spec.specs.Effects.{Effect, each}
use Rattle.exb_world_spec.specs.ExtenderSteps.{reacts}
use Rattle.exb_world_spec.specs.ControlFrames.{bridge_request, bridge_address, to_extender, sends_again, beats_near, beats_control}
use Rattle.exb_world_spec.specs.Steps.{if_there, all_extenders, beats_all}
use Rattle.exb_world_spec.specs.Runs.Sessions.{IsAsked, WasAsked, Hands, Each, AskedOf, StoredAt, ArePaired, WorldFits, AreLow}
use Rattle.exb_world_spec.specs.Runs.Simulation.{answer_in, system_of, Follows, IsSound, StaysSound, Stays}
use Rattle.exb_world_spec.proofs.Frames.{hands_request, bare_spelled}
use Rattle.exb_world_spec.proofs.Links.{to_extender_done}
use Rattle.exb_world_spec.proofs.ControlSteps.{GoesOn, same_goes_on}
use Rattle.exb_world_spec.proofs.ControlFrames.{steps_by, quiet_sound, near_fits, done_fits, same_system}
use Rattle.exb_world_spec.proofs.ExtenderSteps.{sends_beaten, beat_quiet, beat_sound}
use Rattle.exb_world_spec.proofs.SilentEffects.{IsSilent, silent_each, there_silent, near_silent, reacts_silent}
use Rattle.exb_world_spec.proofs.LinkFrames.{at_same, at_here}

-- ---- the session counts a beat
beaten_paired : (a : AskerState) (x : AnswererState) → ArePaired a x → ArePaired (beaten_asker a).0 x
beaten_paired a x (inl e) = inl (e ∙ sym (beat_serial a))
beaten_paired a x (inr e) = inr (e.0 ∙ sym (beat_serial a), (e.1.0, beat_waits a ∙ e.1.1))

again_asked : (a : AskerState) (o : Option Request) (m : Message) → a.waiting ≡ o → option_map (λ request. record { serial = a.serial; body = body.Ask request }) o ≡ Some m → WasAsked (beaten_asker a).0 m.serial m.body
again_asked a None m w e = absurd (none_some e)
  where
    none_some : None ≡ Some m → ⊥
    none_some z = cc
again_asked a (Some request) m w e =
    let is : record { serial = a.serial; body = body.Ask request } ≡ m = some_same e in
    let R : Message → Type 0 = λ z. WasAsked (beaten_asker a).0 z.serial z.body in
    let serial : (beaten_asker a).0.serial ≡ a.serial = beat_serial a in
    let mine : IsAsked (beaten_asker a).0 a.serial request = record { early = omega arith; same = λ other k v. request_same (sym w ∙ sym (beat_waits a) ∙ v) } in
    subst R is mine
  where
    some_same : {x y : Message} → Some x ≡ Some y → x ≡ y
    some_same z = cc

    request_same : {x y : Request} → Some x ≡ Some y → x ≡ y
    request_same z = cc

pub answer_serial : (o : Option Work) (a b : ℕ → AskerState) (far : ℕ → ExtenderState) → ((n : ℕ) → (b n).serial ≡ (a n).serial) → answer_in o b far ≡ answer_in o a far
answer_serial None a b far same = refl
answer_serial (Some w) a b far same =
    let x : AnswererState = (far w.first.extender).session in
    ap (λ (i : ℕ). cond (x.last == i) x.answer None) (same w.first.extender)

-- what a beat of the machine is to the sessions
pub record HasBeaten (s : State) (o : Option Work) (far : ℕ → ExtenderState) (m : Moved) : Type 0 where
  pub paired : (n : ℕ) → ArePaired (m.state.askers n) (far n).session
  pub later : (n : ℕ) → GoesOn (s.askers n) (m.state.askers n)
  pub was : Each (λ (x : Asked). AskedOf m.state.askers x.extender x.message.serial x.message.body) m.asks
  pub work : m.state.work ≡ s.work
  pub serials : (n : ℕ) → (m.state.askers n).serial ≡ (s.askers n).serial

pub has_beaten : (s : State) (o : Option Work) (far : ℕ → ExtenderState) → ((n : ℕ) → ArePaired (s.askers n) (far n).session) → HasBeaten s o far (beats_in o s)
has_beaten s None far paired = record { paired = paired; later = λ n serial c k. k; was = tt; work = refl; serials = λ n. refl }
has_beaten s (Some w) far paired =
    let n : ℕ = w.first.extender in
    let a : AskerState = s.askers n in
    record {
      paired = at_same (λ i x. ArePaired x (far i).session) n (beaten_asker a).0 s.askers (beaten_paired a (far n).session (paired n)) paired;
      later = at_same (λ i x. GoesOn (s.askers i) x) n (beaten_asker a).0 s.askers (same_goes_on a (beaten_asker a).0 (beat_serial a) (beat_waits a)) (λ i serial c k. k);
      was = by_flag (beaten_asker a).1 (message_again a) refl;
      work = refl;
      serials = at_same (λ i x. x.serial ≡ (s.askers i).serial) n (beaten_asker a).0 s.askers (beat_serial a) (λ i. refl);
    }
  where
    by_flag : (b : Bool) (o : Option Message) → message_again (s.askers w.first.extender) ≡ o →
        Each (λ (x : Asked). AskedOf (at w.first.extender (beaten_asker (s.askers w.first.extender)).0 s.askers) x.extender x.message.serial x.message.body) (messages_due w.first.extender b o)
    by_flag true (Some m) e =
        let R : AskerState → Type 0 = λ x. WasAsked x m.serial m.body in
        (subst R (sym (at_here w.first.extender (beaten_asker (s.askers w.first.extender)).0 s.askers)) (again_asked (s.askers w.first.extender) (s.askers w.first.extender).waiting m refl e), tt)
    by_flag true None e = tt
    by_flag false o e = tt

module _ (t : Shape) (l : Limits) (tree : IsTree t) (setting : IsSetting t l) (round : TagRoundTrip) where
  pub beat_low : (s : State) → AreLow s.askers → AreLow (beats s).state.askers
  beat_low s low n = (let e = by_work s.work n in omega (arith, low n, e))
    where
      by_work : (o : Option Work) (n : ℕ) → ((beats_in o s).state.askers n).serial ≡ (s.askers n).serial
      by_work None n = refl
      by_work (Some w) n = at_same (λ i x. x.serial ≡ (s.askers i).serial) w.first.extender (beaten_asker (s.askers w.first.extender)).0 s.askers (beat_serial (s.askers w.first.extender)) (λ i. refl) n

  pub control_beats : (w : World) → IsSound t l w → AreLow w.control.askers → Stays t l w (beats_control t w)
  control_beats w sound low =
      let s : State = w.control in
      let h : HasBeaten s s.work w.far (beats s) = has_beaten s s.work w.far sound.fits.ends.paired in
      steps_by t l tree setting w sound Beat tt tt (beat_low s low) w refl refl refl sound.fits (beats s) refl refl h.paired h.later h.was
      (ap (λ (o : Option Work). answer_in o (beats s).state.askers w.far) h.work ∙ answer_serial s.work s.askers (beats s).state.askers w.far h.serials)

  -- ---- the bridge's ends
  pub record IsQuiet (w v : World) : Type 0 where
    pub sound : IsSound t l v
    pub control : v.control ≡ w.control
    pub far : v.far ≡ w.far

  pub near_beats : (w : World) → IsSound t l w → (n : ℕ) → is_extender t n ≡ true → IsQuiet w (beats_near t n w).world
  near_beats w sound n there = by_due (beat_of (w.near n).sending) (w.near n).sending refl
    where
      fits : WorldFits t (with_near n (beaten (w.near n)) w)
      fits = near_fits t l tree setting w n (beaten (w.near n)) sound.fits (sends_beaten t l tree setting round (AskedOf w.control.askers n) (w.near n) (sound.fits.ends.asking n))

      idle : IsQuiet w (with_near n (beaten (w.near n)) w)
      idle = record { sound = quiet_sound t l tree setting w (with_near n (beaten (w.near n)) w) sound refl refl fits; control = refl; far = refl }

      by_due : (d : Due) (o : Option Sending) → (w.near n).sending ≡ o → IsQuiet w (sends_again t n d o (with_near n (beaten (w.near n)) w)).world
      by_due due.SendAgain (Some x) e =
          let u : World = with_near n (beaten (w.near n)) w in
          let f : List ℕ = bridge_request x.sequence x.payload in
          let hands : Hands f (AskedOf w.control.askers n) = hands_request (AskedOf w.control.askers n) bridge_address x.sequence x.payload refl ((sound.fits.ends.asking n).each x e).0 in
          let done = to_extender_done t u.control.held (AskedOf u.control.askers) (StoredAt u.far) tree n f u there (bare_spelled 2 69 66 0 0 0 false x.sequence x.payload) hands refl (record { downs = fits.downs; ups = fits.ups }) in
          let its : WorldFits t (to_extender t n f u).world = done_fits t l tree setting u (to_extender t n f u) fits done in
          record {
            sound = quiet_sound t l tree setting w (to_extender t n f u).world sound done.heart.control done.heart.far its;
            control = done.heart.control;
            far = done.heart.far;
          }
      by_due due.SendAgain None e = idle
      by_due due.Nothing o e = idle
      by_due due.GaveUp o e = idle

  pub all_near_beat : (ns : List ℕ) (w : World) → IsSound t l w → IsQuiet w (each (if_there t (beats_near t)) ns w).world
  all_near_beat [] w sound = record { sound = sound; control = refl; far = refl }
  all_near_beat (n ∷ ns) w sound =
      let v : World = (if_there t (beats_near t) n w).world in
      let first : IsQuiet w v = elim (cases_Bool (is_extender t n)) [
        | inl there ↦ rw there (near_beats w sound n there)
        | inr other ↦ rw other (record { sound = sound; control = refl; far = refl })
      ] in
      let rest : IsQuiet v (each (if_there t (beats_near t)) ns v).world = all_near_beat ns v first.sound in
      record { sound = rest.sound; control = rest.control ∙ first.control; far = rest.far ∙ first.far }

  -- ---- the extenders
  pub record IsUnseen (w v : World) : Type 0 where
    pub fits : WorldFits t v
    pub seen : system_of v ≡ system_of w

  pub unseen_sound : (w v : World) → IsSound t l w → IsUnseen w v → IsSound t l v
  unseen_sound w v sound u = record { fits = u.fits; stands = subst (Stands (fixing t l)) (sym u.seen) sound.stands }

  all_far_beat : (ns : List ℕ) (w : World) → IsSound t l w → IsUnseen w (each (if_there t (λ n. reacts t n None Beats)) ns w).world
  all_far_beat [] w sound = record { fits = sound.fits; seen = refl }
  all_far_beat (n ∷ ns) w sound =
      let v : World = (if_there t (λ n. reacts t n None Beats) n w).world in
      let first : IsUnseen w v = elim (cases_Bool (is_extender t n)) [
        | inl there ↦ rw there (record { fits = (beat_sound t l tree setting round w sound n there).fits; seen = (beat_quiet t l tree setting round w sound n there).1 })
        | inr other ↦ rw other (record { fits = sound.fits; seen = refl })
      ] in
      let rest : IsUnseen v (each (if_there t (λ n. reacts t n None Beats)) ns v).world = all_far_beat ns v (unseen_sound w v sound first) in
      record { fits = rest.fits; seen = rest.seen ∙ first.seen }

  events_between : (xs ys zs : List Event) → xs ≡ [] → zs ≡ [] → (xs ++ ys) ++ zs ≡ ys
  events_between xs ys zs e f = rw (e, f) (append-nil ys)

  -- ---- after a step
  pub sound_after : (cs : List Command) (w v : World) (es : List Event) → IsSound t l w → StaysSound t l cs w v es → IsSound t l v
  sound_after cs w v es sound stays =
      record {
        fits = stays.fits;
        stands = elim stays.follows [
          | inl k ↦ subst (Stands (fixing t l)) (sym k.is) sound.stands
          | inr k ↦ subst (Stands (fixing t l)) (sym k.is) (any_steps_stand (fixing t l) (decide t l) (fixing_plans t l setting) (system_of w) k.step sound.stands k.may).0
        ];
      }

  -- all that a beat does
  pub all_beats : (w : World) → IsSound t l w → AreLow w.control.askers → Stays t l w (beats_all t w)
  unfolding beats_all
  all_beats w sound low =
      let w0 : World = record w { beats = next_beat w.beats } in
      let sound0 : IsSound t l w0 = quiet_sound t l tree setting w w0 sound refl refl (record { ends = sound.fits.ends; downs = sound.fits.downs; ups = sound.fits.ups }) in
      let v1 : World = (each (if_there t (beats_near t)) all_extenders w0).world in
      let q : IsQuiet w0 v1 = all_near_beat all_extenders w0 sound0 in
      let low1 : AreLow v1.control.askers = subst (λ (s : State). AreLow s.askers) (sym q.control) low in
      let v2 : World = (beats_control t v1).world in
      let beat : Effect = beats_control t v1 in
      let stays : Stays t l v1 beat = control_beats v1 q.sound low1 in
      let sound2 : IsSound t l v2 = sound_after [] v1 v2 beat.events q.sound stays in
      let v3 : World = (each (if_there t (λ n. reacts t n None Beats)) all_extenders v2).world in
      let u : IsUnseen v2 v3 = all_far_beat all_extenders v2 sound2 in
      let begun : system_of v1 ≡ system_of w = same_system w v1 q.control q.far in
      let before : IsSilent w0 (each (if_there t (beats_near t)) all_extenders w0) = silent_each (if_there t (beats_near t)) (there_silent t (beats_near t) (near_silent t)) all_extenders w0 in
      let later : IsSilent v2 (each (if_there t (λ n. reacts t n None Beats)) all_extenders v2) =
      silent_each (if_there t (λ n. reacts t n None Beats)) (there_silent t (λ n. reacts t n None Beats) (λ n. reacts_silent t n None Beats)) all_extenders v2
      in
      let same : (beats_all t w).events ≡ beat.events = events_between (each (if_there t (beats_near t)) all_extenders w0).events beat.events _ before.events later.events in
      let F : System → System → List Event → Table → Table → Type 0 = λ y z es u x. Follows t l [] y z es u x in
      let a : F (system_of v1) (system_of v3) beat.events v1.table v2.table = subst (λ (z : System). F (system_of v1) z beat.events v1.table v2.table) (sym u.seen) stays.follows in
      let b : F (system_of w) (system_of v3) beat.events v1.table v2.table = subst (λ (y : System). F y (system_of v3) beat.events v1.table v2.table) begun a in
      let c : F (system_of w) (system_of v3) beat.events w.table v2.table = subst (λ (x : Table). F (system_of w) (system_of v3) beat.events x v2.table) before.table b in
      let d : F (system_of w) (system_of v3) beat.events w.table v3.table = subst (λ (x : Table). F (system_of w) (system_of v3) beat.events w.table x) (sym later.table) c in
      record { fits = u.fits; follows = subst (λ (es : List Event). F (system_of w) (system_of v3) es w.table v3.table) (sym same) d }
