-- The bridge hears a control frame of an extender: an answer that it takes stands before all data words, and what it sends goes
-- out.
use Rattle.std.proofs.Common.{◌≡◌, ◌≢◌, ◌⊎◌, ℕ, ◌==◌, ◌||◌, ◌<◌, ◌++◌, Bool, true, false, List, [], drop, Option, Some, Result, Ok, Err, refl, sym, ◌∙◌, ap, subst, inl, inr}
use Rattle.std.proofs.lemmas.Bool.{cases_Bool}
use Rattle.exb_model.specs.Tree.{Shape, IsTree, on, is_extender}
use Rattle.exb_model.specs.Setup.{Limits}
use Rattle.exb_model.specs.History.{Basis, History, ◌then◌}
use Rattle.exb_frame.specs.TagValues.{TagRoundTrip}
use Rattle.exb_lldp.specs.declared.announce.Announce.{Announce}
use Rattle.exb_lldp.specs.declared.announce.LldpFault.{LldpFault}
use Rattle.exb_lldp.specs.Announcements.{announced as announcement_in}
use Rattle.exb_ecp.specs.declared.pdu.Pdu.{Pdu}
use Rattle.exb_ecp.specs.declared.pdu.EcpFault.{EcpFault}
use Rattle.exb_ecp.specs.Frames.{pdu_in}
use Rattle.exb_ecp.specs.StopAndWait.{stopped, acknowledged, is_fresh}
use Rattle.exb_ecp.specs.StopAndWait.{heard as received}
use Rattle.exb_csp.specs.declared.fault.CspFault.{CspFault}
use Rattle.exb_csp.specs.declared.message.Body.{Body}
use Rattle.exb_csp.specs.declared.message.Message.{Message}
use Rattle.exb_csp.specs.Decoding.{read_message}
use Rattle.exb_csp.specs.declared.session.asker.Taken.{Taken}
use Rattle.exb_csp.specs.declared.session.asker.Taken.TheVariants as taken
use Rattle.exb_csp.specs.Sessions.AskingEnd.{AskerState, took}
use Rattle.exb_extender.specs.Machine.{ExtenderState}
use Rattle.exb_control_spec.specs.Decisions.{decide}
use Rattle.exb_control_spec.specs.Machine.{Work, State, Moved, still, with_asker, answered, heard}
use Rattle.exb_control_spec.specs.Runs.Systems.{System, Hear, Answer, Stray, stepped}
use Rattle.exb_control_spec.specs.Runs.MachineInvariant.{OneWaits}
use Rattle.exb_control_spec.specs.Runs.PlannedChanges.{IsSetting}
use Rattle.exb_control_spec.proofs.Runs.Serials.{steps_wait}
use Rattle.exb_control_spec.proofs.Runs.StrayMessages.{strays_change_nothing}
use Rattle.exb_world_spec.specs.Worlds.{World, Up, Left, with_near}
use Rattle.exb_model.specs.Tables.{at}
use Rattle.exb_world_spec.specs.Effects.{Effect, only}
use Rattle.exb_world_spec.specs.BridgeLearning.{is_of}
use Rattle.exb_world_spec.specs.ControlFrames.{bridge_acknowledgement, bridge_address, to_extender, moves, stops, hears_message, hears_fresh, hears_request, hears_pdu, hears_frame, hears}
use Rattle.exb_world_spec.specs.Runs.Sessions.{WasAnswered, Reads, Hands, AskedOf, StoredAt, WorldFits, AreLow}
use Rattle.exb_world_spec.specs.Runs.Simulation.{system_of, IsSound}
use Rattle.exb_world_spec.proofs.OneRequest.{Asks, answered_asks, heard_asks}
use Rattle.exb_world_spec.proofs.ExtenderAnswers.{sends_received}
use Rattle.exb_world_spec.proofs.Frames.{bare_spelled, hands_acknowledgement}
use Rattle.exb_world_spec.proofs.ControlFrames.{moves_control, wakes_answer, takes_is, all_free, all_paired, near_fits, sends_stopped, acknowledged_fits, done_fits, quiet_sound, out}
use Rattle.exb_world_spec.proofs.ControlSteps.{was_each, answer_none}
use Rattle.exb_world_spec.proofs.TakenAnswers.{IsTaken, NotTaken, took_cases, IsOutstanding}
use Rattle.exb_flight.specs.Items.{Key, leads}
use Rattle.exb_flight.specs.Flight.{Flight, key_of}
use Rattle.exb_flight.specs.FlightFacts.{AreOf, WorkGood}
use Rattle.exb_flight.specs.AllowedSteps.{CanMove, run}
use Rattle.exb_flight.specs.Tokens.{key_by, key_of_message, key_of_pdu, key_of_frame}
use Rattle.exb_flight.specs.SimulationRelation.{Shows}
use Rattle.exb_flight.specs.Simulation.{Flown}
use Rattle.exb_flight.proofs.SimulatedTicks.{none_left}
use Rattle.exb_flight.proofs.PushedTokens.{Pushed, pushed_none, flown_then}
use Rattle.exb_flight.proofs.SimulatedRequests.{shows_near, to_extender_pushed, control_spelled}
use Rattle.exb_flight.proofs.SimulatedControl.{IsMoving, IsGoodFor, is_moving, moves_flown}

module _ (t : Shape) (l : Limits) (i : Basis) (tree : IsTree t) (setting : IsSetting t l) (round : TagRoundTrip) where
  none_flown : (v : World) (h : History) (gone : List Left) (f : Flight) → Shows t i v h gone f → Flown t l i h gone f (only v)
  none_flown v h gone f s = (pushed_none t l i v h gone f s).flown

  -- the machine stays as it is
  still_flown : (v : World) (h : History) (gone : List Left) (f : Flight) → Shows t i v h gone f → Flown t l i h gone f (moves t (still v.control) v)
  still_flown v h gone f s =
      record { steps = []; runs = tt; shows = none_left t i _ h gone f (record { system = s.system; down = s.down; up = s.up; history = s.history; left = s.left; learned = s.learned }) }

  -- of extender n, on the link of extender m, which hangs on the bridge
  module _ (m n : ℕ) (low_on : on t m < 64) where
    -- the key of an answer leads on the link
    abbrev LeadsFor : Flight → Option Key → Type 0
    LeadsFor f key = (j : Key) → key ≡ Some j → leads j (f.up m) ≡ true

    -- ---- a message
    taken_flown : (v : World) → IsSound t l v → IsGoodFor i v → (h : History) (gone : List Left) (f : Flight) → Shows t i v h gone f → (x : Message) → WasAnswered (v.far n).session x.serial x.body → (k : IsTaken (v.control.askers n) x) →
        AreLow (answered (decide t l) n x v.control).state.askers → LeadsFor f (key_by Up n x.serial x.body) → Flown t l i h gone f (moves t (answered (decide t l) n x v.control) (with_near n (stopped (v.near n)) v))
    taken_flown v sound good h gone f s x fits k low lead =
        let d = decide t l in
        let u : World = with_near n (stopped (v.near n)) v in
        let its : WorldFits t u = near_fits t l tree setting v n (stopped (v.near n)) sound.fits (sends_stopped t l tree setting (AskedOf v.control.askers n) (v.near n)) in
        let y : Moved = answered d n x v.control in
        let is = takes_is t l tree setting v sound n x fits k in
        let asks : Asks (with_asker n (took (v.control.askers n) x).0 v.control) y = answered_asks d n x v.control in
        let after : OneWaits y.state = steps_wait d (system_of v) (Stray n x) sound.fits.ends.waits in
        let low' : AreLow (stepped d (system_of v) Answer).state.askers = subst (λ (z : Moved). AreLow z.state.askers) is low in
        let free = all_free t l tree setting v sound n x fits k in
        let paired = all_paired t l tree setting v sound n x fits k in
        let before : ℕ → AskerState = at n (took (v.control.askers n) x).0 v.control.askers in
        let moving : IsMoving t l (system_of v) u Answer y =
        is_moving t l i tree setting round v sound Answer tt tt low' u refl refl y is refl (was_each before y.state.askers y.asks asks.one)
        (answer_none v.far before y.state.askers y.asks asks.one free paired y.state.work after) in
        let o : IsOutstanding v.control n k.request = out t l tree setting v sound n x fits k in
        let j : Key = record { extender = n; serial = (v.control.askers n).serial } in
        let key : key_by Up n x.serial x.body ≡ Some j = ap (λ (b : Body). key_by Up n x.serial b) k.content ∙ ap (λ (z : ℕ). Some (record { extender = n; serial = z })) k.serial in
        let here : leads j (f.up m) ≡ true = lead j key in
        let can : CanMove t i f Answer = λ w e.
        let at_w : v.control.work ≡ Some w = subst (λ (z : System). z.state.work ≡ Some w) s.system e in
        let same : o.work ≡ w = work_same o.work w (sym o.is ∙ at_w) in
        let first : leads (key_of v.control o.work) (f.up m) ≡ true = subst (λ (z : ℕ). leads (record { extender = z; serial = (v.control.askers z).serial }) (f.up m) ≡ true) (sym o.of) here in
        let second : leads (key_of v.control w) (f.up m) ≡ true = subst (λ (z : Work). leads (key_of v.control z) (f.up m) ≡ true) same first in
        (m, low_on, subst (λ (z : System). leads (key_of z.state w) (f.up m) ≡ true) (sym s.system) second) in
        moves_flown t l i tree setting round u h gone f (shows_near t l i tree round v h gone f n (stopped (v.near n)) s) good.work good.queue its Answer y moving can tt
      where
        work_same : (a b : Work) → Some a ≡ Some b → a ≡ b
        work_same a b e = cc

    message_flown : (v : World) → IsSound t l v → IsGoodFor i v → (h : History) (gone : List Left) (f : Flight) → Shows t i v h gone f → (r : Result Message CspFault) → ((x : Message) → r ≡ Ok x → WasAnswered (v.far n).session x.serial x.body) →
        AreLow (hears_message t l n r v).world.control.askers → LeadsFor f (key_of_message Up n r) → Flown t l i h gone f (hears_message t l n r v)
    message_flown v sound good h gone f s (Err fault) fits low lead = none_flown v h gone f s
    message_flown v sound good h gone f s (Ok x) fits low lead = by_cases (took_cases (v.control.askers n) x)
      where
        by_cases : IsTaken (v.control.askers n) x ⊎ NotTaken (v.control.askers n) x → Flown t l i h gone f (moves t (answered (decide t l) n x v.control) (stops (took (v.control.askers n) x).1 n v))
        by_cases (inl k) =
            let low' : AreLow (answered (decide t l) n x v.control).state.askers = subst (λ (z : State). AreLow z.askers) (moves_control t (answered (decide t l) n x v.control) (stops (took (v.control.askers n) x).1 n v)) low in
            let R : Taken → Type 0 = λ z. Flown t l i h gone f (moves t (answered (decide t l) n x v.control) (stops z n v)) in
            subst R (sym (ap (λ (y : AskerState × Taken). y.1) k.is)) (taken_flown v sound good h gone f s x (fits x refl) k low' lead)
        by_cases (inr not) =
            let same : answered (decide t l) n x v.control ≡ still v.control = strays_change_nothing (decide t l) v.control n x not in
            let R : Moved → Type 0 = λ z. Flown t l i h gone f (moves t z (stops (took (v.control.askers n) x).1 n v)) in
            subst R (sym same) (by_taken (took (v.control.askers n) x).1 not)
          where
            by_taken : (z : Taken) → ((response : Rattle.exb_csp.specs.declared.message.Response.Response) → z ≢ taken.Answer response) → Flown t l i h gone f (moves t (still v.control) (stops z n v))
            by_taken (taken.Answer response) e = absurd (e response refl)
            by_taken taken.Stale e = still_flown v h gone f s
            by_taken taken.NotOurs e = still_flown v h gone f s

    -- ---- a frame
    fresh_flown : (v : World) → IsSound t l v → IsGoodFor i v → (h : History) (gone : List Left) (f : Flight) → Shows t i v h gone f → (fresh : Bool) (sequence : ℕ) (payload : List ℕ) → Reads payload (StoredAt v.far n) →
        AreLow (hears_fresh t l n fresh sequence payload v).world.control.askers → LeadsFor f (key_of_message Up n (read_message payload)) → Flown t l i h gone f (hears_fresh t l n fresh sequence payload v)
    fresh_flown v sound good h gone f s false sequence payload reads low lead = none_flown v h gone f s
    fresh_flown v sound good h gone f s true sequence payload reads low lead =
        let u : World = with_near n (received sequence (v.near n)) v in
        let its : WorldFits t u = near_fits t l tree setting v n (received sequence (v.near n)) sound.fits (sends_received (AskedOf v.control.askers n) sequence (v.near n) (sound.fits.ends.asking n)) in
        message_flown u (quiet_sound t l tree setting v u sound refl refl its) (record { work = good.work; queue = good.queue }) h gone f (shows_near t l i tree round v h gone f n (received sequence (v.near n)) s) (read_message payload) reads.each low lead

    request_flown : (v : World) → IsSound t l v → IsGoodFor i v → (h : History) (gone : List Left) (f : Flight) → Shows t i v h gone f → is_extender t n ≡ true → (sequence : ℕ) (payload : List ℕ) → Reads payload (StoredAt v.far n) →
        AreLow (hears_request t l n sequence payload v).world.control.askers → LeadsFor f (key_of_message Up n (read_message payload)) → Flown t l i h gone f (hears_request t l n sequence payload v)
    request_flown v sound good h gone f s there sequence payload reads low lead =
        let g : List ℕ = bridge_acknowledgement sequence in
        let e : Effect = to_extender t n g v in
        let hands : Hands g (AskedOf v.control.askers n) = hands_acknowledgement (AskedOf v.control.askers n) bridge_address sequence refl in
        let first : Pushed t l i h gone f e = to_extender_pushed t l i tree round v h gone f s n g there (bare_spelled 2 69 66 0 0 0 true sequence []) (control_spelled 2 69 66 0 0 0 true sequence []) hands in
        let done = acknowledged_fits t l tree setting v sound.fits n sequence there in
        let its : IsSound t l e.world = quiet_sound t l tree setting v e.world sound done.heart.control done.heart.far (done_fits t l tree setting v e sound.fits done) in
        let reads' : Reads payload (StoredAt e.world.far n) = subst (λ (z : ℕ → ExtenderState). Reads payload (StoredAt z n)) (sym done.heart.far) reads in
        let good' : WorkGood i e.world.control.work × AreOf i e.world.control.queue = subst (λ (c : State). WorkGood i c.work × AreOf i c.queue) (sym done.heart.control) (good.work, good.queue) in
        let rest = fresh_flown e.world its (record { work = good'.0; queue = good'.1 }) (h then e.events) (gone ++ e.left) (run t l i f first.flown.steps) first.flown.shows (is_fresh sequence (e.world.near n)) sequence payload reads' low
        (λ j k. first.grows.up j m (lead j k)) in
        flown_then t l i h gone f e (λ w. hears_fresh t l n (is_fresh sequence (w.near n)) sequence payload w) first.flown rest

    pdu_flown : (v : World) → IsSound t l v → IsGoodFor i v → (h : History) (gone : List Left) (f : Flight) → Shows t i v h gone f → is_extender t n ≡ true → (r : Result Pdu EcpFault) (g : List ℕ) →
        ((p : Pdu) → r ≡ Ok p → p.acknowledgement ≡ false → Reads (drop 18 g) (StoredAt v.far n)) → AreLow (hears_pdu t l n r g v).world.control.askers → LeadsFor f (key_of_pdu Up n r g) → Flown t l i h gone f (hears_pdu t l n r g v)
    pdu_flown v sound good h gone f s there (Err fault) g hands low lead = none_flown v h gone f s
    pdu_flown v sound good h gone f s there (Ok p) g hands low lead =
        elim (cases_Bool (p.subtype == 2)) [
          | inr other ↦ rw other (none_flown v h gone f s)
          | inl ours ↦ elim (cases_Bool p.acknowledgement) [
            | inl ack ↦ rw (ours, ack) (none_flown (with_near n (acknowledged p.sequence (v.near n)) v) h gone f (shows_near t l i tree round v h gone f n (acknowledged p.sequence (v.near n)) s))
            | inr request ↦
                let low' : AreLow (hears_request t l n p.sequence (drop 18 g) v).world.control.askers = rw (ours, request) at low in
                let lead' : LeadsFor f (key_of_message Up n (read_message (drop 18 g))) = rw (ours, request) at lead in
                rw (ours, request) (request_flown v sound good h gone f s there p.sequence (drop 18 g) (hands p refl request) low' lead')
          ]
        ]

    heard_flown : (v : World) → IsSound t l v → IsGoodFor i v → (h : History) (gone : List Left) (f : Flight) → Shows t i v h gone f → AreLow (heard (decide t l) n v.control).state.askers → Flown t l i h gone f (moves t (heard (decide t l) n v.control) v)
    heard_flown v sound good h gone f s low =
        let d = decide t l in
        let c : State = record v.control { heard = λ k. k == n || v.control.heard k } in
        let y : Moved = heard d n v.control in
        let k : Asks v.control y = heard_asks d n v.control in
        let waits : OneWaits v.control = sound.fits.ends.waits in
        let after : OneWaits y.state = steps_wait d (system_of v) (Hear n) waits in
        let moving : IsMoving t l (system_of v) v (Hear n) y =
        is_moving t l i tree setting round v sound (Hear n) tt tt low v refl refl y refl refl (was_each v.control.askers y.state.askers y.asks k.one)
        (wakes_answer t l tree setting v.far v.control.work c refl k.one waits after sound.fits.ends.paired) in
        moves_flown t l i tree setting round v h gone f s good.work good.queue sound.fits (Hear n) y moving tt tt

    frame_flown : (v : World) → IsSound t l v → IsGoodFor i v → (h : History) (gone : List Left) (f : Flight) → Shows t i v h gone f → is_extender t n ≡ true → (r : Result Announce LldpFault) (g : List ℕ) → Hands g (StoredAt v.far n) →
        AreLow (hears_frame t l n r g v).world.control.askers → LeadsFor f (key_of_frame Up n r g) → Flown t l i h gone f (hears_frame t l n r g v)
    frame_flown v sound good h gone f s there (Err fault) g hands low lead = pdu_flown v sound good h gone f s there (pdu_in g) g hands.each low lead
    frame_flown v sound good h gone f s there (Ok a) g hands low lead =
        elim (cases_Bool (is_of t n a)) [
          | inl ours ↦
              let low' : AreLow (heard (decide t l) n v.control).state.askers = subst (λ (z : State). AreLow z.askers) (moves_control t (heard (decide t l) n v.control) v) (rw ours at low) in
              rw ours (heard_flown v sound good h gone f s low')
          | inr other ↦ rw other (still_flown v h gone f s)
        ]

    pub hears_flown : (v : World) → IsSound t l v → IsGoodFor i v → (h : History) (gone : List Left) (f : Flight) → Shows t i v h gone f → is_extender t n ≡ true → (g : List ℕ) → Hands g (StoredAt v.far n) →
        AreLow (hears t l n g v).world.control.askers → LeadsFor f (key_of_frame Up n (announcement_in g) g) → Flown t l i h gone f (hears t l n g v)
    unfolding hears
    hears_flown v sound good h gone f s there g hands low lead = frame_flown v sound good h gone f s there (announcement_in g) g hands low lead
