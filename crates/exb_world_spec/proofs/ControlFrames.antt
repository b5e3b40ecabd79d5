-- What the bridge hears keeps what holds of the sessions, and is nothing or one step of the machine of changes.
use Rattle.std.proofs.Common.{◌≡◌, ◌≢◌, ◌⊎◌, ℕ, ◌+◌, ◌==◌, ◌||◌, ◌++◌, nat_lt, Bool, true, false, List, [], ◌∷◌, drop, Option, Some, None, Ok, Err, refl, ap, sym, ◌∙◌, subst, arith, inl, inr}
use Rattle.std.specs.Prelude.{Result}
use Rattle.std.proofs.lemmas.Bool.{cases_Bool, cases_eq, eq-eqb, ne_eqb}
use Rattle.exb_model.specs.declared.command.Command.{Command}
use Rattle.exb_model.specs.declared.event.Event.{Event}
use Rattle.exb_model.specs.Tree.{Shape, IsTree, on, trunk, is_extender}
use Rattle.exb_model.specs.Setup.{Limits, NamesExternal}
use Rattle.exb_lldp.specs.declared.announce.Announce.{Announce}
use Rattle.exb_lldp.specs.declared.announce.LldpFault.{LldpFault}
use Rattle.exb_lldp.specs.Announcements.{announced as announcement_in}
use Rattle.exb_ecp.specs.declared.pdu.Pdu.{Pdu}
use Rattle.exb_ecp.specs.declared.pdu.EcpFault.{EcpFault}
use Rattle.exb_ecp.specs.Frames.{pdu_in}
use Rattle.exb_ecp.specs.StopAndWait.{Sending, State as Ecp, stopped, acknowledged, is_fresh}
use Rattle.exb_ecp.specs.StopAndWait.{heard as received}
use Rattle.exb_csp.specs.declared.fault.CspFault.{CspFault}
use Rattle.exb_csp.specs.declared.message.Body.{Body}
use Rattle.exb_csp.specs.declared.message.Message.{Message}
use Rattle.exb_csp.specs.declared.message.Response.{Response}
use Rattle.exb_csp.specs.Execution.{ExtenderTables}
use Rattle.exb_csp.specs.Decoding.{read_message}
use Rattle.exb_csp.specs.declared.session.asker.Taken.{Taken}
use Rattle.exb_csp.specs.declared.session.asker.Taken.TheVariants as taken
use Rattle.exb_csp.specs.Sessions.AskingEnd.{AskerState, took}
use Rattle.exb_extender.specs.Machine.{ExtenderState}
use Rattle.exb_learn.specs.Calls.{Table}
use Rattle.exb_control_spec.specs.declared.extender_message.Asked.{Asked}
use Rattle.exb_control_spec.specs.declared.job.Job.TheVariants as job
use Rattle.exb_control_spec.specs.Decisions.{decide}
use Rattle.exb_control_spec.specs.Machine.{Work, State, Moved, still, with_asker, wakes_by, answered, heard, ordered}
use Rattle.exb_control_spec.specs.Runs.Systems.{System, Step, Order, Hear, Answer, Stray, answer_message, takes_answer, stepped}
use Rattle.exb_control_spec.specs.Runs.Systems.{moved as machine_moved}
use Rattle.exb_control_spec.specs.Runs.MachineInvariant.{Stands, MayStep, OneWaits}
use Rattle.exb_control_spec.specs.Runs.PlannedChanges.{planning, IsSetting}
use Rattle.exb_control_spec.proofs.Runs.StepInvariants.{any_steps_stand}
use Rattle.exb_control_spec.specs.Runs.RequestTargets.{Knows, AreAddressed, NamesPorts}
use Rattle.exb_control_spec.proofs.Runs.Serials.{steps_wait}
use Rattle.exb_control_spec.proofs.Runs.RequestTargets.{steps_know}
use Rattle.exb_control_spec.proofs.Runs.StrayMessages.{strays_change_nothing}
use Rattle.exb_world_spec.specs.Worlds.{World, with_near, with_control, with_table}
use Rattle.exb_model.specs.Tables.{at}
use Rattle.exb_world_spec.specs.Effects.{Effect, only, joined, each}
use Rattle.exb_world_spec.specs.BridgeLearning.{is_of, forgotten_all, channel_at_trunk}
use Rattle.exb_world_spec.specs.ExtenderSteps.{hung_on}
use Rattle.exb_world_spec.specs.ControlFrames.{bridge_acknowledgement, bridge_address, puts_tagged, to_extender, asks, moves, stops, hears_message, hears_fresh, hears_request, hears_pdu, hears_frame, hears}
use Rattle.exb_world_spec.specs.Runs.Sessions.{IsAnswered, WasAnswered, Reads, Hands, Sends, Each, AskedOf, StoredAt, ArePaired, WorldFits, KeepsCascades, AreLow}
use Rattle.exb_world_spec.specs.Runs.Simulation.{answer_at, answer_in, jobs_in, commands_in, system_of, Follows, IsSound, StaysSound, Stays}
use Rattle.exb_world_spec.proofs.OneRequest.{AtMostOne, Asks, answered_asks, heard_asks, ordered_asks}
use Rattle.exb_world_spec.proofs.Frames.{hands_acknowledgement, bare_spelled}
use Rattle.exb_world_spec.proofs.ExtenderAnswers.{sends_acknowledged, sends_received}
use Rattle.exb_world_spec.proofs.Links.{IsDone, to_extender_done}
use Rattle.exb_world_spec.specs.Runs.CascadeChannels.{fixing}
use Rattle.exb_world_spec.proofs.CascadeChannels.{fixing_plans}
use Rattle.exb_world_spec.proofs.Routing.{keeps_now}
use Rattle.exb_world_spec.proofs.WritableRequests.{Wrote, moved_wrote, all_be_sent}
use Rattle.exb_world_spec.proofs.ControlSteps.{GoesOn, freed_goes_on, all_go_on, paired_after, was_each, Free, answer_none, MayMove, HasMoved, fits_from, has_moved}
use Rattle.exb_world_spec.proofs.TakenAnswers.{IsTaken, NotTaken, took_cases, IsOutstanding, outstanding, others_free, none_free}
use Rattle.exb_world_spec.proofs.SilentEffects.{IsSilent, to_extender_silent}
use Rattle.exb_world_spec.proofs.Jobs.{moved_jobs, moves_events, moves_table}
use Rattle.exb_world_spec.proofs.LinkFrames.{at_same}

-- what the world is for the machine, by its parts
abbrev pub seen_as : State → (ℕ → ExtenderState) → System
seen_as s far = record { state = s; tables = λ n. (far n).tables; answer = answer_in s.work s.askers far }

abbrev pub record_of : State → (ℕ → ExtenderTables) → Option Response → System
record_of s a x = record { state = s; tables = a; answer = x }

pub same_system : (w v : World) → v.control ≡ w.control → v.far ≡ w.far → system_of v ≡ system_of w
same_system w v e f = ap (λ (s : State). seen_as s v.far) e ∙ ap (λ (x : ℕ → ExtenderState). seen_as w.control x) f

pub same_system_as : (v : World) (s : State) (far : ℕ → ExtenderState) → v.control ≡ s → v.far ≡ far → system_of v ≡ seen_as s far
same_system_as v s far e f = ap (λ (x : State). seen_as x v.far) e ∙ ap (λ (x : ℕ → ExtenderState). seen_as s x) f

pub same_parts : (s u : State) (a b : ℕ → ExtenderTables) (x y : Option Response) → s ≡ u → a ≡ b → x ≡ y → record_of s a x ≡ record_of u b y
same_parts s u a b x y e f g = ap (λ (z : State). record_of z a x) e ∙ ap (λ (z : ℕ → ExtenderTables). record_of u z x) f ∙ ap (λ (z : Option Response). record_of u b z) g

-- ---- the control of a world that sends
pub to_extender_control : (t : Shape) (n : ℕ) (f : List ℕ) (w : World) → (to_extender t n f w).world.control ≡ w.control
to_extender_control t n f w =
    elim (cases_Bool (nat_lt (on t n) 64)) [
      | inl e ↦ rw e refl
      | inr e ↦ rw e (by_options (hung_on t (trunk t n)) (channel_at_trunk t w.control.held (on t n)))
    ]
  where
    by_options : (o c : Option ℕ) → (puts_tagged (trunk t n) o c f w).world.control ≡ w.control
    by_options (Some m) (Some channel) = refl
    by_options (Some m) None = refl
    by_options None c = refl

each_control : (t : Shape) (xs : List Asked) (w : World) → (each (asks t) xs w).world.control ≡ w.control
each_control t [] w = refl
each_control t (x ∷ xs) w = each_control t xs (asks t x w).world ∙ to_extender_control t x.extender _ (with_near x.extender _ w)

pub moves_control : (t : Shape) (m : Moved) (w : World) → (moves t m w).world.control ≡ m.state
moves_control t m w = each_control t m.asks (with_table (forgotten_all m.downs w.table) (with_control m.state w))

module _ (t : Shape) (l : Limits) (tree : IsTree t) (setting : IsSetting t l) where
  -- ---- the machine makes a step
  -- a step of the machine that the world sees as it is
  pub steps_by : (w : World) → IsSound t l w → (step : Step) → MayStep (planning t) (system_of w) step → NamesPorts t step → AreLow (stepped (decide t l) (system_of w) step).state.askers →
      (u : World) → u.control ≡ w.control → u.far ≡ w.far → u.table ≡ w.table → WorldFits t u →
      (m : Moved) → m ≡ machine_moved (decide t l) (system_of w) step →
      (stepped (decide t l) (system_of w) step).tables ≡ (system_of w).tables →
      ((n : ℕ) → ArePaired (m.state.askers n) (u.far n).session) → ((n : ℕ) → GoesOn (u.control.askers n) (m.state.askers n)) → Each (λ (x : Asked). AskedOf m.state.askers x.extender x.message.serial x.message.body) m.asks →
      answer_in m.state.work m.state.askers w.far ≡ (stepped (decide t l) (system_of w) step).answer →
      StaysSound t l (commands_in step) w (moves t m u).world (moves t m u).events
  steps_by w sound step may names low u control far table fits m is tables paired later was answer =
      let y : System = system_of w in
      let z : System = stepped (decide t l) y step in
      let known = steps_know t l y step sound.fits.ends.knows names in
      let waits : OneWaits z.state = steps_wait (decide t l) y step sound.fits.ends.waits in
      let wrote : Wrote (machine_moved (decide t l) y step) = moved_wrote t l setting y step sound.fits.ends.writes sound.fits.ends.waits in
      let keeps : KeepsCascades t w.control.held z.state.held = keeps_now t l tree y z sound.stands (any_steps_stand (fixing t l) (decide t l) (fixing_plans t l setting) y step sound.stands may).0 in
      let R : Moved → Type 0 = λ x. Knows t x.state × OneWaits x.state × AreAddressed t x.asks × KeepsCascades t w.control.held x.state.held × Wrote x × AreLow x.state.askers in
      let r : R m = subst R (sym is) (known.0, waits, known.1, keeps, wrote, low) in
      let moving : MayMove t u m = record {
        paired = paired;
        later = later;
        was = was;
        knows = r.0;
        writes = record { work = r.4.work; numbered = r.4.numbered };
        waits = r.1;
        addressed = r.2;
        keeps = subst (λ (s : State). KeepsCascades t s.held m.state.held) (sym control) r.3;
        sent = all_be_sent m.state.askers m.asks r.4.asks was r.5;
      } in
      let h : HasMoved t u (moves t m u).world m.state = has_moved t tree u fits m moving in
      record {
        fits = h.fits;
        follows = inr (record {
          step = step;
          may = may;
          is = same_system_as (moves t m u).world m.state w.far h.control (h.far ∙ far)
              ∙ same_parts m.state z.state (λ n. (w.far n).tables) z.tables (answer_in m.state.work m.state.askers w.far) z.answer (ap (λ (x : Moved). x.state) is) (sym tables) answer;
          orders = refl;
          tells = ap jobs_in (moves_events t m u) ∙ ap (λ (x : Moved). jobs_in x.events) is ∙ moved_jobs (decide t l) y step;
          forgets = moves_table t m u ∙ ap (forgotten_all m.downs) table ∙ ap (λ (x : Moved). forgotten_all x.downs w.table) is;
        });
      }

  -- one that asks at most one request, from askers of whom none waits
  steps_sound : (w : World) → IsSound t l w → (step : Step) → MayStep (planning t) (system_of w) step → NamesPorts t step → AreLow (stepped (decide t l) (system_of w) step).state.askers →
      (u : World) → u.control ≡ w.control → u.far ≡ w.far → u.table ≡ w.table → WorldFits t u →
      (m : Moved) → m ≡ machine_moved (decide t l) (system_of w) step →
      (stepped (decide t l) (system_of w) step).tables ≡ (system_of w).tables →
      (before : ℕ → AskerState) → AtMostOne before m.asks m.state.askers → (m.asks ≡ []) ⊎ Free before → ((n : ℕ) → ArePaired (before n) (u.far n).session) → ((n : ℕ) → GoesOn (u.control.askers n) (before n)) →
      answer_in m.state.work m.state.askers w.far ≡ (stepped (decide t l) (system_of w) step).answer →
      StaysSound t l (commands_in step) w (moves t m u).world (moves t m u).events
  steps_sound w sound step may names low u control far table fits m is tables before asks free paired later answer =
      steps_by w sound step may names low u control far table fits m is tables (paired_after u.far before m.state.askers m.asks asks free paired)
      (λ n serial c k. all_go_on before m.state.askers m.asks asks n serial c (later n serial c k)) (was_each before m.state.askers m.asks asks) answer

  -- ---- the queue goes on
  pub free_or_none : (o : Option Work) (s : State) → s.work ≡ o → OneWaits s → ((wakes_by (decide t l) o s).asks ≡ []) ⊎ Free s.askers
  free_or_none None s e waits = inr (none_free s waits e)
  free_or_none (Some w) s e waits = inl refl

  pub wakes_answer : (far : ℕ → ExtenderState) (o : Option Work) (s : State) → s.work ≡ o → AtMostOne s.askers (wakes_by (decide t l) o s).asks (wakes_by (decide t l) o s).state.askers → OneWaits s →
      OneWaits (wakes_by (decide t l) o s).state → ((n : ℕ) → ArePaired (s.askers n) (far n).session) →
      answer_in (wakes_by (decide t l) o s).state.work (wakes_by (decide t l) o s).state.askers far ≡ answer_in o s.askers far
  wakes_answer far None s e asks waits after paired =
      answer_none far s.askers (wakes_by (decide t l) None s).state.askers (wakes_by (decide t l) None s).asks asks (none_free s waits e) paired (wakes_by (decide t l) None s).state.work after
  wakes_answer far (Some w) s e asks waits after paired = ap (λ (o : Option Work). answer_in o s.askers far) e

  -- an extender is heard
  heard_sound : (w : World) → IsSound t l w → (n : ℕ) → AreLow (heard (decide t l) n w.control).state.askers → Stays t l w (moves t (heard (decide t l) n w.control) w)
  heard_sound w sound n low =
      let s : State = record w.control { heard = λ m. m == n || w.control.heard m } in
      let k : Asks w.control (heard (decide t l) n w.control) = heard_asks (decide t l) n w.control in
      let waits : OneWaits w.control = sound.fits.ends.waits in
      let after : OneWaits (heard (decide t l) n w.control).state = steps_wait (decide t l) (system_of w) (Hear n) waits in
      steps_sound w sound (Hear n) tt tt low w refl refl refl sound.fits (heard (decide t l) n w.control) refl refl w.control.askers k.one
      (free_or_none w.control.work s refl waits) sound.fits.ends.paired (λ m serial c x. x)
      (wakes_answer w.far w.control.work s refl k.one waits after sound.fits.ends.paired)

  -- a command is given
  pub ordered_sound : (w : World) → IsSound t l w → (c : Command) → NamesExternal t c → AreLow (ordered (decide t l) c w.control).state.askers → StaysSound t l (c ∷ []) w (moves t (ordered (decide t l) c w.control) w).world (moves t (ordered (decide t l) c w.control) w).events
  ordered_sound w sound c names low =
      let s : State = record w.control { queue = w.control.queue ++ job.Ordered (w.control.given + 1) c ∷ []; given = w.control.given + 1 } in
      let k : Asks w.control (ordered (decide t l) c w.control) = ordered_asks (decide t l) c w.control in
      let waits : OneWaits w.control = sound.fits.ends.waits in
      let after : OneWaits (ordered (decide t l) c w.control).state = steps_wait (decide t l) (system_of w) (Order c) waits in
      steps_sound w sound (Order c) names names low w refl refl refl sound.fits (ordered (decide t l) c w.control) refl refl w.control.askers k.one
      (free_or_none w.control.work s refl waits) sound.fits.ends.paired (λ m serial c x. x)
      (wakes_answer w.far w.control.work s refl k.one waits after sound.fits.ends.paired)

  -- ---- a message from extender n
  module _ (w : World) (sound : IsSound t l w) (n : ℕ) (m : Message) (fits : WasAnswered (w.far n).session m.serial m.body) (k : IsTaken (w.control.askers n) m) where
    response_is : IsAnswered (w.far n).session m.serial k.response
    response_is = subst (λ (b : Body). WasAnswered (w.far n).session m.serial b) k.content fits

    -- it was executed
    pub even : (w.far n).session.last ≡ (w.control.askers n).serial
    even = elim (sound.fits.ends.paired n) [ inl e ↦ e | inr e ↦ absurd (omega (arith, response_is.early, k.serial)) ]

    pub out : IsOutstanding w.control n k.request
    out = outstanding w.control n k.request sound.fits.ends.waits k.waited

    message_is : m ≡ answer_message (w.control.askers n).serial k.response
    message_is = ap (λ (i : ℕ). record { serial = i; body = m.body }) k.serial ∙ ap (λ (b : Body). record { serial = (w.control.askers n).serial; body = b }) k.content

    answer_there : answer_in w.control.work w.control.askers w.far ≡ Some k.response
    answer_there =
        let at_n : answer_at (w.control.askers n) (w.far n) ≡ Some k.response = rw (eq-eqb (w.far n).session.last (w.control.askers n).serial even) (response_is.same (k.serial ∙ sym even)) in
        ap (λ (o : Option Work). answer_in o w.control.askers w.far) out.is ∙ subst (λ (i : ℕ). answer_at (w.control.askers i) (w.far i) ≡ Some k.response) (sym out.of) at_n

    pub takes_is : answered (decide t l) n m w.control ≡ takes_answer (decide t l) w.control.work (system_of w).answer w.control
    takes_is =
        let F : Option Work → Option Response → Moved = λ o a. takes_answer (decide t l) o a w.control in
        let by_extender : answered (decide t l) n (answer_message (w.control.askers n).serial k.response) w.control
        ≡ answered (decide t l) out.work.first.extender (answer_message (w.control.askers out.work.first.extender).serial k.response) w.control =
        ap (λ (i : ℕ). answered (decide t l) i (answer_message (w.control.askers i).serial k.response) w.control) (sym out.of)
        in
        ap (λ (x : Message). answered (decide t l) n x w.control) message_is ∙ by_extender
        ∙ sym (ap (λ (o : Option Work). F o (system_of w).answer) out.is ∙ ap (F (Some out.work)) answer_there)

    taker : AskerState
    taker = (took (w.control.askers n) m).0

    taker_serial : (took (w.control.askers n) m).0.serial ≡ (w.control.askers n).serial
    taker_serial = ap (λ (x : AskerState × Taken). x.0.serial) k.is

    taker_free : (took (w.control.askers n) m).0.waiting ≡ None
    taker_free = ap (λ (x : AskerState × Taken). x.0.waiting) k.is

    pub all_free : Free (at n (took (w.control.askers n) m).0 w.control.askers)
    all_free i =
        elim (cases_eq i n) [
          | inl e ↦ rw (eq-eqb i n e) taker_free
          | inr ne ↦ rw (ne_eqb i n ne) (others_free w.control n i k.request sound.fits.ends.waits k.waited ne)
        ]

    pub all_paired : (i : ℕ) → ArePaired (at n (took (w.control.askers n) m).0 w.control.askers i) (w.far i).session
    all_paired = at_same (λ i a. ArePaired a (w.far i).session) n (took (w.control.askers n) m).0 w.control.askers (inl (even ∙ sym taker_serial)) sound.fits.ends.paired

    all_later : (i : ℕ) → GoesOn (w.control.askers i) (at n (took (w.control.askers n) m).0 w.control.askers i)
    all_later = at_same (λ i a. GoesOn (w.control.askers i) a) n (took (w.control.askers n) m).0 w.control.askers (freed_goes_on (w.control.askers n) (took (w.control.askers n) m).0 taker_serial taker_free) (λ i serial c x. x)

    pub taken_sound : AreLow (answered (decide t l) n m w.control).state.askers → (u : World) → u.control ≡ w.control → u.far ≡ w.far → u.table ≡ w.table → WorldFits t u →
        ((i : ℕ) → GoesOn (u.control.askers i) (w.control.askers i)) →
        Stays t l w (moves t (answered (decide t l) n m w.control) u)
    taken_sound low u control far table its same =
        let d = decide t l in
        let x : Moved = answered d n m w.control in
        let asks : Asks (with_asker n (took (w.control.askers n) m).0 w.control) x = answered_asks d n m w.control in
        let after : OneWaits x.state = steps_wait d (system_of w) (Stray n m) sound.fits.ends.waits in
        let low' : AreLow (stepped d (system_of w) Answer).state.askers = subst (λ (y : Moved). AreLow y.state.askers) takes_is low in
        let paired : (i : ℕ) → ArePaired (at n (took (w.control.askers n) m).0 w.control.askers i) (u.far i).session =
        subst (λ (g : ℕ → ExtenderState). (i : ℕ) → ArePaired (at n (took (w.control.askers n) m).0 w.control.askers i) (g i).session) (sym far) all_paired
        in
        steps_sound w sound Answer tt tt low' u control far table its x takes_is refl (at n (took (w.control.askers n) m).0 w.control.askers) asks.one (inr all_free) paired
        (λ i serial c z. all_later i serial c (same i serial c z))
        (answer_none w.far (at n (took (w.control.askers n) m).0 w.control.askers) x.state.askers x.asks asks.one all_free all_paired x.state.work after)

  -- ---- what stays the same
  pub quiet_sound : (w v : World) → IsSound t l w → v.control ≡ w.control → v.far ≡ w.far → WorldFits t v → IsSound t l v
  quiet_sound w v sound e f fits = record { fits = fits; stands = subst (Stands (fixing t l)) (sym (same_system w v e f)) sound.stands }

  pub quiet_stays : (w : World) (x : Effect) → x.world.control ≡ w.control → x.world.far ≡ w.far → jobs_in x.events ≡ [] → WorldFits t x.world → Stays t l w x
  quiet_stays w x e f tells fits = record { fits = fits; follows = inl (record { is = same_system w x.world e f; orders = refl; tells = tells }) }

  pub stays_before : (w v : World) (x : Effect) → v.control ≡ w.control → v.far ≡ w.far → v.table ≡ w.table → Stays t l v x → Stays t l w x
  stays_before w v x e f g stays =
      let R : System → Table → Type 0 = λ y u. Follows t l [] y (system_of x.world) x.events u x.world.table in
      record { fits = stays.fits; follows = subst (λ (u : Table). R (system_of w) u) g (subst (λ (y : System). R y v.table) (same_system w v e f) stays.follows) }

  -- what tells nothing came first
  pub stays_then : (w : World) (a b : Effect) → a.events ≡ [] → Stays t l w b → Stays t l w (joined a b)
  stays_then w a b none stays =
      let R : List Event → Type 0 = λ es. StaysSound t l [] w b.world (es ++ b.events) in
      subst R (sym none) stays

  -- another end of the transport at n
  pub near_fits : (w : World) (n : ℕ) (e : Ecp) → WorldFits t w → Sends e (AskedOf w.control.askers n) → WorldFits t (with_near n e w)
  near_fits w n e fits mine =
      record {
        ends = record {
          knows = fits.ends.knows;
          writes = fits.ends.writes;
          waits = fits.ends.waits;
          paired = fits.ends.paired;
          extenders = fits.ends.extenders;
          asking = at_same (λ k x. Sends x (AskedOf w.control.askers k)) n e w.near mine fits.ends.asking;
          answering = fits.ends.answering;
          codes = fits.ends.codes;
        };
        downs = fits.downs;
        ups = fits.ups;
      }

  pub sends_stopped : (P : ℕ → Body → Type 0) (e : Ecp) → Sends (stopped e) P
  sends_stopped P e = record { each = λ x h. absurd (none_some h) }
    where
      none_some : {x : Sending} → None ≡ Some x → ⊥
      none_some h = cc

  -- ---- messages
  message_sound : (w : World) → IsSound t l w → (n : ℕ) (r : Result Message CspFault) → ((m : Message) → r ≡ Ok m → WasAnswered (w.far n).session m.serial m.body) → AreLow (hears_message t l n r w).world.control.askers →
      Stays t l w (hears_message t l n r w)
  message_sound w sound n (Err fault) fits low = quiet_stays w (only w) refl refl refl sound.fits
  message_sound w sound n (Ok m) fits low = by_cases (took_cases (w.control.askers n) m)
    where
      by_cases : IsTaken (w.control.askers n) m ⊎ NotTaken (w.control.askers n) m → Stays t l w (moves t (answered (decide t l) n m w.control) (stops (took (w.control.askers n) m).1 n w))
      by_cases (inl k) =
          let u : World = with_near n (stopped (w.near n)) w in
          let its : WorldFits t u = near_fits w n (stopped (w.near n)) sound.fits (sends_stopped (AskedOf w.control.askers n) (w.near n)) in
          let low' : AreLow (answered (decide t l) n m w.control).state.askers = subst (λ (s : State). AreLow s.askers) (moves_control t (answered (decide t l) n m w.control) (stops (took (w.control.askers n) m).1 n w)) low in
          let done = taken_sound w sound n m (fits m refl) k low' u refl refl refl its (λ i serial c z. z) in
          let R : Taken → Type 0 = λ z. Stays t l w (moves t (answered (decide t l) n m w.control) (stops z n w)) in
          subst R (sym (ap (λ (x : AskerState × Taken). x.1) k.is)) done
      by_cases (inr not) =
          let same : answered (decide t l) n m w.control ≡ still w.control = strays_change_nothing (decide t l) w.control n m not in
          let R : Moved → Type 0 = λ z. Stays t l w (moves t z (stops (took (w.control.askers n) m).1 n w)) in
          subst R (sym same) (by_taken (took (w.control.askers n) m).1 not)
        where
          by_taken : (z : Taken) → ((response : Response) → z ≢ taken.Answer response) → Stays t l w (moves t (still w.control) (stops z n w))
          by_taken (taken.Answer response) f = absurd (f response refl)
          by_taken taken.Stale f = quiet_stays w (moves t (still w.control) w) refl refl refl sound.fits
          by_taken taken.NotOurs f = quiet_stays w (moves t (still w.control) w) refl refl refl sound.fits

  -- ---- frames
  -- an acknowledgement goes down
  pub acknowledged_fits : (w : World) → WorldFits t w → (n sequence : ℕ) → is_extender t n ≡ true → IsDone t w.control.held (AskedOf w.control.askers) (StoredAt w.far) w (to_extender t n (bridge_acknowledgement sequence) w)
  acknowledged_fits w fits n sequence there =
      to_extender_done t w.control.held (AskedOf w.control.askers) (StoredAt w.far) tree n (bridge_acknowledgement sequence) w there (bare_spelled 2 69 66 0 0 0 true sequence [])
      (hands_acknowledgement (AskedOf w.control.askers n) bridge_address sequence refl) refl (record { downs = fits.downs; ups = fits.ups })

  pub done_fits : (w : World) (e : Effect) → WorldFits t w → IsDone t w.control.held (AskedOf w.control.askers) (StoredAt w.far) w e → WorldFits t e.world
  done_fits w e fits done = fits_from t tree e.world w.control w.near w.far done.heart.control done.heart.near done.heart.far fits.ends done.linked

  fresh_sound : (w : World) → IsSound t l w → (n : ℕ) (fresh : Bool) (sequence : ℕ) (payload : List ℕ) → Reads payload (StoredAt w.far n) → AreLow (hears_fresh t l n fresh sequence payload w).world.control.askers →
      Stays t l w (hears_fresh t l n fresh sequence payload w)
  fresh_sound w sound n false sequence payload reads low = quiet_stays w (only w) refl refl refl sound.fits
  fresh_sound w sound n true sequence payload reads low =
      let v : World = with_near n (received sequence (w.near n)) w in
      let fits : WorldFits t v = near_fits w n (received sequence (w.near n)) sound.fits (sends_received (AskedOf w.control.askers n) sequence (w.near n) (sound.fits.ends.asking n)) in
      stays_before w v (hears_message t l n (read_message payload) v) refl refl refl (message_sound v (quiet_sound w v sound refl refl fits) n (read_message payload) reads.each low)

  request_sound : (w : World) → IsSound t l w → (n sequence : ℕ) (payload : List ℕ) → is_extender t n ≡ true → Reads payload (StoredAt w.far n) → AreLow (hears_request t l n sequence payload w).world.control.askers →
      Stays t l w (hears_request t l n sequence payload w)
  request_sound w sound n sequence payload there reads low =
      let done = acknowledged_fits w sound.fits n sequence there in
      let v : World = (to_extender t n (bridge_acknowledgement sequence) w).world in
      let its : IsSound t l v = quiet_sound w v sound done.heart.control done.heart.far (done_fits w (to_extender t n (bridge_acknowledgement sequence) w) sound.fits done) in
      let reads' : Reads payload (StoredAt v.far n) = subst (λ (g : ℕ → ExtenderState). Reads payload (StoredAt g n)) (sym done.heart.far) reads in
      let silent : IsSilent w (to_extender t n (bridge_acknowledgement sequence) w) = to_extender_silent t n (bridge_acknowledgement sequence) w in
      let after : Effect = hears_fresh t l n (is_fresh sequence (v.near n)) sequence payload v in
      stays_then w (to_extender t n (bridge_acknowledgement sequence) w) after silent.events
      (stays_before w v after done.heart.control done.heart.far silent.table (fresh_sound v its n (is_fresh sequence (v.near n)) sequence payload reads' low))

  pdu_sound : (w : World) → IsSound t l w → (n : ℕ) (r : Result Pdu EcpFault) (f : List ℕ) → is_extender t n ≡ true → ((p : Pdu) → r ≡ Ok p → p.acknowledgement ≡ false → Reads (drop 18 f) (StoredAt w.far n)) →
      AreLow (hears_pdu t l n r f w).world.control.askers → Stays t l w (hears_pdu t l n r f w)
  pdu_sound w sound n (Err fault) f there hands low = quiet_stays w (only w) refl refl refl sound.fits
  pdu_sound w sound n (Ok p) f there hands low =
      elim (cases_Bool (p.subtype == 2)) [
        | inr other ↦ rw other (quiet_stays w (only w) refl refl refl sound.fits)
        | inl ours ↦ elim (cases_Bool p.acknowledgement) [
          | inl ack ↦
              let e : Ecp = acknowledged p.sequence (w.near n) in
              rw (ours, ack) (quiet_stays w (only (with_near n e w)) refl refl refl (near_fits w n e sound.fits (sends_acknowledged (AskedOf w.control.askers n) p.sequence (w.near n) (sound.fits.ends.asking n))))
          | inr request ↦
              let low' : AreLow (hears_request t l n p.sequence (drop 18 f) w).world.control.askers = rw (ours, request) at low in
              rw (ours, request) (request_sound w sound n p.sequence (drop 18 f) there (hands p refl request) low')
        ]
      ]

  frame_sound : (w : World) → IsSound t l w → (n : ℕ) (r : Result Announce LldpFault) (f : List ℕ) → is_extender t n ≡ true → Hands f (StoredAt w.far n) →
      AreLow (hears_frame t l n r f w).world.control.askers → Stays t l w (hears_frame t l n r f w)
  frame_sound w sound n (Err fault) f there hands low = pdu_sound w sound n (pdu_in f) f there hands.each low
  frame_sound w sound n (Ok a) f there hands low =
      elim (cases_Bool (is_of t n a)) [
        | inl ours ↦
            let low' : AreLow (heard (decide t l) n w.control).state.askers = subst (λ (s : State). AreLow s.askers) (moves_control t (heard (decide t l) n w.control) w) (rw ours at low) in
            rw ours (heard_sound w sound n low')
        | inr other ↦ rw other (quiet_stays w (moves t (still w.control) w) refl refl refl sound.fits)
      ]

  -- a control frame of extender n is heard
  pub hears_sound : (w : World) → IsSound t l w → (n : ℕ) (f : List ℕ) → is_extender t n ≡ true → Hands f (StoredAt w.far n) → AreLow (hears t l n f w).world.control.askers → Stays t l w (hears t l n f w)
  unfolding hears
  hears_sound w sound n f there hands low = frame_sound w sound n (announcement_in f) f there hands low
