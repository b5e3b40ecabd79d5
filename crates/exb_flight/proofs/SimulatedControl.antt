-- Steps of the machine of changes that the world makes are flown, with the requests that go out.
use Rattle.std.proofs.Common.{◌≡◌, ℕ, ◌+◌, ◌++◌, List, [], ◌∷◌, Some, refl, ap, sym, ◌∙◌, subst}
use Rattle.exb_model.specs.declared.event.Event.{Event}
use Rattle.exb_model.specs.Tree.{Shape, IsTree}
use Rattle.exb_model.specs.Setup.{Limits, NamesExternal}
use Rattle.exb_model.specs.History.{Basis, History, ◌then◌, command_of}
use Rattle.exb_frame.specs.TagValues.{TagRoundTrip}
use Rattle.exb_extender.specs.Machine.{ExtenderState}
use Rattle.exb_control_spec.specs.declared.extender_message.Asked.{Asked}
use Rattle.exb_control_spec.specs.declared.job.Job.TheVariants as job
use Rattle.exb_control_spec.specs.Decisions.{decide}
use Rattle.exb_control_spec.specs.Machine.{State, Moved, ordered}
use Rattle.exb_control_spec.specs.Runs.Systems.{System, Step, Order, stepped}
use Rattle.exb_control_spec.specs.Runs.Systems.{moved as machine_moved}
use Rattle.exb_control_spec.specs.Runs.MachineInvariant.{MayStep, OneWaits}
use Rattle.exb_control_spec.specs.Runs.PlannedChanges.{planning, IsSetting}
use Rattle.exb_control_spec.specs.Runs.RequestTargets.{AreAddressed, NamesPorts}
use Rattle.exb_control_spec.proofs.Runs.StepInvariants.{any_steps_stand}
use Rattle.exb_control_spec.proofs.Runs.Serials.{steps_wait}
use Rattle.exb_control_spec.proofs.Runs.RequestTargets.{steps_know}
use Rattle.exb_world_spec.specs.Worlds.{World, Up, Down, Left, with_control, with_table}
use Rattle.exb_world_spec.specs.Steps.{stepped as world_stepped}
use Rattle.exb_world_spec.specs.Effects.{Effect, only, each}
use Rattle.exb_world_spec.specs.BridgeLearning.{forgotten_all}
use Rattle.exb_world_spec.specs.ControlFrames.{asks, moves}
use Rattle.exb_world_spec.specs.Runs.Sessions.{Each, AskedOf, StoredAt, WorldFits, KeepsCascades, AreLow, AreSent}
use Rattle.exb_world_spec.specs.Runs.Simulation.{answer_in, system_of, IsSound}
use Rattle.exb_world_spec.specs.Runs.CascadeChannels.{fixing}
use Rattle.exb_world_spec.proofs.CascadeChannels.{fixing_plans}
use Rattle.exb_world_spec.proofs.Routing.{keeps_now}
use Rattle.exb_world_spec.proofs.WritableRequests.{Wrote, moved_wrote, all_be_sent}
use Rattle.exb_world_spec.proofs.OneRequest.{Asks, ordered_asks}
use Rattle.exb_world_spec.proofs.ControlSteps.{was_each}
use Rattle.exb_world_spec.proofs.ControlFrames.{seen_as, same_parts, moves_control, wakes_answer}
use Rattle.exb_flight.specs.Items.{Item}
use Rattle.exb_flight.specs.Flight.{Flight, Move}
use Rattle.exb_flight.specs.AllowedSteps.{CanMove, run}
use Rattle.exb_flight.specs.FlightFacts.{Facts, AreOf, WorkGood}
use Rattle.exb_flight.specs.Tokens.{Thins}
use Rattle.exb_flight.specs.SimulationRelation.{Shows}
use Rattle.exb_flight.specs.Simulation.{Flown, OrdersFly}
use Rattle.exb_flight.proofs.TokenKeys.{items_kept}
use Rattle.exb_flight.proofs.SimulatedTicks.{none_left}
use Rattle.exb_flight.proofs.PushedTokens.{flown_then}
use Rattle.exb_flight.proofs.DownEvents.{IsTold, OrdersNext, moved_told}
use Rattle.exb_flight.proofs.SimulatedRequests.{asks_pushed}

-- What a step of the machine is in a world u, as the world sees it: what it makes of the system, and that its requests are
-- asked of extenders and can be written.
pub record IsMoving (t : Shape) (l : Limits) (y : System) (u : World) (step : Step) (m : Moved) : Type 0 where
  pub is : m ≡ machine_moved (decide t l) y step
  pub seen : seen_as m.state u.far ≡ stepped (decide t l) y step
  pub keeps : KeepsCascades t u.control.held m.state.held
  pub addressed : AreAddressed t m.asks
  pub sent : AreSent m.asks
  pub was : Each (λ (x : Asked). AskedOf m.state.askers x.extender x.message.serial x.message.body) m.asks

module _ (t : Shape) (l : Limits) (i : Basis) (tree : IsTree t) (setting : IsSetting t l) (round : TagRoundTrip) where
  -- ---- a step of the machine that may come in the flight
  pub moves_flown : (u : World) (h : History) (gone : List Left) (f : Flight) → Shows t i u h gone f → WorkGood i u.control.work → AreOf i u.control.queue → WorldFits t u → (step : Step) (m : Moved) → IsMoving t l (system_of u) u step m →
      CanMove t i f step → OrdersNext i (decide t l) (system_of u) step → Flown t l i h gone f (moves t m u)
  moves_flown u h gone f s good queue fits step m k can next =
      let d = decide t l in
      let v : World = with_table (forgotten_all m.downs u.table) (with_control m.state u) in
      let told : IsTold i (machine_moved d (system_of u) step).events (machine_moved d (system_of u) step).downs =
      moved_told i d (system_of u) step good queue next in
      let told_m : IsTold i m.events m.downs = subst (λ (x : Moved). IsTold i x.events x.downs) (sym k.is) told in
      let events : (machine_moved d f.system step).events ≡ m.events = ap (λ (y : System). (machine_moved d y step).events) s.system ∙ ap (λ (x : Moved). x.events) (sym k.is) in
      let g : Flight = run t l i f (Move step ∷ []) in
      let shows : Shows t i v (h then m.events) gone g = record {
        system = ap (λ (y : System). stepped d y step) s.system ∙ sym k.seen;
        down = λ n. subst (λ (xs : List Item). Thins xs (f.down n)) (items_kept t tree round u.control.held m.state.held k.keeps Down (AskedOf u.control.askers) n (u.down n) (fits.downs n)) (s.down n);
        up = λ n. subst (λ (xs : List Item). Thins xs (f.up n)) (items_kept t tree round u.control.held m.state.held k.keeps Up (StoredAt u.far) n (u.up n) (fits.ups n)) (s.up n);
        history = ap (λ (z : History). z then (machine_moved d f.system step).events) s.history ∙ ap (λ (es : List Event). h then es) events;
        left = s.left;
        learned = ap (forgotten_all m.downs) s.learned ∙ sym (told_m h);
      } in
      let e : Effect = record (only v) { events = m.events } in
      let first : Flown t l i h gone f e = record { steps = Move step ∷ []; runs = (can, tt); shows = none_left t i v (h then m.events) gone g shows } in
      flown_then t l i h gone f e (each (asks t) m.asks) first (asks_pushed t l i tree round m.state m.asks v (h then m.events) (gone ++ []) g first.shows refl k.addressed k.sent k.was).flown

  -- ---- what each step of the machine brings
  -- one that asks at most one request, from askers of whom none waits
  pub is_moving : (w : World) → IsSound t l w → (step : Step) → MayStep (planning t) (system_of w) step → NamesPorts t step → AreLow (stepped (decide t l) (system_of w) step).state.askers →
      (u : World) → u.control ≡ w.control → u.far ≡ w.far → (m : Moved) → m ≡ machine_moved (decide t l) (system_of w) step →
      (stepped (decide t l) (system_of w) step).tables ≡ (system_of w).tables →
      Each (λ (x : Asked). AskedOf m.state.askers x.extender x.message.serial x.message.body) m.asks →
      answer_in m.state.work m.state.askers w.far ≡ (stepped (decide t l) (system_of w) step).answer →
      IsMoving t l (system_of w) u step m
  is_moving w sound step may names low u control far m is tables was answer =
      let y : System = system_of w in
      let z : System = stepped (decide t l) y step in
      let known = steps_know t l y step sound.fits.ends.knows names in
      let wrote : Wrote (machine_moved (decide t l) y step) = moved_wrote t l setting y step sound.fits.ends.writes sound.fits.ends.waits in
      let keeps : KeepsCascades t w.control.held z.state.held = keeps_now t l tree y z sound.stands (any_steps_stand (fixing t l) (decide t l) (fixing_plans t l setting) y step sound.stands may).0 in
      let R : Moved → Type 0 = λ x. AreAddressed t x.asks × KeepsCascades t w.control.held x.state.held × Wrote x × AreLow x.state.askers in
      let r : R m = subst R (sym is) (known.1, keeps, wrote, low) in
      record {
        is = is;
        seen = ap (λ (x : ℕ → ExtenderState). seen_as m.state x) far
            ∙ same_parts m.state z.state (λ n. (w.far n).tables) z.tables (answer_in m.state.work m.state.askers w.far) z.answer (ap (λ (x : Moved). x.state) is) (sym tables) answer;
        keeps = subst (λ (s : State). KeepsCascades t s.held m.state.held) (sym control) r.1;
        addressed = r.0;
        sent = all_be_sent m.state.askers m.asks r.2.asks was r.3;
        was = was;
      }

-- the jobs of a world in which all is as the facts of its flight say
pub record IsGoodFor (i : Basis) (w : World) : Type 0 where
  pub work : WorkGood i w.control.work
  pub queue : AreOf i w.control.queue

pub good_for : (t : Shape) (i : Basis) (w : World) (h : History) (gone : List Left) (f : Flight) → Facts t i f → Shows t i w h gone f → IsGoodFor i w
good_for t i w h gone f facts shows =
    record {
      work = subst (λ (y : System). WorkGood i y.state.work) shows.system facts.work;
      queue = subst (λ (y : System). AreOf i y.state.queue) shows.system facts.queue;
    }

pub orders_fly : TagRoundTrip → OrdersFly
unfolding world_stepped
orders_fly round c t l i setting w h gone f sound facts shows may =
    let d = decide t l in
    let s : State = record w.control { queue = w.control.queue ++ job.Ordered (w.control.given + 1) c ∷ []; given = w.control.given + 1 } in
    let m : Moved = ordered d c w.control in
    let k : Asks w.control m = ordered_asks d c w.control in
    let waits : OneWaits w.control = sound.fits.ends.waits in
    let after : OneWaits m.state = steps_wait d (system_of w) (Order c) waits in
    let low : AreLow m.state.askers = subst (λ (x : State). AreLow x.askers) (moves_control t m w) may.may.after in
    let moving : IsMoving t l (system_of w) w (Order c) m =
    is_moving t l i setting.tree setting round w sound (Order c) may.may.can.0 may.may.can.0 low w refl refl m refl refl
    (was_each w.control.askers m.state.askers m.asks k.one)
    (wakes_answer t l setting.tree setting w.far w.control.work s refl k.one waits after sound.fits.ends.paired) in
    let goods : IsGoodFor i w = good_for t i w h gone f facts shows in
    moves_flown t l i setting.tree setting round w h gone f shows goods.work goods.queue sound.fits (Order c) m moving (subst (λ (y : System). NamesExternal t c × (command_of i (y.state.given + 1) ≡ Some c)) (sym shows.system) (may.may.can.0, may.next)) may.next
