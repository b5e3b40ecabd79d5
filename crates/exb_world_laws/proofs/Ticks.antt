-- When time passes in a run, and when it is marked.
use Rattle.std.proofs.Common.{◌≡◌, ℕ, ◌++◌, Bool, true, false, cond, List, [], ◌∷◌, refl, ap, sym, ◌∙◌, subst, inl, inr}
use Rattle.std.specs.Prelude.{filter_map}
use Rattle.std.proofs.lemmas.Bool.{cases_Bool, cases_lt}
use Rattle.std.proofs.lemmas.List.Elements.{filter_map-append}
use Rattle.exb_model.specs.declared.event.Event.{Event}
use Rattle.exb_model.specs.declared.event.Event.TheVariants as event
use Rattle.exb_model.specs.Configuration.{Bridge}
use Rattle.exb_model.specs.EagerHistory.{is_relayed, arrival_event}
use Rattle.exb_model.specs.History.{Basis, History, ◌then◌}
use Rattle.exb_model.specs.declared.arrival.Arrival.{Arrival}
use Rattle.exb_model.specs.LegalHistory.{tick_of}
use Rattle.exb_model.specs.Setup.{Limits}
use Rattle.exb_model.specs.Tree.{Shape, device, on, port_number}
use Rattle.exb_frame.specs.TagValues.{TagRoundTrip}
use Rattle.exb_relay.specs.Laws.{SendsAreWords, SendsLeaveAsFlat}
use Rattle.exb_control_spec.specs.Runs.Journal.{StepsTell}
use Rattle.exb_extender.specs.Forwarding.{is_ignored}
use Rattle.exb_world_spec.specs.Settling.{run}
use Rattle.exb_world_spec.specs.Steps.{Stepped, stepped}
use Rattle.exb_world_spec.specs.Worlds.{World, Up, Down, Step, Arrive, Carry, Control, Lose, Beat, Tick, Order, Mark, Left}
use Rattle.exb_world_spec.specs.Runs.Journal.{is_to_bridge}
use Rattle.exb_world_spec.specs.Runs.Simulation.{jobs_in}
use Rattle.exb_flight.specs.Items.{Each}
use Rattle.exb_world_laws.specs.WorldInput.{Given, given_by}
use Rattle.exb_world_laws.specs.StepEvents.{TellsOf}
use Rattle.exb_world_laws.specs.WorldInvariant.{MayStart, MayDoAll, Kept}
use Rattle.exb_world_laws.specs.SegmentRuns.{seconds_by, seconds_in, IsUnmarked}
use Rattle.exb_world_laws.proofs.InvariantSteps.{step_kept}
use Rattle.exb_world_laws.proofs.StepEvents.{steps_tell_so}

-- ---- events
abbrev pub IsTimeless : Event → Type 0
IsTimeless (event.Tick seconds) = ⊥
IsTimeless event.Settled = ⊥
IsTimeless _ = Unit {0}

abbrev pub IsNoMark : Event → Type 0
IsNoMark event.Settled = ⊥
IsNoMark _ = Unit {0}

-- what events tell of time
pub record TellsTime (seconds : List ℕ) (es : List Event) : Type 0 where
  pub ticks : filter_map tick_of es ≡ seconds
  pub unmarked : Each IsNoMark es

timeless : (es : List Event) → Each IsTimeless es → TellsTime [] es
timeless [] k = record { ticks = refl; unmarked = tt }
timeless (event.Relay p n t f ∷ es) k = (let r = timeless es k.1 in record { ticks = r.ticks; unmarked = (tt, r.unmarked) })
timeless (event.Ignored p n ∷ es) k = (let r = timeless es k.1 in record { ticks = r.ticks; unmarked = (tt, r.unmarked) })
timeless (event.Commit n ∷ es) k = (let r = timeless es k.1 in record { ticks = r.ticks; unmarked = (tt, r.unmarked) })
timeless (event.Refuse n x ∷ es) k = (let r = timeless es k.1 in record { ticks = r.ticks; unmarked = (tt, r.unmarked) })
timeless (event.Up p ∷ es) k = (let r = timeless es k.1 in record { ticks = r.ticks; unmarked = (tt, r.unmarked) })
timeless (event.NoUp p x ∷ es) k = (let r = timeless es k.1 in record { ticks = r.ticks; unmarked = (tt, r.unmarked) })
timeless (event.Tick seconds ∷ es) k = absurd k.0
timeless (event.Settled ∷ es) k = absurd k.0

jobs_timeless : (es : List Event) → Each IsTimeless (jobs_in es)
jobs_timeless [] = tt
jobs_timeless (event.Relay p n t f ∷ es) = jobs_timeless es
jobs_timeless (event.Ignored p n ∷ es) = jobs_timeless es
jobs_timeless (event.Tick seconds ∷ es) = jobs_timeless es
jobs_timeless (event.Commit n ∷ es) = (tt, jobs_timeless es)
jobs_timeless (event.Refuse n x ∷ es) = (tt, jobs_timeless es)
jobs_timeless (event.Up p ∷ es) = (tt, jobs_timeless es)
jobs_timeless (event.NoUp p x ∷ es) = (tt, jobs_timeless es)
jobs_timeless (event.Settled ∷ es) = jobs_timeless es

of_jobs : (es : List Event) → jobs_in es ≡ es → TellsTime [] es
of_jobs es e = timeless es (subst (Each IsTimeless) e (jobs_timeless es))

of_none : (es : List Event) → es ≡ [] → TellsTime [] es
of_none es e = subst (TellsTime []) (sym e) (record { ticks = refl; unmarked = tt })

of_arrival : (b : Bridge) (a : Arrival) (es : List Event) → es ≡ arrival_event b a ∷ [] → TellsTime [] es
of_arrival b a es e = subst (TellsTime []) (sym e) (timeless (arrival_event b a ∷ []) (by_relayed (is_relayed b a.port a.bytes), tt))
  where
    by_relayed : (c : Bool) → IsTimeless (cond c (event.Relay a.port a.index a.moment a.bytes) (event.Ignored a.port a.index))
    by_relayed true = tt
    by_relayed false = tt

-- ---- a step
step_time : (t : Shape) (w : World) (step : Step) (es : List Event) → IsUnmarked step → TellsOf t w step es → TellsTime (seconds_by step) es
step_time t w (Arrive a) es u k =
    elim (cases_lt a.port 64) [
      | inl low ↦ of_arrival w.control.bridge a es (k.local low)
      | inr deep ↦ subst (TellsTime []) (sym (k.extended deep)) (by_ignored (is_ignored ((w.far (device a.port)).tables.own (port_number a.port)) a.bytes))
    ]
  where
    by_ignored : (c : Bool) → TellsTime [] (cond c (event.Ignored a.port a.index ∷ []) [])
    by_ignored true = record { ticks = refl; unmarked = (tt, tt) }
    by_ignored false = record { ticks = refl; unmarked = tt }
step_time t w (Carry n Up) es u k =
    elim (cases_lt (on t n) 64) [
      | inl low ↦ (let told = k.bridge low in of_arrival w.control.bridge _ es told.is)
      | inr deep ↦ of_none es (k.other deep)
    ]
step_time t w (Carry n Down) es u k = of_none es k
step_time t w (Control n way j keep) es u k =
    elim (cases_Bool (is_to_bridge t n way)) [
      | inl e ↦ of_jobs es (k.bridge e)
      | inr e ↦ of_none es (k.other e)
    ]
step_time t w (Lose n way j) es u k = of_none es k
step_time t w Beat es u k = of_none es k
step_time t w (Tick seconds) es u k = subst (TellsTime (seconds ∷ [])) (sym k) (record { ticks = refl; unmarked = (tt, tt) })
step_time t w (Order c) es u k = of_jobs es k
step_time t w Mark es u k = absurd u

both_times : (a b : List ℕ) (xs ys : List Event) → TellsTime a xs → TellsTime b ys → TellsTime (a ++ b) (xs ++ ys)
both_times a b xs ys k j =
    record {
      ticks = filter_map-append tick_of xs ys ∙ (ap (λ (zs : List ℕ). zs ++ filter_map tick_of ys) k.ticks ∙ ap (λ (zs : List ℕ). a ++ zs) j.ticks);
      unmarked = both_each xs k.unmarked;
    }
  where
    both_each : (zs : List Event) → Each IsNoMark zs → Each IsNoMark (zs ++ ys)
    both_each [] h = j.unmarked
    both_each (e ∷ zs) h = (h.0, both_each zs h.1)

-- ---- any steps
module _ (round : TagRoundTrip) (words : SendsAreWords) (leave : SendsLeaveAsFlat) (law : StepsTell) (t : Shape) (l : Limits) (i : Basis) (start : MayStart t l i) where
  pub run_time : (steps : List Step) (w : World) (g : List Given) (h : History) (left : List Left) → Kept t l i w g h left → MayDoAll t l w steps → Each IsUnmarked steps → TellsTime (seconds_in steps) (run t l steps w).events
  unfolding run
  run_time [] w g h left k may u = record { ticks = refl; unmarked = tt }
  run_time (step ∷ steps) w g h left k may u =
      let s : Stepped = stepped t l step w in
      both_times (seconds_by step) (seconds_in steps) s.events (run t l steps s.world).events (step_time t w step s.events u.0 (steps_tell_so t l i start w g h left k step may.0))
      (run_time steps s.world (g ++ given_by step) (h then s.events) (left ++ s.left) (step_kept round words leave law t l i start w g h left k step may.0) may.1 u.1)
