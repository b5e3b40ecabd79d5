-- The trace of a run.
use Rattle.std.proofs.Common.{◌≡◌, List, [], ◌∷◌, ◌++◌, append_assoc, append-nil, refl, ap, sym, ◌∙◌, subst}
use Rattle.exb_model.specs.declared.event.Event.{Event}
use Rattle.exb_model.specs.History.{History, ◌then◌}
use Rattle.exb_model.specs.declared.arrival.Arrival.{Arrival}
use Rattle.exb_world_spec.specs.Worlds.{World, Left, first_world}
use Rattle.exb_world_spec.specs.Steps.{Stepped, stepped}
use Rattle.exb_world_spec.specs.Settling.{run}
use Rattle.exb_world_spec.specs.Runs.Simulation.{system_of, IsSound}
use Rattle.exb_world_spec.proofs.CascadeChannels.{forget}
use Rattle.exb_world_spec.specs.Runs.SessionLaws.{ordered_by, BeginsSound, StepsStaySound, RunsStaySound}
use Rattle.exb_model.specs.Traces.{TraceLine}
use Rattle.exb_world_spec.specs.TraceLines.{all_told}
use Rattle.exb_trace_laws.specs.TraceRelation.{Traced, given_by}
use Rattle.exb_trace_laws.specs.TraceLaws.{BeginsTraced, StepsStayTraced, SettledIsLegal, given_in, BeginsServing, StepsStayServing, RunsStayTraced, RunsAreLegal}
use Rattle.exb_trace_laws.proofs.EffectLines.{told_append}
use Rattle.exb_trace_laws.proofs.ExternalPorts.{stations_kept, begins_serving as begins_at}
use Rattle.exb_trace_laws.proofs.TraceLaws.{next_kept, records_stay}
use Rattle.exb_relay.specs.Laws.{SendsAreWords, AtMostTwo}
use Rattle.exb_frame.specs.TagValues.{TagRoundTrip}
use Rattle.exb_control_spec.specs.Runs.PlannedChanges.{ReadyMidway, HeldAreNumbers}

then_append : (h : History) (xs ys : List Event) → (h then (xs ++ ys)) ≡ ((h then xs) then ys)
then_append h [] ys = refl
then_append h (x ∷ xs) ys = then_append (x ∷ h) xs ys

-- what each step keeps beside the trace
module _ (sends : SendsAreWords) (two : AtMostTwo) (midway : ReadyMidway) (numbers : HeldAreNumbers) (steps : StepsStaySound) (runs : RunsStaySound) (round : TagRoundTrip) where
  pub steps_stay_serving : StepsStayServing
  unfolding stepped run
  steps_stay_serving t l setting few w step arrivals h left lines sound serves may ready traced =
      let v : World = (stepped t l step w).world in
      let after : IsSound t l v = (runs t l setting w (step ∷ []) sound (may, tt)).sound in
      record {
        stations = stations_kept t l w v (ordered_by step) (stepped t l step w).events (steps t l setting w step sound may).follows (forget t l (system_of v) after.stands) serves.stations;
        next = next_kept sends two midway numbers t l setting.tree few w step arrivals h left lines sound serves may ready traced;
        records = records_stay sends two midway numbers round t l setting.tree few w step arrivals h left lines sound serves may ready traced;
      }

pub begins_serving : BeginsServing
begins_serving t l b ageing = record { stations = begins_at t l b ageing; next = λ p. refl; records = λ n there. tt }

module _ (begins : BeginsTraced) (steps_stay : StepsStayTraced) (settled : SettledIsLegal) (begins_sound : BeginsSound) (sound_runs : RunsStaySound) (serving : StepsStayServing) where
  pub runs_stay_traced : RunsStayTraced
  unfolding run
  runs_stay_traced t l setting few w [] arrivals h left lines sound serves may ready traced =
      subst (λ (a : List Arrival). Traced t w a h (left ++ []) (lines ++ [])) (sym (append-nil arrivals))
      (subst (λ (x : List Left). Traced t w arrivals h x (lines ++ [])) (sym (append-nil left)) (subst (λ (ls : List TraceLine). Traced t w arrivals h left ls) (sym (append-nil lines)) traced))
  runs_stay_traced t l setting few w (step ∷ steps) arrivals h left lines sound serves may ready traced =
      let a : Stepped = stepped t l step w in
      let b : Stepped = run t l steps a.world in
      let after : IsSound t l a.world = (sound_runs t l setting w (step ∷ []) sound (may.0, tt)).sound in
      let one = steps_stay t l setting.tree few w step arrivals h left lines sound serves may.0 ready.0 traced in
      let rest = runs_stay_traced t l setting few a.world steps (arrivals ++ given_by step) (h then a.events) (left ++ a.left) (lines ++ all_told a.lines) after (serving t l setting few w step arrivals h left lines sound serves may.0 ready.0 traced) may.1 ready.1 one in
      subst (λ (g : List Arrival). Traced t b.world g (h then (a.events ++ b.events)) (left ++ (a.left ++ b.left)) (lines ++ all_told (a.lines ++ b.lines))) (append_assoc arrivals (given_by step) (given_in steps))
      (subst (λ (x : History). Traced t b.world ((arrivals ++ given_by step) ++ given_in steps) x (left ++ (a.left ++ b.left)) (lines ++ all_told (a.lines ++ b.lines))) (sym (then_append h a.events b.events))
      (subst (λ (x : List Left). Traced t b.world ((arrivals ++ given_by step) ++ given_in steps) ((h then a.events) then b.events) x (lines ++ all_told (a.lines ++ b.lines))) (append_assoc left a.left b.left)
      (subst (λ (ls : List TraceLine). Traced t b.world ((arrivals ++ given_by step) ++ given_in steps) ((h then a.events) then b.events) ((left ++ a.left) ++ b.left) ls)
      (append_assoc lines (all_told a.lines) (all_told b.lines) ∙ ap (λ zs. lines ++ zs) (sym (told_append a.lines b.lines))) rest)))

  pub runs_are_legal : RunsAreLegal
  runs_are_legal t l b ageing steps setting few may_begin may ready done =
      let w : World = first_world t l b ageing in
      settled t (run t l steps w).world (given_in steps) ([] then (run t l steps w).events) (run t l steps w).left (all_told (run t l steps w).lines) done
      (runs_stay_traced t l setting few w steps [] [] [] [] (begins_sound t l b ageing setting few may_begin) (begins_serving t l b ageing) may ready (begins t l b ageing))
