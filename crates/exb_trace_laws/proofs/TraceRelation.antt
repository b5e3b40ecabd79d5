-- A world that stands, with any history, and is tied to a trace stays so.
use Rattle.std.proofs.Common.{◌≡◌, ℕ, zero, suc, ◌+◌, ◌==◌, true, false, List, [], ◌∷◌, length, map, filter, slice_get, Option, Some, None, refl, ap, sym, ◌∙◌, subst, inl, inr}
use Rattle.std.specs.Prelude.{nat_le}
use Rattle.std.proofs.lemmas.Bool.{and_parts, cases_Bool}
use Rattle.std.proofs.lemmas.List.{length-map}
use Rattle.exb_model.specs.declared.event.Event.{Event}
use Rattle.exb_model.specs.History.{Basis, History}
use Rattle.exb_model.specs.declared.arrival.Arrival.{Arrival}
use Rattle.exb_model.specs.Lists.{numbered}
use Rattle.exb_model.specs.Setup.{Limits, shape_of, limits_of, start_of}
use Rattle.exb_model.specs.Tree.{Shape, is_external}
use Rattle.exb_model.specs.ETags.{stripped}
use Rattle.exb_frame.specs.TagValues.{TagRoundTrip}
use Rattle.exb_relay.specs.Laws.{SendsAreWords, SendsLeaveAsFlat}
use Rattle.exb_link.specs.declared.link_frame.Stamp.{Stamp}
use Rattle.exb_link.specs.declared.link_frame.LinkFrame.{LinkFrame}
use Rattle.exb_link.specs.LinkFrames.{is_control}
use Rattle.exb_control_spec.specs.Runs.Journal.{StepsTell}
use Rattle.exb_world_spec.specs.Settling.{run}
use Rattle.exb_world_spec.specs.Steps.{stepped}
use Rattle.exb_world_spec.specs.Worlds.{World, Step, Left}
use Rattle.exb_world_spec.specs.Runs.SessionLaws.{MayMakeAll, StepsStaySound, ordered_by}
use Rattle.exb_world_spec.specs.Runs.Sessions.{Each}
use Rattle.exb_world_spec.specs.Runs.Simulation.{system_of}
use Rattle.exb_world_spec.specs.Runs.Stamps.{IsStamped}
use Rattle.exb_world_spec.specs.Runs.FrameBytes.{StepsStayWritten}
use Rattle.exb_world_spec.proofs.CascadeChannels.{forget}
use Rattle.exb_flight.specs.Tokens.{datum_by, data_words}
use Rattle.exb_flight.proofs.SimulatedAscents.{link_there}
use Rattle.exb_flight.specs.Items as items
use Rattle.exb_world_laws.specs.WorldInput.{Given, Came, Told, arrivals_at, arrivals_of}
use Rattle.exb_world_laws.specs.WorldInvariant.{MayStart, MayDoAll, basis_of}
use Rattle.exb_world_laws.specs.OneBridge.{IsWordOf, Stands}
use Rattle.exb_world_laws.proofs.FrameBytes.{going}
use Rattle.exb_world_laws.proofs.Setups.{setups_may_start}
use Rattle.exb_world_spec.specs.Runs.ReachedWorlds.{MayTakeAll, beginning, reached_by}
use Rattle.exb_world_laws.proofs.Runs.Settling.{IsRun, begins, go_after, run_after, step_run}
use Rattle.exb_trace_laws.specs.TraceLaws.{RunsStayTraced, StaysReady}
use Rattle.exb_trace_laws.specs.TraceConditions.{AwaitsNext, IsRecord, Serves, ServesStations}
use Rattle.exb_trace_laws.specs.RunTraces.{StandingStaysTraced}
use Rattle.exb_trace_laws.specs.TraceRelation.{captures_of}
use Rattle.exb_trace_laws.proofs.Setups.{may_make, stays_ready}
use Rattle.exb_trace_laws.proofs.ExternalPorts.{stations_kept, begins_serving}

-- ---- what was given, as files
some_same : {A : Type 0} {x y : A} → Some x ≡ Some y → x ≡ y
some_same e = cc

port_arrivals : (p : ℕ) (g : List Given) → arrivals_at p g ≡ filter (λ (a : Arrival). a.port == p) (arrivals_of g)
port_arrivals p [] = refl
port_arrivals p (Told c ∷ g) = port_arrivals p g
port_arrivals p (Came a ∷ g) = elim (cases_Bool (a.port == p)) [ inl e ↦ rw e (ap (λ (xs : List Arrival). a ∷ xs) (port_arrivals p g)) | inr e ↦ rw e (port_arrivals p g) ]

frames_at : (p : ℕ) (g : List Given) → captures_of (arrivals_of g) p ≡ map (λ (a : Arrival). a.bytes) (arrivals_at p g)
frames_at p g = ap (map (λ (a : Arrival). a.bytes)) (sym (port_arrivals p g))

abbrev pairs_of : List Arrival → List (ℕ × List ℕ)
pairs_of xs = map (λ (a : Arrival). (a.moment, a.bytes)) xs

frame_at : (xs : List Arrival) (k : ℕ) (moment : ℕ) (f : List ℕ) → slice_get (pairs_of xs) k ≡ Some (moment, f) → slice_get (map (λ (a : Arrival). a.bytes) xs) k ≡ Some f
frame_at [] k moment f e = absurd (none_some e)
  where
    none_some : {A : Type 0} {x : A} → None ≡ Some x → ⊥
    none_some z = cc
frame_at (a ∷ xs) zero moment f e = ap Some (ap (λ (x : ℕ × List ℕ). x.1) (some_same e))
frame_at (a ∷ xs) (suc k) moment f e = frame_at xs k moment f e

frame_of : (xs : List Arrival) (n : ℕ) (moment : ℕ) (f : List ℕ) → numbered (pairs_of xs) n ≡ Some (moment, f) → numbered (map (λ (a : Arrival). a.bytes) xs) n ≡ Some f
frame_of xs zero moment f e = absurd (none_some e)
  where
    none_some : {A : Type 0} {x : A} → None ≡ Some x → ⊥
    none_some z = cc
frame_of xs (suc k) moment f e = frame_at xs k moment f e

-- ---- a world that stands serves them
module _ (t : Shape) (l : Limits) (i : Basis) (w : World) (g : List Given) (h : History) (left : List Left) (s : Stands t l i w g h left) where
  awaits : AwaitsNext w (captures_of (arrivals_of g))
  awaits p =
      s.follows.next p
      ∙ ap (λ (n : ℕ). n + 1) (sym (length-map (arrivals_at p g) (λ (a : Arrival). a.bytes)) ∙ ap (λ (fs : List (List ℕ)). length fs) (sym (frames_at p g)))

  word_record : (n : ℕ) (x : LinkFrame) (st : Stamp) → x.stamp ≡ Some st → IsWordOf t g n (datum_by x.bytes (Some st)) → IsRecord t (captures_of (arrivals_of g)) x
  word_record n x st is k =
      let outer = and_parts (nat_le 64 st.port) (is_external t st.port) k.outer in
      record {
        stamp = st;
        is = is;
        external = outer.1;
        frame = ap (λ (fs : List (List ℕ)). numbered fs st.index) (frames_at st.port g) ∙ frame_of (arrivals_at st.port g) st.index st.moment (stripped x.bytes) k.record_of;
      }

  each_record : (n : ℕ) (xs : List LinkFrame) → Each IsStamped xs → items.Each (IsWordOf t g n) (data_words xs) → Each (λ (x : LinkFrame). is_control x ≡ false → IsRecord t (captures_of (arrivals_of g)) x) xs
  each_record n [] stamped named = tt
  each_record n (x ∷ xs) stamped named =
      elim (cases_Bool (is_control x)) [
        | inl e ↦ (λ plain. absurd (both e plain), each_record n xs stamped.1 (rw e at named))
        | inr e ↦
            let z : items.Each (IsWordOf t g n) (datum_by x.bytes x.stamp ∷ data_words xs) = rw e at named in
            (λ plain. by_stamp x.stamp refl (stamped.0 plain) z.0, each_record n xs stamped.1 z.1)
      ]
    where
      both : is_control x ≡ true → is_control x ≡ false → ⊥
      both a b = cc

      by_stamp : (o : Option Stamp) → x.stamp ≡ o → (st : Stamp) × (x.stamp ≡ Some st) → IsWordOf t g n (datum_by x.bytes x.stamp) → IsRecord t (captures_of (arrivals_of g)) x
      by_stamp o same some k = word_record n x some.0 some.1 (subst (λ (z : Option Stamp). IsWordOf t g n (datum_by x.bytes z)) some.1 k)

-- ---- external ports stay no cascade ports
module _ (round : TagRoundTrip) (words : SendsAreWords) (leave : SendsLeaveAsFlat) (law : StepsTell) (stay : StepsStayWritten) (sound : StepsStaySound) (t : Shape) (l : Limits) (b : Basis) (start : MayStart t l b) where
  stations_step : (step : Step) (w : World) → MayTakeAll t l w (step ∷ []) → IsRun t l b w → ServesStations t w.far → ServesStations t (stepped t l step w).world.far
  stations_step step w may r serve =
      let v : World = (stepped t l step w).world in
      let es : List Event = (stepped t l step w).events in
      let next : IsRun t l b v = step_run round words leave law stay t l b start step w may.0 r in
      let does : MayDoAll t l w (step ∷ []) = (going round words leave law stay t l b start (step ∷ []) w r.given r.history r.left r.kept r.written (go_after round words leave law stay t l b start (step ∷ []) w may r)).0 in
      stations_kept t l w v (ordered_by step) es (sound t l start.setting w step r.going.sound does.0.may).follows (forget t l (system_of v) next.going.sound.stands) serve

  stations_after : (steps : List Step) (w : World) → MayTakeAll t l w steps → IsRun t l b w → ServesStations t w.far → ServesStations t (run t l steps w).world.far
  unfolding run
  stations_after [] w may r serve = serve
  stations_after (step ∷ steps) w may r serve =
      stations_after steps (stepped t l step w).world may.1 (step_run round words leave law stay t l b start step w may.0 r) (stations_step step w (may.0, tt) r serve)

-- ---- the law
pub standing_stays_traced : TagRoundTrip → SendsAreWords → SendsLeaveAsFlat → StepsTell → StepsStayWritten → StepsStaySound → RunsStayTraced → StandingStaysTraced
standing_stays_traced round words leave law stay sound runs s before steps valid vids may more i g h left lines stood traced =
    let t : Shape = shape_of s in
    let l : Limits = limits_of s in
    let b : Basis = basis_of s in
    let w : World = reached_by s before in
    let start : MayStart t l b = setups_may_start s valid vids in
    let first : IsRun t l b (beginning s) = begins round words leave law stay s valid start in
    let r : IsRun t l b w = run_after round words leave law stay t l b start before (beginning s) may first in
    let does : MayDoAll t l w steps = (going round words leave law stay t l b start steps w r.given r.history r.left r.kept r.written (go_after round words leave law stay t l b start steps w more r)).0 in
    let ready : StaysReady t l w steps = stays_ready round words leave law stay t l b start steps w more r in
    let make : MayMakeAll t l w steps = may_make t l steps w does in
    let serves : Serves t w (captures_of (arrivals_of g)) = record {
      stations = stations_after round words leave law stay sound t l b start before (beginning s) may first (begins_serving t l (start_of s) s.ageing);
      next = awaits t l i w g h left stood;
      records = λ n there. each_record t l i w g h left stood n (w.up n) (r.kept.stamped.ups n) (stood.names.words n (link_there t n there));
    } in
    runs t l start.setting start.few w steps (arrivals_of g) h left lines r.going.sound serves make ready traced
