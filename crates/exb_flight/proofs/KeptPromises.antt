-- What stands keeps its promises, at the beginning and over any run.
use Rattle.std.proofs.Common.{if◌then◌else◌, ◌≡◌, ℕ, zero, suc, true, List, [], ◌∷◌, ◌++◌, nat_lt, slice_index, refl, sym, ◌∙◌, ap, subst, inl, inr}
use Rattle.std.proofs.lemmas.Bool.{cases_lt, lt-ltb, le-ltb, and_parts, and_from}
use Rattle.std.proofs.lemmas.List.{append-nil, append_assoc}
use mathlib.Core.Path.{fun_ext}
use Rattle.exb_model.specs.declared.event.Event.{Event}
use Rattle.exb_model.specs.Tree.{Shape, IsTree, device, on, trunk, is_port, is_external}
use Rattle.exb_model.specs.Carriage.{carried}
use Rattle.exb_model.specs.ExtenderForwarding.{Tables}
use Rattle.exb_model.specs.Setup.{Limits}
use Rattle.exb_model.specs.History.{Basis, History, ◌then◌, bridge_after}
use Rattle.exb_model.specs.FlatBridge.{Sent, flat}
use Rattle.exb_frame.specs.TagValues.{TagRoundTrip}
use Rattle.exb_learn.specs.Calls.{Table}
use Rattle.exb_learn.specs.Histories.{table_after}
use Rattle.exb_learn.proofs.HistoryTables.{follows}
use Rattle.exb_csp.specs.AllTables.{tables_at}
use Rattle.exb_relay.specs.Laws.{SendsAreWords, SendsLeaveAsFlat}
use Rattle.exb_control_spec.specs.Runs.Systems.{System}
use Rattle.exb_control_spec.specs.Runs.PlannedChanges.{IsSetting}
use Rattle.exb_world_spec.specs.Worlds.{World, Step, Left, left_at}
use Rattle.exb_world_spec.specs.Steps.{Stepped, stepped, done_by}
use Rattle.exb_world_spec.specs.AllowedSteps.{IsSettled}
use Rattle.exb_world_spec.specs.Settling.{run}
use Rattle.exb_world_spec.specs.Runs.Simulation.{system_of}
use Rattle.exb_flight.specs.Items.{Word as Datum, words_of, Each, stamped}
use Rattle.std.specs.List.{flat_map}
use Rattle.exb_flight.specs.Tree.{IsLink}
use Rattle.exb_flight.specs.DownwardFrames.{owed_up, owed}
use Rattle.exb_flight.specs.AllowedSteps as flights
use Rattle.exb_flight.specs.Flight.{Flight, owes, tables_of}
use Rattle.exb_flight.specs.FlightFacts.{CleanDown, CleanUp, Clean, beginning}
use Rattle.exb_flight.proofs.Runs.{begins_with, facts_are_clean, facts_run}
use Rattle.exb_flight.proofs.ExtendersAbove.{home_link, link_above}
use Rattle.exb_world_spec.proofs.SessionLaws.{begins_sound, runs_stay_sound}
use Rattle.exb_flight.specs.Tokens.{data_words, none}
use Rattle.exb_flight.specs.SimulationRelation.{Stood}
use Rattle.exb_flight.specs.Simulation.{Flown, MayFly, StepsFly}
use Rattle.exb_flight.specs.Promises.{owed_at, IsEven, IsClean, IsInForce, IsQuits, Promises, StoodPromises, BeginsStood, RunsStand}
use Rattle.exb_flight.proofs.Items.{thins_words, items_words}

-- ---- nothing is owed over empty links
pub owed_none_up : (t : Shape) → IsTree t → (u : Tables) (words : ℕ → List Datum) → ((n : ℕ) → IsLink t n → words n ≡ []) → (q d p : ℕ) → IsLink t (device p) → owed_up t u words q d p ≡ []
unfolding owed_up
owed_none_up t tree u words empty q zero p link = ap (λ (fs : List Datum). flat_map (λ f. stamped f (carried t u (device p) f.bytes q)) fs) (empty (device p) link)
owed_none_up t tree u words empty q (suc d) p link =
    elim (cases_lt (on t (device p)) 64) [
      | inl low ↦ rw (lt-ltb (on t (device p)) 64 low, empty (device p) link) refl
      | inr high ↦ rw (le-ltb (on t (device p)) 64 high, empty (device p) link) (owed_none_up t tree u words empty q d (on t (device p)) (link_above t tree (device p) link high))
    ]

-- ---- histories
pub then_append : (h : History) (xs ys : List Event) → (h then (xs ++ ys)) ≡ ((h then xs) then ys)
then_append h [] ys = refl
then_append h (x ∷ xs) ys = then_append (x ∷ h) xs ys

-- ---- the words of a flight
module _ (t : Shape) (l : Limits) (i : Basis) (setting : IsSetting t l) (w : World) (h : History) (left : List Left) (stood : Stood t l i w h left) where
  f : Flight
  f = stood.flight

  downs : (n : ℕ) → words_of (stood.flight.down n) ≡ data_words (w.down n)
  downs n = sym (thins_words _ _ (stood.shows.down n)) ∙ items_words _ (w.down n)

  ups : (n : ℕ) → words_of (stood.flight.up n) ≡ data_words (w.up n)
  ups n = sym (thins_words _ _ (stood.shows.up n)) ∙ items_words _ (w.up n)

  -- what is owed there is owed here
  owed_here : (q : ℕ) → owes t (tables_of stood.flight) stood.flight.down q ≡ owed_at t w q
  unfolding owed_at
  owed_here q =
      let R : System → Type 0 = λ y. owes t (tables_at y.tables) stood.flight.down q ≡ owes t (tables_at (system_of w).tables) stood.flight.down q in
      let tables : owes t (tables_at stood.flight.system.tables) stood.flight.down q ≡ owes t (tables_at (system_of w).tables) stood.flight.down q = subst R (sym stood.shows.system) refl in
      tables ∙ ap (λ (ws : ℕ → List Datum). (if nat_lt q 64 then [] else owed t (tables_at (system_of w).tables) ws q)) (fun_ext downs)

  even : IsEven t i w h left
  even q ext =
      ap (λ (xs : List Sent). xs ++ owed_at t w q) (sym (stood.shows.left q ext))
      ∙ (ap (λ (xs : List Sent). stood.flight.left q ++ xs) (sym (owed_here q)) ∙ (stood.facts.even q ext ∙ ap (λ (g : History). flat i g q) stood.shows.history))

  clean : IsClean t w
  clean =
      let c : Clean t stood.flight = facts_are_clean t i stood.flight setting.tree stood.facts in
      let R : System → Type 0 = λ y. ((n : ℕ) → IsLink t n → Each (CleanDown t y (trunk t n)) (words_of (stood.flight.down n))) × ((n : ℕ) → IsLink t n → Each (CleanUp t y.state.held (trunk t n)) (words_of (stood.flight.up n))) in
      let r : R (system_of w) = subst R stood.shows.system (c.down, c.up) in
      record {
        down = λ n link. subst (λ (ws : List Datum). Each (CleanDown t (system_of w) (trunk t n)) ws) (downs n) (r.0 n link);
        up = λ n link. subst (λ (ws : List Datum). Each (CleanUp t w.control.held (trunk t n)) ws) (ups n) (r.1 n link);
      }

  force : IsInForce i w h
  force =
      record {
        bridge = ap (bridge_after i) (sym stood.shows.history) ∙ (stood.facts.force ∙ ap (λ (y : System). y.state.bridge) stood.shows.system);
        table = stood.shows.learned;
        clock = ap (λ (u : Table). u.clock) stood.shows.learned ∙ (follows i h).clock_is;
      }

  owed_none : IsSettled t w → (q : ℕ) → is_external t q ≡ true → owed_at t w q ≡ []
  unfolding owed_at owed
  owed_none settled q ext =
      elim (cases_lt q 64) [
        | inl low ↦ rw (lt-ltb q 64 low) refl
        | inr high ↦ rw (le-ltb q 64 high)
            (owed_none_up t setting.tree (tables_at (λ n. (w.far n).tables)) (λ n. data_words (w.down n)) (λ n link. ap data_words (settled.down n (and_from (nat_lt 0 n) _ (lt-ltb 0 n link.extender) (lt-ltb 0 (slice_index t.ports n) link.there)))) q 64 q
            (home_link t q (record { deep = high; known = (and_parts (is_port t q) _ ext).0 })))
      ]

  quits : IsQuits t i w h left
  quits settled q ext =
      let nothing : owed_at t w q ≡ [] = owed_none settled q ext in
      (nothing, sym (append-nil (left_at q left)) ∙ (ap (λ (xs : List Sent). left_at q left ++ xs) (sym nothing) ∙ even q ext))

  pub promised : Promises t l i w h left
  promised = record { even = even; clean = clean; force = force; quits = quits }

pub stood_promises : StoodPromises
stood_promises = promised

-- ---- the beginning
pub begins_stood : BeginsStood
unfolding table_after
begins_stood t l i setting few may =
    record {
      sound = begins_sound t l i.start i.ageing setting few may;
      flight = beginning t l i.start;
      facts = begins_with t l i setting may;
      shows = record { system = refl; down = λ n. none; up = λ n. none; history = refl; left = λ q ext. refl; learned = refl };
    }

-- ---- any run
pub step_stands : TagRoundTrip → SendsAreWords → SendsLeaveAsFlat → StepsFly → (t : Shape) (l : Limits) (i : Basis) → IsSetting t l → (w : World) (h : History) (left : List Left) → Stood t l i w h left →
    (step : Step) → MayFly t l i w step → Stood t l i (stepped t l step w).world (h then (stepped t l step w).events) (left ++ (stepped t l step w).left)
unfolding stepped run
step_stands round words leave fly t l i setting w h left stood step may =
    let flown : Flown t l i h left stood.flight (done_by t l step w) = fly step t l i setting w h left stood.flight stood.sound stood.facts stood.shows may in
    record {
      sound = (runs_stay_sound round t l setting w (step ∷ []) stood.sound (may.may, tt)).sound;
      flight = flights.run t l i stood.flight flown.steps;
      facts = facts_run round words leave t l i setting flown.steps stood.flight stood.facts flown.runs;
      shows = flown.shows;
    }

pub runs_stand : TagRoundTrip → SendsAreWords → SendsLeaveAsFlat → StepsFly → RunsStand
unfolding run
runs_stand round words leave fly t l i setting w h left stood [] may = subst (Stood t l i w h) (sym (append-nil left)) stood
runs_stand round words leave fly t l i setting w h left stood (step ∷ steps) may =
    let s : Stepped = stepped t l step w in
    let rest = runs_stand round words leave fly t l i setting s.world (h then s.events) (left ++ s.left) (step_stands round words leave fly t l i setting w h left stood step may.0) steps may.1 in
    let r : Stepped = run t l steps s.world in
    subst (Stood t l i r.world (h then (s.events ++ r.events))) (append_assoc left s.left r.left)
    (subst (λ (g : History). Stood t l i r.world g ((left ++ s.left) ++ r.left)) (sym (then_append h s.events r.events)) rest)
