-- Runs that play the segments of an input, one after another, and what is known of them.
use Rattle.std.specs.Prelude.{◌≡◌, ℕ, ◌+◌, ◌*◌, ◌≤◌, ◌==◌, ◌++◌, true, List, [], ◌∷◌, length, filter, filter_map, flat_map, fold, sum_by, All, Contains}
use Rattle.exb_model.specs.FlatBridge.{flat}
use Rattle.exb_model.specs.History.{◌then◌, command_of}
use Rattle.exb_model.specs.declared.arrival.Arrival.{Arrival}
use Rattle.exb_model.specs.Input.{Input, Segment, Mode, Eager, Seeded, basis_of, tree_of, bounds_of, segments}
use Rattle.exb_model.specs.EagerHistory.{eager}
use Rattle.exb_model.specs.LegalHistory.{Legal}
use Rattle.exb_model.specs.Lists.{Pairwise}
use Rattle.exb_model.specs.Setup.{IsValid, start_of}
use Rattle.exb_model.specs.declared.event.Event.{Event}
use Rattle.exb_model.specs.Texts.{Counts, counted}
use Rattle.exb_model.specs.Tree.{is_external}
use Rattle.exb_world_spec.specs.Settling.{run}
use Rattle.exb_world_spec.specs.Steps.{Stepped}
use Rattle.exb_world_spec.specs.Worlds.{World, Step, Left, first_world, left_at}
use Rattle.exb_world_spec.specs.Runs.PassedFrames.{passed_over}
use Rattle.exb_world_spec.specs.Runs.ReachedWorlds.{HasVid, MayTakeAll}
use Rattle.exb_world_laws.specs.SegmentRuns.{IsEager, IsTimely, PlayAll, marked_each, nothing_given}

-- the world with which the setup of an input begins
abbrev pub begin_of : Input → World
begin_of i = first_world (tree_of i) (bounds_of i) (start_of i.setup) i.setup.ageing

-- in the eager mode the seconds of each segment pass first; in a seeded one nothing is asked of the order within a
-- segment
abbrev pub AreOrdered : Mode → List Segment → List (List Step) → Type 0
AreOrdered Eager so_far plays = Pairwise IsEager so_far plays
AreOrdered Seeded so_far plays = Unit {0}

-- Steps that may be made play the opening and then these segments, each settled and marked; in the eager mode the
-- seconds of each pass first. This was done by them.
pub record PlaysIn (m : Mode) (i : Input) (so_far : List Segment) (done : Stepped) : Type 0 where
  pub first : List Step
  pub plays : List (List Step)
  pub valid : IsValid i.setup
  pub vids : All HasVid i.setup.start
  pub may : MayTakeAll (tree_of i) (bounds_of i) (begin_of i) (marked_each (first ∷ plays))
  pub play : PlayAll (tree_of i) (bounds_of i) (basis_of i) (begin_of i) (nothing_given ∷ so_far) (first ∷ plays)
  pub eager : AreOrdered m so_far plays
  pub is : done ≡ run (tree_of i) (bounds_of i) (marked_each (first ∷ plays)) (begin_of i)

-- so in the eager mode
abbrev pub PlaysSoFar : Input → List Segment → Stepped → Type 0
PlaysSoFar i so_far done = PlaysIn Eager i so_far done

-- ---- so far
abbrev pub arrivals_in : List Segment → List Arrival
arrivals_in so_far = flat_map (λ (s : Segment). s.arrivals) so_far

-- a frame that left an external port, at the moment of an arrival; it has at most 9,220 bytes
pub record IsCopyOfAny (i : Input) (arrivals : List Arrival) (x : Left) : Type 0 where
  pub port : is_external (tree_of i) x.port ≡ true
  pub arrival : Arrival
  pub of_it : Contains arrivals arrival
  pub moment : x.moment ≡ arrival.moment
  pub short : length x.bytes ≤ 9220

-- The next index of each port, the number of commands and the clock follow what was played, and what has left are
-- copies of its arrivals.
pub record IsUnderWay (i : Input) (so_far : List Segment) (done : Stepped) : Type 0 where
  pub next : (p : ℕ) → done.world.next p ≡ length (filter (λ (a : Arrival). a.port == p) (arrivals_in so_far)) + 1
  pub commands : done.world.control.given
      ≡ length (flat_map (λ (s : Segment). filter_map (command_of (basis_of i)) s.commands) so_far)
  pub clock : done.world.table.clock ≡ sum_by (λ (s : Segment). s.seconds) so_far
  pub copies : All (IsCopyOfAny i (arrivals_in so_far)) done.left

abbrev pub RunsAreUnderWay : Type 0
RunsAreUnderWay = (m : Mode) (i : Input) (so_far : List Segment) (done : Stepped) → PlaysIn m i so_far done
    → IsUnderWay i so_far done

-- ---- how much
abbrev pub none_counted : Counts
none_counted = record { relayed = 0; ignored = 0; left = 0; commits = 0; refusals = 0 }

abbrev pub counted_in : List Event → Counts
counted_in events = fold (λ (c : Counts) (e : Event). counted e c) none_counted events

-- Each arrival was relayed or ignored, once; each command took effect or was refused, once; a port has sent at most one
-- frame for each arrival, so in all at most 4,160 for each have left.
pub record AreFew (i : Input) (so_far : List Segment) (done : Stepped) : Type 0 where
  pub entered : (counted_in done.events).relayed + (counted_in done.events).ignored ≡ length (arrivals_in so_far)
  pub decided : (counted_in done.events).commits + (counted_in done.events).refusals
      ≡ length (flat_map (λ (s : Segment). filter_map (command_of (basis_of i)) s.commands) so_far)
  pub left : length done.left ≤ 4160 * length (arrivals_in so_far)
  pub left_each : (q : ℕ) → length (left_at q done.left) ≤ length (arrivals_in so_far)

abbrev pub RunsAreFew : Type 0
RunsAreFew = (m : Mode) (i : Input) (so_far : List Segment) (done : Stepped) → PlaysIn m i so_far done
    → AreFew i so_far done

-- ---- the whole
-- Where all segments are played a history was told that the input allows, and what has left each external port is what
-- the one bridge sends there over it.
pub record HasWrittenIn (m : Mode) (i : Input) (done : Stepped) : Type 0 where
  pub journal : Legal m i ([] then done.events)
  pub captures : (q : ℕ) → is_external (tree_of i) q ≡ true → left_at q done.left
      ≡ flat (basis_of i) ([] then done.events) q

abbrev pub RunsWriteLegally : Type 0
RunsWriteLegally = (m : Mode) (i : Input) (done : Stepped) → IsTimely i → PlaysIn m i (segments m i) done
    → HasWrittenIn m i done

-- Of each Relay it was said whether its frame passed, in the configuration before it.
abbrev pub RunsSayPassed : Type 0
RunsSayPassed = (m : Mode) (i : Input) (done : Stepped) → IsTimely i → PlaysIn m i (segments m i) done
    → done.passed ≡ passed_over (basis_of i) [] done.events

-- In the eager mode it is the eager history.
pub record HasWritten (i : Input) (done : Stepped) : Type 0 where
  pub journal : ([] then done.events) ≡ eager i
  pub captures : (q : ℕ) → is_external (tree_of i) q ≡ true → left_at q done.left ≡ flat (basis_of i) (eager i) q

abbrev pub RunsWriteEagerly : Type 0
RunsWriteEagerly = (i : Input) (done : Stepped) → IsTimely i → PlaysSoFar i (segments Eager i) done → HasWritten i done

-- After some segments of the eager mode what was told is a front of the eager history: with these events more it is
-- that. What has left each external port is what the one bridge sends there over it.
pub record HasWrittenFront (i : Input) (done : Stepped) : Type 0 where
  pub more : List Event
  pub journal : eager i ≡ (([] then done.events) then more)
  pub captures : (q : ℕ) → is_external (tree_of i) q ≡ true → left_at q done.left
      ≡ flat (basis_of i) ([] then done.events) q

abbrev pub RunsWriteFronts : Type 0
RunsWriteFronts = (i : Input) (so_far rest : List Segment) (done : Stepped) → IsTimely i
    → segments Eager i ≡ so_far ++ rest → PlaysSoFar i so_far done → HasWrittenFront i done
