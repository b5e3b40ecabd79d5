-- What any steps leave of a network that a run of a valid setup reaches, as `World` says of itself. So it is after
-- rounds, settling and segments, each of which says which steps it made.
use Rattle.std.specs.Prelude.{◌≡◌, ℕ, ◌+◌, ◌≤◌, ◌^◌, ◌-◌, ◌++◌, min, Bool, true, List, [], ◌∷◌, length, filter, filter_map, flat_map, sum_by, IsPermutation}
use Rattle.exb_model.specs.declared.event.Event.{Event}
use Rattle.exb_model.specs.FlatBridge.{sent_by, flat}
use Rattle.exb_model.specs.History.{Basis, History, ◌then◌, bridge_after, command_of}
use Rattle.exb_model.specs.Input.{Input, Segment, Mode}
use Rattle.exb_model.specs.Input.{basis_of as basis_in}
use Rattle.exb_model.specs.Learning.{learned}
use Rattle.exb_model.specs.Traces.{TraceLine}
use Rattle.exb_model.specs.Tree.{is_extender, is_external}
use Rattle.exb_link.specs.declared.link_frame.LinkFrame.{LinkFrame}
use Rattle.exb_world_spec.specs.AllowedSteps.{IsSettled}
use Rattle.exb_world_spec.specs.Settling.{Direction, directions, round, run}
use Rattle.exb_world_spec.specs.Worlds.{Way, Step, Left, next_beat, left_at}
use Rattle.exb_world_spec.specs.Runs.SessionLaws.{IsMove}
use Rattle.exb_world_spec.specs.Runs.PassedFrames.{passed_over}
use Rattle.exb_world_spec.specs.Runs.Sessions.{Each}
use Rattle.exb_world.specs.WorldContracts.{Network, world_of, tree_of, bounds_of}
use Rattle.exb_bridge.specs.BridgeWorlds.{all_left}
use Rattle.exb_flight.specs.Promises.{owed_at}
use Rattle.exb_world_laws.specs.WorldInput.{Given, given_by, arrivals_of, commands_of, basis_with}
use Rattle.exb_world_laws.specs.WorldInvariant.{basis_of, given_in}
use Rattle.exb_world_laws.specs.OneBridgeSteps.{IsGiving, told_of}
use Rattle.exb_world_laws.specs.Runs.SegmentRuns.{arrivals_in}
use Rattle.exb_settling_laws.specs.Rounds.{IsGoneThrough, is_lost}
use Rattle.exb_world_laws.specs.Runs.OneBridge.{IsCopyOut}
use Rattle.exb_schedule.specs.StepSequences.{HasRun, IsMoved}
use Rattle.exb_schedule.specs.SegmentRuns.{HasPlayed}
use Rattle.exb_schedule.specs.ReachedWorlds.{Reached}
use Rattle.exb_schedule.specs.Rounds.{HasAsked, HasSettled}
use Rattle.exb_schedule.specs.OneBridge.{HasCleanLinks, IsStanding}

-- ---- any steps
-- Where the network stood before them it stands after them with what they gave, the events that were added and what has
-- left since; what was said of each Relay since then is whether it passed in the configuration before it; and what has
-- left since are copies of what was given, at external ports.
pub record IsStandingOn (steps : List Step) (old new : Network) (i : Basis) (g : List Given) (h : History)
    (left : List Left) : Type 0 where
  pub stands : (es : List Event) (gone : List Left) → new.log.events ≡ old.log.events ++ es
      → all_left new.log.left ≡ all_left old.log.left ++ gone →
      IsStanding i new (g ++ given_in steps) (h then es) (left ++ gone)
  pub passed : (es : List Event) (said : List Bool) → new.log.events ≡ old.log.events ++ es
      → new.log.passed ≡ old.log.passed ++ said → said ≡ passed_over (basis_with i (g ++ given_in steps)) h es
  pub copies : (gone : List Left) → all_left new.log.left ≡ all_left old.log.left ++ gone
      → Each (IsCopyOut (tree_of old) (arrivals_of (g ++ given_in steps))) gone

-- Its links are clean, and its ageing time is what it was.
pub record IsLastingOn (steps : List Step) (old new : Network) : Type 0 where
  pub with : (i : Basis) → i.ageing ≡ (world_of old).table.ageing → (g : List Given) (h : History) (left : List Left)
      → IsStanding i old g h left → IsStandingOn steps old new i g h left
  pub clean : HasCleanLinks new
  pub ageing : (world_of new).table.ageing ≡ (world_of old).table.ageing

abbrev pub RunsStayStanding : Type 0
RunsStayStanding = (steps : List Step) (old new : Network) → Reached old → HasRun steps old new
    → IsLastingOn steps old new

-- A network that has played the opening and some segments of an input stands with what they give, each arrival once,
-- and its links are clean.
pub record IsPlayedStandingOn (i : Input) (so_far : List Segment) (n : Network) (events : List Event)
    (left : List Left) : Type 0 where
  pub given : List Given
  pub commands : commands_of given ≡ flat_map (λ (s : Segment). filter_map (command_of (basis_in i)) s.commands) so_far
  pub arrivals : IsPermutation (arrivals_of given) (arrivals_in so_far)
  pub stands : IsStanding (basis_of i.setup) n given ([] then events) left
  pub clean : HasCleanLinks n

abbrev pub PlayedStands : Type 0
PlayedStands =
    (m : Mode) (i : Input) (so_far : List Segment) (n : Network) (events : List Event) (passed : List Bool)
    (left : List Left) (lines : List TraceLine) →
    HasPlayed m i so_far n events passed left lines → IsPlayedStandingOn i so_far n events left

-- ---- a settled network
-- Where it stands nothing is owed: what has left each port is what the one bridge sends there.
abbrev pub SettledOwes : Type 0
SettledOwes =
    (n : Network) → Reached n → IsSettled (tree_of n) (world_of n)
    → (i : Basis) (g : List Given) (h : History) (left : List Left) → IsStanding i n g h left →
    (q : ℕ) → is_external (tree_of n) q ≡ true → (owed_at (tree_of n) (world_of n) q ≡ [])
    × (left_at q left ≡ flat (basis_with i g) h q)

-- It was given an arrival or a command, and settled by moves: just what becomes of that by the rule of the eager
-- history was told, and just what the one bridge sends for it has left each external port.
pub record IsOneEventOn (step : Step) (old new : Network) (i : Basis) (g : List Given) (h : History)
    (left : List Left) : Type 0 where
  pub told : new.log.events ≡ old.log.events ++ told_of (tree_of old) (bounds_of old) (world_of old) step ∷ []
  pub stands : (gone : List Left) → all_left new.log.left ≡ all_left old.log.left ++ gone
      → IsStanding i new (g ++ given_by step) (told_of (tree_of old) (bounds_of old) (world_of old) step ∷ h)
      (left ++ gone)
  pub leaves : (gone : List Left) → all_left new.log.left ≡ all_left old.log.left ++ gone → (q : ℕ)
      → is_external (tree_of old) q ≡ true →
      left_at q gone ≡ sent_by (bridge_after (basis_with i g) h) (learned (basis_with i g) h)
      (told_of (tree_of old) (bounds_of old) (world_of old) step) q

abbrev pub EventsGoOn : Type 0
EventsGoOn =
    (step : Step) (moves : List Step) (old new : Network) → Reached old → IsGiving step → Each IsMove moves
    → IsSettled (tree_of old) (world_of old) → HasRun (step ∷ moves) old new →
    IsSettled (tree_of new) (world_of new) → (i : Basis) → i.ageing ≡ (world_of old).table.ageing
    → (g : List Given) (h : History) (left : List Left) → IsStanding i old g h left →
    IsOneEventOn step old new i g h left

-- ---- rounds
-- A round was made of moves alone, and counted one beat, unless the number of beats is the last one. In each direction
-- what still stands of what stood there are control words alone, and behind them stands what was sent. Those and the
-- words that were lost are at most as many as the number fell by which the fate says how many verdicts other than Pass
-- it may give.
pub record IsRoundOf (before left : ℕ) (old new : Network) : Type 0 where
  pub steps : List Step
  pub moves : Each IsMove steps
  pub moved : IsMoved (run (tree_of old) (bounds_of old) steps (world_of old)) old new
  pub beats : (world_of new).beats ≡ next_beat (world_of old).beats
  pub stood : Way → ℕ → List LinkFrame
  pub gone : (n : ℕ) (way : Way) → is_extender (tree_of old) n ≡ true
      → IsGoneThrough n way (stood way n) (world_of old) (world_of new)
  pub few : sum_by (λ (d : Direction). length (stood d.way d.link)) (directions (tree_of old)) + length
      (filter is_lost steps) + left ≤ before

abbrev pub RoundsAreWholeOn : Type 0
RoundsAreWholeOn =
    (before left : ℕ) (old new : Network) → Reached old
    → HasAsked (round (tree_of old) (bounds_of old) (world_of old)) before left old new
    → IsRoundOf before left old new

-- Settling raises the number of beats by its answer, and no further than to the last one.
abbrev pub SettlingCounts : Type 0
SettlingCounts =
    (most made before left : ℕ) (old new : Network) → Reached old → HasSettled most made before left old new
    → (world_of new).beats ≡ min ((world_of old).beats + made) (2 ^ 64 - 1)
