-- A run under way that reads its captures again: what holds whatever these give, and what holds where the files are
-- told.
use Rattle.std.specs.Prelude.{[], ◌≡◌, ◌≤◌, ◌<◌, ◌+◌, ◌*◌, ◌^◌, ◌==◌, true, false, ℕ, List, ◌∷◌, ◌++◌, Option, Some, None, Result, Ok, Err, length, map, filter, filter_map, flat_map, sum_by, All, fold, OnOk, OnErr}
use Rattle.std.specs.List.{AllByRecursion}
use Rattle.exb_model.specs.declared.setup.Setup.{Setup}
use Rattle.exb_model.specs.declared.setup.Timed.{Timed}
use Rattle.exb_model.specs.History.{command_of}
use Rattle.exb_model.specs.Input.{Input, Segment, Mode, Eager, Seeded, arrival_in, basis_of, tree_of, given_by, moment_of, second_of, segments, segments_after}
use Rattle.exb_model.specs.Setup.{NamesExternal}
use Rattle.exb_model.specs.Tree.{is_external}
use Rattle.exb_timeline.specs.MergeOrder.{begins_in, still_to_come}
use Rattle.exb_timeline.specs.declared.bridge_timeline.Next.{Next}
use Rattle.exb_timeline.specs.declared.bridge_timeline.Timeline.{Timeline}
use Rattle.exb_timeline.specs.Timelines.{IsComing, IsFrom, IsProgramme, played_with, what}
use Rattle.exb_timeline.specs.CaptureMerges.{AreReplays, HasPort, ids_in, left_in, number_of, standings}
use Rattle.exb_timeline.specs.Streams.{Stream}
use Rattle.exb_world_laws.specs.SegmentRuns.{IsTimely}
use Rattle.exb_world_laws.specs.Runs.SegmentRuns.{arrivals_in}
use Rattle.exb_model.specs.declared.arrival.Arrival.{Arrival}
use Rattle.exb_schedule.specs.SegmentRuns.{CanAll, IsSegment, gives}
use Rattle.exb_shelf.specs.FaultCounts.{after_write}
use Rattle.exb_timeline.specs.FaultCounts.{CountsFault}
use Rattle.exb_timeline.specs.declared.capture_merge.CaptureFault.{CaptureFault}
use Rattle.exb_timeline.specs.declared.capture_merge.CaptureFault.TheVariants as capture_fault
use Rattle.exb_play.specs.declared.fault.PlayFault.{PlayFault}
use Rattle.exb_play.specs.declared.fault.PlayFault.TheVariants as play_fault
use Rattle.exb_play.specs.declared.feed.Feed.{Feed}
use Rattle.exb_outputs.specs.declared.outputs.Outputs.{Outputs}
use Rattle.exb_outputs.specs.Manifests.{Listed}
use Rattle.exb_inputs.specs.Inputs.{input_from}
use Rattle.exb_topology_tables.specs.declared.elements.Named.{Named}
use Rattle.exb_outbox.specs.declared.log.Left.{Left}
use Rattle.exb_outbox.specs.declared.log.Log.{Log}
use Rattle.exb_model.specs.declared.event.Event.{Event}
use Rattle.exb_model.specs.Traces.{TraceLine}
use Rattle.exb_bridge.specs.BridgeWorlds.{all_left}
use Rattle.exb_model.specs.FlatBridge.{Sent}
use Rattle.exb_model.specs.Texts.{counted, with_left}
use Rattle.exb_world.specs.WorldContracts.{Network, IsQuiet, IsSame, world_of}
use Rattle.exb_shelf.specs.Files.{Files}
use Rattle.exb_shelf.specs.declared.shelf.ShelfFault.{ShelfFault}
use Rattle.exb_journal.specs.Tallies.{counts_of}
use Rattle.exb_journal.specs.declared.file_names.OutputKind.{OutputKind}
use Rattle.exb_outputs.specs.SentFrames.{sent_with}
use Rattle.exb_outputs.specs.TextUpdates.{with_told}
use Rattle.exb_outputs.specs.declared.run_counts.RunCounts.{RunCounts}
use Rattle.exb_play.specs.Disks.{Disk, Plays, Reads, Touches}
use Rattle.exb_play.specs.BridgeRuns.{CanBeKept, IsCutOff, HasTold, IsAllTold, IsTold, Player, Run, untold, ◌with◌}
use Rattle.exb_outputs.specs.Counts.{AreCountsOf, CountsOn, IsCounted}
use Rattle.exb_outputs.specs.CaptureSizes.{AreCountedAt, HasSent}
use Rattle.exb_outputs.specs.WrittenTexts.{AreCut, HasTexts, IsReady, first_text, pieces_of}
use Rattle.exb_outputs.specs.InputsApart.{AreApart}

-- ---- whatever the captures give
-- how many commands of an input were played
abbrev pub commands_played : Input → List Segment → ℕ
commands_played i so_far = length (flat_map (λ (s : Segment). filter_map (command_of (basis_of i)) s.commands) so_far)

abbrev pub seconds_played : List Segment → ℕ
seconds_played so_far = sum_by (λ (s : Segment). s.seconds) so_far

-- how many arrivals of a port were played
abbrev pub arrived_at : ℕ → List Segment → ℕ
arrived_at q so_far = length (filter (λ a. a.port == q) (arrivals_in so_far))

-- By the second of the last segment: no more seconds passed than lie between the start and it, and nothing that is left
-- comes before it. Before the first segment none has passed.
abbrev pub IsSinceLast : Option ℕ → List Segment → Timeline → Type 0
IsSinceLast None so_far p = so_far ≡ []
IsSinceLast (Some second) so_far p = (seconds_played so_far + p.start ≤ second) × (second < p.start + 2 ^ 32)
    × IsFrom (second * 1_000_000_000) p

-- Some segments were played, and a programme goes on behind them. The commands are those of the input, and name
-- external ports, as the captures do; the next record of each port has the number that the world waits for; and 16
-- bytes were read for each arrival.
pub record IsGoingOn (i : Input) (so_far : List Segment) (last : Option ℕ) (p : Timeline) : Type 0 where
  pub given : i.commands ≡ map given_by p.commands.now
  pub names : All (λ c. NamesExternal (tree_of i) c.command) p.commands.now
  pub external : (q : ℕ) → HasPort q (standings p.captures) → is_external (tree_of i) q ≡ true
  pub taken : commands_played i so_far ≡ p.taken
  pub counted : (q : ℕ) → arrived_at q so_far + 1 ≡ number_of (standings p.captures) q
  pub kept : CanBeKept so_far
  pub few_bytes : 16 * length (arrivals_in so_far) + left_in p.captures ≤ 2 ^ 53
  pub since : IsSinceLast last so_far p

-- So few arrivals and commands were played that all counts stay low, and arrivals can be written in a capture.
pub record CanFollow (i : Input) (so_far : List Segment) : Type 0 where
  pub kept : CanBeKept so_far
  pub few_arrivals : length (arrivals_in so_far) ≤ 2 ^ 49
  pub few_commands : commands_played i so_far ≤ 65536

-- ---- where the files are told
-- on this disk these are the streams of a programme's captures
abbrev pub HasStreams : Disk → Timeline → List Stream → Type 0
HasStreams d p streams = AreReplays d.files d.ids p.captures.sources.items streams

-- The files of the captures are those that were checked, and what is still to come of them leads from these segments to
-- all of the input.
pub record LeadsOn (m : Mode) (i : Input) (so_far : List Segment) (last : Option ℕ) (d : Disk)
    (p : Timeline) : Type 0 where
  pub streams : List Stream
  pub replays : HasStreams d p streams
  pub rest : segments m i ≡ so_far ++ segments_after m last (still_to_come (played_with streams p))

-- A run stands after some segments, the last of which was of this second, and a programme goes on: its captures can be
-- read and its outputs be written; where the files are told, it leads to all of the input.
pub record Stands (tells : Type 0) (r : Run) (p : Player) (last : Option ℕ) (q : Timeline) : Type 0 where
  pub so_far : List Segment
  pub is : IsTold tells r p so_far
  pub next : IsGoingOn r.input so_far last q
  pub ready : IsReady p.manifest p.disk.ids p.outputs
  pub programme : IsProgramme p.disk.ids q
  pub apart : AreApart p.manifest p.disk.ids (ids_in q.captures)
  pub leads : tells → LeadsOn p.mode r.input so_far last p.disk q

-- A run of this setup, these commands and, where the files are told, the captures in these.
pub record IsRunOf (tells : Type 0) (r : Run) (setup : Setup) (commands : List Timed) (names : List Named)
    (file : Files) : Type 0 where
  pub setup_is : r.input.setup ≡ setup
  pub given : r.input.commands ≡ map given_by commands
  pub is : tells → r.input ≡ input_from setup commands names file

abbrev pub run_of : Setup → List Timed → List Named → Files → Run
run_of setup commands names file = record { input = input_from setup commands names file; before = file }

-- Before anything was played: the outputs were made and hold nothing but their first texts, the seconds of the commands
-- don't fall, and the programme has all of an input.
pub record CanBegin (tells : Type 0) (m : Mode) (r : Run) (s : Setup) (manifest : Listed) (d : Disk) (o : Outputs)
    (q : Timeline) : Type 0 where
  pub setup : r.input.setup ≡ s
  pub texts : tells → HasTexts manifest (pieces_of o) r.before d.files first_text
  pub sent : HasSent manifest o (λ q. [])
  pub timely : IsTimely r.input
  pub next : IsGoingOn r.input [] None q
  pub ready : IsReady manifest d.ids o
  pub programme : IsProgramme d.ids q
  pub apart : AreApart manifest d.ids (ids_in q.captures)
  pub leads : tells → LeadsOn m r.input [] None d q

-- The world is opened, and nothing of it is written or counted yet; the programme has all of an input.
pub record IsOpened (tells : Type 0) (r : Run) (p : Player) (q : Timeline) : Type 0 where
  pub tree : p.manifest.tree ≡ tree_of r.input
  pub played : HasTold p.mode r.input [] p.world (untold with p.world.log)
  pub tracing : p.world.log.tracing ≡ p.manifest.options.trace
  pub counted : IsCounted p.manifest p.counted [] [] []
  pub begins : CanBegin tells p.mode r r.input.setup p.manifest p.disk p.outputs q

-- ---- one segment more
-- a programme that can go on
pub record CanFeed (d : Disk) (f : Feed) : Type 0 where
  pub programme : IsProgramme d.ids f.programme

-- the second of what comes
abbrev pub second_by : Next → ℕ
second_by d = second_of (moment_of (what d))

-- all of these came, one after another
abbrev pub ComeAll : Timeline → List Next → Timeline → Type 0
ComeAll old [] new = old ≡ new
ComeAll old (d ∷ ds) new = (next : Timeline) × IsComing old d next × ComeAll next ds new

-- and where the files are told, they are what was still to come of them
abbrev pub TakesAllOf : Disk → Disk → Timeline → List Next → Timeline → Type 0
TakesAllOf a b old ds new =
    (streams : List Stream) → HasStreams a old streams
    → (rest : List Stream) × (still_to_come (played_with streams old)
    ≡ map what ds ++ still_to_come (played_with rest new)) × HasStreams b new rest

-- All of these came, and their arrivals stand behind those that had come.
pub record HasTaken (tells : Type 0) (a b : Disk) (old : Feed) (ds : List Next) (new : Feed) : Type 0 where
  pub comes : ComeAll old.programme ds new.programme
  pub takes : tells → TakesAllOf a b old.programme ds new.programme
  pub arrivals_are : new.gathered.items ≡ old.gathered.items ++ filter_map arrival_in (map what ds)

-- One came, of this second.
pub record IsTaken (tells : Type 0) (second : ℕ) (a b : Disk) (old new : Feed) : Type 0 where
  pub d : Next
  pub has : HasTaken tells a b old (d ∷ []) new
  pub within : second_by d ≡ second

-- all of one second was taken
pub record HasTakenSecond (tells : Type 0) (second : ℕ) (a b : Disk) (old new : Feed) : Type 0 where
  pub ds : List Next
  pub has : HasTaken tells a b old ds new
  pub within : AllByRecursion (λ d. second_by d ≡ second) ds

-- where the files are told, nothing is left that is of this second
abbrev pub NoMoreIn : ℕ → Disk → Timeline → Type 0
NoMoreIn second d p = (streams : List Stream) → HasStreams d p streams
    → begins_in second (still_to_come (played_with streams p)) ≡ false

-- where the files are told, nothing is left
abbrev pub NothingIsLeft : Disk → Timeline → Type 0
NothingIsLeft d p = (streams : List Stream) → HasStreams d p streams → still_to_come (played_with streams p) ≡ []

-- where the files are told they aren't those that were checked
abbrev pub AreOthers : Disk → Timeline → Type 0
AreOthers d p = (streams : List Stream) → HasStreams d p streams → ⊥

-- One segment was gathered: what came first, in this second, alone in the eager mode, and in a seeded one all of the
-- same second.
pub record IsGathered (tells : Type 0) (m : Mode) (a b : Disk) (second : ℕ) (old : Timeline) (new : Feed) : Type 0 where
  pub first : Next
  pub more : List Next
  pub comes : ComeAll old (first ∷ more) new.programme
  pub takes : tells → TakesAllOf a b old (first ∷ more) new.programme
  pub arrivals_are : new.gathered.items ≡ filter_map arrival_in (map what (first ∷ more))
  pub is_first : second_by first ≡ second
  pub alone : m ≡ Eager → more ≡ []
  pub within : AllByRecursion (λ d. second_by d ≡ second) more
  pub whole : tells → m ≡ Seeded → NoMoreIn second b new.programme

-- ---- how it ends
-- Why captures couldn't be read on: one has changed only where it is one of them, and then this holds.
abbrev pub IsWhy : Type 0 → Timeline → CaptureFault → Type 0
IsWhy others p (capture_fault.Changed q at) = HasPort q (standings p.captures) × others
IsWhy others p _ = Unit {0}

-- What calls say that read on from there, by their answer: why they couldn't, and what was counted.
abbrev pub EndsReading : {X : Type 0} → Type 0 → Disk → Timeline → Disk → Result X CaptureFault → Type 0
EndsReading tells old p new (Ok x) = new.faults ≡ old.faults
EndsReading tells old p new (Err fault) = IsWhy (tells → AreOthers old p) p fault
    × CountsFault fault old.faults new.faults

pub record ReadsAgain {X : Type 0} (tells : Type 0) (old : Disk) (p : Timeline) (new : Disk)
    (result : Result X CaptureFault) : Type 0 where
  pub reads : Reads (ids_in p.captures) old new
  pub ends : EndsReading tells old p new result

-- and that write
pub record WritesOn {X : Type 0} (tells : Type 0) (manifest : Listed) (old new : Disk)
    (result : Result X ShelfFault) : Type 0 where
  pub plays : Plays tells manifest [] old new
  pub counts : new.faults ≡ after_write result old.faults

-- and that play, reading on from there and writing
abbrev pub EndsPlaying : {X : Type 0} → Type 0 → Disk → Timeline → Disk → Result X PlayFault → Type 0
EndsPlaying tells old p new (Ok x) = new.faults ≡ old.faults
EndsPlaying tells old p new (Err (play_fault.Reading fault)) = IsWhy (tells → ⊥) p fault
    × CountsFault fault old.faults new.faults
EndsPlaying tells old p new (Err (play_fault.Writing fault)) = new.faults
    ≡ after_write {X = Unit {0}} (Err fault) old.faults

pub record PlaysOn {X : Type 0} (tells : Type 0) (manifest : Listed) (old : Disk) (p : Timeline) (new : Disk)
    (result : Result X PlayFault) : Type 0 where
  pub plays : Plays tells manifest (ids_in p.captures) old new
  pub ends : EndsPlaying tells old p new result

-- What was told is written; or writing broke off, and each output holds a front of its text.
pub record WritesTold {X : Type 0} (tells : Type 0) (manifest : Listed) (old new : Disk) (o p : Outputs)
    (events : List Event) (left : List Left) (lines : List TraceLine) (result : Result X ShelfFault) : Type 0 where
  pub ready : IsReady manifest new.ids p
  pub texts : tells → OnOk result ((orig : Files) (text : OutputKind → List ℕ)
      → HasTexts manifest (pieces_of o) orig old.files text
      → HasTexts manifest (pieces_of p) orig new.files (with_told text events left lines))
  pub cut : tells → OnErr result ((orig : Files) (text : OutputKind → List ℕ)
      → HasTexts manifest (pieces_of o) orig old.files text
      → AreCut manifest orig new.files (with_told text events left lines))
  pub sent : OnOk result ((sent : ℕ → List Sent) → HasSent manifest o sent → HasSent manifest p (sent_with sent left))
  pub writes : WritesOn tells manifest old new result

abbrev pub WritesLog : {X : Type 0} → Type 0 → Listed → Disk → Disk → Outputs → Outputs → Log → Result X ShelfFault
    → Type 0
WritesLog tells manifest old new o p log result = WritesTold tells manifest old new o p log.events log.left log.lines
    result

-- The same world, of which nothing is still to be written or counted.
pub record IsCleared (old new : Network) : Type 0 where
  pub world : world_of new ≡ world_of old
  pub same : IsSame old new
  pub quiet : IsQuiet new

-- what it told is counted
pub record CountsLog (old new : RunCounts) (log : Log) : Type 0 where
  pub tally : counts_of new.tally ≡ with_left (length (all_left log.left))
      (fold (λ c e. counted e c) (counts_of old.tally) log.events)
  pub ports : CountsOn old.ports new.ports log.events log.passed

-- Calls went on without a fault from one disk and programme to another, through the same ids and captures of the same
-- ports. It goes from each to itself, and on from there.
pub record HasGone (known : Type 0) (stays : List ℕ → Type 0) (a : Disk) (p : Timeline) (b : Disk)
    (q : Timeline) : Type 0 where
  pub touches : Touches known stays (ids_in p.captures) a b
  pub same : ids_in q.captures ≡ ids_in p.captures
  pub ports : (k : ℕ) → HasPort k (standings q.captures) → HasPort k (standings p.captures)
  pub counts : b.faults ≡ a.faults

-- They read, and where the files are told they are still those that were checked.
pub record HasRead (tells : Type 0) (a : Disk) (p : Timeline) (b : Disk) (q : Timeline) : Type 0 where
  pub gone : HasGone (Unit {0}) (λ name. Unit {0}) a p b q
  pub streams : tells → (xs : List Stream) → HasStreams a p xs → (ys : List Stream) × HasStreams b q ys

-- ---- a segment more
-- A player stands after some segments, and this was gathered behind them, from another disk: so many commands were
-- taken before it.
pub record CanGoOn (tells : Type 0) (r : Run) (p : Player) (last : Option ℕ) (second from : ℕ) (f : Feed) : Type 0 where
  pub so_far : List Segment
  pub old : Timeline
  pub given : Disk
  pub is : IsTold tells r p so_far
  pub next : IsGoingOn r.input so_far last old
  pub leads : tells → LeadsOn p.mode r.input so_far last given old
  pub got : IsGathered tells p.mode given p.disk second old f
  pub ready : IsReady p.manifest p.disk.ids p.outputs
  pub programme : IsProgramme p.disk.ids f.programme
  pub apart : AreApart p.manifest p.disk.ids (ids_in f.programme.captures)
  pub from_is : from ≡ old.taken

-- a player stands after some segments, and these seconds, commands and arrivals make the next one, which can be played
pub record CanBePlayed (tells : Type 0) (r : Run) (p : Player) (seconds : ℕ) (cs : List Timed)
    (frames : List Arrival) : Type 0 where
  pub so_far : List Segment
  pub is : IsTold tells r p so_far
  pub ready : IsReady p.manifest p.disk.ids p.outputs
  pub next : Segment
  pub segment : IsSegment r.input next seconds cs frames
  pub can : CanAll p.world (gives seconds cs frames)
  pub follows : CanFollow r.input (so_far ++ next ∷ [])

-- Whatever segments were played, one more was, of these seconds, commands and arrivals.
pub record IsOneMore (tells : Type 0) (r : Run) (old new : Player) (seconds : ℕ) (cs : List Timed)
    (frames : List Arrival) : Type 0 where
  pub ready : IsReady new.manifest new.disk.ids new.outputs
  pub told : (so_far : List Segment) (s : Segment) → IsSegment r.input s seconds cs frames → IsTold tells r old so_far
      → IsTold tells r new (so_far ++ s ∷ [])

-- or while it was, the run was cut off
abbrev pub IsCutWithin : Type 0 → Run → Player → ℕ → List Timed → List Arrival → Files → Type 0
IsCutWithin tells r old seconds cs frames now =
    (so_far rest : List Segment) (s : Segment) → segments old.mode r.input ≡ so_far ++ s ∷ rest
    → IsSegment r.input s seconds cs frames → IsTold tells r old so_far
    → IsCutOff old.mode r old.manifest now

-- All was played: what is left to be written is ready and counted.
pub record HasPlayedAll (tells : Type 0) (r : Run) (p : Player) : Type 0 where
  pub ready : IsReady p.manifest p.disk.ids p.outputs
  pub few : p.counted.tally.relayed + p.counted.tally.ignored < 2 ^ 64
  pub counted : AreCountsOf p.manifest p.counted.ports
  pub sent : AreCountedAt p.manifest p.outputs
  pub told : tells → IsAllTold tells r p
  pub kept : tells → CanBeKept (segments p.mode r.input)
