-- A net under way: what came to it so far and what is still to come, what its bridges did, and what of that is written.
use Rattle.std.specs.Prelude.{◌≡◌, ◌≤◌, ◌<◌, ◌+◌, ◌-◌, ◌⊎◌, ◌*◌, ◌^◌, ◌==◌, if◌then◌else◌, true, false, ℕ, List, [], ◌∷◌, ◌++◌, Option, Some, None, length, map, slice_get, sum_by, drop, All}
use Rattle.std.specs.List.{AllByRecursion}
use Rattle.exb_model.specs.declared.setup.Timed.{Timed}
use Rattle.exb_model.specs.Input.{given_by, moment_of, second_of, seconds_after}
use Rattle.exb_model.specs.Setup.{NamesExternal}
use Rattle.exb_model.specs.Tree.{IsTree, external_ports, is_external}
use Rattle.exb_world_spec.specs.AllowedSteps.{Can}
use Rattle.exb_world_spec.specs.Steps.{Stepped}
use Rattle.exb_world_spec.specs.Worlds.{Left, Step, Arrive, Order, left_at}
use Rattle.exb_world.specs.WorldContracts.{tree_of, world_of}
use Rattle.exb_world_laws.specs.Runs.SegmentRuns.{counted_in}
use Rattle.exb_schedule.specs.SegmentRuns.{letters_in}
use Rattle.exb_shelf.specs.Files.{Files}
use Rattle.exb_shelf.specs.Shelf.{Id}
use Rattle.exb_timeline.specs.declared.net_timeline.NetNext.{NetNext}
use Rattle.exb_timeline.specs.declared.bridge_timeline.Next.{Next}
use Rattle.exb_timeline.specs.declared.bridge_timeline.Next.TheVariants as next
use Rattle.exb_timeline.specs.declared.bridge_timeline.Timeline.{Timeline}
use Rattle.exb_timeline.specs.NetMergeOrder.{AreAllReplays, ComesTo, all_ids, all_to_play, due_of, dues_left}
use Rattle.exb_timeline.specs.Timelines.{IsFrom, what}
use Rattle.exb_timeline.specs.CaptureMerges.{HasPort, left_in, number_of, standings}
use Rattle.exb_timeline.specs.Streams.{Stream}
use Rattle.exb_net_spec.specs.Nets.{Net, is_wired}
use Rattle.exb_net_spec.specs.NetHistory.{Due, Histories, NetEager, due_second, dues}
use Rattle.exb_net_spec.specs.InputOrder.{AreHere, AreInOrder, AreTimely, taken_after}
use Rattle.exb_net_file.specs.declared.net_parts.BridgeInputs.{BridgeInputs}
use Rattle.exb_net_laws.specs.Deliveries.{HaveVids}
use Rattle.exb_net_laws.specs.NetRuns.{AreOpened, Dones, Plays, tree_in}
use Rattle.exb_net.specs.declared.net.Net.{Net as Bridges}
use Rattle.exb_net.specs.declared.node.Node.{Node}
use Rattle.exb_net.specs.NetStates.{IsBegun, IsPlaying, no_dones}
use Rattle.exb_outputs.specs.KindTexts.{output_text}
use Rattle.exb_outputs.specs.InputsApart.{AreApart}
use Rattle.exb_outputs.specs.Manifests.{Listed}
use Rattle.exb_net.specs.declared.bridge_outputs.BridgeOutputs.{BridgeOutputs}
use Rattle.exb_net.specs.declared.net_player.NetPlayer.{NetPlayer}
use Rattle.exb_net.specs.WrittenOutputs.{AreAllFronts, AreNoted, AreManifestsApart, AreReady, IsWhole, OnlyAllListed, manifests_in}
use Rattle.exb_net.specs.Summaries.{net_summary}

-- a net, the files before it is played, and what each bridge writes
pub record NetRun : Type 0 where
  pub net : Net
  pub before : Files
  pub manifests : List Listed

-- ---- how much
-- a frame that can be written: it left an external port, below 2^32 seconds, and is short
pub record IsLow (n : Net) (b : ℕ) (x : Left) : Type 0 where
  pub port : is_external (tree_in n b) x.port ≡ true
  pub moment : x.moment < 2 ^ 32 * 1_000_000_000
  pub short : length x.bytes ≤ 9220

-- After so many records and commands a bridge has told and sent no more than that of each: each record comes to each
-- bridge at most once, and leaves each port at most once.
pub record IsFew (n : Net) (b : ℕ) (came orders : ℕ) (d : Stepped) : Type 0 where
  pub entered : (counted_in d.events).relayed + (counted_in d.events).ignored ≤ came
  pub decided : (counted_in d.events).commits + (counted_in d.events).refusals ≤ orders
  pub left : All (IsLow n b) d.left
  pub left_each : (q : ℕ) → length (left_at q d.left) ≤ came

-- so many commands are taken of each bridge
abbrev pub taken_in : List Due → (ℕ → ℕ) → ℕ → ℕ
taken_in [] taken = taken
taken_in (d ∷ ds) taken = taken_in ds (taken_after d taken)

-- ---- what is still to come
-- By the second of what came last: each world's clock has passed no more than lies between the start and it, and
-- nothing that is left comes before it. Before anything came none has passed.
abbrev pub IsSince : ℕ → Option ℕ → ℕ → Type 0
IsSince start None clock = clock ≡ 0
IsSince start (Some second) clock = clock + start ≤ second

-- the second of the last of some events
abbrev pub last_from : ℕ → List Due → ℕ
last_from second [] = second
last_from second (d ∷ ds) = last_from (due_second d) ds

abbrev pub last_of : List Due → Option ℕ
last_of [] = None
last_of (d ∷ ds) = Some (last_from (due_second d) ds)

abbrev pub IsLast : ℕ → Option ℕ → List Timeline → Type 0
IsLast start None ps = Unit {0}
IsLast start (Some second) ps = (second < start + 2 ^ 32) × AllByRecursion (IsFrom (second * 1_000_000_000)) ps

-- A bridge's programme goes on behind what the bridge did: its commands are those of the input and name external ports;
-- so do its captures, at ports that aren't wired; and the next record of each such port has the number that the world
-- waits for.
pub record GoesOnAt (n : Net) (b start : ℕ) (last : Option ℕ) (d : Stepped) (p : Timeline) : Type 0 where
  pub start_is : p.start ≡ start
  pub given : (n.input b).commands ≡ map given_by p.commands.now
  pub names : All (λ c. NamesExternal (tree_in n b) c.command) p.commands.now
  pub few_commands : length p.commands.now ≤ 65536
  pub within : p.taken ≤ length p.commands.now
  pub free : (q : ℕ) → HasPort q (standings p.captures) → (is_external (tree_in n b) q ≡ true)
      × (is_wired n.wires b q ≡ false)
  pub taken : d.world.control.given ≡ p.taken
  pub next : (q : ℕ) → is_wired n.wires b q ≡ false → d.world.next q ≡ number_of (standings p.captures) q
  pub since : IsSince start last d.world.table.clock

-- So do those of all bridges, behind these.
pub record GoesOn (n : Net) (ds : List Due) (came : ℕ) (dones : Dones) (last : Option ℕ) (ps : List Timeline) : Type 0
  where
    pub count : length ps ≡ n.count
    pub start : ℕ
    pub here : AreHere n ds
    pub last_due : last ≡ last_of ds
    pub order : AreInOrder (λ b. 0) ds
    pub each : (b : ℕ) (p : Timeline) → slice_get ps b ≡ Some p → GoesOnAt n b start last (dones b) p
    pub taken : (b : ℕ) (p : Timeline) → slice_get ps b ≡ Some p → taken_in ds (λ c. 0) b ≡ p.taken
    pub few : (b : ℕ) (p : Timeline) → slice_get ps b ≡ Some p → IsFew n b came p.taken (dones b)
    pub few_bytes : 16 * came + sum_by (λ (p : Timeline). left_in p.captures) ps ≤ 2 ^ 53
    pub last_is : IsLast start last ps

-- Before anything is taken: all of the commands are left, from one start, and each capture stands at its first record.
pub record BeginsAt (n : Net) (b start : ℕ) (p : Timeline) : Type 0 where
  pub start_is : p.start ≡ start
  pub given : (n.input b).commands ≡ map given_by p.commands.now
  pub names : All (λ c. NamesExternal (tree_in n b) c.command) p.commands.now
  pub few_commands : length p.commands.now ≤ 65536
  pub within : p.taken ≤ length p.commands.now
  pub free : (q : ℕ) → HasPort q (standings p.captures) → (is_external (tree_in n b) q ≡ true)
      × (is_wired n.wires b q ≡ false)
  pub taken : p.taken ≡ 0
  pub next : (q : ℕ) → number_of (standings p.captures) q ≡ 1

pub record Begins (n : Net) (ps : List Timeline) : Type 0 where
  pub count : length ps ≡ n.count
  pub start : ℕ
  pub each : (b : ℕ) (p : Timeline) → slice_get ps b ≡ Some p → BeginsAt n b start p
  pub few_bytes : sum_by (λ (p : Timeline). left_in p.captures) ps ≤ 2 ^ 53

-- Of the fate of each bridge so many verdicts are left, and with the letters of the commands that are left they are
-- few.
pub record IsWithin {V : Type 0} {X : V → Type 0} (nodes : List (Node V X)) (verdicts : Node V X
    → ℕ) (ps : List Timeline) : Type 0 where
  pub each : (b : ℕ) (x : Node V X) (p : Timeline) → slice_get nodes b ≡ Some x → slice_get ps b ≡ Some p
      → verdicts x + letters_in (drop p.taken p.commands.now) < 2 ^ 57

-- Where the files are told: those of the captures are those that were checked, and what came and what is still to come
-- of them is all that comes to the net.
pub record LeadsOn (n : Net) (ds : List Due) (file : Files) (ids : ℕ → Id) (ps : List Timeline) : Type 0 where
  pub streams : List (List Stream)
  pub replays : AreAllReplays file ids ps streams
  pub rest : dues n ≡ ds ++ dues_left (all_to_play streams ps)

-- no capture that is read has the name of a file that is written
pub record ReadsOthers (manifests : List Listed) (ids : ℕ → Id) (ps : List Timeline) : Type 0 where
  pub each : (b : ℕ) (p : Listed) → slice_get manifests b ≡ Some p → AreApart p ids (all_ids ps)

-- ---- between two events
-- The desks are those of the manifests, of which no two have a file of one name; each can be written; and no other file
-- has changed.
pub record AreDesks (tells : Type 0) (r : NetRun) (now : Files) (ids : ℕ → Id) (desks : List BridgeOutputs) : Type 0
  where
    pub ready : AreReady ids desks
    pub manifests : manifests_in desks ≡ r.manifests
    pub apart : AreManifestsApart r.manifests
    pub whole : length r.manifests ≡ r.net.count
    pub bridges : r.net.count ≤ 16
    pub each : (b : ℕ) (p : Listed) → slice_get r.manifests b ≡ Some p → (p.tree ≡ tree_in r.net b)
        × (p.options.trace ≡ false) × IsTree p.tree
    pub ports : sum_by (λ (p : Listed). length (external_ports p.tree)) r.manifests ≤ 4160
    pub files : tells → OnlyAllListed r.manifests r.before now

-- The bridges did what follows when these came, and all of that is noted at their desks.
pub record IsAt {V : Type 0} {X : V → Type 0} (tells : Type 0) (r : NetRun) (now : Files) (ids : ℕ
    → Id) (ds : List Due) (dones : Dones) (g : NetPlayer V X) : Type 0 where
  pub timely : AreTimely r.net
  pub start : Dones
  pub opened : AreOpened r.net start
  pub plays : Plays r.net ds start dones
  pub playing : IsPlaying r.net dones dones g.net
  pub desks : AreDesks tells r now ids g.desks.items
  pub noted : AreNoted tells now g.desks.items dones

-- And the programmes of all bridges go on.
pub record IsGoing {V : Type 0} {X : V → Type 0} (tells : Type 0) (r : NetRun) (now : Files) (ids : ℕ
    → Id) (last : Option ℕ) (g : NetPlayer V X) (ps : List Timeline) : Type 0 where
  pub ds : List Due
  pub dones : Dones
  pub is : IsAt tells r now ids ds dones g
  pub goes : GoesOn r.net ds g.net.came dones last ps
  pub apart : ReadsOthers r.manifests ids ps
  pub leads : tells → LeadsOn r.net ds now ids ps

-- The commands of each bridge lie where its programme has them.
pub record AreOfRests (rests : List BridgeInputs) (ps : List Timeline) : Type 0 where
  pub whole : length rests ≡ length ps
  pub each : (b : ℕ) (x : BridgeInputs) (p : Timeline) → slice_get rests b ≡ Some x → slice_get ps b ≡ Some p
      → p.commands.now ≡ x.commands

-- ---- before
-- The bridges aren't opened, and their files hold what they begin with; the programmes have all that comes.
pub record CanBegin {V : Type 0} {X : V → Type 0} (tells : Type 0) (r : NetRun) (now : Files) (ids : ℕ
    → Id) (g : NetPlayer V X) (ps : List Timeline) : Type 0 where
  pub timely : AreTimely r.net
  pub begun : IsBegun r.net g.net
  pub desks : AreDesks tells r now ids g.desks.items
  pub noted : AreNoted tells now g.desks.items (no_dones r.net)
  pub begins : Begins r.net ps
  pub apart : ReadsOthers r.manifests ids ps
  pub leads : tells → LeadsOn r.net [] now ids ps

-- ---- where it ended early
-- Each file of each bridge holds a front of what it begins with.
pub record IsUnopened (r : NetRun) (now : Files) : Type 0 where
  pub others : OnlyAllListed r.manifests r.before now
  pub fronts : AreAllFronts r.manifests now (no_dones r.net)

-- Each holds a front of the text of what its bridge did when some of what comes had come.
pub record IsCutAmid (r : NetRun) (now : Files) : Type 0 where
  pub ds : List Due
  pub rest : List Due
  pub dues_are : dues r.net ≡ ds ++ rest
  pub here : AreHere r.net ds
  pub order : AreInOrder (λ b. 0) ds
  pub start : Dones
  pub dones : Dones
  pub opened : AreOpened r.net start
  pub plays : Plays r.net ds start dones
  pub vids : HaveVids r.net
  pub others : OnlyAllListed r.manifests r.before now
  pub fronts : AreAllFronts r.manifests now dones

abbrev pub IsCutOff : NetRun → Files → Type 0
IsCutOff r now = IsUnopened r now ⊎ IsCutAmid r now

-- ---- the whole
-- The files of each bridge hold the texts of its history in the net's eager run, no other file has changed, and this
-- line sums it up.
pub record HasWritten (r : NetRun) (now : Files) (line : List ℕ) : Type 0 where
  pub histories : Histories
  pub eager : NetEager r.net histories
  pub whole : (b : ℕ) (p : Listed) → slice_get r.manifests b ≡ Some p
      → IsWhole p now (output_text (r.net.input b) (histories b) [])
  pub others : OnlyAllListed r.manifests r.before now
  pub says : line ≡ net_summary r.net histories

-- All came, and all is noted; and so few records came that all counts fit.
pub record IsAllTold {V : Type 0} {X : V → Type 0} (tells : Type 0) (r : NetRun) (now : Files) (ids : ℕ
    → Id) (g : NetPlayer V X) : Type 0 where
  pub dones : Dones
  pub is : IsAt tells r now ids (dues r.net) dones g
  pub here : AreHere r.net (dues r.net)
  pub order : AreInOrder (λ b. 0) (dues r.net)
  pub came : ℕ
  pub few_came : came ≤ 2 ^ 49
  pub few : (b : ℕ) → b < r.net.count → (orders : ℕ) × IsFew r.net b came orders (dones b) × (orders ≤ 65536)

-- ---- one event
-- the step that gives what comes, where these are the commands of its bridge
abbrev pub IsStepOf : List Timed → Next → Step → Type 0
IsStepOf cs (next.Command number moment) step = (1 ≤ number)
    × ((c : Timed) × (slice_get cs (number - 1) ≡ Some c) × (step ≡ Order c.command))
IsStepOf cs (next.Record c) step = step ≡ Arrive c

-- how many letters are planned for it
abbrev pub letters_of : Option Timed → ℕ
letters_of None = 0
letters_of (Some c) = length c.fate

abbrev pub letters_for : List Timed → Next → ℕ
letters_for cs (next.Command number moment) = letters_of (slice_get cs (number - 1))
letters_for cs (next.Record c) = 0

-- where a record comes, no wire brings frames
abbrev pub IsFree : Net → ℕ → Next → Type 0
IsFree n b (next.Command number moment) = Unit {0}
IsFree n b (next.Record c) = is_wired n.wires b c.port ≡ false

-- how many records came with it
abbrev pub came_by : Next → ℕ
came_by (next.Command number moment) = 0
came_by (next.Record c) = 1

-- What comes can be given to its bridge: there is its step, which may be made there.
pub record CanGive {V : Type 0} {X : V → Type 0} (n : Net) (s told : Dones) (rests : List BridgeInputs) (d : NetNext)
    (x : Bridges V X) : Type 0 where
  pub playing : IsPlaying n s told x
  pub rest : BridgeInputs
  pub node : Node V X
  pub rest_there : slice_get rests d.bridge ≡ Some rest
  pub node_there : slice_get x.nodes.items d.bridge ≡ Some node
  pub free : IsFree n d.bridge d.next
  pub step : Step
  pub is : IsStepOf rest.commands d.next step
  pub can : Can (tree_of node.world) (world_of node.world) step
  pub came : x.came < 2 ^ 62

-- the commands of a bridge
abbrev pub commands_in : Option BridgeInputs → List Timed
commands_in None = []
commands_in (Some x) = x.commands

-- how many letters are planned for it at each bridge
abbrev pub letters_at : List BridgeInputs → NetNext → ℕ → ℕ
letters_at rests d b = if b == d.bridge then letters_for (commands_in (slice_get rests b)) d.next else 0

-- the verdicts and letters that are left, where the programmes go on behind what comes
pub record IsPaid {V : Type 0} {X : V → Type 0} (nodes : List (Node V X)) (verdicts : Node V X
    → ℕ) (rests : List BridgeInputs) (d : NetNext) (ps : List Timeline) : Type 0 where
  pub each : (b : ℕ) (x : Node V X) (p : Timeline) → slice_get nodes b ≡ Some x → slice_get ps b ≡ Some p
      → verdicts x + letters_at rests d b + letters_in (drop p.taken p.commands.now) < 2 ^ 57

-- What comes next after some events, so many seconds after the last of them: the programmes go on behind it.
pub record IsDue {V : Type 0} {X : V → Type 0} (tells : Type 0) (r : NetRun) (now : Files) (ids : ℕ
    → Id) (seconds second : ℕ) (g : NetPlayer V X) (d : NetNext) (ps : List Timeline) : Type 0 where
  pub last : Option ℕ
  pub old : List Timeline
  pub given : ℕ → Id
  pub going : IsGoing tells r now given last g old
  pub comes : ComesTo old d ps
  pub apart : ReadsOthers r.manifests ids ps
  pub leads : tells → LeadsOn r.net (going.ds ++ due_of d ∷ []) now ids ps
  pub ready : AreReady ids g.desks.items
  pub second_is : second ≡ second_of (moment_of (what d.next))
  pub seconds_are : seconds ≡ seconds_after last second
