-- A run under way: what was told and has left so far, what is written and counted of it, and what is still to come.
use Rattle.std.specs.Prelude.{[], None, ◌≡◌, ◌≤◌, ◌<◌, ◌+◌, ◌*◌, ◌^◌, ℕ, Bool, List, ◌++◌, length, sum_by, All, AllPairs}
use Rattle.std.specs.List.{AllByRecursion}
use Rattle.exb_model.specs.declared.event.Event.{Event}
use Rattle.exb_model.specs.declared.setup.Timed.{Timed}
use Rattle.exb_model.specs.declared.setup.Verdict.{Verdict}
use Rattle.exb_model.specs.Input.{Input, Segment, Mode, Eager, Seeded, tree_of, segments}
use Rattle.exb_model.specs.Setup.{NamesExternal}
use Rattle.exb_model.specs.Traces.{TraceLine}
use Rattle.exb_model.specs.Tree.{Shape}
use Rattle.exb_world_spec.specs.Worlds.{Left, left_at}
use Rattle.exb_outbox.specs.declared.log.Log.{Log}
use Rattle.exb_bridge.specs.BridgeWorlds.{all_left}
use Rattle.exb_world.specs.WorldContracts.{Network, IsQuiet}
use Rattle.exb_world_laws.specs.Runs.SegmentRuns.{arrivals_in}
use Rattle.exb_schedule.specs.SegmentRuns.{HasPlayed as IsPlayedBy}
use Rattle.exb_shelf.specs.Files.{Files}
use Rattle.exb_trace_spec.specs.WritableLines.{HasBytes}
use Rattle.exb_trace_spec.specs.RoundTrips.{IsOfNumbers}
use Rattle.exb_outputs.specs.declared.run_counts.RunCounts.{RunCounts}
use Rattle.exb_outputs.specs.declared.outputs.Outputs.{Outputs}
use Rattle.exb_play.specs.Disks.{Disk}
use Rattle.exb_play.specs.declared.script.Schedule.{Schedule}
use Rattle.exb_play.specs.declared.script.Schedule.TheVariants as schedule
use Rattle.exb_outputs.specs.Manifests.{Listed}
use Rattle.exb_outputs.specs.CaptureSizes.{HasSent, capture_size}
use Rattle.exb_outputs.specs.WrittenTexts.{AreCut, HasTexts, pieces_of}
use Rattle.exb_outputs.specs.KindTexts.{text_so_far}
use Rattle.exb_outputs.specs.Counts.{IsCounted}

-- ---- what is asked for
abbrev pub mode_of : Schedule → Mode
mode_of schedule.Eager = Eager
mode_of (schedule.Seeded seed) = Seeded

-- Commands that name external ports of a tree, in the order of their seconds; with a fate for the opening all fates are
-- short enough.
pub record IsScript (t : Shape) (given : List Timed) (fate : List Verdict) : Type 0 where
  pub commands : All (λ c. NamesExternal t c.command) given
  pub few_commands : length given ≤ 65536
  pub rising : AllPairs (λ a b. a.at ≤ b.at) given
  pub few_letters : length fate + sum_by (λ c. length c.fate) given ≤ 60000

-- an input, and the files before its run
pub record Run : Type 0 where
  pub input : Input
  pub before : Files

abbrev pub no_run : Run
no_run = record {
  input = record {
    setup = record {
      ports = 0;
      extenders = [];
      channels = 0;
      groups = 0;
      ageing = 0;
      start = [];
    };
    commands = [];
    records = λ q. [];
  };
  before = λ name. None;
}

-- What a world told, as one value: its events, whether each relayed frame passed, what has left, and the lines of its
-- trace.
pub record Told : Type 0 where
  pub events : List Event
  pub passed : List Bool
  pub left : List Left
  pub lines : List TraceLine

abbrev pub untold : Told
untold = record { events = []; passed = []; left = []; lines = [] }

-- and what stands in a log behind it
infixl 20 ◌with◌
abbrev pub ◌with◌ : Told → Log → Told
t with log = record {
  events = t.events ++ log.events;
  passed = t.passed ++ log.passed;
  left = t.left ++ all_left log.left;
  lines = t.lines ++ log.lines;
}

-- the network has played these segments, by which it told this
abbrev pub HasTold : Mode → Input → List Segment → Network → Told → Type 0
HasTold m i so_far n t = IsPlayedBy m i so_far n t.events t.passed t.left t.lines

-- A player: what is played and how, the world, what is counted and written of it, and the disk.
pub record Player : Type 0 where
  pub mode : Mode
  pub manifest : Listed
  pub world : Network
  pub counted : RunCounts
  pub outputs : Outputs
  pub disk : Disk

abbrev pub player : Schedule → Listed → Network → RunCounts → Outputs → Disk → Player
player schedule manifest n c o d = record {
  mode = mode_of schedule;
  manifest = manifest;
  world = n;
  counted = c;
  outputs = o;
  disk = d;
}

-- Its network has played these segments of the input, what is written and counted are those of what it told, whose
-- numbers have 64 bits and whose frames are bytes, and nothing is still to be written.
pub record IsTold (tells : Type 0) (r : Run) (p : Player) (so_far : List Segment) : Type 0 where
  pub tree : p.manifest.tree ≡ tree_of r.input
  pub told : Told
  pub played : HasTold p.mode r.input so_far p.world told
  pub tracing : p.world.log.tracing ≡ p.manifest.options.trace
  pub numbers : All IsOfNumbers told.events
  pub bytes : All HasBytes told.lines
  pub counted : IsCounted p.manifest p.counted told.events told.passed told.left
  pub texts : tells → HasTexts p.manifest (pieces_of p.outputs) r.before p.disk.files
      (text_so_far told.events told.left told.lines [])
  pub sent : HasSent p.manifest p.outputs (λ q. left_at q told.left)
  pub quiet : IsQuiet p.world

-- All segments were played, and the bytes of each capture are few enough that all are counted.
pub record IsAllTold (tells : Type 0) (r : Run) (p : Player) : Type 0 where
  pub is : IsTold tells r p (segments p.mode r.input)
  pub room : (q : ℕ) → capture_size (left_at q is.told.left) < 2 ^ 64

-- The run ended early, after some of its segments: each output is as it was, or holds a front of its text over what
-- these told.
pub record IsCutOff (m : Mode) (r : Run) (manifest : Listed) (now : Files) : Type 0 where
  pub tree : manifest.tree ≡ tree_of r.input
  pub so_far : List Segment
  pub rest : List Segment
  pub segments_are : segments m r.input ≡ so_far ++ rest
  pub network : Network
  pub told : Told
  pub counts : List ℕ
  pub played : HasTold m r.input so_far network told
  pub tracing : network.log.tracing ≡ manifest.options.trace
  pub cut : AreCut manifest r.before now (text_so_far told.events told.left told.lines counts)

-- ---- what comes
-- the arrivals of some segments can be written in a capture
abbrev pub CanBeKept : List Segment → Type 0
CanBeKept so_far = AllByRecursion (λ a. a.moment < 2 ^ 32 * 1_000_000_000) (arrivals_in so_far)
