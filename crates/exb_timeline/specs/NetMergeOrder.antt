-- What is still to be played of a net: the commands and captures of several bridges, in the order in which the net is
-- given them.
use Rattle.std.specs.Prelude.{⊤, ◌≡◌, ◌≢◌, ◌<◌, ◌≤◌, ℕ, suc, Bool, false, List, [], ◌∷◌, ◌++◌, length, map, filter, filter_map, flat_map, sum_by, Option, Some, None, IfSome, slice_get}
use Rattle.std.specs.List.{AllByRecursion}
use Rattle.std.specs.Option.{option_map}
use Rattle.exb_model.specs.Input.{Input, given_by, moment_of, second_of}
use Rattle.exb_model.specs.Ports.{all_ports}
use Rattle.exb_net_spec.specs.Nets.{Net}
use Rattle.exb_net_spec.specs.NetHistory.{Due, due_at, dues_by_moment, start_of_all}
use Rattle.exb_shelf.specs.Files.{Files}
use Rattle.exb_shelf.specs.Shelf.{Id}
use Rattle.exb_timeline.specs.declared.net_timeline.NetTimeline.{NetTimeline}
use Rattle.exb_timeline.specs.declared.net_timeline.NetNext.{NetNext}
use Rattle.exb_timeline.specs.declared.net_timeline.TimelineEntry.{TimelineEntry}
use Rattle.exb_timeline.specs.declared.bridge_timeline.Timeline.{Timeline}
use Rattle.exb_timeline.specs.MergeOrder.{ToPlay, commands_left, first_moment, turn_by}
use Rattle.exb_timeline.specs.Timelines.{IsComing, IsFrom, IsProgramme, left_of, played_with, what}
use Rattle.exb_timeline.specs.CaptureMerges.{AreReplays, IsEarliest, ids_in}
use Rattle.exb_timeline.specs.Streams.{Stream, arrivals_of, next_moment, stream_at}
use Rattle.exb_timeline.specs.Tournaments.{AreTurns}

-- ---- what is left of several bridges
-- the commands of bridges that are numbered from b on, and their records
abbrev pub orders_from : ℕ → List ToPlay → List Due
orders_from b [] = []
orders_from b (t ∷ ts) = due_at b (commands_left t) ++ orders_from (suc b) ts

abbrev pub records_from : ℕ → List ToPlay → List Due
records_from b [] = []
records_from b (t ∷ ts) = due_at b t.records ++ records_from (suc b) ts

-- What is still to come, in the order in which a net is given it: by moment, and at the same moment the commands of all
-- bridges first.
unfoldable pub dues_left : List ToPlay → List Due
dues_left ts = dues_by_moment (orders_from 0 ts ++ records_from 0 ts)

-- programmes of which this is still to come of the captures, bridge by bridge
abbrev pub all_to_play : List (List Stream) → List Timeline → List ToPlay
all_to_play [] ps = []
all_to_play (xs ∷ xss) [] = []
all_to_play (xs ∷ xss) (p ∷ ps) = played_with xs p ∷ all_to_play xss ps

-- ---- before anything is taken
-- the captures of some ports of an input, in port order, where no other port has a record
pub record AreAllOf (i : Input) (streams : List Stream) : Type 0 where
  pub chosen : ℕ → Bool
  pub none : (q : ℕ) → chosen q ≡ false → i.records q ≡ []
  pub are : streams ≡ map (stream_at i) (filter chosen all_ports)

-- so of each bridge of a net
pub record AreOfNet (n : Net) (streams : List (List Stream)) : Type 0 where
  pub count : length streams ≡ n.count
  pub each : (b : ℕ) (xs : List Stream) → slice_get streams b ≡ Some xs → AreAllOf (n.input b) xs

-- the seconds of the first records of captures
abbrev pub first_seconds : List Stream → List ℕ
first_seconds = filter_map (λ s. option_map second_of (next_moment (arrivals_of s)))

-- a programme that has all commands of bridge b, from the start of the net
pub record IsBegunOf (n : Net) (b : ℕ) (p : Timeline) : Type 0 where
  pub start : p.start ≡ start_of_all n
  pub commands : (n.input b).commands ≡ map given_by p.commands.now
  pub taken : p.taken ≡ 0

pub record AreBegunOf (n : Net) (ps : List Timeline) : Type 0 where
  pub count : length ps ≡ n.count
  pub each : (b : ℕ) (p : Timeline) → slice_get ps b ≡ Some p → IsBegunOf n b p

-- ---- the programmes of an agenda
abbrev pub programmes_in : NetTimeline → List Timeline
programmes_in a = map (λ (s : TimelineEntry). s.programme) a.seats.items

-- the ids through which they read
abbrev pub all_ids : List Timeline → List ℕ
all_ids ps = flat_map (λ (p : Timeline). ids_in p.captures) ps

-- none of these ids is one of mine
abbrev pub AreOthers : List ℕ → List ℕ → Type 0
AreOthers mine ids = AllByRecursion (λ j. AllByRecursion (λ k. j ≢ k) mine) ids

-- no two programmes read through one id
abbrev pub ReadApart : List Timeline → Type 0
ReadApart [] = ⊤
ReadApart (p ∷ ps) = AreOthers (ids_in p.captures) (all_ids ps) × ReadApart ps

-- how much is left: a bound on how often more can come
abbrev pub left_of_all : List Timeline → ℕ
left_of_all ps = sum_by left_of ps

-- ---- whose turn it is
-- when a programme has its turn, if it has one, whatever the files hold
abbrev pub IsTurn : Option ℕ → Timeline → Type 0
IsTurn turn p = (captured : Option ℕ) × IsEarliest captured p.captures
    × (turn ≡ turn_by (first_moment (commands_left (played_with [] p))) captured)

abbrev pub turn_in : TimelineEntry → Option ℕ
turn_in s = s.turn

pub record IsSeated (ids : ℕ → Id) (s : TimelineEntry) : Type 0 where
  pub programme : IsProgramme ids s.programme
  pub turn : IsTurn s.turn s.programme
  pub small : IfSome s.turn (λ t. t < 18446744073709551615)

-- Each bridge has a programme, which reads through ids of its own, and each of which something is left has its turn.
pub record IsAgenda (ids : ℕ → Id) (a : NetTimeline) : Type 0 where
  pub each : AllByRecursion (IsSeated ids) a.seats.items
  pub apart : ReadApart (programmes_in a)
  pub turns : AreTurns (map turn_in a.seats.items) a.turns
  pub few : length a.seats.items ≤ 256

-- ---- what comes
-- Whatever the files hold: this came of one bridge, nothing that is left of any comes before it, and the other bridges
-- have what they had.
pub record ComesTo (old : List Timeline) (d : NetNext) (new : List Timeline) : Type 0 where
  pub was : Timeline
  pub is : Timeline
  pub was_there : slice_get old d.bridge ≡ Some was
  pub is_there : slice_get new d.bridge ≡ Some is
  pub others : (b : ℕ) → b ≢ d.bridge → slice_get new b ≡ slice_get old b
  pub count : length new ≡ length old
  pub coming : IsComing was d.next is
  pub fell : (moment : ℕ) → AllByRecursion (IsFrom moment) old → moment ≤ moment_of (what d.next)
  pub rises : AllByRecursion (IsFrom (moment_of (what d.next))) new
  pub ids : all_ids new ≡ all_ids old
  pub left : left_of_all new < left_of_all old

-- what comes, without where it lies in memory
abbrev pub due_of : NetNext → Due
due_of d = record { bridge = d.bridge; coming = what d.next }

-- ---- where the files are told
-- the files of all captures are those that were checked, and this is still to come of them, bridge by bridge
abbrev pub AreAllReplays : Files → (ℕ → Id) → List Timeline → List (List Stream) → Type 0
AreAllReplays files ids [] [] = ⊤
AreAllReplays files ids [] (xs ∷ xss) = ⊥
AreAllReplays files ids (p ∷ ps) [] = ⊥
AreAllReplays files ids (p ∷ ps) (xs ∷ xss) = AreReplays files ids p.captures.sources.items xs
    × AreAllReplays files ids ps xss

-- What came is the first of what was still to come of these streams, and what is left of them is what is left; or
-- nothing was.
abbrev pub IsFirstOf : List Timeline → List (List Stream) → Option NetNext → List Timeline
    → (List (List Stream) → Type 0) → Type 0
IsFirstOf old streams None new Rest = dues_left (all_to_play streams old) ≡ []
IsFirstOf old streams (Some d) new Rest =
    (rest : List (List Stream)) × (dues_left (all_to_play streams old) ≡ due_of d ∷ dues_left (all_to_play rest new))
    × Rest rest

-- a programme of bridge b, of which this holds
abbrev pub IsOfBridge : List Timeline → ℕ → (Timeline → Type 0) → Type 0
IsOfBridge ps b P = (p : Timeline) × (slice_get ps b ≡ Some p) × P p
