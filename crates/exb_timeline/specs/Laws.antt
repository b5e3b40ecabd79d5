-- What the laws say: of the commands and captures of an input, of those of all bridges of a net, and of an agenda while
-- others read and write.
use Rattle.std.specs.Prelude.{◌≡◌, ◌<◌, ◌≤◌, ◌==◌, ◌++◌, ◌∷◌, ℕ, Bool, true, false, List, [], map, filter, filter_map, flat_map}
use Rattle.std.specs.List.{AllByRecursion}
use Rattle.std.specs.Option.{option_map}
use Rattle.exb_model.specs.declared.setup.Timed.{Timed}
use Rattle.exb_model.specs.Ports.{all_ports}
use Rattle.exb_model.specs.Input.{Input, arrivals_at, arrival_in, given_by, least_or, merge, second_of}
use Rattle.exb_net_spec.specs.Nets.{Net}
use Rattle.exb_net_spec.specs.NetHistory.{dues, start_of_all}
use Rattle.exb_shelf.specs.Files.{Files, bytes_of}
use Rattle.exb_shelf.specs.Shelf.{Id}
use Rattle.exb_timeline.specs.declared.net_timeline.NetTimeline.{NetTimeline}
use Rattle.exb_timeline.specs.declared.bridge_timeline.Timeline.{Timeline}
use Rattle.exb_timeline.specs.MergeOrder.{begun, first_second, still_to_come}
use Rattle.exb_timeline.specs.NetMergeOrder.{AreAllReplays, AreBegunOf, AreOfNet, IsAgenda, all_ids, all_to_play, dues_left, first_seconds, programmes_in}
use Rattle.exb_timeline.specs.CaptureMerges.{AreReplays}
use Rattle.exb_timeline.specs.Streams.{Stream, arrivals_of, next_moment, stream_at, to_come}

-- the captures of the ports that pass a test give all that comes, where there is no command and no other port has a
-- record
abbrev pub MergeOfChosen : Type 0
MergeOfChosen =
    (i : Input) (chosen : ℕ → Bool) → i.commands ≡ []
    → ((q : ℕ) → chosen q ≡ false → i.records q ≡ [])
    → to_come (map (stream_at i) (filter chosen all_ports)) ≡ merge i

-- the commands of a topology, and those captures, give all that comes, where no other port has a record
abbrev pub MergeOfAll : Type 0
MergeOfAll =
    (i : Input) (chosen : ℕ → Bool) (commands : List Timed) → i.commands ≡ map given_by commands
    → ((q : ℕ) → chosen q ≡ false → i.records q ≡ [])
    → still_to_come (begun (to_come (map (stream_at i) (filter chosen all_ports))) commands) ≡ merge i

-- what comes first of some captures comes in the least second of their first records; 0 where there is none
abbrev pub StartIsLeast : Type 0
StartIsLeast =
    (streams : List Stream) → first_second (to_come streams)
    ≡ least_or 0 (filter_map (λ s. option_map second_of (next_moment (arrivals_of s))) streams)

-- the records of a port come in the order of its capture, and none comes of what is no port
pub record MergeKeepsOrder : Type 0 where
  pub ports : (i : Input) (p : ℕ) → p < 4160 → filter (λ a. a.port == p) (filter_map arrival_in (merge i))
      ≡ arrivals_at i p
  pub others : (i : Input) (p : ℕ) → 4160 ≤ p → filter (λ a. a.port == p) (filter_map arrival_in (merge i)) ≡ []

-- what is still to come of all bridges of a net, before anything is taken, is all that comes to it, in its order
abbrev pub DuesOfAll : Type 0
DuesOfAll =
    (n : Net) (streams : List (List Stream)) (programmes : List Timeline) → AreOfNet n streams → AreBegunOf n programmes
    → dues_left (all_to_play streams programmes) ≡ dues n

-- the start of a net is the least second of any first record of any bridge, or 0
abbrev pub NetStartIsLeast : Type 0
NetStartIsLeast = (n : Net) (streams : List (List Stream)) → AreOfNet n streams
    → start_of_all n ≡ least_or 0 (flat_map first_seconds streams)

-- an agenda stays as it is while its ids stand for what they stood for, and so does what is still to come of it
pub record AgendasStay : Type 0 where
  pub reads : (ids : ℕ → Id) (a : NetTimeline) → IsAgenda ids a
      → AllByRecursion (λ k. ((ids k).given ≡ true) × ((ids k).reads ≡ true)) (all_ids (programmes_in a))
  pub stays : (given ids : ℕ → Id) (a : NetTimeline) → AllByRecursion (λ k. ids k ≡ given k) (all_ids (programmes_in a))
      → IsAgenda given a → IsAgenda ids a
  pub told : (file files : Files) (given ids : ℕ → Id) (programmes : List Timeline) (streams : List (List Stream))
      → AllByRecursion (λ k. (ids k ≡ given k) × (bytes_of (files (given k).name) ≡ bytes_of (file (given k).name)))
      (all_ids programmes)
      → AreAllReplays file given programmes streams → AreAllReplays files ids programmes streams
  pub more : (files : Files) (ids : ℕ → Id) (programmes : List Timeline) (streams : List (List Stream)) (p : Timeline)
      (xs : List Stream)
      → AreAllReplays files ids programmes streams → AreReplays files ids p.captures.sources.items xs
      → AreAllReplays files ids (programmes ++ p ∷ []) (streams ++ xs ∷ [])
