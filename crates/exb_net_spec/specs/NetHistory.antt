-- The histories of a net: each event in its turn, at its bridge, and then what leaves wired ports, until nothing is
-- left.
use Rattle.std.specs.Prelude.{◌≡◌, ℕ, zero, suc, ◌-◌, ◌==◌, nat_lt, if◌then◌else◌, List, [], ◌∷◌, ◌++◌, Option, Some, None, map, flat_map}
use Rattle.exb_model.specs.declared.event.Event.{Event}
use Rattle.exb_model.specs.declared.event.Event.TheVariants as event
use Rattle.exb_model.specs.EagerHistory.{arrival_event, command_event, opening, with_tick}
use Rattle.exb_model.specs.FlatBridge.{Sent, sent_by}
use Rattle.exb_model.specs.History.{Basis, History, bridge_after}
use Rattle.exb_model.specs.declared.arrival.Arrival.{Arrival}
use Rattle.exb_model.specs.Input.{Coming, Ordered, Captured, all_arrivals, basis_of, bounds_of, commands_from, least_or, moment_of, second_of, tree_of}
use Rattle.exb_model.specs.Learning.{learned}
use Rattle.exb_model.specs.Ports.{below}
use Rattle.exb_model.specs.Tree.{external_ports}
use Rattle.exb_net_spec.specs.declared.wires.End.{End}
use Rattle.exb_net_spec.specs.Nets.{Net, far_end}

-- a history of each bridge
abbrev pub Histories : Type 0
Histories = ℕ → History

-- with another one at bridge b
abbrev pub with_history : ℕ → History → Histories → Histories
with_history b h hs c = if c == b then h else hs c

abbrev pub basis_in : Net → ℕ → Basis
basis_in n b = basis_of (n.input b)

-- ---- what comes, in order
-- what comes, and the bridge to which it comes
pub record Due : Type 0 where
  pub bridge : ℕ
  pub coming : Coming

abbrev pub due_at : ℕ → List Coming → List Due
due_at b xs = map (λ (x : Coming). record { bridge = b; coming = x }) xs

-- the least whole second of any record of any bridge, or 0
unfoldable pub start_of_all : Net → ℕ
start_of_all n = least_or 0 (map (λ (a : Arrival). second_of a.moment)
    (flat_map (λ b. all_arrivals (n.input b)) (below n.count)))

-- the commands of all bridges, each in file order, and then the records, each by port order and index
abbrev pub all_due : Net → List Due
all_due n =
    flat_map (λ b. due_at b (commands_from (start_of_all n) 1 (n.input b).commands)) (below n.count)
    ++ flat_map (λ b. due_at b (map Captured (all_arrivals (n.input b)))) (below n.count)

abbrev pub due_moment : Due → ℕ
due_moment d = moment_of d.coming

-- before the first that doesn't come before it
abbrev pub put_due : Due → List Due → List Due
put_due x [] = x ∷ []
put_due x (y ∷ ys) = if nat_lt (due_moment y) (due_moment x) then y ∷ put_due x ys else x ∷ y ∷ ys

-- sorted by moment, and as they stood where moments are equal
abbrev pub dues_by_moment : List Due → List Due
dues_by_moment [] = []
dues_by_moment (x ∷ xs) = put_due x (dues_by_moment xs)

unfoldable pub dues : Net → List Due
dues n = dues_by_moment (all_due n)

-- ---- frames between bridges
-- a frame that left a wired port: the port at the far end of its wire, and its moment and bytes
pub record Crossing : Type 0 where
  pub bridge : ℕ
  pub port : ℕ
  pub moment : ℕ
  pub bytes : List ℕ

abbrev pub crosses : Option End → List Sent → List Crossing
crosses None xs = []
crosses (Some e) xs = map (λ (x : Sent). record { bridge = e.bridge; port = e.port; moment = x.0; bytes = x.1 }) xs

-- the frames by which `flat` of bridge b's history grows at its wired ports by an event, in port order
unfoldable pub grown_by : Net → ℕ → History → Event → List Crossing
grown_by n b h e =
    flat_map (λ q. crosses (far_end n.wires b q) (sent_by (bridge_after (basis_in n b) h) (learned (basis_in n b) h) e
    q)) (external_ports (tree_of (n.input b)))

-- The histories so far, and the queue of the frames that are between bridges.
pub record State : Type 0 where
  pub histories : Histories
  pub queue : List Crossing

-- An event of bridge b, and Settled. What grows is put at the end of the queue.
abbrev pub happens : Net → ℕ → Event → State → State
happens n b e s =
    record {
      histories = with_history b (event.Settled ∷ e ∷ s.histories b) s.histories;
      queue = s.queue ++ grown_by n b (s.histories b) e;
    }

-- ---- the queue
-- how many arrivals of port p a history names
unfoldable pub named_at : History → ℕ → ℕ
named_at [] p = 0
named_at (event.Relay q n t f ∷ h) p = if q == p then suc (named_at h p) else named_at h p
named_at (event.Ignored q n ∷ h) p = if q == p then suc (named_at h p) else named_at h p
named_at (e ∷ h) p = named_at h p

-- the arrival of a crossing frame, with the next index of its port
abbrev pub arrival_of : Crossing → History → Arrival
arrival_of x h = record { port = x.port; index = suc (named_at h x.port); moment = x.moment; bytes = x.bytes }

abbrev pub arrives : Net → Crossing → State → State
arrives n x s = happens n x.bridge (arrival_event (bridge_after (basis_in n x.bridge) (s.histories x.bridge))
    (arrival_of x (s.histories x.bridge))) s

-- the first of a queue arrives; of an empty one nothing
abbrev pub delivered : Net → Histories → List Crossing → State
delivered n hs [] = record { histories = hs; queue = [] }
delivered n hs (x ∷ xs) = arrives n x (record { histories = hs; queue = xs })

-- so many times
unfoldable pub delivered_times : Net → ℕ → State → State
delivered_times n zero s = s
delivered_times n (suc k) s = delivered_times n k (delivered n s.histories s.queue)

-- While the queue isn't empty its first frame arrives, and so on: these are the histories when none is left.
pub record IsDrained (n : Net) (s : State) (hs : Histories) : Type 0 where
  pub times : ℕ
  pub is : delivered_times n times s ≡ record { histories = hs; queue = [] }

-- ---- events
-- every bridge of the net gets a tick of the seconds, where they aren't 0
abbrev pub ticked : ℕ → Histories → Histories
ticked seconds hs b = with_tick seconds (hs b)

-- what becomes of a command or a captured record at bridge b after its history
abbrev pub event_of : Net → ℕ → History → Coming → Event
event_of n b h (Ordered moment k) = command_event (tree_of (n.input b)) (bounds_of (n.input b)) (basis_in n b)
    (bridge_after (basis_in n b) h) k
event_of n b h (Captured a) = arrival_event (bridge_after (basis_in n b) h) a

-- after the seconds, with nothing between bridges
abbrev pub comes : Net → Due → Histories → State
comes n d hs = happens n d.bridge (event_of n d.bridge (hs d.bridge) d.coming) (record { histories = hs; queue = [] })

abbrev pub due_second : Due → ℕ
due_second d = second_of (due_moment d)

-- from the second of the event before: each event in its turn, and all frames after it
abbrev pub GoesSince : Net → ℕ → List Due → Histories → Histories → Type 0
GoesSince n second [] hs end = hs ≡ end
GoesSince n second (d ∷ ds) hs end =
    (next : Histories) × IsDrained n (comes n d (ticked (due_second d - second) hs)) next
    × GoesSince n (due_second d) ds next end

-- the first has no seconds before it
abbrev pub Goes : Net → List Due → Histories → Histories → Type 0
Goes n [] hs end = hs ≡ end
Goes n (d ∷ ds) hs end = GoesSince n (due_second d) (d ∷ ds) hs end

abbrev pub openings : Net → Histories
openings n b = opening (tree_of (n.input b)) (bounds_of (n.input b)) (basis_in n b)

-- NetEager(I): these are the histories, each of which begins with its opening.
pub record NetEager (n : Net) (hs : Histories) : Type 0 where
  pub goes : Goes n (dues n) (openings n) hs
