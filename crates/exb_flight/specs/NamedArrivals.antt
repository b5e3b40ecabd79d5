-- Which arrivals the events and the upward words name: each exactly once, in order. Frames come at ports, and the
-- bridge deals with each word that comes to it.
use Rattle.std.specs.Prelude.{◌≡◌, ℕ, ◌+◌, ◌<◌, ◌==◌, ◌&&◌, ◌++◌, Bool, true, false, if◌then◌else◌, List, [], ◌∷◌, Some, map, length, nat_lt, nat_le, ⊤, reverse}
use Rattle.exb_model.specs.declared.event.Event.{Event}
use Rattle.exb_model.specs.declared.event.Event.TheVariants as event
use Rattle.exb_model.specs.ETags.{stripped}
use Rattle.exb_model.specs.EagerHistory.{is_relayed, is_relayed_kind}
use Rattle.exb_model.specs.Frames.{kind_of}
use Rattle.exb_model.specs.LegalHistory.{Rise, relays_and_late}
use Rattle.exb_model.specs.LegalHistory.{of_port as events_of}
use Rattle.exb_model.specs.Lists.{numbered}
use Rattle.exb_model.specs.Tree.{Shape, is_extended}
use Rattle.exb_model.specs.Setup.{Limits}
use Rattle.exb_model.specs.History.{Basis, History, bridge_after}
use Rattle.exb_control_spec.specs.Runs.InitialMachine.{MayBegin}
use Rattle.exb_control_spec.specs.Runs.PlannedChanges.{IsSetting}
use Rattle.exb_flight.specs.Items.{Word, Each, words_of}
use Rattle.exb_flight.specs.Tree.{IsLink}
use Rattle.exb_flight.specs.Flight.{Flight, Stamp, Step, Arrive, CarryUp, CarryIn, Relay, CarryDown, SendDown, SendUp, LoseDown, LoseUp, Move, Note, tables_of, bridge_of}
use Rattle.exb_flight.specs.AllowedSteps.{run, Runs}
use Rattle.exb_flight.specs.FlightFacts.{beginning}
use Rattle.exb_flight.specs.UpwardOrder.{waiting}

-- ---- events of a port
-- the index of an arrival's event at port r, and whether it is a Relay
abbrev pub told_by : ℕ → Event → List (ℕ × Bool)
told_by r (event.Relay q n t f) = if q == r then (n, true) ∷ [] else []
told_by r (event.Ignored q n) = if q == r then (n, false) ∷ [] else []
told_by r (event.Tick seconds) = []
told_by r (event.Commit n) = []
told_by r (event.Refuse n cause) = []
told_by r (event.Up p) = []
told_by r (event.NoUp p cause) = []
told_by r event.Settled = []

-- of a history, the oldest first
unfoldable pub told_at : ℕ → History → List (ℕ × Bool)
told_at r [] = []
told_at r (e ∷ h) = told_at r h ++ told_by r e

-- ---- what was given
-- the frames that came at each port, in order, with their moments
abbrev pub Given : Type 0
Given = ℕ → List (ℕ × List ℕ)

abbrev pub with_given : Given → ℕ → ℕ × List ℕ → ℕ → List (ℕ × List ℕ)
with_given g p a r = if r == p then g r ++ a ∷ [] else g r

-- A frame comes at a port of an extender, which puts an E-TAG in if the port has a channel; or it comes there and is
-- ignored, whatever the port has, since it is short, long or reserved; the first word of a link comes to the bridge,
-- which relays or ignores its frame; or any other step.
pub data Deed : Type 0 where
  Comes : (port : ℕ) (moment : ℕ) (frame bytes : List ℕ) → Deed
  Ignores : (port : ℕ) (moment : ℕ) (frame : List ℕ) → Deed
  Taken : (extender : ℕ) (word : Word) → Deed
  Other : (step : Step) → Deed

abbrev pub next_index : Given → ℕ → ℕ
next_index g p = length (g p) + 1

abbrev pub stamp_of : Word → Stamp
stamp_of f = record { port = f.port; index = f.index; moment = f.moment }

abbrev pub dealt_with : Flight → Word → Step
dealt_with w f =
    if is_relayed (bridge_of w) f.port (stripped f.bytes) then Relay (stamp_of f) (stripped f.bytes) else Note
    (event.Ignored f.port f.index)

-- a deed is one step, or two
abbrev pub steps_of : Flight → Given → Deed → List Step
steps_of w g (Comes p t f bytes) =
    (if nat_lt 0 ((tables_of w).own p) then Arrive (record { port = p; index = next_index g p; moment = t }) bytes
    else Note (event.Ignored p (next_index g p))) ∷ []
steps_of w g (Ignores p t f) = Note (event.Ignored p (next_index g p)) ∷ []
steps_of w g (Taken n f) = CarryIn n f ∷ dealt_with w f ∷ []
steps_of w g (Other x) = x ∷ []

abbrev pub given_after : Given → Deed → Given
given_after g (Comes p t f bytes) = with_given g p (t, f)
given_after g (Ignores p t f) = with_given g p (t, f)
given_after g (Taken n f) = g
given_after g (Other x) = g

-- another step: no frame comes at a port of an extender, no word comes to the bridge, and nothing happens to an arrival
-- there
abbrev pub IsOther : Shape → Step → Type 0
IsOther s (Arrive p g) = ⊥
IsOther s (CarryUp n f) = ⊤
IsOther s (CarryIn n f) = ⊥
IsOther s (Relay p f) = p.port < 64
IsOther s (CarryDown n f) = ⊤
IsOther s (SendDown n k) = ⊤
IsOther s (SendUp n k) = ⊤
IsOther s (LoseDown n at) = ⊤
IsOther s (LoseUp n at) = ⊤
IsOther s (Move step) = ⊤
IsOther s (Note e) = (r : ℕ) → is_extended s r ≡ true → told_by r e ≡ []

-- what the extender puts in is taken out again
abbrev pub IsDeed : Shape → Deed → Type 0
IsDeed s (Comes p t f bytes) = (is_extended s p ≡ true) × (stripped bytes ≡ f)
IsDeed s (Ignores p t f) = (is_extended s p ≡ true) × (is_relayed_kind (kind_of f) ≡ false)
IsDeed s (Taken n f) = ⊤
IsDeed s (Other x) = IsOther s x

-- ---- runs of deeds
abbrev pub done_by : Shape → Limits → Basis → Flight → Given → List Deed → Flight
done_by s l i w g [] = w
done_by s l i w g (d ∷ ds) = done_by s l i (run s l i w (steps_of w g d)) (given_after g d) ds

abbrev pub given_by : Given → List Deed → Given
given_by g [] = g
given_by g (d ∷ ds) = given_by (given_after g d) ds

abbrev pub Does : Shape → Limits → Basis → Flight → Given → List Deed → Type 0
Does s l i w g [] = ⊤
Does s l i w g (d ∷ ds) = IsDeed s d × Runs s l i w (steps_of w g d)
    × Does s l i (run s l i w (steps_of w g d)) (given_after g d) ds

-- ---- what is named
-- how often a number stands in a list
abbrev pub times : ℕ → List ℕ → ℕ
times n [] = 0
times n (x ∷ xs) = (if x == n then 1 else 0) + times n xs

abbrev pub once_to : ℕ → ℕ → ℕ
once_to most n = if nat_lt 0 n && nat_le n most then 1 else 0

abbrev pub indices : List Word → List ℕ
indices fs = map (λ (f : Word). f.index) fs

abbrev pub firsts : List (ℕ × Bool) → List ℕ
firsts xs = map (λ (x : ℕ × Bool). x.0) xs

-- a Relay of a port of an extender has the moment and the bytes of its arrival
abbrev pub IsRelayOf : Shape → Given → Event → Type 0
IsRelayOf s g (event.Relay p n t f) = is_extended s p ≡ true → numbered (g p) n ≡ Some (t, f)
IsRelayOf s g (event.Ignored q n) = ⊤
IsRelayOf s g (event.Tick seconds) = ⊤
IsRelayOf s g (event.Commit n) = ⊤
IsRelayOf s g (event.Refuse n cause) = ⊤
IsRelayOf s g (event.Up p) = ⊤
IsRelayOf s g (event.NoUp p cause) = ⊤
IsRelayOf s g event.Settled = ⊤

-- and so has an upward word, once its E-TAG is taken out
abbrev pub IsWordOf : Given → Word → Type 0
IsWordOf g f = numbered (g f.port) f.index ≡ Some (f.moment, stripped f.bytes)

-- Of port r: the events and the waiting words name each arrival exactly once and nothing else; the Relays and the late
-- ones among the Ignored, followed by the words that wait, from the bridge down, rise.
pub record IsNamed (s : Shape) (w : Flight) (g : Given) (r : ℕ) : Type 0 where
  pub once : (n : ℕ) → times n (firsts (told_at r w.history) ++ indices (waiting s w.up r)) ≡ once_to (length (g r)) n
  pub rising : Rise 0 (relays_and_late 0 (told_at r w.history) ++ indices (waiting s w.up r))

pub record AreNamed (s : Shape) (w : Flight) (g : Given) : Type 0 where
  pub ports : (r : ℕ) → is_extended s r ≡ true → IsNamed s w g r
  pub relays : Each (IsRelayOf s g) w.history
  pub words : (n : ℕ) → IsLink s n → Each (IsWordOf g) (words_of (w.up n))

-- Over each run of deeds from the beginning they are so.
abbrev pub NamedOnce : Type 0
NamedOnce =
    (s : Shape) (l : Limits) (i : Basis) (ds : List Deed) → IsSetting s l → MayBegin s l i.start →
    let w = beginning s l i.start in
    let g : Given = λ r. [] in
    Does s l i w g ds → AreNamed s (done_by s l i w g ds) (given_by g ds)

-- The events of a port, oldest first, are those that the rules on histories speak of.
abbrev pub ToldIsOfPort : Type 0
ToldIsOfPort = (r : ℕ) (h : History) → told_at r h ≡ events_of r (reverse h)

-- ---- where each event of an arrival stands
-- A Relay stands only where the bridge relays its frame, and an Ignored only where it doesn't relay that of its
-- arrival.
abbrev pub IsEntered : Shape → Basis → Given → History → Event → Type 0
IsEntered s i g h (event.Relay p n t f) = is_extended s p ≡ true → is_relayed (bridge_after i h) p f ≡ true
IsEntered s i g h (event.Ignored p n) = is_extended s p ≡ true → (a : ℕ × List ℕ) × (numbered (g p) n ≡ Some a)
    × (is_relayed (bridge_after i h) p a.1 ≡ false)
IsEntered s i g h (event.Tick seconds) = ⊤
IsEntered s i g h (event.Commit n) = ⊤
IsEntered s i g h (event.Refuse n cause) = ⊤
IsEntered s i g h (event.Up p) = ⊤
IsEntered s i g h (event.NoUp p cause) = ⊤
IsEntered s i g h event.Settled = ⊤

abbrev pub AreEntered : Shape → Basis → Given → History → Type 0
AreEntered s i g [] = ⊤
AreEntered s i g (e ∷ h) = IsEntered s i g h e × AreEntered s i g h

-- So it is over each run of deeds from the beginning.
abbrev pub EnteredRightly : Type 0
EnteredRightly =
    (s : Shape) (l : Limits) (i : Basis) (ds : List Deed) → IsSetting s l → MayBegin s l i.start →
    let w = beginning s l i.start in
    let g : Given = λ r. [] in
    Does s l i w g ds → AreEntered s i (given_by g ds) (done_by s l i w g ds).history
