-- The lines of a journal: what each of them names, its words, and how it is read back.
use Rattle.std.specs.Prelude.{◌≡◌, ℕ, ◌<◌, ◌^◌, if◌then◌else◌, List, [], ◌∷◌, ◌++◌, codes, decimal, Option, Some, None, option_map, option_and_then}
use Rattle.std.specs.List.{join_with_byte}
use Rattle.std.specs.Str.{bytes_eq}
use Rattle.exb_model.specs.declared.event.Cause.{Cause}
use Rattle.exb_model.specs.declared.event.Cause.TheVariants as cause
use Rattle.exb_model.specs.declared.event.Event.{Event}
use Rattle.exb_model.specs.declared.event.Event.TheVariants as event
use Rattle.exb_model.specs.History.{History, ◌then◌}
use Rattle.exb_model.specs.declared.arrival.Arrival.{Arrival}
use Rattle.exb_model.specs.Lists.{numbered}
use Rattle.exb_model.specs.Texts.{port_name, line_of}
use Rattle.exb_trace_spec.specs.TextFields.{lines_in, words_in, all_read, number_in, port_in}

-- What a line says: an event, but of a Relay neither the moment nor the bytes, which its record has.
pub data Entry : Type 0 where
  Relayed : (port index : ℕ) → Entry
  Ignored : (port index : ℕ) → Entry
  Ticked : (seconds : ℕ) → Entry
  Committed : (number : ℕ) → Entry
  Refused : (number : ℕ) (cause : Cause) → Entry
  Rose : (port : ℕ) → Entry
  Stayed : (port : ℕ) (cause : Cause) → Entry
  Settled : Entry

abbrev pub entry_of : Event → Entry
entry_of (event.Relay p n moment f) = Relayed p n
entry_of (event.Ignored p n) = Ignored p n
entry_of (event.Tick seconds) = Ticked seconds
entry_of (event.Commit n) = Committed n
entry_of (event.Refuse n x) = Refused n x
entry_of (event.Up p) = Rose p
entry_of (event.NoUp p x) = Stayed p x
entry_of event.Settled = Settled

-- ---- its text
abbrev pub cause_words : Cause → List (List ℕ)
cause_words (cause.Channels needed limit) = codes "channels" ∷ decimal needed ∷ decimal limit ∷ []
cause_words (cause.Groups needed limit) = codes "groups" ∷ decimal needed ∷ decimal limit ∷ []

abbrev pub entry_words : Entry → List (List ℕ)
entry_words (Relayed p n) = codes "relay" ∷ port_name p ∷ decimal n ∷ []
entry_words (Ignored p n) = codes "ignore" ∷ port_name p ∷ decimal n ∷ []
entry_words (Ticked seconds) = codes "tick" ∷ decimal seconds ∷ []
entry_words (Committed n) = codes "commit" ∷ decimal n ∷ []
entry_words (Refused n x) = codes "refuse" ∷ decimal n ∷ cause_words x
entry_words (Rose p) = codes "up" ∷ port_name p ∷ []
entry_words (Stayed p x) = codes "noup" ∷ port_name p ∷ cause_words x
entry_words Settled = codes "settled" ∷ []

-- its words, with a space between them
unfoldable pub entry_text : Entry → List ℕ
entry_text e = join_with_byte 32 (entry_words e)

-- ---- reading it
abbrev pub cause_by : List ℕ → ℕ → ℕ → Option Cause
cause_by reason needed limit =
    if bytes_eq reason (codes "channels") then Some (cause.Channels needed limit)
    else if bytes_eq reason (codes "groups") then Some (cause.Groups needed limit)
    else None

abbrev pub cause_in : List ℕ → List ℕ → List ℕ → Option Cause
cause_in reason needed limit = option_and_then (λ n. option_and_then (cause_by reason n) (number_in limit))
    (number_in needed)

-- of an arrival, by its port and index
abbrev pub arrival_by : List ℕ → ℕ → ℕ → Option Entry
arrival_by kind p n =
    if bytes_eq kind (codes "relay") then Some (Relayed p n)
    else if bytes_eq kind (codes "ignore") then Some (Ignored p n)
    else None

-- with one number or port
abbrev pub simple_in : List ℕ → List ℕ → Option Entry
simple_in kind what =
    if bytes_eq kind (codes "tick") then option_map Ticked (number_in what)
    else if bytes_eq kind (codes "commit") then option_map Committed (number_in what)
    else if bytes_eq kind (codes "up") then option_map Rose (port_in what)
    else None

-- refused, for a cause
abbrev pub refused_in : List ℕ → List ℕ → Cause → Option Entry
refused_in kind what x =
    if bytes_eq kind (codes "refuse") then option_map (λ n. Refused n x) (number_in what)
    else if bytes_eq kind (codes "noup") then option_map (λ p. Stayed p x) (port_in what)
    else None

abbrev pub entry_by : List (List ℕ) → Option Entry
entry_by (kind ∷ []) = if bytes_eq kind (codes "settled") then Some Settled else None
entry_by (kind ∷ what ∷ []) = simple_in kind what
entry_by (kind ∷ port ∷ index ∷ []) = option_and_then (λ p. option_and_then (arrival_by kind p) (number_in index))
    (port_in port)
entry_by (kind ∷ what ∷ reason ∷ needed ∷ limit ∷ []) = option_and_then (refused_in kind what)
    (cause_in reason needed limit)
entry_by _ = None

unfoldable pub entry_in : List ℕ → Option Entry
entry_in line = entry_by (words_in line)

-- ---- a whole journal, given the arrivals of each port
-- a Relay has the moment and the bytes of its arrival
abbrev pub relay_of : Arrival → Event
relay_of a = event.Relay a.port a.index a.moment a.bytes

abbrev pub event_by : (ℕ → List Arrival) → Entry → Option Event
event_by arrivals (Relayed p n) = option_map relay_of (numbered (arrivals p) n)
event_by arrivals (Ignored p n) = Some (event.Ignored p n)
event_by arrivals (Ticked seconds) = Some (event.Tick seconds)
event_by arrivals (Committed n) = Some (event.Commit n)
event_by arrivals (Refused n x) = Some (event.Refuse n x)
event_by arrivals (Rose p) = Some (event.Up p)
event_by arrivals (Stayed p x) = Some (event.NoUp p x)
event_by arrivals Settled = Some event.Settled

abbrev pub event_in : (ℕ → List Arrival) → List ℕ → Option Event
event_in arrivals line = option_and_then (event_by arrivals) (entry_in line)

unfoldable pub history_in : (ℕ → List Arrival) → List ℕ → Option History
history_in arrivals text = option_and_then (λ lines. option_map (λ events. [] then events)
    (all_read (event_in arrivals) lines)) (lines_in text)

-- the lines of a history's journal, the oldest first
abbrev pub journal_of : History → List (List ℕ)
journal_of [] = []
journal_of (e ∷ h) = journal_of h ++ line_of e ∷ []

-- ---- what can be written
abbrev pub IsCounted : Cause → Type 0
IsCounted (cause.Channels needed limit) = (needed < 2 ^ 64) × (limit < 2 ^ 64)
IsCounted (cause.Groups needed limit) = (needed < 2 ^ 64) × (limit < 2 ^ 64)

-- its ports are those of the bridge and of 64 extenders, and its numbers have 64 bits
abbrev pub IsWritable : Entry → Type 0
IsWritable (Relayed p n) = (p < 4160) × (n < 2 ^ 64)
IsWritable (Ignored p n) = (p < 4160) × (n < 2 ^ 64)
IsWritable (Ticked seconds) = seconds < 2 ^ 64
IsWritable (Committed n) = n < 2 ^ 64
IsWritable (Refused n x) = (n < 2 ^ 64) × IsCounted x
IsWritable (Rose p) = p < 4160
IsWritable (Stayed p x) = (p < 4160) × IsCounted x
IsWritable Settled = Unit {0}

-- a Relay has its arrival's moment and bytes
abbrev pub IsFound : (ℕ → List Arrival) → Event → Type 0
IsFound arrivals (event.Relay p n moment f) = numbered (arrivals p) n
    ≡ Some (record { port = p; index = n; moment = moment; bytes = f })
IsFound arrivals _ = Unit {0}

pub record IsRecorded (arrivals : ℕ → List Arrival) (e : Event) : Type 0 where
  pub writable : IsWritable (entry_of e)
  pub found : IsFound arrivals e
