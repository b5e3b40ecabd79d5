-- Rule 5 of a legal trace: what the journal says of each frame that comes to the bridge, and what the bridge sends for
-- it. A checker gathers the lines of a step and judges them when the next one begins.
use Rattle.std.specs.Prelude.{◌≡◌, ◌⊎◌, ℕ, ◌-◌, ◌≤◌, ◌==◌, ◌&&◌, ◌||◌, Bool, true, false, if◌then◌else◌, List, [], ◌∷◌, ◌++◌, codes, decimal, length, flat_map, filter, is_some, nat_eq}
use Rattle.std.specs.List.{starts_with}
use Rattle.exb_model.specs.Tree.{Shape, is_external}
use Rattle.exb_model.specs.Lists.{numbered}
use Rattle.exb_model.specs.Texts.{port_name}
use Rattle.exb_model.specs.ETags.{read_etag, stripped}
use Rattle.std.specs.Prelude.{Some}
use Rattle.exb_model.specs.Traces.{TraceLine, In, Out}
use Rattle.exb_trace_spec.specs.Traversals.{EachStep, until_next}
use Rattle.exb_trace_spec.specs.Rule1Places.{journal_in}
use Rattle.exb_trace_spec.specs.Rule3Links.{is_data_frame}

-- ---- lines of the journal
unfoldable pub is_relay : List ℕ → Bool
is_relay text = starts_with nat_eq text (codes "relay ")

unfoldable pub is_ignore : List ℕ → Bool
is_ignore text = starts_with nat_eq text (codes "ignore ")

-- those that say what became of a record
abbrev pub entries : List TraceLine → List (List ℕ)
entries lines = filter (λ text. is_relay text || is_ignore text) (journal_in lines)

abbrev pub relays : List TraceLine → List (List ℕ)
relays lines = filter is_relay (journal_in lines)

abbrev pub record_text : List ℕ → ℕ → ℕ → List ℕ
record_text word p n = word ++ port_name p ++ codes " " ++ decimal n

-- The line names a record, which has that frame.
pub record NamesRecord (captures : ℕ → List (List ℕ)) (line frame : List ℕ) : Type 0 where
  pub port : ℕ
  pub index : ℕ
  pub is : numbered (captures port) index ≡ Some frame
  pub text : (line ≡ record_text (codes "relay ") port index) ⊎ (line ≡ record_text (codes "ignore ") port index)

-- ---- data lines of the bridge
-- a frame at an external port is data, whatever its destination
abbrev pub is_data_at : Shape → ℕ → List ℕ → Bool
is_data_at t k f = is_external t (k - 1) || is_data_frame f

-- a frame comes to the bridge
abbrev pub is_arrival : Shape → TraceLine → Bool
is_arrival t (In n k f) = (n == 0) && is_data_at t k f
is_arrival t _ = false

abbrev pub sent_at : Shape → ℕ → TraceLine → List (List ℕ)
sent_at t k (Out n j f) = if (n == 0) && ((j == k) && is_data_at t j f) then f ∷ [] else []
sent_at t k _ = []

-- the data frames that the bridge sends at its port k
abbrev pub sent : Shape → ℕ → List TraceLine → List (List ℕ)
sent t k lines = flat_map (sent_at t k) lines

-- ---- the rule
-- At a local port the line has the record's frame as it is. At a cascade port it has the frame with eight bytes more at
-- byte 12, and these are an E-TAG.
pub record HoldsFrame (t : Shape) (k : ℕ) (f frame : List ℕ) : Type 0 where
  pub local : is_external t (k - 1) ≡ true → f ≡ frame
  pub cascade : is_external t (k - 1) ≡ false → (stripped f ≡ frame) × (is_some (read_etag f) ≡ true)

-- The step has exactly one line that says what became of it, and that names the record whose frame this is. At a local
-- port it is a record of that port.
pub record IsEntered (t : Shape) (captures : ℕ → List (List ℕ)) (k : ℕ) (f : List ℕ) (said : List (List ℕ)) : Type 0
  where
    pub line : List ℕ
    pub once : said ≡ line ∷ []
    pub frame : List ℕ
    pub names : NamesRecord captures line frame
    pub here : is_external t (k - 1) ≡ true → names.port ≡ k - 1
    pub holds : HoldsFrame t k f frame

abbrev pub Enters : Shape → (ℕ → List (List ℕ)) → TraceLine → List (List ℕ) → Type 0
Enters t captures (In n k f) said = IsEntered t captures k f said
Enters t captures _ said = Unit {0}

-- where nothing is relayed the bridge sends no data
abbrev pub SendsByRelay : Shape → List TraceLine → Type 0
SendsByRelay t lines = relays lines ≡ [] → (k : ℕ) → sent t k lines ≡ []

pub record IsStep (t : Shape) (captures : ℕ → List (List ℕ)) (first : TraceLine) (rest : List TraceLine) : Type 0 where
  pub entered : is_arrival t first ≡ true → Enters t captures first (entries rest)
  pub relayed : is_arrival t first ≡ false → relays rest ≡ []
  pub by_relay : SendsByRelay t rest
  pub few : (k : ℕ) → length (sent t k rest) ≤ 2

-- Before the first step nothing is relayed.
pub record AreSteps (t : Shape) (captures : ℕ → List (List ℕ)) (lines : List TraceLine) : Type 0 where
  pub none_before : relays (until_next lines) ≡ []
  pub quiet_before : SendsByRelay t (until_next lines)
  pub each : EachStep (IsStep t captures) lines
