-- Rule 3 of a legal trace: the words of each direction of each link. A checker keeps, for each direction, the frames
-- that went out and how many of the data frames among them came in.
use Rattle.std.specs.Prelude.{◌≡◌, ℕ, ◌+◌, ◌%◌, ◌==◌, ◌&&◌, Bool, true, not, if◌then◌else◌, List, [], ◌∷◌, ◌++◌, flat_map, filter}
use Rattle.exb_model.specs.Tree.{Shape, device, on, is_extender}
use Rattle.exb_model.specs.Frames.{is_control_frame}
use Rattle.exb_model.specs.Traces.{TraceLine, In, Out}
use Rattle.exb_trace_spec.specs.Traversals.{EachLine, AtEachPlace}

-- ---- places
-- a side of a device
pub record Place : Type 0 where
  pub who : ℕ
  pub at : ℕ

-- a port, and where an extender is upstream
abbrev pub place_of : ℕ → Place
place_of p = record { who = device p; at = p % 64 + 1 }

abbrev pub upstream_of : ℕ → Place
upstream_of n = record { who = n; at = 0 }

-- ---- frames
abbrev pub if_at : Place → ℕ → ℕ → List ℕ → List (List ℕ)
if_at p n k f = if n == p.who && k == p.at then f ∷ [] else []

abbrev pub in_at : Place → TraceLine → List (List ℕ)
in_at p (In n k f) = if_at p n k f
in_at p _ = []

abbrev pub out_at : Place → TraceLine → List (List ℕ)
out_at p (Out n k f) = if_at p n k f
out_at p _ = []

-- the frames that came in at a place, and those that went out there
abbrev pub ins : Place → List TraceLine → List (List ℕ)
ins p lines = flat_map (in_at p) lines

abbrev pub outs : Place → List TraceLine → List (List ℕ)
outs p lines = flat_map (out_at p) lines

abbrev pub is_data_frame : List ℕ → Bool
is_data_frame f = not (is_control_frame f)

abbrev pub data_of : List (List ℕ) → List (List ℕ)
data_of fs = filter is_data_frame fs

-- ---- the rule
pub record IsFront {A : Type 0} (xs ys : List A) : Type 0 where
  pub rest : List A
  pub is : ys ≡ xs ++ rest

-- a frame went out there, and all data frames that went out before it have come in
pub record WasSent (sent taken : List (List ℕ)) (f : List ℕ) : Type 0 where
  pub before : List (List ℕ)
  pub after : List (List ℕ)
  pub is : sent ≡ before ++ f ∷ after
  pub all_in : IsFront (data_of before) taken

-- the data words in are a front of the data words out
abbrev pub DataInOrder : Place → Place → List TraceLine → Type 0
DataInOrder from to lines = IsFront (data_of (ins to lines)) (data_of (outs from lines))

-- a control word in was sent, and no data word that was sent before it is still to come
abbrev pub ControlWasSent : Place → Place → List TraceLine → TraceLine → Type 0
ControlWasSent from to lines l = (f : List ℕ) → in_at to l ≡ f ∷ [] → is_control_frame f ≡ true
    → WasSent (outs from lines) (data_of (ins to lines)) f

pub record GoesInOrder (from to : Place) (lines : List TraceLine) : Type 0 where
  pub data_in_order : AtEachPlace (DataInOrder from to) lines
  pub control_in_order : EachLine (ControlWasSent from to) lines

-- by extender, what holds of the places where words up its link are put and taken, and of those where words down it are
pub record BothWays (P : Place → Place → Type 0) (t : Shape) (n : ℕ) : Type 0 where
  pub up : P (upstream_of n) (place_of (on t n))
  pub down : P (place_of (on t n)) (upstream_of n)

-- all but the end
abbrev pub LinksInOrder : Shape → List TraceLine → Type 0
LinksInOrder t lines = (n : ℕ) → is_extender t n ≡ true → BothWays (λ from to. GoesInOrder from to lines) t n

-- all data words that went out came in
abbrev pub AllCameIn : Place → Place → List TraceLine → Type 0
AllCameIn from to lines = data_of (ins to lines) ≡ data_of (outs from lines)

-- at the end no data word is still to come
abbrev pub LinksAreEmpty : Shape → List TraceLine → Type 0
LinksAreEmpty t lines = (n : ℕ) → is_extender t n ≡ true → BothWays (λ from to. AllCameIn from to lines) t n
