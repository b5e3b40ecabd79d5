-- What is still to be given of a segment whose order is drawn.
use Rattle.std.specs.Prelude.{◌≡◌, ◌≢◌, ℕ, ◌+◌, ◌<◌, ◌≤◌, ◌^◌, ◌++◌, ◌==◌, Bool, true, if◌then◌else◌, List, [], ◌∷◌, length, map, drop, slice_index_or, IsPermutation}
use Rattle.exb_model.specs.declared.setup.Timed.{Timed}
use Rattle.exb_model.specs.Setup.{NamesExternal}
use Rattle.exb_model.specs.Tree.{Shape, is_external}
use Rattle.exb_world_spec.specs.Worlds.{Step}
use Rattle.exb_model.specs.Tables.{at}
use Rattle.exb_flight.specs.Items.{Each}
use Rattle.exb_world_laws.specs.WorldInput.{arrivals_of, commands_of}
use Rattle.exb_world_laws.specs.WorldInvariant.{given_in}
use Rattle.exb_world_laws.specs.SegmentRuns.{seconds_in, IsUnmarked}
use Rattle.exb_world.specs.WorldContracts.{Network, world_of, tree_of}
use Rattle.exb_schedule.specs.declared.remaining_input.RemainingInput.{RemainingInput}
use Rattle.exb_model.specs.declared.arrival.Arrival.{Arrival}
use Rattle.exb_schedule.specs.StepSequences.{HasRun}

-- the arrivals that weren't given yet, in their order
abbrev pub left_of : List Bool → List Arrival → List Arrival
left_of [] frames = frames
left_of (given ∷ flags) [] = []
left_of (given ∷ flags) (a ∷ frames) = if given then left_of flags frames else a ∷ left_of flags frames

-- the seconds of a segment, where there are any
abbrev pub seconds_of : ℕ → List ℕ
seconds_of n = if n == 0 then [] else n ∷ []

-- ---- what is left can be given, in order
-- the next record of an external port, and not too long
pub record MayCome (t : Shape) (next : ℕ → ℕ) (a : Arrival) : Type 0 where
  pub external : is_external t a.port ≡ true
  pub index : a.index ≡ next a.port
  pub few : a.index < 2 ^ 63
  pub short : length a.bytes ≤ 262144

abbrev pub MayComeAll : Shape → (ℕ → ℕ) → List Arrival → Type 0
MayComeAll t next [] = Unit {0}
MayComeAll t next (a ∷ frames) = MayCome t next a × MayComeAll t (at a.port (next a.port + 1) next) frames

abbrev pub MayOrderAll : Shape → ℕ → List Timed → Type 0
MayOrderAll t given [] = Unit {0}
MayOrderAll t given (c ∷ cs) = (NamesExternal t c.command × (given < 65536)) × MayOrderAll t (given + 1) cs

pub record IsReady (n : Network) (seconds : ℕ) (cs : List Timed) (frames : List Arrival) : Type 0 where
  pub time : seconds ≢ 0 → (world_of n).table.clock + seconds < 2 ^ 63
  pub orders : MayOrderAll (tree_of n) (world_of n).control.given cs
  pub comes : MayComeAll (tree_of n) (world_of n).next frames

-- ---- what was given
-- Of a segment with these seconds, commands and arrivals so many seconds are left, the first commands were given, and
-- the arrivals that are flagged; what is left can be given.
pub record HasDrawn (all : ℕ) (cs : List Timed) (frames : List Arrival) (seconds taken : ℕ) (given : List Bool)
    (old now : Network) : Type 0 where
  pub steps : List Step
  pub made : HasRun steps old now
  pub time : seconds_in steps ++ seconds_of seconds ≡ seconds_of all
  pub commands : commands_of (given_in steps) ++ map (λ (c : Timed). c.command) (drop taken cs)
      ≡ map (λ (c : Timed). c.command) cs
  pub arrivals : IsPermutation (arrivals_of (given_in steps) ++ left_of given frames) frames
  pub unmarked : Each IsUnmarked steps
  pub whole : length given ≡ length frames
  pub ready : IsReady now seconds (drop taken cs) (left_of given frames)

-- So it goes on: of any segment with these commands and arrivals.
abbrev pub GoesOn : List Timed → List Arrival → RemainingInput → RemainingInput → Network → Network → Type 0
GoesOn cs frames r s now new =
    (all : ℕ) (old : Network) → HasDrawn all cs frames r.seconds r.taken r.given.items old now
    → HasDrawn all cs frames s.seconds s.taken s.given.items old new

-- a move alone, which gives nothing of any segment
abbrev pub Keeps : Network → Network → Type 0
Keeps now new =
    (all : ℕ) (cs : List Timed) (frames : List Arrival) (seconds taken : ℕ) (given : List Bool) (old : Network)
    → HasDrawn all cs frames seconds taken given old now → HasDrawn all cs frames seconds taken given old new

-- Of a segment all was given, in an order that its commands keep.
pub record IsDrawn (seconds : ℕ) (cs : List Timed) (frames : List Arrival) (old now : Network) : Type 0 where
  pub taken : ℕ
  pub given : List Bool
  pub drawn : HasDrawn seconds cs frames 0 taken given old now
  pub commands : length cs ≤ taken
  pub arrivals : (at : ℕ) → at < length frames → slice_index_or given at true ≡ true
