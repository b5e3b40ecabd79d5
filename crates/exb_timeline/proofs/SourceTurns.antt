-- The turns of captures that are read again.
use Rattle.std.proofs.Common.{◌≡◌, ℕ, zero, suc, ◌<◌, ◌≤◌, List, [], ◌∷◌, ◌++◌, length, map, get_or, subst, arith, inl, inr}
use Rattle.std.specs.Prelude.{Option, Some, None, IfSome}
use Rattle.std.specs.List.{AllByRecursion}
use Rattle.exb_capture.specs.Replays.{ComesAt}
use Rattle.exb_capture.specs.declared.replay.Replay.{Replay}
use Rattle.exb_shelf.specs.Shelf.{Id}
use Rattle.exb_timeline.specs.declared.capture_merge.CaptureSource.{CaptureSource}
use Rattle.exb_timeline.specs.CaptureMerges.{HasNext, IsOpened, next_in}
use Rattle.exb_timeline.specs.Tournaments.{IsFirst}
use Rattle.exb_timeline.proofs.ListPlaces.{HasAt, all_at}
use Rattle.exb_timeline.proofs.ListTurns.{all_from, is_there}
use Rattle.exb_timeline.proofs.ListTurns as turning

-- a capture stands at its place, and its next record is at that moment
pub record IsNext (xs : List CaptureSource) (m place : ℕ) (s : CaptureSource) : Type 0 where
  pub at : HasAt xs place s
  pub next : s.next ≡ Some m

pub whose_turn : (xs : List CaptureSource) (m place : ℕ) → IsFirst (map next_in xs) m place → (s : CaptureSource) → s ≡ get_or xs place s → IsNext xs m place s
whose_turn xs m place h s is = let own = turning.whose_turn next_in xs m place h s is in record { at = own.at; next = own.next_is }

pub has_next : (before after : List CaptureSource) (s : CaptureSource) (m : ℕ) → s.next ≡ Some m → HasNext m (before ++ s ∷ after)
has_next [] after s m e = inl e
has_next (t ∷ before) after s m e = inr (has_next before after s m e)

next_there : (xs : List CaptureSource) (m k : ℕ) → k < length xs → get_or (map next_in xs) k None ≡ Some m → HasNext m xs
next_there [] m k low is = absurd (omega (arith, low))
next_there (x ∷ xs) m zero low is = inl is
next_there (x ∷ xs) m (suc k) low is = inr (next_there xs m k (omega (arith, low)) is)

-- the moment of the first turn is the earliest
pub first_earliest : (xs : List CaptureSource) (m place : ℕ) → IsFirst (map next_in xs) m place → HasNext m xs × AllByRecursion (λ (s : CaptureSource). IfSome s.next (λ k. m ≤ k)) xs
first_earliest xs m place h = (next_there xs m place (is_there next_in xs m place h) h.own, all_from next_in xs m place h)

-- what is known of the capture whose turn it is
pub own_of : (P : CaptureSource → Type 0) (xs : List CaptureSource) (place : ℕ) (s : CaptureSource) → HasAt xs place s → AllByRecursion P xs → P s
own_of P xs place s h all = all_at P h.before h.after s (subst (AllByRecursion P) h.split all)

pub own_comes : (ids : ℕ → Id) (m : ℕ) (s : CaptureSource) → s.next ≡ Some m → IsOpened ids s → ComesAt m s.replay
own_comes ids m s e o = subst (λ n. IfSome n (λ k. ComesAt k s.replay)) e o.comes

-- a moment is small
pub small_next : (next : Option ℕ) (r : Replay) → IfSome next (λ m. ComesAt m r) → IfSome next (λ m. m < 18446744073709551615)
small_next None r comes = tt
small_next (Some m) r comes = omega (arith, comes.in_time)
