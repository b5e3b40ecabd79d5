-- Frames by port, and how their places are noted.
use Rattle.std.specs.Prelude.{◌≡◌, ℕ, zero, suc, ◌<◌, ◌^◌, ◌==◌, Bool, true, false, if◌then◌else◌, List, [], ◌∷◌, length, take, slice_get, slice_index, Option, Some, None, All}
use Rattle.std.specs.Str.{bytes_eq}
use Rattle.exb_audit.specs.declared.frames.PortFrames.{PortFrames}

-- the frames of a port: of a port that is named twice those that stand first
abbrev pub frames_by : List PortFrames → ℕ → List (List ℕ)
frames_by [] p = []
frames_by (x ∷ xs) p = if x.port == p then x.frames.items else frames_by xs p

-- none of them is of that port
abbrev pub Lack : ℕ → List PortFrames → Type 0
Lack p xs = All (λ x. (x.port == p) ≡ false) xs

-- the first of that port stands at a place, from 0
pub record StandsAt (xs : List PortFrames) (p k : ℕ) : Type 0 where
  pub one : PortFrames
  pub is : slice_get xs k ≡ Some one
  pub port : (one.port == p) ≡ true
  pub before : Lack p (take k xs)

-- a place is noted as one more, and that there is none as 0
abbrev pub IsNoted : List PortFrames → ℕ → ℕ → Type 0
IsNoted xs p zero = Lack p xs
IsNoted xs p (suc k) = StandsAt xs p k

pub record IsTable (xs : List PortFrames) (table : List ℕ) : Type 0 where
  pub sized : length table ≡ 4160
  pub noted : (p : ℕ) → p < 4160 → IsNoted xs p (slice_index table p)

-- ---- the next of some frames
abbrev pub is_frame : List ℕ → Option (List ℕ) → Bool
is_frame f None = false
is_frame f (Some g) = bytes_eq g f

-- the frame stands at that place
abbrev pub is_next : List (List ℕ) → ℕ → List ℕ → Bool
is_next frames n f = is_frame f (slice_get frames n)

-- frames of a port that there can be, and fewer than 64 bits count
abbrev pub IsFramed : PortFrames → Type 0
IsFramed x = (x.port < 4160) × (length x.frames.items < 2 ^ 64)
