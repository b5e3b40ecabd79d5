-- What happens to files: which change, which stay, and what they hold then.
use Rattle.std.specs.Prelude.{◌≡◌, ◌≢◌, ◌<◌, ◌≤◌, ◌++◌, ◌⊎◌, ℕ, List, [], Option, Some, length, take, slice_index, unwrap_or}
use Rattle.exb_model.specs.Frames.{IsBytes}

-- files as a program sees them: the bytes of each name, none where there is no such file
abbrev pub Files : Type 0
Files = List ℕ → Option (List ℕ)

-- the bytes of a file, none where it isn't there
abbrev pub bytes_of : Option (List ℕ) → List ℕ
bytes_of file = unwrap_or file []

-- no file has changed
abbrev pub SameFiles : Files → Files → Type 0
SameFiles old new = (n : List ℕ) → new n ≡ old n

-- the file of this name now has these bytes, and no other file has changed
pub record Puts (old new : Files) (name bytes : List ℕ) : Type 0 where
  pub here : new name ≡ Some bytes
  pub others : (n : List ℕ) → n ≢ name → new n ≡ old n

-- the file of this name has these bytes more at its end, and no other file has changed
pub record Adds (old new : Files) (name bytes : List ℕ) : Type 0 where
  pub here : (had : List ℕ) → old name ≡ Some had → new name ≡ Some (had ++ bytes)
  pub others : (n : List ℕ) → n ≢ name → new n ≡ old n

-- the same, of some front of the text
abbrev pub AddsFront : Files → Files → List ℕ → List ℕ → Type 0
AddsFront old new name text = (k : ℕ) × Adds old new name (take k text)

-- new is old with some front of the text at its end
abbrev pub AppendsFront : List ℕ → List ℕ → List ℕ → Type 0
AppendsFront old new text = (k : ℕ) × (new ≡ old ++ take k text)

-- new is old with a front of the text at its end, and not all of it
abbrev pub BreaksOff : List ℕ → List ℕ → List ℕ → Type 0
BreaksOff old new text = (k : ℕ) × (k < length text) × (new ≡ old ++ take k text)

-- each of the n named files now has bytes with P, and no other file has changed
pub record Filled (old new : Files) (n : ℕ) (name : ℕ → List ℕ) (P : ℕ → List ℕ → Type 0) : Type 0 where
  pub each : (j : ℕ) → j < n → (bytes : List ℕ) × (new (name j) ≡ Some bytes) × P j bytes
  pub others : (m : List ℕ) → ((j : ℕ) → j < n → m ≢ name j) → new m ≡ old m

-- the first k have their text, and the others are empty
abbrev pub UpTo : ℕ → (ℕ → List ℕ) → ℕ → List ℕ → Type 0
UpTo k text j bytes = (j < k → bytes ≡ text j) × (k ≤ j → bytes ≡ [])

-- these bytes are a front of the j-th text
abbrev pub IsFront : (ℕ → List ℕ) → ℕ → List ℕ → Type 0
IsFront text j bytes = (q : ℕ) × (bytes ≡ take q (text j))

-- each of the n named files is as it was or holds a front of its text, and no other file has changed
pub record Cut (old new : Files) (n : ℕ) (name text : ℕ → List ℕ) : Type 0 where
  pub each : (j : ℕ) → j < n → (new (name j) ≡ old (name j)) ⊎ ((q : ℕ) × (new (name j) ≡ Some (take q (text j))))
  pub others : (m : List ℕ) → ((j : ℕ) → j < n → m ≢ name j) → new m ≡ old m
