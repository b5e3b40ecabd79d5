-- A text that is fed in pieces, and what is kept of it: what its lines are read as, and the last part, which isn't
-- ended yet.
use Rattle.std.specs.Prelude.{◌≡◌, ◌==◌, ℕ, Bool, true, false, is_some, if◌then◌else◌, List, [], ◌∷◌, ◌++◌, flat_map, Option, Some, None, All}
use Rattle.exb_shelf.specs.declared.shelf.OpenFault.{OpenFault}
use Rattle.exb_shelf.specs.declared.shelf.OpenFault.TheVariants as opening
use Rattle.exb_shelf.specs.declared.shelf.ShelfFault.{ShelfFault}
use Rattle.exb_shelf.specs.declared.shelf.ShelfFault.TheVariants as shelf
use Rattle.exb_trace_spec.specs.JournalLines.{entry_in}
use Rattle.exb_trace_spec.specs.Traversals.{Each}
use Rattle.exb_trace_spec.specs.TextFields.{all_read}
use Rattle.exb_audit_files.specs.declared.texts.LinesFault.{LinesFault}
use Rattle.exb_audit_files.specs.declared.texts.LinesFault.TheVariants.{Memory, Read, Missing}
use Rattle.exb_audit_files.specs.declared.lines.Lines.{Lines}

-- a line of a journal is kept as its text
abbrev pub journal_line : List ℕ → Option (List ℕ)
journal_line line = if is_some (entry_in line) then Some line else None

-- lines, each with its newline
abbrev pub ended : List (List ℕ) → List ℕ
ended lines = flat_map (λ l. l ++ 10 ∷ []) lines

-- no newline stands in it
abbrev pub IsOneLine : List ℕ → Type 0
IsOneLine line = All (λ (c : ℕ). (c == 10) ≡ false) line

-- all lines that are ended were read, and this is the last part
pub record AreCut {A : Type 0} (read : List ℕ → Option A) (text : List ℕ) (lines : List A) (rest : List ℕ) : Type 0
  where
    pub before : List (List ℕ)
    pub is : text ≡ ended before ++ rest
    pub each : Each IsOneLine before
    pub last : IsOneLine rest
    pub are : all_read read before ≡ Some lines

-- behind the lines that were read stands one that can't be
pub record AreBroken {A : Type 0} (read : List ℕ → Option A) (text : List ℕ) (lines : List A) : Type 0 where
  pub before : List (List ℕ)
  pub line : List ℕ
  pub more : List ℕ
  pub is : text ≡ ended before ++ (line ++ 10 ∷ more)
  pub each : Each IsOneLine before
  pub one : IsOneLine line
  pub are : all_read read before ≡ Some lines
  pub bad : read line ≡ None

abbrev pub HasCutBy : {A : Type 0} → Bool → (List ℕ → Option A) → List ℕ → List A → List ℕ → Type 0
HasCutBy false read text lines rest = AreCut read text lines rest
HasCutBy true read text lines rest = AreBroken read text lines

-- this is kept of a text
abbrev pub HasCut : {L : Type 0} → (List ℕ → Option L) → List ℕ → Lines L → Type 0
HasCut read text s = HasCutBy s.bad read text s.lines.items s.rest.items

-- these bytes were fed too
pub record CutsOn {L : Type 0} (read : List ℕ → Option L) (old new : Lines L) (more : List ℕ) : Type 0 where
  pub on : (text : List ℕ) → HasCut read text old → HasCut read (text ++ more) new

-- ---- why a text isn't read
abbrev pub unopened : OpenFault → LinesFault
unopened opening.Missing = Missing
unopened opening.Failed = Read
unopened opening.Memory = Memory

abbrev pub unread : ShelfFault → LinesFault
unread shelf.Failed = Read
unread shelf.Memory = Memory
