-- Texts that are read line by line, and the first line of one that can't be read.
use Rattle.std.specs.Prelude.{◌≡◌, ◌≢◌, ◌<◌, ◌≤◌, ◌+◌, ◌==◌, ℕ, true, is_some, List, [], ◌∷◌, ◌++◌, length, Option, Some, None, Result, Ok, Err, IsErrOf}
use Rattle.std.specs.List.{slice_split}
use Rattle.exb_model.specs.Traces.{TraceLine}
use Rattle.exb_shelf.specs.FaultCounts.{missing_more, reads_more}
use Rattle.exb_shelf.specs.Shelf.{Faults, NoFewer, Rose}
use Rattle.exb_trace_spec.specs.JournalLines.{entry_in}
use Rattle.exb_trace_spec.specs.TraceTexts.{read_trace}
use Rattle.exb_trace_spec.specs.Traversals.{Each}
use Rattle.exb_trace_spec.specs.TextFields.{all_read, lines_in}
use Rattle.exb_audit_files.specs.declared.texts.LinesFault.{LinesFault}
use Rattle.exb_audit_files.specs.declared.texts.LinesFault.TheVariants.{Memory, Read, Missing, Large, Bad}

-- ---- texts that are read
-- the lines of a text, and what each of them is read as
pub record AreLines {A : Type 0} (read : List ℕ → Option A) (text : List ℕ) (lines : List A) : Type 0 where
  pub parts : List (List ℕ)
  pub cut : lines_in text ≡ Some parts
  pub are : all_read read parts ≡ Some lines

-- the lines of a journal, each of which can be read
pub record IsJournal (text : List ℕ) (lines : List (List ℕ)) : Type 0 where
  pub cut : lines_in text ≡ Some lines
  pub entries : Each (λ line. is_some (entry_in line) ≡ true) lines

-- the lines of a trace
abbrev pub IsTrace : List ℕ → List TraceLine → Type 0
IsTrace text lines = read_trace text ≡ Some lines

-- a file is there and within the limit, and its text gives these lines
pub record HoldsLines {A : Type 0} (Gives : List ℕ → List A → Type 0) (limit : ℕ) (file : Option (List ℕ))
    (lines : List A) : Type 0 where
  pub text : List ℕ
  pub there : file ≡ Some text
  pub small : length text ≤ limit
  pub gives : Gives text lines

-- ---- the first line that can't be read
-- a part of a text that was cut at its newlines, before these parts: it is not read as a line, or it is the last part,
-- which has no newline, and not empty
abbrev pub IsBadLine : {A : Type 0} → (List ℕ → Option A) → List ℕ → List (List ℕ) → Type 0
IsBadLine read line [] = line ≢ []
IsBadLine read line (next ∷ rest) = read line ≡ None

-- the line of this number, from 1, is bad, and all before it can be read
pub record FirstBadLine {A : Type 0} (read : List ℕ → Option A) (text : List ℕ) (number : ℕ) : Type 0 where
  pub before : List (List ℕ)
  pub line : List ℕ
  pub after : List (List ℕ)
  pub cut : slice_split (λ c. c == 10) text ≡ before ++ line ∷ after
  pub number_is : number ≡ length before + 1
  pub good : Each (λ l. is_some (read l) ≡ true) before
  pub bad : IsBadLine read line after

-- what is wrong with the text of a file of which so many bytes may be read
abbrev pub IsLinesFault : {A : Type 0} → (List ℕ → Option A) → ℕ → Option (List ℕ) → LinesFault → Type 0
IsLinesFault read limit file Missing = file ≡ None
IsLinesFault read limit file Large = (text : List ℕ) × (file ≡ Some text) × (limit < length text)
IsLinesFault read limit file (Bad number) = (text : List ℕ) × (file ≡ Some text) × (length text ≤ limit)
    × FirstBadLine read text number
IsLinesFault read limit file Read = ⊥
IsLinesFault read limit file Memory = ⊥

-- ---- the shelf
-- the counts after a text was read, by the answer
abbrev pub after_lines_fault : LinesFault → Faults → Faults
after_lines_fault Missing f = missing_more f
after_lines_fault Read f = reads_more f
after_lines_fault Large f = f
after_lines_fault (Bad number) f = f
after_lines_fault Memory f = f

abbrev pub after_lines : {X : Type 0} → Result X LinesFault → Faults → Faults
after_lines (Ok x) f = f
after_lines (Err fault) f = after_lines_fault fault f

-- no count has fallen, and a fault of the shelf came only where its count rose: once, and no other did
pub record CountsLines {X : Type 0} (result : Result X LinesFault) (old new : Faults) : Type 0 where
  pub none_fell : NoFewer old new
  pub missing : IsErrOf result Missing → Rose old.missing new.missing
  pub read : IsErrOf result Read → Rose old.reads new.reads
  pub once : new ≡ after_lines result old
