-- The captures of an input that is made, as they are kept in memory while it is played.
use Rattle.std.specs.Prelude.{◌≡◌, ◌<◌, ◌≤◌, ◌^◌, ◌++◌, ◌∷◌, [], ℕ, List, Option, Some, Ok, All, AllPairs, codes, decimal, length, map, sum_by}
use Rattle.exb_make.specs.declared.captures.GeneratedCapture.{GeneratedCapture}
use Rattle.exb_make.specs.declared.generated_input.GeneratedInput.{GeneratedInput}
use Rattle.exb_make.specs.GeneratedInputs.{made}
use Rattle.exb_make.specs.GeneratedParts.{read_of}
use Rattle.exb_model.specs.Input.{Record, given_by, tree_of}
use Rattle.exb_model.specs.Setup.{IsValid, NamesExternal}
use Rattle.exb_model.specs.Tree.{external_ports}
use Rattle.exb_capture.specs.Captures.{capture_records}
use Rattle.exb_shelf.specs.Files.{Files}
use Rattle.exb_topology_tables.specs.declared.elements.Named.{Named}
use Rattle.exb_inputs.specs.CaptureChecks.{most_bytes}
use Rattle.exb_inputs.specs.Inputs.{name_of}

-- the name of the file with the capture of port p
abbrev pub name_made : ℕ → List ℕ
name_made p = codes "in/" ++ decimal p

-- a capture is read as the records of its port, and is not too large
pub record IsReadAs (records : ℕ → List Record) (c : GeneratedCapture) : Type 0 where
  pub read : capture_records c.file.items ≡ Ok (records c.port)
  pub small : length c.file.items ≤ most_bytes

-- the same of a file, which has the name of the capture of port q
pub record IsKept (records : ℕ → List Record) (q : ℕ) (name : List ℕ) (file : Option (List ℕ)) : Type 0 where
  pub port : q < 4160
  pub own : name ≡ name_made q
  pub bytes : List ℕ
  pub there : file ≡ Some bytes
  pub read : capture_records bytes ≡ Ok (records q)
  pub small : length bytes ≤ most_bytes

-- the same of all captures that are named
abbrev pub AreKept : (ℕ → List Record) → List Named → Files → Type 0
AreKept records names file = (q : ℕ) (name : List ℕ) → name_of names q ≡ Some name → IsKept records q name (file name)

-- one capture more is kept
pub record KeepsMore (c : GeneratedCapture) (names more : List Named) (old new : Files) : Type 0 where
  pub ports : map (λ n. n.port) more ≡ map (λ n. n.port) names ++ c.port ∷ []
  pub kept : (records : ℕ → List Record) → AreKept records names old → IsReadAs records c → AreKept records more new

-- of these captures the first ones are kept
pub record KeepsFirst (captures firsts : List GeneratedCapture) (names : List Named) (file : Files) : Type 0 where
  pub ports : map (λ n. n.port) names ≡ map (λ c. c.port) firsts
  pub kept : (records : ℕ → List Record) → All (IsReadAs records) captures → AreKept records names file

-- what was made of a number: its setup, commands and captures are those of the input of this number
pub record IsInputOf (number : ℕ) (input : GeneratedInput) : Type 0 where
  pub valid : IsValid input.setup
  pub setup : input.setup ≡ (made number).setup
  pub commands : map given_by input.commands ≡ (made number).commands
  pub no_fate : All (λ c. c.fate ≡ []) input.commands
  pub named : All (λ c. NamesExternal (tree_of (made number)) c.command) input.commands
  pub few : length input.commands ≡ 20
  pub rising : AllPairs (λ a b. a.at ≤ b.at) input.commands
  pub captures : map read_of input.captures.items ≡ map (λ q. (q, Ok ((made number).records q)))
      (external_ports (tree_of (made number)))
  pub small : sum_by (λ c. length c.file.items) input.captures.items ≤ 2 ^ 22
