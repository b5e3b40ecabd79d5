-- What holds of every topology that is read.
use Rattle.std.specs.Prelude.{◌≡◌, ◌≢◌, ℕ, ◌+◌, ◌≤◌, true, List, length, sum_by, All, AllPairs, Ok}
use Rattle.exb_model.specs.Tree.{Shape, is_external}
use Rattle.exb_model.specs.Setup.{shape_of, NamesExternal}
use Rattle.exb_journal.specs.FileNames.{all_outputs, file_name}
use Rattle.exb_topology.specs.declared.topology.Topology.{Topology}
use Rattle.exb_topology.specs.Topologies.{topology_view, topology_of}

-- no file that runs of a tree write under a prefix has this name
abbrev pub IsApart : Shape → List ℕ → List ℕ → Type 0
IsApart tree prefix name = All (λ o. name ≢ file_name prefix o) (all_outputs tree)

-- Captures and commands name external ports, no capture has the name of an output, there are at most 65,536 commands,
-- whose seconds never fall, and all letters of fates together are at most 60,000.
pub record IsSound (t : Topology) : Type 0 where
  pub captures : All (λ capture. is_external (shape_of t.setup) capture.port ≡ true) t.captures
  pub apart : All (λ capture. IsApart (shape_of t.setup) t.prefix capture.name) t.captures
  pub commands : All (λ c. NamesExternal (shape_of t.setup) c.command) t.commands
  pub few_commands : length t.commands ≤ 65536
  pub rising : AllPairs (λ a b. a.at ≤ b.at) t.commands
  pub few_letters : length t.fate + sum_by (λ c. length c.fate) t.commands ≤ 60000

-- By the definition of what a file says alone.
abbrev pub ReadIsSound : Type 0
ReadIsSound = (file : List ℕ) (t : Topology) → topology_of file ≡ Ok (topology_view t) → IsSound t
