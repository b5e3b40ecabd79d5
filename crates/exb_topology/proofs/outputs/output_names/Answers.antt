use Rattle.std.proofs.Common.{◌∙◌, ◌++◌, List, ℕ, ap, map}
use Rattle.exb_journal.specs.FileNames.{file_name, other_outputs}
use Rattle.exb_topology.proofs.NameSuffixes.{names_all_kinds}
use Rattle.exb_topology.proofs.outputs.output_names.Goals as goal

pub returns : goal.returns
returns c =
    c.in_ok-add_other_names.ensures
    ∙ ap (λ (names : List (List ℕ)). names ++ map (file_name c.args.prefix.now) other_outputs) c.in_ok-names.ensures
    ∙ names_all_kinds c.args.prefix.now c.args.tree.now
