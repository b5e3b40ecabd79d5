use Rattle.exb_outputs.proofs.KindPlaces.{names_apart}
use Rattle.exb_outputs.proofs.outputs.output_names_differ.Goals as goal

pub returns : goal.returns
returns c = names_apart c.file_names_differ.ensures
