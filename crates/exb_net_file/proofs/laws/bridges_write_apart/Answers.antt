use Rattle.exb_net_file.proofs.FilePrefixes.{bridges_write_apart}
use Rattle.exb_net_file.proofs.laws.bridges_write_apart.Goals as goal

pub returns : goal.returns
returns c = bridges_write_apart c.file_names_differ.ensures
