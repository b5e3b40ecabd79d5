use Rattle.exb_journal.proofs.FileNameLemmas.{file_names_differ}
use Rattle.exb_journal.proofs.laws.file_names_differ.Goals as goal

pub returns : goal.returns
returns c = file_names_differ
