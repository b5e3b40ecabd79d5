use Rattle.exb_net_file.proofs.NetFiles.{files_are_sound}
use Rattle.exb_net_file.proofs.laws.files_are_sound.Goals as goal

pub returns : goal.returns
returns c = files_are_sound
