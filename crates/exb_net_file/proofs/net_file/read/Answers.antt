use Rattle.exb_net_file.proofs.NetFiles.{read_is_sound}
use Rattle.exb_net_file.proofs.net_file.read.Goals as goal

pub returns-clause-sound : goal.returns-clause-sound
returns-clause-sound c = read_is_sound c.args.file.now c.checked.result c.checked.ensures
