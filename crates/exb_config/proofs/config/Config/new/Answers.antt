use Rattle.exb_config.proofs.Changes.{first_tables}
use Rattle.exb_config.proofs.config.Config.new.Goals as goal

pub returns : goal.returns
returns c = first_tables c.args.present.now c.in_ok-new.field-0 c.in_ok-new-2.field-0 c.new-3.result c.in_ok-new.ensures c.new-3.ensures c.in_ok-new-2.ensures
