use Rattle.exb_capture.specs.declared.byte_order.ByteOrder.TheVariants.{Little, Big}
use Rattle.exb_capture.proofs.ClassicLemmas.{shows_behind, shows_start}
use Rattle.exb_capture.proofs.classic.ClassicFormatFormat.front.Goals as goal

pub returns-in-Start : goal.returns-in-Start
returns-in-Start c = shows_start c.at_start.result c.args.self.now c.at_start.new.self c.args.held.now c.in-Start.is c.at_start.ensures

pub returns-in-Little : goal.returns-in-Little
returns-in-Little c =
    shows_behind c.record_of.result c.args.self.now c.in-Behind.form Little c.args.held.now c.in-Behind.is c.in-Little.is c.record_of.ensures.value c.record_of.ensures.within

pub returns-in-Big : goal.returns-in-Big
returns-in-Big c =
    shows_behind c.record_of-in-Big.result c.args.self.now c.in-Behind.form Big c.args.held.now c.in-Behind.is c.in-Big.is c.record_of-in-Big.ensures.value c.record_of-in-Big.ensures.within
