use Rattle.std.proofs.Common.{sym, ap, ◌∙◌, map}
use Rattle.exb_frame.specs.TagValues.{tag_of}
use Rattle.exb_extender.specs.SentFrames.{out_sent}
use Rattle.exb_extender.specs.Tables.{tables_of}
use Rattle.exb_extender.proofs.ForwardingLemmas.{all_sent, none_sent, outs_given, tagged_long}
use Rattle.exb_extender.proofs.forwarding.send_down.Goals as goal

pub returns-in-Some-clause-sends : goal.returns-in-Some-clause-sends
returns-in-Some-clause-sends c =
    ap (map (out_sent c.args.frame.now)) c.replicate.ensures
    ∙ all_sent (tables_of c.args.tables.now) c.args.frame.now (tag_of c.in-Some.tag) c.args.tables.now.kept.few c.args.tables.now.kept.outside (sym c.in-Some.ensures)

pub returns-in_default-clause-sends : goal.returns-in_default-clause-sends
returns-in_default-clause-sends c = ap (map (out_sent c.args.frame.now)) c.requires ∙ none_sent (tables_of c.args.tables.now) c.args.frame.now (sym c.in_default.ensures)

pub returns-in-Some-clause-given : goal.returns-in-Some-clause-given
returns-in-Some-clause-given c =
    outs_given c.args.frame.now _ (tables_of c.args.tables.now) (tag_of c.in-Some.tag) _ (tagged_long c.args.frame.now (tag_of c.in-Some.tag) c.in-Some.ensures) c.replicate.ensures
