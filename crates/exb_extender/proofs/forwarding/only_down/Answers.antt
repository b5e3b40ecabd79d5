use Rattle.std.proofs.lemmas.Option.{IfSome_then}
use Rattle.exb_frame.specs.TagValues.{tag_of}
use Rattle.exb_extender.specs.Tables.{tables_of}
use Rattle.exb_extender.proofs.SingleSideLemmas.{goes_down}
use Rattle.exb_extender.proofs.forwarding.only_down.Goals as goal

pub returns-in-Some : goal.returns-in-Some
returns-in-Some c =
    let t = c.args.tables.now in
    IfSome_then c.only_port.result c.only_port.ensures (λ out goes. goes_down (tables_of t) c.args.frame.now (tag_of c.in-Some.tag) out t.kept.few t.kept.outside c.in-Some.ensures goes)
