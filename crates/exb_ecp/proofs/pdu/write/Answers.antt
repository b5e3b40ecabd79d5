use Rattle.std.proofs.Common.{rules, ◌≡◌, drop, ap, ◌∙◌, arith}
use Rattle.exb_ecp.specs.Frames.{pdu_in, spelling}
use Rattle.exb_ecp.proofs.RoundTrip.{pdu_in-spelling, drop-spelling}
use Rattle.exb_ecp.proofs.pdu.write.Goals as goal

pub returns-then-not-pdu-clause-read_again : goal.returns-then-not-pdu-clause-read_again
returns-then-not-pdu-clause-read_again c =
    let e : c.append-then-not-pdu.new.out.items ≡ spelling c.args.source c.args.pdu.now c.args.payload.now = search rules in
    ap pdu_in e ∙ pdu_in-spelling c.args.source c.args.pdu.now c.args.payload.now (omega arith) c.requires

pub returns-then-not-pdu-clause-payload_again : goal.returns-then-not-pdu-clause-payload_again
returns-then-not-pdu-clause-payload_again c =
    let e : c.append-then-not-pdu.new.out.items ≡ spelling c.args.source c.args.pdu.now c.args.payload.now = search rules in
    ap (drop 18) e ∙ drop-spelling c.args.source c.args.pdu.now c.args.payload.now (omega arith)

pub returns-else-not-pdu-clause-read_again : goal.returns-else-not-pdu-clause-read_again
returns-else-not-pdu-clause-read_again c =
    let e : c.append-5.new.out.items ≡ spelling c.args.source c.args.pdu.now c.args.payload.now = search rules in
    ap pdu_in e ∙ pdu_in-spelling c.args.source c.args.pdu.now c.args.payload.now (omega arith) c.requires

pub returns-else-not-pdu-clause-payload_again : goal.returns-else-not-pdu-clause-payload_again
returns-else-not-pdu-clause-payload_again c =
    let e : c.append-5.new.out.items ≡ spelling c.args.source c.args.pdu.now c.args.payload.now = search rules in
    ap (drop 18) e ∙ drop-spelling c.args.source c.args.pdu.now c.args.payload.now (omega arith)
