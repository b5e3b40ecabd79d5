use Rattle.std.proofs.Common.{Some, None, sym, arith}
use Rattle.std.proofs.lemmas.Str.Pattern.{split_parts}
use Rattle.exb_net_file.specs.EndNames.{end_between, end_of}
use Rattle.exb_net_file.proofs.EndNames.{end_free, end_parts, if_same}
use Rattle.exb_net_file.proofs.end_names.end_of.Goals as goal

pub returns-in-None : goal.returns-in-None
returns-in-None c = sym (end_free c.args.text.now (split_parts 58 c.args.text.now None c.in-None.ensures.cases (omega arith)))

pub returns-in-Some : goal.returns-in-Some
returns-in-Some c =
    let parts = split_parts 58 c.args.text.now (Some (c.in-Some.name, c.in-Some.port)) c.in-Some.ensures.cases (omega arith) in
    if_same c.end_between.result (end_between (c.in-Some.name.now, c.in-Some.port.now)) (end_of c.args.text.now) (end_parts c.args.text.now c.in-Some.name.now c.in-Some.port.now parts.0 parts.1) c.end_between.ensures
