use Rattle.std.proofs.Common.{◌∙◌, ◌<◌, ap, length, get_or, arith}
use Rattle.std.proofs.lemmas.List.{get_or_read}
use Rattle.exb_make.proofs.GeneratedTree.{length-ports}
use Rattle.exb_make.proofs.commands.port_at.Goals as goal

pub bounds-places-number : goal.bounds-places-number
bounds-places-number c = let l = ap length c.requires.ports ∙ length-ports in let n = c.requires.number in omega (arith, l, n)

pub returns : goal.returns
returns c =
    let l = ap length c.requires.ports ∙ length-ports in
    let n = c.requires.number in
    let low : c.args.number < length c.args.places.now = omega (arith, l, n) in
    get_or_read c.args.places.now _ _ low c.index-places-number.is 0 ∙ ap (λ ps. get_or ps c.args.number 0) c.requires.ports
