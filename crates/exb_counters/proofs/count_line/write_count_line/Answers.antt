use Rattle.std.proofs.Common.{◌∷◌, ◌++◌, [], ◌∙◌, List, ℕ, ap}
use Rattle.std.specs.Prelude.{codes}
use Rattle.std.specs.Fmt.{decimal}
use Rattle.exb_model.specs.Texts.{port_name}
use Rattle.exb_counters.specs.Counters.{count_line}
use Rattle.exb_counters.proofs.LinePieces.{count_pieces}
use Rattle.exb_counters.proofs.count_line.write_count_line.Goals as goal

pub returns : goal.returns
unfolding count_line
returns c =
    let n = c.args.counts.now in
    c.in_ok-extend_from_slice.ensures.items
    ∙ ap (λ (l : List ℕ). c.args.text.now.items ++ l) (c.as_bytes.ensures.value ∙ c.in_ok-line.ensures.ok
    ∙ count_pieces (port_name c.args.port) (codes " relayed ") (decimal n.relayed) (codes " dropped ") (decimal n.dropped) (codes " ignored ") (decimal n.ignored)
    (codes " left ") (decimal n.left) (codes " octets ") (decimal n.octets) (10 ∷ []))
