use Rattle.std.proofs.Common.{◌==◌, ap, get_or, ◌-◌, ◌∙◌}
use Rattle.std.specs.Int.{bit_at}
use Rattle.exb_wire_tests.proofs.PlainLemmas.{lists_pair}
use Rattle.exb_wire_tests.proofs.plain_tables.PlainTables.has_pair.Goals as goal

pub returns : goal.returns
returns c =
    c.pair_at.ensures
    ∙ ap (λ xs. bit_at (get_or xs c.args.ecid 0) (c.args.port - 1) == 1) c.as_slice.ensures.value
    ∙ lists_pair c.args.self.now c.self.inside.own.items c.self.inside.cascade.items c.self.inside.words.items c.args.ecid c.args.port c.self.view_is c.requires.port.0 c.requires.port.1
