use Rattle.std.proofs.Common.{refl, sym, ◌∙◌, arith}
use Rattle.exb_wire_tests.proofs.PlainLemmas.{port_parts, channel_small, created_pairs}
use Rattle.exb_wire_tests.proofs.plain_tables.create.Goals as goal

pub returns-clause-done : goal.returns-clause-done
returns-clause-done c = λ _.
    let there = port_parts _ _ (sym c.is_port.ensures ∙ c.if-not-is_port.false) in
    record {
      port_there = there;
      channel_small = channel_small _ (sym c.is_channel.ensures ∙ c.if-not-is_channel.false);
      own_set = refl;
      cascade_set = refl;
      words_long = c.set_rows.auto.words;
      pairs = created_pairs _ _ _ _ there.0 (omega (arith, there.1, c.requires.few)) c.set_rows.ensures;
    }
