use Rattle.std.proofs.Common.{◌+◌, drop, sym, ◌∙◌, ap}
use Rattle.exb_audit.proofs.TextCuts.{item_first}
use Rattle.exb_trace_spec.specs.Rule5Relays.{entries}
use Rattle.exb_audit.proofs.Rule5Relays.{some_entry, get_item}
use Rattle.exb_audit.proofs.rule5_relays.first_entry.Goals as goal

pub returns-then-is_entry_line : goal.returns-then-is_entry_line
returns-then-is_entry_line c = record {
  line = c.index-lines-i.result;
  at = get_item c.args.lines.now c.loop-i.i c.index-lines-i.result c.index-lines-i.is c.loop-i-test.true;
  entry = sym c.is_entry_line.ensures ∙ c.if-is_entry_line.true;
  is = sym c.loop-i.invariant ∙ ap entries (item_first c.args.lines.now c.loop-i.i c.index-lines-i.result c.index-lines-i.is c.loop-i-test.true) ∙ some_entry c.index-lines-i.result (drop (c.loop-i.i + 1) c.args.lines.now) (sym c.is_entry_line.ensures ∙ c.if-is_entry_line.true);
}
