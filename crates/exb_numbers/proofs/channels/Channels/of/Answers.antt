use Rattle.std.proofs.Common.{◌≡◌, ◌∙◌, ℕ, ◌≤◌, List, ap, sym, arith}
use Rattle.std.specs.Prelude.{Option, Some, None, IfSome}
use Rattle.exb_numbers.specs.Channels.{channel_of}
use Rattle.exb_numbers.proofs.ChannelTables.{own, own_is, own_range, read_is}
use Rattle.exb_numbers.proofs.channels.Channels.of.Goals as goal

-- what was read is the port's own
read : (c : goal.After-result-1) → c.index.result.now ≡ own c.self.inside.channels.items c.args.port
read c =
    let sized = c.self.invariant.sized in
    let range = c.number.ensures.range in
    let value = c.number.ensures.value in
    read_is c.self.inside.channels.items c.number.result c.index.result.now (omega arith) c.index.ensures ∙ ap (own c.self.inside.channels.items) value

pub returns-clause-value : goal.returns-clause-value
returns-clause-value c =
    read c ∙ own_is c.self.inside.ports.items c.self.inside.channels.items c.self.inside.free c.self.invariant c.args.port ∙ ap (λ (v : List (Option ℕ)). channel_of v c.args.port) c.self.view_is

pub returns-clause-range : goal.returns-clause-range
returns-clause-range c = by_own c.index.result.now (read c)
  where
    by_own : (o : Option ℕ) → o ≡ own c.self.inside.channels.items c.args.port → IfSome o (λ n. (1 ≤ n) × (n ≤ 4094))
    by_own None e = tt
    by_own (Some n) e = own_range c.self.inside.ports.items c.self.inside.channels.items c.self.inside.free c.self.invariant c.args.port n (sym e)
