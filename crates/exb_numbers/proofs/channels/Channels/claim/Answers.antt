use Rattle.std.proofs.Common.{◌∙◌, ℕ, List, ap, subst, arith}
use Rattle.std.specs.Prelude.{Option}
use Rattle.exb_numbers.specs.Channels.{channel_of}
use Rattle.exb_numbers.proofs.ChannelTables.{own_is, lowest_at, lowest_full, claimed, IsNext}
use Rattle.exb_numbers.proofs.channels.Channels.claim.Goals as goal

pub returns-then-channel-len-clause-lowest : goal.returns-then-channel-len-clause-lowest
returns-then-channel-len-clause-lowest c =
    rw (← c.self.view_is) (lowest_full c.self.inside.ports.items c.self.inside.channels.items c.self.inside.free c.self.invariant (omega arith))

pub returns-clause-lowest : goal.returns-clause-lowest
returns-clause-lowest c =
    rw (← c.self.view_is) (lowest_at c.self.inside.ports.items c.self.inside.channels.items c.self.inside.free c.self.invariant (omega arith))

pub invariant_of-self : goal.invariant_of-self
invariant_of-self c =
    let n = c.next_free-self-inside.ensures in
    let P : List (Option ℕ) → Type 0 = λ ports. IsNext ports c.self.inside.free c.next_free-self-inside.result in
    let next = subst P c.as_slice.ensures.value (record { low = n.low; high = n.high; passed = n.passed; free = n.free }) in
    rw (c.number.ensures.value)
    (claimed c.self.inside.ports.items c.self.inside.channels.items c.self.inside.free c.args.port c.next_free-self-inside.result c.self.invariant (omega arith) c.number.ensures.range
    (own_is c.self.inside.ports.items c.self.inside.channels.items c.self.inside.free c.self.invariant c.args.port ∙ ap (λ (v : List (Option ℕ)). channel_of v c.args.port) c.self.view_is ∙ c.requires)
    next)
