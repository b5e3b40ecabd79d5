use Rattle.std.proofs.Common.{◌∙◌, List, ap, inl, inr, refl, ℕ}
use Rattle.std.specs.Prelude.{Option, None}
use Rattle.exb_numbers.specs.Channels.{is_used}
use Rattle.exb_numbers.proofs.ChannelTables.{held_by, holder_set, not_none, released, used_in}
use Rattle.exb_numbers.proofs.channels.Channels.release.Goals as goal

pub invariant_of-self : goal.invariant_of-self
invariant_of-self c =
    let inside = c.self.inside in
    let channel = c.args.channel in
    let used = ap (λ (v : List (Option ℕ)). is_used v channel) c.self.view_is ∙ c.requires in
    let held = held_by inside.ports.items channel c.in-Some.port c.index.result.now used c.index.ensures c.in-Some.is in
    rw c.number.ensures.value (released inside.ports.items inside.channels.items inside.free channel c.in-Some.port channel c.self.invariant held c.number.ensures.range (inl (c.if-channel-self.true, refl)))

pub invariant_of-self-else-channel-self : goal.invariant_of-self-else-channel-self
invariant_of-self-else-channel-self c =
    let inside = c.self.inside in
    let channel = c.args.channel in
    let used = ap (λ (v : List (Option ℕ)). is_used v channel) c.self.view_is ∙ c.requires in
    let held = held_by inside.ports.items channel c.in-Some.port c.index.result.now used c.index.ensures c.in-Some.is in
    rw c.number.ensures.value (released inside.ports.items inside.channels.items inside.free channel c.in-Some.port inside.free c.self.invariant held c.number.ensures.range (inr (c.if-channel-self.false, refl)))

pub returns-in_default : goal.returns-in_default
returns-in_default c =
    let used = ap (λ (v : List (Option ℕ)). is_used v c.args.channel) c.self.view_is ∙ c.requires in
    absurd (not_none c.self.inside.ports.items c.args.channel c.index.result.now used c.index.ensures c.in_default.is)

pub returns-then-channel-self : goal.returns-then-channel-self
returns-then-channel-self c =
    let used = ap (λ (v : List (Option ℕ)). is_used v c.args.channel) c.self.view_is ∙ c.requires in
    let within = used_in c.self.inside.ports.items c.args.channel used in
    rw (← c.self.view_is) (record { table = refl; holders = λ e. holder_set c.self.inside.ports.items c.args.channel None e within })

pub returns-else-channel-self : goal.returns-else-channel-self
returns-else-channel-self c =
    let used = ap (λ (v : List (Option ℕ)). is_used v c.args.channel) c.self.view_is ∙ c.requires in
    let within = used_in c.self.inside.ports.items c.args.channel used in
    rw (← c.self.view_is) (record { table = refl; holders = λ e. holder_set c.self.inside.ports.items c.args.channel None e within })
