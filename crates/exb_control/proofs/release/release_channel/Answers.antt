use Rattle.std.proofs.Common.{◌-◌, ◌==◌, ◌∙◌, ℕ, List, Option, None, cond, ap, sym, arith, nat_lt}
use Rattle.std.proofs.lemmas.Bool.{and_parts, ltb-true}
use Rattle.exb_numbers.specs.Channels.{holder}
use Rattle.exb_control_spec.specs.Plans.HeldNumbers.{is_place}
use Rattle.exb_control.proofs.FreedNumbers.{channel_left}
use Rattle.exb_control.proofs.release.release_channel.Goals as goal

pub returns-then-is_some-clause-held : goal.returns-then-is_some-clause-held
returns-then-is_some-clause-held c =
    let t = c.args.tree.now in
    let x = c.args.number.now in
    let parts = and_parts (nat_lt 0 x.bridge_port) (is_place t (x.bridge_port - 1)) (sym c.is_place.ensures ∙ c.if-not-is_place.false) in
    let low = ltb-true 0 x.bridge_port parts.0 in
    channel_left t c.args.spaces.now x c.release.new.self (omega (arith, low)) (c.requires.1.spaces (x.bridge_port - 1) ∙ parts.1)
    (λ e. c.release.ensures.holders e ∙ ap (λ (l : List (Option ℕ)). cond (e == x.number) None (holder l e)) c.channels_mut.ensures.value)
