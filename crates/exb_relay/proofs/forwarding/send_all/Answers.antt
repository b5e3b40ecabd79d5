use Rattle.std.proofs.Common.{◌≡◌, ◌∙◌, Some, None, sym, ap, arith}
use Rattle.std.specs.Option.{option_copied}
use Rattle.exb_model.specs.Ports.{port_in}
use Rattle.exb_model.specs.Frames.{destination}
use Rattle.exb_config.specs.Tables.{bridge_of}
use Rattle.exb_learn.specs.Entries.{look_of}
use Rattle.exb_relay.specs.declared.choice.EgressChoice.TheVariants as chosen
use Rattle.exb_relay.specs.Spaces.{numbers_of}
use Rattle.exb_relay.specs.Choices.{choice}
use Rattle.exb_relay.proofs.TargetChoice.{passes_long, choice_listed, choice_unlisted}
use Rattle.exb_relay.proofs.PortSends.{all_members, listed_members, learned_member}
use Rattle.exb_relay.proofs.forwarding.send_all.Goals as goal

pub destination-address-requires : goal.destination-address-requires
destination-address-requires c =
    let l = passes_long (bridge_of c.args.config.now) c.args.passed.now.source.port c.args.frame.now c.args.passed.now.vid c.requires.passes in omega (arith, l)

pub returns-in-Some : goal.returns-in-Some
returns-in-Some c =
    let b = bridge_of c.args.config.now in
    let look = look_of c.args.learned.now in
    let v = c.args.passed.now.vid in
    let is : choice b look v (destination c.args.frame.now) ≡ chosen.Listed c.in-Some.ports.now =
    ap (choice b look v) (sym c.destination-address.ensures) ∙ choice_listed b look v c.destination-address.result.0 c.in-Some.ports.now (sym c.entry.ensures ∙ ap option_copied c.in-Some.is) in
    c.send_to_chosen.ensures ∙
    listed_members c.args.tree.now b look (numbers_of c.args.spaces.now) c.args.frame.now v c.args.passed.now.source c.requires.source c.requires.present c.requires.passes c.in-Some.ports.now is

pub returns-in-Some-learned_port : goal.returns-in-Some-learned_port
returns-in-Some-learned_port c =
    let b = bridge_of c.args.config.now in
    let look = look_of c.args.learned.now in
    let v = c.args.passed.now.vid in
    let port = c.in-Some-learned_port.port in
    let is : choice b look v (destination c.args.frame.now) ≡ chosen.Learned port =
    ap (choice b look v) (sym c.destination-address.ensures)
    ∙ choice_unlisted b look v c.destination-address.result.0 (Some port) (sym c.entry.ensures ∙ ap option_copied c.in-None.is) (sym c.learned_port.ensures ∙ c.in-Some-learned_port.is) in
    c.send_to_learned.ensures ∙
    learned_member c.args.tree.now b look (numbers_of c.args.spaces.now) c.args.frame.now v c.args.passed.now.source c.requires.source c.requires.present c.requires.passes port c.is_tree.ensures c.requires.external is

pub returns-in-None-learned_port : goal.returns-in-None-learned_port
returns-in-None-learned_port c =
    let b = bridge_of c.args.config.now in
    let look = look_of c.args.learned.now in
    let v = c.args.passed.now.vid in
    let is : choice b look v (destination c.args.frame.now) ≡ chosen.All =
    ap (choice b look v) (sym c.destination-address.ensures)
    ∙ choice_unlisted b look v c.destination-address.result.0 None (sym c.entry.ensures ∙ ap option_copied c.in-None.is) (sym c.learned_port.ensures ∙ c.in-None-learned_port.is) in
    c.send_to_chosen-in-None-learned_port.ensures ∙
    all_members c.args.tree.now b look (numbers_of c.args.spaces.now) c.args.frame.now v c.args.passed.now.source c.requires.source c.requires.present c.requires.passes (port_in c.every_port.result) is c.every_port.ensures
