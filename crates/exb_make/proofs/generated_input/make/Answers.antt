use Rattle.std.proofs.Common.{◌≡◌, ◌∙◌, List, [], map, length, Ok, All, AllPairs, arith, sym, ap, subst}
use Rattle.std.proofs.lemmas.List.{length-map}
use Rattle.exb_model.specs.declared.setup.Timed.{Timed}
use Rattle.exb_model.specs.Input.{given_by, tree_of}
use Rattle.exb_model.specs.Setup.{IsValid, NamesExternal, shape_of}
use Rattle.exb_make.specs.Draws.{generator_of}
use Rattle.exb_make.specs.GeneratedTree.{setup_with}
use Rattle.exb_make.specs.DrawOrder.{Frame}
use Rattle.exb_make.specs.GeneratedInputs.{Drawn, all_drawn, made, records_at}
use Rattle.exb_make.specs.GeneratedParts.{frame_of, IsPlayable}
use Rattle.exb_make.proofs.GeneratedTree.{ports-of, length-ports}
use Rattle.exb_make.proofs.ArrivingFrames.{all_playable, length-frames}
use Rattle.exb_make.proofs.CaptureList.{all_external_ports, all_whole}
use Rattle.exb_make.proofs.AllDraws.{Later, all_plain, all_named, all_rise, length-orders}
use Rattle.exb_make.proofs.generated_input.make.Goals as goal

pub captures-requires : goal.captures-requires
captures-requires c =
    let g = generator_of c.args.number in
    subst (All IsPlayable) (sym (ap (map frame_of) c.as_slice-2.ensures.value ∙ ap (λ (d : Drawn). d.frames) c.in_ok-start.ensures)) (all_playable g)

pub returns-clause-valid : goal.returns-clause-valid
unfolding made
returns-clause-valid c =
    subst IsValid (sym (c.in_ok-setup.ensures ∙ ap (λ (d : Drawn). setup_with d.start) c.in_ok-start.ensures)) (c.made_is_valid.ensures c.args.number)

pub returns-clause-setup : goal.returns-clause-setup
unfolding made
returns-clause-setup c = c.in_ok-setup.ensures ∙ ap (λ (d : Drawn). setup_with d.start) c.in_ok-start.ensures

pub returns-clause-commands : goal.returns-clause-commands
unfolding made
returns-clause-commands c = ap (λ (d : Drawn). map given_by d.commands) c.in_ok-start.ensures

pub returns-clause-no_fate : goal.returns-clause-no_fate
returns-clause-no_fate c =
    subst (All (λ (t : Timed). t.fate ≡ [])) (sym (ap (λ (d : Drawn). d.commands) c.in_ok-start.ensures)) (all_plain (generator_of c.args.number))

pub returns-clause-named : goal.returns-clause-named
unfolding made
returns-clause-named c =
    let g = generator_of c.args.number in
    subst (All (λ (t : Timed). NamesExternal (shape_of (setup_with (all_drawn g).start)) t.command)) (sym (ap (λ (d : Drawn). d.commands) c.in_ok-start.ensures)) (all_named g)

pub returns-clause-few : goal.returns-clause-few
returns-clause-few c = ap (λ (d : Drawn). length d.commands) c.in_ok-start.ensures ∙ length-orders (generator_of c.args.number)

pub returns-clause-rising : goal.returns-clause-rising
returns-clause-rising c = subst (AllPairs Later) (sym (ap (λ (d : Drawn). d.commands) c.in_ok-start.ensures)) (all_rise (generator_of c.args.number))

pub returns-clause-captures : goal.returns-clause-captures
unfolding made
returns-clause-captures c =
    let d = all_drawn (generator_of c.args.number) in
    c.in_ok-captures.ensures.read
    ∙ (ap (λ (fs : List Frame). map (λ q. (q, Ok (records_at fs q))) c.as_slice-3.result.now)
    (ap (map frame_of) c.as_slice-2.ensures.value ∙ ap (λ (x : Drawn). x.frames) c.in_ok-start.ensures)
    ∙ ap (map (λ q. (q, Ok (records_at d.frames q)))) (c.as_slice-3.ensures.value ∙ (c.in_ok-places.ensures ∙ ports-of d.start)))

pub returns-clause-external : goal.returns-clause-external
returns-clause-external c = all_external_ports (tree_of (made c.args.number)) (made c.args.number).records c.in_ok-captures.captures.items (returns-clause-captures c)

pub returns-clause-whole : goal.returns-clause-whole
returns-clause-whole c = all_whole (tree_of (made c.args.number)) (made c.args.number).records c.in_ok-captures.captures.items (returns-clause-captures c)

pub returns-clause-small : goal.returns-clause-small
returns-clause-small c =
    let s = c.in_ok-captures.ensures.small in
    let f = ap (λ (x : Drawn). length x.frames) c.in_ok-start.ensures ∙ length-frames (generator_of c.args.number) in
    let m = length-map c.in_ok-start.field-0.arrived.items frame_of in
    let a : length c.as_slice-2.result.now ≡ 1000 = ap length c.as_slice-2.ensures.value ∙ (sym m ∙ f) in
    let p : length c.as_slice-3.result.now ≡ 46 = ap length c.as_slice-3.ensures.value ∙ (ap length c.in_ok-places.ensures ∙ length-ports) in
    let few = rw (a, p) at s in
    omega (arith, few)
