use Rattle.std.proofs.Common.{◌≡◌, true, ap, sym, ◌∙◌, arith}
use Rattle.exb_capture.specs.Formats.{at_place}
use Rattle.exb_capture.specs.Blocks.{most_held}
use Rattle.exb_capture.specs.ReaderMachine.{GoesOn, At, at_last, at_nothing}
use Rattle.exb_capture.proofs.ReaderLemmas.{none_stage, turned_at, same_state, passed_over, stage_is, owing_is, place_is, held_is, found_is}
use Rattle.exb_capture.proofs.reader.Reader.turn.Goals as goal

pub returns-in-Nothing-clause-value : goal.returns-in-Nothing-clause-value
returns-in-Nothing-clause-value g c =
    let s = c.self.inside.format in
    let st : c.args.self.now.stage ≡ At s = sym (stage_is _ _ c.self.view_is) ∙ none_stage c.self.inside.failed s c.in_default.not-Some in
    let gs : c.go.new.self.stage ≡ At s = stage_is _ _ c.go.ensures ∙ st in
    let owing = owing_is _ _ c.self-2.view_is in
    let look = c.in-Nothing.ensures s gs in
    c.at_last-in-Nothing.ensures.value
    ∙ ap (at_nothing most_held c.args.ended) (same_state c.go.new.self c.look.new.self s look.state look.is look.shows.same gs)
    ∙ turned_at g.F.Format.stands c.args.ended c.args.self.now c.go.new.self c.look.new.self s _ st c.go.ensures (omega (arith, owing, c.if-self-gt0.false)) look

pub returns-in-Short-clause-value : goal.returns-in-Short-clause-value
returns-in-Short-clause-value g c =
    let s = c.self.inside.format in
    let st : c.args.self.now.stage ≡ At s = sym (stage_is _ _ c.self.view_is) ∙ none_stage c.self.inside.failed s c.in_default.not-Some in
    let gs : c.go.new.self.stage ≡ At s = stage_is _ _ c.go.ensures ∙ st in
    let owing = owing_is _ _ c.self-2.view_is in
    let look = c.in-Short.ensures s gs in
    let place : c.at_last-in-Short.inside.place ≡ c.go.new.self.place = place_is _ _ (c.at_last-in-Short.view_is ∙ look.is) in
    let at : c.at_place.result ≡ at_place c.go.new.self.place c.in-Short.fault = c.at_place.ensures ∙ ap (λ p. at_place p c.in-Short.fault) place in
    c.at_last-in-Short-2.ensures.value
    ∙ ap (λ f. at_last most_held c.args.ended f c.look.new.self) at
    ∙ ap (at_last most_held c.args.ended (at_place c.go.new.self.place c.in-Short.fault)) (same_state c.go.new.self c.look.new.self s look.state look.is look.shows.same gs)
    ∙ turned_at g.F.Format.stands c.args.ended c.args.self.now c.go.new.self c.look.new.self s _ st c.go.ensures (omega (arith, owing, c.if-self-gt0.false)) look

pub returns-in-Bad-clause-value : goal.returns-in-Bad-clause-value
returns-in-Bad-clause-value g c =
    let s = c.self.inside.format in
    let st : c.args.self.now.stage ≡ At s = sym (stage_is _ _ c.self.view_is) ∙ none_stage c.self.inside.failed s c.in_default.not-Some in
    let gs : c.go.new.self.stage ≡ At s = stage_is _ _ c.go.ensures ∙ st in
    let owing = owing_is _ _ c.self-2.view_is in
    let look = c.in-Bad.ensures s gs in
    let place : c.at_last-in-Bad.inside.place ≡ c.go.new.self.place = place_is _ _ (c.at_last-in-Bad.view_is ∙ look.is) in
    let at : c.at_place-in-Bad.result ≡ at_place c.go.new.self.place c.in-Bad.fault = c.at_place-in-Bad.ensures ∙ ap (λ p. at_place p c.in-Bad.fault) place in
    c.at_last-in-Bad-2.ensures.value
    ∙ ap (λ f. at_last most_held true f c.look.new.self) at
    ∙ ap (at_last most_held true (at_place c.go.new.self.place c.in-Bad.fault)) (same_state c.go.new.self c.look.new.self s look.state look.is look.shows.same gs)
    ∙ turned_at g.F.Format.stands c.args.ended c.args.self.now c.go.new.self c.look.new.self s _ st c.go.ensures (omega (arith, owing, c.if-self-gt0.false)) look

pub returns-in-Over-clause-value : goal.returns-in-Over-clause-value
returns-in-Over-clause-value g c =
    let s = c.self.inside.format in
    let st : c.args.self.now.stage ≡ At s = sym (stage_is _ _ c.self.view_is) ∙ none_stage c.self.inside.failed s c.in_default.not-Some in
    let gs : c.go.new.self.stage ≡ At s = stage_is _ _ c.go.ensures ∙ st in
    let owing = owing_is _ _ c.self-2.view_is in
    let look = c.in-Over.ensures s gs in
    ap GoesOn (passed_over c.go.new.self c.look.new.self c.pass.new.self s look.state c.in-Over.n look.is c.pass.ensures)
    ∙ turned_at g.F.Format.stands c.args.ended c.args.self.now c.go.new.self c.look.new.self s _ st c.go.ensures (omega (arith, owing, c.if-self-gt0.false)) look

pub returns-in-Holds-clause-value : goal.returns-in-Holds-clause-value
returns-in-Holds-clause-value g c =
    let s = c.self.inside.format in
    let st : c.args.self.now.stage ≡ At s = sym (stage_is _ _ c.self.view_is) ∙ none_stage c.self.inside.failed s c.in_default.not-Some in
    let gs : c.go.new.self.stage ≡ At s = stage_is _ _ c.go.ensures ∙ st in
    let owing = owing_is _ _ c.self-2.view_is in
    let look = c.in-Holds.ensures s gs in
    found_is c.in-Holds.seen _ _
    (passed_over c.go.new.self c.look.new.self c.pass-in-Holds.new.self s look.state c.in-Holds.size look.is c.pass-in-Holds.ensures)
    ∙ turned_at g.F.Format.stands c.args.ended c.args.self.now c.go.new.self c.look.new.self s _ st c.go.ensures (omega (arith, owing, c.if-self-gt0.false)) look

pub returns-in-Holds-clause-held : goal.returns-in-Holds-clause-held
returns-in-Holds-clause-held g c =
    let s = c.self.inside.format in
    let st : c.args.self.now.stage ≡ At s = sym (stage_is _ _ c.self.view_is) ∙ none_stage c.self.inside.failed s c.in_default.not-Some in
    let gs : c.go.new.self.stage ≡ At s = stage_is _ _ c.go.ensures ∙ st in
    let look = c.in-Holds.ensures s gs in
    let held = held_is _ _ (passed_over c.go.new.self c.look.new.self c.pass-in-Holds.new.self s look.state c.in-Holds.size look.is c.pass-in-Holds.ensures) in
    record { there = omega (arith, held, look.shows.within.whole, look.shows.within.there); in_time = look.shows.within.in_time; short = look.shows.within.short }
