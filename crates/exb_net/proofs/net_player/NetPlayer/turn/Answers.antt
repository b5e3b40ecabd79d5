use Rattle.std.proofs.Common.{◌+◌, ℕ, List, ap, sym, subst, ◌∙◌}
use Rattle.std.proofs.lemmas.Result.{on_err_weaker}
use Rattle.exb_inputs.proofs.Outcomes.{on_ok_by, when_ok}
use Rattle.exb_outputs.specs.Manifests.{Listed}
use Rattle.exb_net_laws.specs.NetRuns.{pass}
use Rattle.exb_net.specs.WrittenOutputs.{AreManifestsApart}
use Rattle.exb_net.specs.NetInvariants.{came_by}
use Rattle.exb_net.proofs.NetSteps.{are-more, can-note-all, cut-after, cut-noted, go-together, going-after}
use Rattle.exb_net.proofs.FateBounds.{falls_paid, falls_within, given_within, paid_at, paid_few}
use Rattle.exb_net.proofs.TimelineSteps.{tick-can}
use Rattle.exb_net.proofs.NetTurns.{HasTurned, can-turn, has-turned, nodes-few}
use Rattle.exb_net.proofs.net_player.NetPlayer.turn.Goals as goal

pub tick-requires-clause-opened : goal.tick-requires-clause-opened
tick-requires-clause-opened g c = λ awake. let t = c.requires.due in let p = t.1.1.1.0 in (t.0.net, (p.going.dones, (p.going.dones, p.going.is.playing)))

pub tick-requires-clause-can : goal.tick-requires-clause-can
tick-requires-clause-can g c =
    let S = g.S.Shelf in
    let t = c.requires.due in
    tick-can S.tells t.0 (S.file c.args.shelf.now) (S.ids c.args.shelf.now) c.args.seconds t.1.0 c.args.self.now c.args.due t.1.1.0 t.1.1.1.0

pub give-requires-clause-can : goal.give-requires-clause-can
give-requires-clause-can g c =
    let S = g.S.Shelf in
    let t = c.requires.due in
    let p = t.1.1.1.0 in
    let ok = sym c.is_err.ensures.value ∙ c.if-is_err.false in
    let dones = p.going.dones in
    let passes = when_ok c.tick.result ok c.tick.ensures.ok t.0.net dones dones p.going.is.playing in (
      t.0.net,
      (
        pass t.0.net c.args.seconds dones,
        (
          dones,
          can-turn S.tells t.0 (S.file c.args.shelf.now) (S.ids c.args.shelf.now) c.args.seconds t.1.0 c.args.self.now c.args.due t.1.1.0 p c.args.rests.now t.1.1.1.1.0 c.tick.new.self passes c.seconds_pass.ensures
              (when_ok c.tick.result ok c.tick.ensures.came),
        ),
      ),
    )

pub give-requires-clause-fates : goal.give-requires-clause-fates
give-requires-clause-fates g c =
    let S = g.S.Shelf in
    let t = c.requires.due in
    let p = t.1.1.1.0 in
    let ok = sym c.is_err.ensures.value ∙ c.if-is_err.false in
    let dones = p.going.dones in
    let passes = when_ok c.tick.result ok c.tick.ensures.ok t.0.net dones dones p.going.is.playing in
    let long = nodes-few S.tells t.0 (S.file c.args.shelf.now) (S.ids c.args.shelf.now) c.args.seconds t.1.0 c.args.self.now c.args.due t.1.1.0 p c.args.rests.now t.1.1.1.1.0 c.tick.new.self passes c.seconds_pass.ensures in
    let paid = falls_paid (λ x. (goal.Fate-dyn g (x.fate.vtable, x.fate.value)).left x.fate.value) c.args.self.now.net.nodes.items c.tick.new.self.nodes.items c.args.rests.now c.args.due t.1.1.0
    (when_ok c.tick.result ok c.tick.ensures.fates) t.1.1.1.1.1 in
    paid_few (λ x. (goal.Fate-dyn g (x.fate.vtable, x.fate.value)).left x.fate.value) c.tick.new.self.nodes.items c.args.rests.now c.args.due t.1.1.0 long paid

pub give-requires-clause-pays : goal.give-requires-clause-pays
give-requires-clause-pays g c x is =
    let S = g.S.Shelf in
    let t = c.requires.due in
    let p = t.1.1.1.0 in
    let ok = sym c.is_err.ensures.value ∙ c.if-is_err.false in
    let dones = p.going.dones in
    let passes = when_ok c.tick.result ok c.tick.ensures.ok t.0.net dones dones p.going.is.playing in
    let long = nodes-few S.tells t.0 (S.file c.args.shelf.now) (S.ids c.args.shelf.now) c.args.seconds t.1.0 c.args.self.now c.args.due t.1.1.0 p c.args.rests.now t.1.1.1.1.0 c.tick.new.self passes c.seconds_pass.ensures in
    let paid = falls_paid (λ x. (goal.Fate-dyn g (x.fate.vtable, x.fate.value)).left x.fate.value) c.args.self.now.net.nodes.items c.tick.new.self.nodes.items c.args.rests.now c.args.due t.1.1.0
    (when_ok c.tick.result ok c.tick.ensures.fates) t.1.1.1.1.1 in
    paid_at (λ x. (goal.Fate-dyn g (x.fate.vtable, x.fate.value)).left x.fate.value) c.tick.new.self.nodes.items c.args.rests.now c.args.due t.1.1.0 long paid c.args.due.bridge x is

pub note-requires-clause-ready : goal.note-requires-clause-ready
note-requires-clause-ready g c = c.requires.due.1.1.1.0.ready

pub note-requires-clause-apart : goal.note-requires-clause-apart
note-requires-clause-apart g c = (let was = c.requires.due.1.1.1.0.going.is.desks in subst (λ (qs : List Listed). AreManifestsApart qs) (sym was.manifests) was.apart)

pub note-requires-clause-can : goal.note-requires-clause-can
note-requires-clause-can g c =
    let S = g.S.Shelf in
    let t = c.requires.due in
    let p = t.1.1.1.0 in
    let ok = sym c.is_err.ensures.value ∙ c.if-is_err.false in
    let given = sym c.is_err-2.ensures.value ∙ c.if-is_err-2.false in
    let dones = p.going.dones in
    let passes = when_ok c.tick.result ok c.tick.ensures.ok t.0.net dones dones p.going.is.playing in
    let turned : HasTurned t.0 c.args.seconds c.args.due dones c.give.new.net =
    has-turned S.tells t.0 (S.file c.args.shelf.now) (S.ids c.args.shelf.now) c.args.seconds t.1.0 c.args.self.now c.args.due t.1.1.0 p c.args.rests.now t.1.1.1.1.0 c.tick.new.self passes c.seconds_pass.ensures c.give.new.net c.events_add_one.ensures
    (when_ok c.tick.result ok c.tick.ensures.came) (when_ok c.give.result given c.give.ensures.ok t.0.net (pass t.0.net c.args.seconds dones) dones) in
    can-note-all S.tells t.0 (S.file c.args.shelf.now) (S.ids c.args.shelf.now) c.args.seconds t.1.0 c.args.self.now c.args.due t.1.1.0 p turned.e turned.one turned.more c.give.new.net turned.playing c.steps_tell_passed.ensures

pub returns-clause-told : goal.returns-clause-told
returns-clause-told g c =
    on_ok_by c.note.result
    (λ get r second ps p of.
    let S = g.S.Shelf in
    let ok = sym c.is_err.ensures.value ∙ c.if-is_err.false in
    let given = sym c.is_err-2.ensures.value ∙ c.if-is_err-2.false in
    let dones = p.going.dones in
    let passes = when_ok c.tick.result ok c.tick.ensures.ok r.net dones dones p.going.is.playing in
    let came = when_ok c.tick.result ok c.tick.ensures.came in
    let turned : HasTurned r c.args.seconds c.args.due dones c.give.new.net =
    has-turned S.tells r (S.file c.args.shelf.now) (S.ids c.args.shelf.now) c.args.seconds second c.args.self.now c.args.due ps p c.args.rests.now of c.tick.new.self passes c.seconds_pass.ensures c.give.new.net c.events_add_one.ensures
    came (when_ok c.give.result given c.give.ensures.ok r.net (pass r.net c.args.seconds dones) dones) in
    let together = go-together S.tells r (S.file c.args.shelf.now) (S.ids c.args.shelf.now) c.args.seconds second c.args.self.now c.args.due ps p turned.e turned.one turned.more c.give.new.net turned.playing c.steps_tell_passed.ensures in
    let more = are-more S.tells r (S.file c.args.shelf.now) (S.ids c.args.shelf.now) c.args.seconds second c.args.self.now c.args.due ps p turned.e turned.one turned.more c.give.new.net turned.playing in
    going-after S.tells r (S.file c.args.shelf.now) (S.ids c.args.shelf.now) c.args.seconds second c.args.self.now c.args.due ps p turned.e turned.one turned.more c.agendas_stay.ensures.told c.note.new.self (S.file c.note.new.shelf) (S.ids c.note.new.shelf)
    (get _ c.note.ensures.playing r.net turned.e dones turned.playing) c.note.ensures.ready (get _ c.note.ensures.noted dones turned.e together more p.going.is.noted) c.note.ensures.manifests
    (get _ c.note.ensures.came ∙ when_ok c.give.result given c.give.ensures.came ∙ ap (λ (k : ℕ). k + came_by c.args.due.next) came) c.note.ensures.only)

pub returns-clause-budget : goal.returns-clause-budget
returns-clause-budget g c =
    on_ok_by c.note.result
    (λ get ps paid.
    let ok = sym c.is_err.ensures.value ∙ c.if-is_err.false in
    let given = sym c.is_err-2.ensures.value ∙ c.if-is_err-2.false in
    falls_within (λ x. (goal.Fate-dyn g (x.fate.vtable, x.fate.value)).left x.fate.value) c.give.new.net.nodes.items c.note.new.self.net.nodes.items ps (get _ c.note.ensures.fates)
    (given_within (λ x. (goal.Fate-dyn g (x.fate.vtable, x.fate.value)).left x.fate.value) c.tick.new.self.nodes.items c.give.new.net.nodes.items c.args.rests.now c.args.due ps (when_ok c.give.result given c.give.ensures.fates)
    (falls_paid (λ x. (goal.Fate-dyn g (x.fate.vtable, x.fate.value)).left x.fate.value) c.args.self.now.net.nodes.items c.tick.new.self.nodes.items c.args.rests.now c.args.due ps (when_ok c.tick.result ok c.tick.ensures.fates) paid)))

pub returns-then-is_err-clause-cut : goal.returns-then-is_err-clause-cut
returns-then-is_err-clause-cut g c = λ t r second ps p of. cut-noted g.S.Shelf.tells r (g.S.Shelf.file c.args.shelf.now) p.given p.last c.args.self.now p.old t p.going

pub returns-then-is_err-2-clause-cut : goal.returns-then-is_err-2-clause-cut
returns-then-is_err-2-clause-cut g c = λ t r second ps p of. cut-noted g.S.Shelf.tells r (g.S.Shelf.file c.args.shelf.now) p.given p.last c.args.self.now p.old t p.going

pub returns-clause-cut : goal.returns-clause-cut
returns-clause-cut g c = λ t. on_err_weaker c.note.result
    (λ cut r second ps p of.
    let S = g.S.Shelf in
    let ok = sym c.is_err.ensures.value ∙ c.if-is_err.false in
    let given = sym c.is_err-2.ensures.value ∙ c.if-is_err-2.false in
    let dones = p.going.dones in
    let passes = when_ok c.tick.result ok c.tick.ensures.ok r.net dones dones p.going.is.playing in
    let came = when_ok c.tick.result ok c.tick.ensures.came in
    let turned : HasTurned r c.args.seconds c.args.due dones c.give.new.net =
    has-turned S.tells r (S.file c.args.shelf.now) (S.ids c.args.shelf.now) c.args.seconds second c.args.self.now c.args.due ps p c.args.rests.now of c.tick.new.self passes c.seconds_pass.ensures c.give.new.net c.events_add_one.ensures
    came (when_ok c.give.result given c.give.ensures.ok r.net (pass r.net c.args.seconds dones) dones) in
    let together = go-together S.tells r (S.file c.args.shelf.now) (S.ids c.args.shelf.now) c.args.seconds second c.args.self.now c.args.due ps p turned.e turned.one turned.more c.give.new.net turned.playing c.steps_tell_passed.ensures in
    let more = are-more S.tells r (S.file c.args.shelf.now) (S.ids c.args.shelf.now) c.args.seconds second c.args.self.now c.args.due ps p turned.e turned.one turned.more c.give.new.net turned.playing in
    cut-after S.tells r (S.file c.args.shelf.now) (S.ids c.args.shelf.now) c.args.seconds second c.args.self.now c.args.due ps p turned.e turned.one turned.more t (S.file c.note.new.shelf) (cut dones turned.e together more p.going.is.noted)
    (c.note.ensures.only.others t))
    (c.note.ensures.cut t)
