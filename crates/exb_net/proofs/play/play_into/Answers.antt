use Rattle.std.proofs.Common.{◌∙◌, List, Err, ap, sym, subst}
use Rattle.std.proofs.lemmas.Result.{err_from_is_err_and, on_err_weaker}
use Rattle.exb_inputs.specs.declared.fault.Fault.{Fault}
use Rattle.exb_inputs.specs.declared.fault.Fault.TheVariants.{MemberChanged}
use Rattle.exb_inputs.proofs.Outcomes.{files_same, if_err_map, if_ok_map}
use Rattle.exb_timeline.specs.NetMergeOrder.{all_ids, programmes_in}
use Rattle.exb_net_file.specs.declared.net_parts.BridgeInputs.{BridgeInputs}
use Rattle.exb_shelf.specs.Files.{Files}
use Rattle.exb_net.specs.Nets.{net_of}
use Rattle.exb_net.specs.Preparation.{IsToBeOpened, run_of}
use Rattle.exb_net.specs.NetInvariants.{AreOfRests, IsCutOff}
use Rattle.exb_net.proofs.ReadyNets.{as_many, fates_few, into_can, opens_on, within_of}
use Rattle.exb_net.proofs.PreparedFiles.{cut_unopened}
use Rattle.exb_net.proofs.PreparationLemmas.{net_is, setup_of}
use Rattle.exb_net.proofs.ShelfEffects.{err-own}
use Rattle.exb_net.proofs.play.play_into.Goals as goal

pub open_agenda-requires : goal.open_agenda-requires
open_agenda-requires g c =
    let t = c.requires.prepared in
    let p = t.1.1.1.1 in
    record { read = (t.1.0, (t.1.1.0, record { rests_are = c.as_slice-rests.ensures ∙ p.parts_are.rests; read = p.read; checked_are = p.checked_are })) }

pub new-requires-clause-net : goal.new-requires-clause-net
new-requires-clause-net g c =
    let t = c.requires.prepared in
    let p = t.1.1.1.1 in
    let f = g.S.Shelf.file c.args.shelf.now in
    (net_of t.1.0 t.1.1.0 f, (setup_of t.1.0 t.1.1.0 f c.args.parts.now p.parts_are, net_is t.1.0 t.1.1.0 f c.inputs_are_of_members.ensures p.read))

pub new-requires-clause-whole : goal.new-requires-clause-whole
new-requires-clause-whole g c =
    let p = c.requires.prepared.1.1.1.1 in
    c.requires.fates.long ∙ as_many c.requires.prepared.1.0 c.args.parts.now c.requires.prepared.1.1.0 p.parts_are

pub new-requires-clause-few : goal.new-requires-clause-few
new-requires-clause-few g c =
    let p = c.requires.prepared.1.1.1.1 in
    fates_few c.requires.prepared.1.0 c.args.parts.now.rests p.parts_are.rests p.read.sound (λ f. (goal.Fate-dyn g (f.vtable, f.value)).left f.value) c.args.fates.items c.requires.fates

pub play_agenda-requires-clause-can : goal.play_agenda-requires-clause-can
play_agenda-requires-clause-can g c =
    let S = g.S.Shelf in
    let t = c.requires.prepared in
    let p = t.1.1.1.1 in
    let old = S.file c.args.shelf.now in
    let now = S.file c.open_agenda.new.shelf in
    let opened : IsToBeOpened S.tells t.1.0 t.1.1.0 c.as_slice-rests.result.now old c.args.checked.now = record { rests_are = c.as_slice-rests.ensures ∙ p.parts_are.rests; read = p.read; checked_are = p.checked_are } in (
      run_of t.0 t.1.0 t.1.1.0 old t.1.1.1.0,
      into_can c.inputs_are_of_members.ensures c.nets_are_timely.ensures S.tells t.0 t.1.0 t.1.1.0 c.args.parts.now c.args.checked.now t.1.1.1.0 old now (S.ids c.args.shelf.now) (S.ids c.open_agenda.new.shelf) c.args.desks.items
          (programmes_in c.in_ok-agenda.agenda) c.in-Ok.net p c.open_agenda.ensures.files (c.open_agenda.ensures.opens t.1.0 opened.rests_are) (c.in_ok-agenda.ensures.named t.1.0 opened.rests_are) (c.in_ok-agenda.ensures.begins t.1.0 t.1.1.0 opened)
          (λ s. c.in_ok-agenda.ensures.leads s t.1.0 t.1.1.0 opened) c.in-Ok.ensures.begun,
    )

pub play_agenda-requires-clause-budget : goal.play_agenda-requires-clause-budget
play_agenda-requires-clause-budget g c =
    let S = g.S.Shelf in
    let t = c.requires.prepared in
    let p = t.1.1.1.1 in
    let old = S.file c.args.shelf.now in
    let opened : IsToBeOpened S.tells t.1.0 t.1.1.0 c.as_slice-rests.result.now old c.args.checked.now = record { rests_are = c.as_slice-rests.ensures ∙ p.parts_are.rests; read = p.read; checked_are = p.checked_are } in
    let begins = c.in_ok-agenda.ensures.begins t.1.0 t.1.1.0 opened in
    within_of t.1.0 c.args.parts.now.rests p.parts_are.rests p.read.sound (λ x. (goal.Fate-dyn g (x.fate.vtable, x.fate.value)).left x.fate.value) (λ f. (goal.Fate-dyn g (f.vtable, f.value)).left f.value) c.args.fates.items
    c.in-Ok.net.nodes.items (programmes_in c.in_ok-agenda.agenda) c.requires.fates c.in-Ok.ensures.fates (subst (λ (xs : List BridgeInputs). AreOfRests xs (programmes_in c.in_ok-agenda.agenda)) c.as_slice-rests.ensures c.in_ok-agenda.ensures.rests)
    (λ b q is. (begins.each b q is).taken)

pub returns-clause-done : goal.returns-clause-done
returns-clause-done g c tells =
    let S = g.S.Shelf in
    let old = S.file c.args.shelf.now in
    if_ok_map c.play_agenda.result
    (λ line wrote counters ms ws before p.
    let opened : IsToBeOpened S.tells ms ws c.as_slice-rests.result.now old c.args.checked.now = record { rests_are = c.as_slice-rests.ensures ∙ p.parts_are.rests; read = p.read; checked_are = p.checked_are } in
    wrote (run_of counters ms ws old before)
    (into_can c.inputs_are_of_members.ensures c.nets_are_timely.ensures S.tells counters ms ws c.args.parts.now c.args.checked.now before old (S.file c.open_agenda.new.shelf) (S.ids c.args.shelf.now) (S.ids c.open_agenda.new.shelf) c.args.desks.items
    (programmes_in c.in_ok-agenda.agenda) c.in-Ok.net p c.open_agenda.ensures.files (c.open_agenda.ensures.opens ms opened.rests_are) (c.in_ok-agenda.ensures.named ms opened.rests_are) (c.in_ok-agenda.ensures.begins ms ws opened)
    (λ s. c.in_ok-agenda.ensures.leads s ms ws opened) c.in-Ok.ensures.begun))
    (c.play_agenda.ensures.done tells)

pub returns-clause-cut : goal.returns-clause-cut
returns-clause-cut g c tells =
    let S = g.S.Shelf in
    let old = S.file c.args.shelf.now in
    on_err_weaker c.play_agenda.result
    (λ cut counters ms ws before p.
    let opened : IsToBeOpened S.tells ms ws c.as_slice-rests.result.now old c.args.checked.now = record { rests_are = c.as_slice-rests.ensures ∙ p.parts_are.rests; read = p.read; checked_are = p.checked_are } in
    cut (run_of counters ms ws old before)
    (into_can c.inputs_are_of_members.ensures c.nets_are_timely.ensures S.tells counters ms ws c.args.parts.now c.args.checked.now before old (S.file c.open_agenda.new.shelf) (S.ids c.args.shelf.now) (S.ids c.open_agenda.new.shelf) c.args.desks.items
    (programmes_in c.in_ok-agenda.agenda) c.in-Ok.net p c.open_agenda.ensures.files (c.open_agenda.ensures.opens ms opened.rests_are) (c.in_ok-agenda.ensures.named ms opened.rests_are) (c.in_ok-agenda.ensures.begins ms ws opened)
    (λ s. c.in_ok-agenda.ensures.leads s ms ws opened) c.in-Ok.ensures.begun))
    (c.play_agenda.ensures.cut tells)

pub returns-clause-never : goal.returns-clause-never
returns-clause-never g c tells =
    let S = g.S.Shelf in
    let t = c.requires.prepared in
    let p = t.1.1.1.1 in
    let old = S.file c.args.shelf.now in
    let opened : IsToBeOpened S.tells t.1.0 t.1.1.0 c.as_slice-rests.result.now old c.args.checked.now = record { rests_are = c.as_slice-rests.ensures ∙ p.parts_are.rests; read = p.read; checked_are = p.checked_are } in
    if_err_map c.play_agenda.result
    (λ fault never change.
    never change (run_of t.0 t.1.0 t.1.1.0 old t.1.1.1.0)
    (into_can c.inputs_are_of_members.ensures c.nets_are_timely.ensures S.tells t.0 t.1.0 t.1.1.0 c.args.parts.now c.args.checked.now t.1.1.1.0 old (S.file c.open_agenda.new.shelf) (S.ids c.args.shelf.now) (S.ids c.open_agenda.new.shelf) c.args.desks.items
    (programmes_in c.in_ok-agenda.agenda) c.in-Ok.net p c.open_agenda.ensures.files (c.open_agenda.ensures.opens t.1.0 opened.rests_are) (c.in_ok-agenda.ensures.named t.1.0 opened.rests_are) (c.in_ok-agenda.ensures.begins t.1.0 t.1.1.0 opened)
    (λ s. c.in_ok-agenda.ensures.leads s t.1.0 t.1.1.0 opened) c.in-Ok.ensures.begun))
    (c.play_agenda.ensures.never tells)

pub returns-clause-opens : goal.returns-clause-opens
returns-clause-opens g c = λ ms ws taken.
    let S = g.S.Shelf in
    let same = c.as_slice-rests.ensures ∙ taken.rests in
    opens_on ms (S.ids c.args.shelf.now) (S.ids c.open_agenda.new.shelf) (S.ids c.play_agenda.new.shelf) (all_ids (programmes_in c.in_ok-agenda.agenda)) (c.open_agenda.ensures.opens ms same) c.in_ok-agenda.ensures.fresh (c.in_ok-agenda.ensures.named ms same)
    c.play_agenda.ensures.only.reads

pub returns-clause-only : goal.returns-clause-only
returns-clause-only g c = λ t m away. c.play_agenda.ensures.only.others t m away ∙ c.open_agenda.ensures.files m

pub returns-clause-changed : goal.returns-clause-changed
returns-clause-changed g c = λ ms ws taken name p at is. c.in_ok-agenda.ensures.ports ms (c.as_slice-rests.ensures ∙ taken.rests) name p (c.play_agenda.ensures.changed name p at is)

-- ---- where nothing was played
pub returns-in_err-agenda-clause-cut : goal.returns-in_err-agenda-clause-cut
returns-in_err-agenda-clause-cut g c = λ t.
    let e = err_from_is_err_and c.from_residual.result c.from_residual.ensures.1 in
    rw e.1
    (λ counters ms ws before p.
    let S = g.S.Shelf in
    let old = S.file c.args.shelf.now in
    let new = S.file c.open_agenda.new.shelf in
    subst (λ (f : Files). IsCutOff (run_of counters ms ws old before) f) (sym (files_same old new c.open_agenda.ensures.files))
    (cut_unopened S.tells (run_of counters ms ws old before) old (S.ids c.args.shelf.now) c.args.desks.items t p.set p.noted))

pub returns-in_default-clause-cut : goal.returns-in_default-clause-cut
returns-in_default-clause-cut g c = λ t counters ms ws before p.
    let S = g.S.Shelf in
    let old = S.file c.args.shelf.now in
    let new = S.file c.open_agenda.new.shelf in
    subst (λ (f : Files). IsCutOff (run_of counters ms ws old before) f) (sym (files_same old new c.open_agenda.ensures.files))
    (cut_unopened S.tells (run_of counters ms ws old before) old (S.ids c.args.shelf.now) c.args.desks.items t p.set p.noted)

pub returns-in_err-agenda-clause-changed : goal.returns-in_err-agenda-clause-changed
returns-in_err-agenda-clause-changed g c =
    let e = err_from_is_err_and c.from_residual.result c.from_residual.ensures.1 in
    rw (e.1, e.2) (λ ms ws taken name p at is. c.in_err-agenda.ensures.changed ms (c.as_slice-rests.ensures ∙ taken.rests) name p at (ap (λ (x : Fault). Err x) (err-own c.in_err-agenda.field-0.0 (MemberChanged name p at) is)))
