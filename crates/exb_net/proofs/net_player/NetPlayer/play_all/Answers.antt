use Rattle.std.proofs.Common.{ℕ, List, Option, Err, ap, subst, ◌∙◌, arith, refl}
use Rattle.std.proofs.lemmas.Result.{err_from_is_err_and}
use Rattle.exb_model.specs.Input.{second_of}
use Rattle.exb_timeline.specs.declared.net_timeline.NetNext.{NetNext}
use Rattle.exb_timeline.specs.NetMergeOrder.{AreAllReplays, IsFirstOf, all_ids, programmes_in}
use Rattle.exb_timeline.specs.Streams.{Stream}
use Rattle.exb_inputs.specs.Answers.{fault_of}
use Rattle.exb_inputs.specs.ShelfEffects.{OnlyReads}
use Rattle.exb_inputs.proofs.Outcomes.{some_at}
use Rattle.exb_inputs.proofs.ShelfEffects.{counts_as, counts_from, fewer_same, fewer_then}
use Rattle.exb_outputs.specs.Manifests.{Listed}
use Rattle.exb_outputs.proofs.ShelfEffects.{fault_counts, is_writing}
use Rattle.exb_net.specs.WrittenOutputs.{OnlyWritesAll, manifests_in}
use Rattle.exb_net.specs.ShelfEffects.{IsOfCaptures}
use Rattle.exb_net.proofs.NextEvents.{all-told, cut-read, few-orders, is-due, ports-on, ready-on, rests-on, seconds-few, within-paid}
use Rattle.exb_net.proofs.NetEnd.{can-end}
use Rattle.exb_net.proofs.ShelfEffects.{err-own, kept-all, net-goes-none, net-goes-reading, net-goes-writing, writing-changed, writing-never, writing-play}
use Rattle.exb_net.proofs.net_player.NetPlayer.play_all.Goals as goal

pub events-init : goal.events-init
events-init g c = record {
  agenda = c.requires.agenda;
  rests = c.requires.rests;
  going = λ r start. start;
  budget = c.requires.budget;
  same = refl;
  manifests = refl;
  only = net-goes-none _ _ _ _ _;
  ports = λ b q has. has;
  faults = fewer_same _ _ refl;
  none_counted = refl;
}

pub seconds_since-seconds-requires : goal.seconds_since-seconds-requires
seconds_since-seconds-requires g c =
    let S = g.S.Shelf in
    let inv = c.events.invariant in
    let r = c.requires.going.0 in
    let d = c.in-Some.due in
    let old = programmes_in c.events.agenda in
    let ps = programmes_in c.next_due.new.agenda in
    let comes = some_at _ c.in_ok-due.field-0 d c.in-Some.is c.in_ok-due.ensures.coming in
    let order = λ (t : S.tells). subst (λ (o : Option NetNext). (streams : List (List Stream)) → AreAllReplays (S.file c.events.shelf) (S.ids c.events.shelf) old streams → IsFirstOf old streams o ps (λ rest. AreAllReplays (S.file c.next_due.new.shelf) (S.ids c.next_due.new.shelf) ps rest))
    c.in-Some.is (c.in_ok-due.ensures.order t) in
    seconds-few S.tells r (S.file c.next_due.new.shelf) (S.ids c.next_due.new.shelf) _ (second_of c.moment-second.result) c.events.self d ps
    (is-due S.tells r (S.file c.events.shelf) (S.file c.next_due.new.shelf) (S.ids c.events.shelf) (S.ids c.next_due.new.shelf) c.events.last c.events.self old d ps _ (second_of c.moment-second.result) (inv.going r c.requires.going.1) comes
    (c.agendas_stay.ensures.reads (S.ids c.events.shelf) c.events.agenda inv.agenda) c.next_due.ensures.reads order (ap second_of c.moment-second.ensures) refl)

pub turn-requires : goal.turn-requires
turn-requires g c =
    let S = g.S.Shelf in
    let inv = c.events.invariant in
    let r = c.requires.going.0 in
    let d = c.in-Some.due in
    let old = programmes_in c.events.agenda in
    let ps = programmes_in c.next_due.new.agenda in
    let second = second_of c.moment-second.result in
    let comes = some_at _ c.in_ok-due.field-0 d c.in-Some.is c.in_ok-due.ensures.coming in
    let order = λ (t : S.tells). subst (λ (o : Option NetNext). (streams : List (List Stream)) → AreAllReplays (S.file c.events.shelf) (S.ids c.events.shelf) old streams → IsFirstOf old streams o ps (λ rest. AreAllReplays (S.file c.next_due.new.shelf) (S.ids c.next_due.new.shelf) ps rest))
    c.in-Some.is (c.in_ok-due.ensures.order t) in
    record {
      due = (
        r,
        (
          second,
          (
            ps,
            (
              is-due S.tells r (S.file c.events.shelf) (S.file c.next_due.new.shelf) (S.ids c.events.shelf) (S.ids c.next_due.new.shelf) c.events.last c.events.self old d ps c.seconds_since-seconds.result second (inv.going r c.requires.going.1) comes
                  (c.agendas_stay.ensures.reads (S.ids c.events.shelf) c.events.agenda inv.agenda) c.next_due.ensures.reads order (ap second_of c.moment-second.ensures) c.seconds_since-seconds.ensures,
              (
                rests-on c.args.rests.now old d ps comes inv.rests,
                within-paid c.events.self.net.nodes.items (λ x. (goal.Fate-dyn g (x.fate.vtable, x.fate.value)).left x.fate.value) c.args.rests.now old d ps comes inv.rests inv.budget,
              ),
            ),
          ),
        ),
      );
    }

pub events-preserved : goal.events-preserved
events-preserved g c =
    let S = g.S.Shelf in
    let inv = c.events.invariant in
    let d = c.in-Some.due in
    let old = programmes_in c.events.agenda in
    let ps = programmes_in c.next_due.new.agenda in
    let second = second_of c.moment-second.result in
    let comes = some_at _ c.in_ok-due.field-0 d c.in-Some.is c.in_ok-due.ensures.coming in
    let order = λ (t : S.tells). subst (λ (o : Option NetNext). (streams : List (List Stream)) → AreAllReplays (S.file c.events.shelf) (S.ids c.events.shelf) old streams → IsFirstOf old streams o ps (λ rest. AreAllReplays (S.file c.next_due.new.shelf) (S.ids c.next_due.new.shelf) ps rest))
    c.in-Some.is (c.in_ok-due.ensures.order t) in
    let of = rests-on c.args.rests.now old d ps comes inv.rests in
    let manifests = manifests_in c.args.self.now.desks.items in
    let mine = all_ids (programmes_in c.args.agenda.now) in
    record {
      agenda = c.agendas_stay.ensures.stays (S.ids c.next_due.new.shelf) (S.ids c.turn.new.shelf) c.next_due.new.agenda (kept-all (S.ids c.next_due.new.shelf) (S.ids c.turn.new.shelf) c.turn.ensures.only.kept (all_ids ps)) c.in_ok-due.ensures.agenda;
      rests = of;
      going = λ r start.
          c.in_ok-turn.ensures.told r second ps
          (is-due S.tells r (S.file c.events.shelf) (S.file c.next_due.new.shelf) (S.ids c.events.shelf) (S.ids c.next_due.new.shelf) c.events.last c.events.self old d ps c.seconds_since-seconds.result second (inv.going r start) comes
          (c.agendas_stay.ensures.reads (S.ids c.events.shelf) c.events.agenda inv.agenda) c.next_due.ensures.reads order (ap second_of c.moment-second.ensures) c.seconds_since-seconds.ensures) of;
      budget = c.in_ok-turn.ensures.budget ps
          (within-paid c.events.self.net.nodes.items (λ x. (goal.Fate-dyn g (x.fate.vtable, x.fate.value)).left x.fate.value) c.args.rests.now old d ps comes inv.rests inv.budget);
      same = comes.ids ∙ inv.same;
      manifests = c.turn.ensures.manifests ∙ inv.manifests;
      only =
          net-goes-writing S.tells manifests mine _ _ _ _ _ _
          (net-goes-reading S.tells manifests mine _ _ _ _ _ _ inv.only
          (subst (λ (ks : List ℕ). OnlyReads ks (S.file c.events.shelf) (S.file c.next_due.new.shelf) (S.ids c.events.shelf) (S.ids c.next_due.new.shelf)) inv.same c.next_due.ensures.reads))
          (subst (λ (qs : List Listed). OnlyWritesAll S.tells qs (S.file c.next_due.new.shelf) (S.file c.turn.new.shelf) (S.ids c.next_due.new.shelf) (S.ids c.turn.new.shelf)) inv.manifests c.turn.ensures.only);
      ports = λ b q has. inv.ports b q (ports-on old d ps comes b q has);
      faults = fewer_then _ _ _ (fewer_then _ _ _ inv.faults c.next_due.ensures.faults.none_fell) c.turn.ensures.faults.none_fell;
      none_counted = c.in_ok-turn.ensures.faults.once ∙ c.in_ok-due.ensures.faults.once ∙ inv.none_counted;
    }

pub events-smaller : goal.events-smaller
events-smaller g c = (let comes = some_at _ c.in_ok-due.field-0 c.in-Some.due c.in-Some.is c.in_ok-due.ensures.coming in comes.left)

pub returns-clause-ready : goal.returns-clause-ready
returns-clause-ready g c =
    let S = g.S.Shelf in
    let inv = c.events.invariant in
    let going = inv.going c.requires.going.0 c.requires.going.1 in
    ready-on (S.ids c.events.shelf) (S.ids c.next_due.new.shelf) c.events.self.desks.items (all_ids (programmes_in c.events.agenda)) going.is.desks.ready (c.agendas_stay.ensures.reads (S.ids c.events.shelf) c.events.agenda inv.agenda) c.next_due.ensures.reads.reads

pub returns-clause-can : goal.returns-clause-can
returns-clause-can g c =
    let S = g.S.Shelf in
    let inv = c.events.invariant in
    let r = c.requires.going.0 in
    let going = inv.going r c.requires.going.1 in
    can-end S.tells r (S.file c.events.shelf) (S.ids c.events.shelf) c.events.self.desks.items going.is.desks going.dones going.is.noted c.events.self.net.came (let few = going.goes.few_bytes in omega (arith, few))
    (few-orders S.tells r (S.file c.events.shelf) (S.ids c.events.shelf) c.events.last c.events.self (programmes_in c.events.agenda) going)

pub returns-clause-told : goal.returns-clause-told
returns-clause-told g c t r start =
    let S = g.S.Shelf in
    let inv = c.events.invariant in
    let old = programmes_in c.events.agenda in
    let ps = programmes_in c.next_due.new.agenda in
    all-told S.tells r (S.file c.events.shelf) (S.file c.next_due.new.shelf) (S.ids c.events.shelf) (S.ids c.next_due.new.shelf) c.events.last c.events.self old (inv.going r start)
    (c.agendas_stay.ensures.reads (S.ids c.events.shelf) c.events.agenda inv.agenda) c.next_due.ensures.reads t
    (subst (λ (o : Option NetNext). (streams : List (List Stream)) → AreAllReplays (S.file c.events.shelf) (S.ids c.events.shelf) old streams → IsFirstOf old streams o ps (λ rest. AreAllReplays (S.file c.next_due.new.shelf) (S.ids c.next_due.new.shelf) ps rest))
    c.in_default.is (c.in_ok-due.ensures.order t))

pub returns-in_err-due-clause-cut : goal.returns-in_err-due-clause-cut
returns-in_err-due-clause-cut g c = λ t.
    let e = err_from_is_err_and c.from_residual.result c.from_residual.ensures.1 in
    rw e.1
    (λ r start.
    let S = g.S.Shelf in
    cut-read S.tells r (S.file c.events.shelf) (S.file c.next_due.new.shelf) (S.ids c.events.shelf) (S.ids c.next_due.new.shelf) _ c.events.last c.events.self (programmes_in c.events.agenda) t (c.events.invariant.going r start) c.next_due.ensures.reads)

pub returns-in_err-turn-clause-cut : goal.returns-in_err-turn-clause-cut
returns-in_err-turn-clause-cut g c = λ t.
    let e = err_from_is_err_and c.from_residual-in_err-turn.result c.from_residual-in_err-turn.ensures.1 in
    rw e.1
    (λ r start.
    let S = g.S.Shelf in
    let inv = c.events.invariant in
    let d = c.in-Some.due in
    let old = programmes_in c.events.agenda in
    let ps = programmes_in c.next_due.new.agenda in
    let second = second_of c.moment-second.result in
    let comes = some_at _ c.in_ok-due.field-0 d c.in-Some.is c.in_ok-due.ensures.coming in
    let order = λ (t : S.tells). subst (λ (o : Option NetNext). (streams : List (List Stream)) → AreAllReplays (S.file c.events.shelf) (S.ids c.events.shelf) old streams → IsFirstOf old streams o ps (λ rest. AreAllReplays (S.file c.next_due.new.shelf) (S.ids c.next_due.new.shelf) ps rest))
    c.in-Some.is (c.in_ok-due.ensures.order t) in
    c.in_err-turn.ensures.cut t r second ps
    (is-due S.tells r (S.file c.events.shelf) (S.file c.next_due.new.shelf) (S.ids c.events.shelf) (S.ids c.next_due.new.shelf) c.events.last c.events.self old d ps c.seconds_since-seconds.result second (inv.going r start) comes
    (c.agendas_stay.ensures.reads (S.ids c.events.shelf) c.events.agenda inv.agenda) c.next_due.ensures.reads order (ap second_of c.moment-second.ensures) c.seconds_since-seconds.ensures)
    (rests-on c.args.rests.now old d ps comes inv.rests))

pub returns-in_err-due-clause-never : goal.returns-in_err-due-clause-never
returns-in_err-due-clause-never g c t =
    let e = err_from_is_err_and c.from_residual.result c.from_residual.ensures.1 in
    rw (e.1, e.2)
    (λ change r start.
    let led = (c.events.invariant.going r start).leads t in
    c.in_err-due.ensures.never t change led.streams led.replays)

pub returns-in_err-turn-clause-never : goal.returns-in_err-turn-clause-never
returns-in_err-turn-clause-never g c t =
    let e = err_from_is_err_and c.from_residual-in_err-turn.result c.from_residual-in_err-turn.ensures.1 in
    rw (e.1, e.2) (λ change r start. writing-never (fault_of c.in_err-turn.field-0.0) (is_writing c.in_err-turn.field-0.0) change)

pub returns-in_err-due-clause-only : goal.returns-in_err-due-clause-only
returns-in_err-due-clause-only g c =
    let S = g.S.Shelf in
    let inv = c.events.invariant in
    net-goes-reading S.tells (manifests_in c.args.self.now.desks.items) (all_ids (programmes_in c.args.agenda.now)) _ _ _ _ _ _ inv.only
    (subst (λ (ks : List ℕ). OnlyReads ks (S.file c.events.shelf) (S.file c.next_due.new.shelf) (S.ids c.events.shelf) (S.ids c.next_due.new.shelf)) inv.same c.next_due.ensures.reads)

pub returns-clause-only : goal.returns-clause-only
returns-clause-only g c =
    let S = g.S.Shelf in
    let inv = c.events.invariant in
    net-goes-reading S.tells (manifests_in c.args.self.now.desks.items) (all_ids (programmes_in c.args.agenda.now)) _ _ _ _ _ _ inv.only
    (subst (λ (ks : List ℕ). OnlyReads ks (S.file c.events.shelf) (S.file c.next_due.new.shelf) (S.ids c.events.shelf) (S.ids c.next_due.new.shelf)) inv.same c.next_due.ensures.reads)

pub returns-in_err-turn-clause-only : goal.returns-in_err-turn-clause-only
returns-in_err-turn-clause-only g c =
    let S = g.S.Shelf in
    let inv = c.events.invariant in
    let manifests = manifests_in c.args.self.now.desks.items in
    let mine = all_ids (programmes_in c.args.agenda.now) in
    net-goes-writing S.tells manifests mine _ _ _ _ _ _
    (net-goes-reading S.tells manifests mine _ _ _ _ _ _ inv.only
    (subst (λ (ks : List ℕ). OnlyReads ks (S.file c.events.shelf) (S.file c.next_due.new.shelf) (S.ids c.events.shelf) (S.ids c.next_due.new.shelf)) inv.same c.next_due.ensures.reads))
    (subst (λ (qs : List Listed). OnlyWritesAll S.tells qs (S.file c.next_due.new.shelf) (S.file c.turn.new.shelf) (S.ids c.next_due.new.shelf) (S.ids c.turn.new.shelf)) inv.manifests c.turn.ensures.only)

pub returns-in_err-due-clause-changed : goal.returns-in_err-due-clause-changed
returns-in_err-due-clause-changed g c name p at =
    let e = err_from_is_err_and c.from_residual.result c.from_residual.ensures.1 in
    rw (e.1, e.2)
    (λ is.
    let own = c.in_err-due.ensures.changed name p at (ap Err (err-own _ _ is)) in
    record { bridge = own.bridge; rest = own.rest; is = own.is; called = own.called; has = c.events.invariant.ports own.bridge p own.has })

pub returns-in_err-turn-clause-changed : goal.returns-in_err-turn-clause-changed
returns-in_err-turn-clause-changed g c name p at =
    let e = err_from_is_err_and c.from_residual-in_err-turn.result c.from_residual-in_err-turn.ensures.1 in
    rw (e.1, e.2) (λ is. writing-changed (IsOfCaptures c.args.rests.now (programmes_in c.args.agenda.now)) (fault_of c.in_err-turn.field-0.0) (is_writing c.in_err-turn.field-0.0) name p at (err-own _ _ is))

pub returns-in_err-turn-clause-causes : goal.returns-in_err-turn-clause-causes
returns-in_err-turn-clause-causes g c =
    let e = err_from_is_err_and c.from_residual-in_err-turn.result c.from_residual-in_err-turn.ensures.1 in
    rw (e.1, e.2) (writing-play (fault_of c.in_err-turn.field-0.0) (is_writing c.in_err-turn.field-0.0))

pub returns-in_err-due-clause-faults : goal.returns-in_err-due-clause-faults
returns-in_err-due-clause-faults g c =
    let e = err_from_is_err_and c.from_residual.result c.from_residual.ensures.1 in
    rw (e.1, e.2) (counts_from _ _ _ _ c.events.invariant.none_counted (counts_as c.in_err-due.field-0.0 _ _ c.in_err-due.ensures.faults))

pub returns-in_err-turn-clause-faults : goal.returns-in_err-turn-clause-faults
returns-in_err-turn-clause-faults g c =
    let e = err_from_is_err_and c.from_residual-in_err-turn.result c.from_residual-in_err-turn.ensures.1 in
    rw (e.1, e.2) (counts_from _ _ _ _ (c.in_ok-due.ensures.faults.once ∙ c.events.invariant.none_counted) (fault_counts c.in_err-turn.field-0.0 _ _ c.in_err-turn.ensures.faults))
