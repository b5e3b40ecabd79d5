use Rattle.std.proofs.Common.{◌≡◌, ◌≤◌, true, false, ℕ, List, ◌∙◌, ap, arith, length, map, subst, sym}
use Rattle.std.specs.List.{AllByRecursion}
use Rattle.std.specs.Prelude.{AllPairs}
use Rattle.std.proofs.lemmas.Result.{err_from_is_err_and}
use Rattle.exb_model.specs.declared.setup.Timed.{Timed}
use Rattle.exb_topology_tables.specs.declared.elements.Named.{Named}
use Rattle.exb_timeline.specs.declared.capture_merge.CaptureMerge.{CaptureMerge}
use Rattle.exb_timeline.specs.NetMergeOrder.{all_ids, programmes_in}
use Rattle.exb_timeline.specs.CaptureMerges.{AreReplays, ids_in, left_in, standings}
use Rattle.exb_inputs.specs.ReplayStart.{stream_told}
use Rattle.exb_inputs.specs.Inputs.{is_named}
use Rattle.exb_inputs.specs.ShelfEffects.{ReadsCapture}
use Rattle.exb_inputs.proofs.ShelfEffects.{counts_memory, counts_ok}
use Rattle.exb_inputs.specs.NetRefusals.{member_fault}
use Rattle.exb_inputs.proofs.MemberFaults.{counts_so}
use Rattle.exb_shelf.specs.Shelf.{Opens}
use Rattle.exb_net.proofs.ReopenedCaptures.{Is, ids_stay, play_cause, play_change, play_named}
use Rattle.exb_net.proofs.preparation.open_bridge.Goals as goal

pub new-programme-requires : goal.new-programme-requires
new-programme-requires g c =
    let same = sym c.as_slice-in-Ok.ensures in
    record {
      start = c.requires.start;
      since = c.in-Ok.ensures.since c.args.start c.requires.since;
      few = subst (λ (cs : List Timed). length cs ≤ 65536) same c.requires.few;
      rising = subst (λ (cs : List Timed). AllPairs (λ a b. a.at ≤ b.at) cs) same c.requires.rising;
    }

pub add-requires : goal.add-requires
add-requires g c =
    let S = g.S.Shelf in
    let ids = S.ids c.open_all.new.shelf in
    record { programme = (ids, c.new-programme.ensures.opened ids c.in-Ok.ensures.opened); few = c.requires.room; room = (S.ids c.args.shelf.now, c.requires.agenda) }

pub returns-in_ok-add-in-Ok : goal.returns-in_ok-add-in-Ok
returns-in_ok-add-in-Ok g c =
    let S = g.S.Shelf in
    let given = S.ids c.args.shelf.now in
    let ids = S.ids c.open_all.new.shelf in
    let mine = all_ids (programmes_in c.args.agenda.now) in
    let p = c.new-programme.result in
    let same = c.new-programme.ensures.captures in
    let named = c.in-Ok.ensures.named in
    let own : AllByRecursion (λ (k : ℕ). ReadsCapture c.args.rest.now.captures (ids k)) (ids_in c.in-Ok.captures) = rw c.as_slice.ensures at named in
    let size = ap left_in same in
    let left = c.in-Ok.ensures.left in
    record {
      agenda = c.in_ok-add-in-Ok.ensures.agenda given ids c.requires.given (subst (λ (r : CaptureMerge). AllByRecursion (λ (k : ℕ). (given k).given ≡ false) (ids_in r)) (sym c.new-programme.ensures.captures) c.in-Ok.ensures.fresh)
          (c.agendas_stay.ensures.stays given ids c.args.agenda.now (ids_stay (ReadsCapture c.as_slice.result.now) given ids mine c.open_all.ensures.opens c.requires.given) c.requires.agenda)
          (c.new-programme.ensures.opened ids c.in-Ok.ensures.opened);
      programme = (
        p,
        c.in_ok-add-in-Ok.ensures.programmes,
        record {
          is = record {
            start_is = c.new-programme.ensures.start;
            commands_are = c.new-programme.ensures.commands ∙ c.as_slice-in-Ok.ensures;
            none = c.new-programme.ensures.taken;
            standing = ap standings same ∙ c.in-Ok.ensures.standings;
            left = omega (arith, size, left);
          };
          fresh = subst (λ (r : CaptureMerge). AllByRecursion (λ (k : ℕ). (given k).given ≡ false) (ids_in r)) (sym same) c.in-Ok.ensures.fresh;
          named = subst (λ (r : CaptureMerge). AllByRecursion (λ (k : ℕ). ReadsCapture c.args.rest.now.captures (ids k)) (ids_in r)) (sym same) own;
          streams = λ t. (let replays = c.in-Ok.ensures.streams t in
              let told = rw c.as_slice.ensures at replays in
              subst (λ (r : CaptureMerge). AreReplays (S.file c.open_all.new.shelf) ids r.sources.items (map (stream_told c.args.rest.now.captures (S.file c.args.shelf.now)) c.args.checked.now)) (sym same) told);
        },
      );
      never = λ tells. tt;
      opens = subst (λ (ns : List Named). Opens (ReadsCapture ns) given ids) c.as_slice.ensures c.open_all.ensures.opens;
      files = c.open_all.ensures.files;
      changed = tt;
      causes = tt;
      faults = counts_ok _ _ _ c.in-Ok.ensures.faults.once;
    }

-- memory ran out behind that
pub returns-in_err-add-in-Ok : goal.returns-in_err-add-in-Ok
returns-in_err-add-in-Ok g c =
    let S = g.S.Shelf in
    let e = err_from_is_err_and c.from_residual.result c.from_residual.ensures.1 in
    rw (e.1, e.2)
    (record {
      agenda = tt;
      programme = tt;
      never = λ tells change. change;
      opens = subst (λ (ns : List Named). Opens (ReadsCapture ns) (S.ids c.args.shelf.now) (S.ids c.open_all.new.shelf)) c.as_slice.ensures c.open_all.ensures.opens;
      files = c.open_all.ensures.files;
      changed = λ name p at is. absurd (cc);
      causes = tt;
      faults = counts_memory _ _ c.in-Ok.ensures.faults.once;
    })

-- the captures weren't opened
pub returns-in-Err : goal.returns-in-Err
returns-in-Err g c =
    let S = g.S.Shelf in
    let own = c.args.rest.now.name in
    let x = c.in-Err.fault in
    let y = c.of_member.result in
    let of = c.in-Err.ensures.causes in
    let is : Is y (member_fault own x) = subst (λ (name : List ℕ). Is y (member_fault name x)) c.as_str.ensures c.of_member.ensures.is in
    record {
      agenda = tt;
      programme = tt;
      never = λ tells change. c.in-Err.ensures.never tells (play_change own x y of is change);
      opens = subst (λ (ns : List Named). Opens (ReadsCapture ns) (S.ids c.args.shelf.now) (S.ids c.open_all.new.shelf)) c.as_slice.ensures c.open_all.ensures.opens;
      files = c.open_all.ensures.files;
      changed = λ name p at e.
          (let same = play_named own x y name p at of is e in (same.0, subst (λ (ns : List Named). is_named ns p ≡ true) c.as_slice.ensures (c.in-Err.ensures.port p at same.1)));
      causes = play_cause own x y of is;
      faults = counts_so x y _ _ c.of_member.ensures.counts c.in-Err.ensures.faults;
    }
