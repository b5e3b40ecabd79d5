use Rattle.std.proofs.Common.{◌≡◌, ◌∙◌, ◌<◌, ◌≤◌, ◌^◌, false, ℕ, List, [], Some, length, refl, subst, sym, arith}
use Rattle.std.specs.Prelude.{slice_get}
use Rattle.std.specs.List.{AllByRecursion}
use Rattle.std.proofs.lemmas.Result.{err_from_is_err_and}
use Rattle.exb_timeline.specs.declared.bridge_timeline.Timeline.{Timeline}
use Rattle.exb_timeline.specs.NetMergeOrder.{AreAllReplays, all_ids, programmes_in}
use Rattle.exb_shelf.specs.Files.{Files}
use Rattle.exb_shelf.proofs.IdLemmas.{opens_none}
use Rattle.exb_inputs.specs.declared.captures.CheckedCapture.{CheckedCapture}
use Rattle.exb_inputs.specs.declared.fault.Fault.TheVariants.{MemberChanged}
use Rattle.exb_inputs.specs.ReplayStart.{AreSince}
use Rattle.exb_inputs.specs.CaptureChecks.{AreChecked}
use Rattle.exb_inputs.proofs.Outcomes.{files_same}
use Rattle.exb_inputs.specs.OpenedNetFiles.{ReadsMemberCapture}
use Rattle.exb_inputs.proofs.PairedLists.{get_here}
use Rattle.exb_net.specs.ReopenedCaptures.{AreReopened, IsOpenedAgain, ReadsRest, start_of_told}
use Rattle.exb_net.proofs.NetStart.{as_many, in_time, leads}
use Rattle.exb_net.proofs.ReopenedBridges.{err_same, fresh_more, named_more, opens_more, opens_one, own_all, own_more, reads_given, room_left, told_all, told_more}
use Rattle.exb_net.proofs.BridgeTimelines.{begins, changed_at, has_capture_at, of_rests, opens_members, reads_member, reopened_long, starts_at, to_open}
use Rattle.exb_net.proofs.ReopenedCaptures.{all_weaker, since_start, start_fits}
use Rattle.exb_net.proofs.preparation.open_agenda.Goals as goal

pub loop-bridge-init : goal.loop-bridge-init
loop-bridge-init g c =
    let S = g.S.Shelf in
    let none = c.new-agenda.ensures.none in
    record {
      agenda = c.new-agenda.ensures.agenda (S.ids c.args.shelf.now);
      own = subst (λ (ps : List Timeline). AreReopened (start_of_told c.args.checked.now) [] [] ps) (sym none) tt;
      fresh = subst (λ (ps : List Timeline). AllByRecursion (λ (k : ℕ). (S.ids c.args.shelf.now k).given ≡ false) (all_ids ps)) (sym none) tt;
      named = subst (λ (ps : List Timeline). AllByRecursion (λ (k : ℕ). ReadsRest c.args.rests.now (S.ids c.args.shelf.now k)) (all_ids ps)) (sym none) tt;
      told = λ t. subst (λ (ps : List Timeline). AreAllReplays (S.file c.args.shelf.now) (S.ids c.args.shelf.now) ps []) (sym none) tt;
      opens = opens_none (ReadsRest c.args.rests.now) (S.ids c.args.shelf.now);
      files = λ n. refl;
      counted = refl;
    }

pub bounds-checked-bridge : goal.bounds-checked-bridge
bounds-checked-bridge g c =
    let many = as_many g.S.Shelf.tells c.requires.read.0 c.requires.read.1.0 c.args.rests.now (g.S.Shelf.file c.args.shelf.now) c.args.checked.now c.requires.read.1.1 in
    let long = many.0 in
    omega (arith, c.loop-bridge-test.true, long)

pub open_bridge-requires-clause-checked : goal.open_bridge-requires-clause-checked
open_bridge-requires-clause-checked g c =
    let S = g.S.Shelf in
    let f = S.file c.args.shelf.now in
    let now = S.file c.loop-bridge.shelf in
    let b = c.loop-bridge.bridge in
    let r = c.index-rests-bridge.result in
    let d = c.index-checked-bridge.result in
    let long = (as_many S.tells c.requires.read.0 c.requires.read.1.0 c.args.rests.now f c.args.checked.now c.requires.read.1.1).0 in
    let low : b < length c.args.rests.now = omega (arith, c.loop-bridge-test.true) in
    let under : b < length c.args.checked.now = omega (arith, low, long) in
    let at = to_open S.tells c.requires.read.0 c.requires.read.1.0 c.args.rests.now f c.args.checked.now b r d c.requires.read.1.1 (get_here c.args.rests.now b r low (sym c.index-rests-bridge.is)) (get_here c.args.checked.now b d under (sym c.index-checked-bridge.is)) in
    subst (λ (xs : List CheckedCapture). AreChecked S.tells r.captures now xs) (sym c.as_slice-captures.ensures.value)
    (subst (λ (file : Files). AreChecked S.tells r.captures file d.items) (sym (files_same f now c.loop-bridge.invariant.files)) at.checked)

pub open_bridge-requires-clause-start : goal.open_bridge-requires-clause-start
open_bridge-requires-clause-start g c =
    subst (λ (n : ℕ). n < 2 ^ 32) (sym c.start_of_all-start.ensures)
    (start_fits c.args.checked.now (in_time g.S.Shelf.tells (g.S.Shelf.file c.args.shelf.now) c.requires.read.0 c.args.checked.now c.requires.read.1.1.checked_are))

pub open_bridge-requires-clause-since : goal.open_bridge-requires-clause-since
open_bridge-requires-clause-since g c =
    let b = c.loop-bridge.bridge in
    let d = c.index-checked-bridge.result in
    let long = (as_many g.S.Shelf.tells c.requires.read.0 c.requires.read.1.0 c.args.rests.now (g.S.Shelf.file c.args.shelf.now) c.args.checked.now c.requires.read.1.1).0 in
    let under : b < length c.args.checked.now = omega (arith, c.loop-bridge-test.true, long) in
    subst (λ (n : ℕ). AreSince n c.as_slice-captures.result.now) (sym c.start_of_all-start.ensures)
    (subst (AreSince (start_of_told c.args.checked.now)) (sym c.as_slice-captures.ensures.value) (since_start c.args.checked.now b d (get_here c.args.checked.now b d under (sym c.index-checked-bridge.is))))

pub open_bridge-requires-clause-few : goal.open_bridge-requires-clause-few
open_bridge-requires-clause-few g c =
    let S = g.S.Shelf in
    let f = S.file c.args.shelf.now in
    let b = c.loop-bridge.bridge in
    let r = c.index-rests-bridge.result in
    let d = c.index-checked-bridge.result in
    let long = (as_many S.tells c.requires.read.0 c.requires.read.1.0 c.args.rests.now f c.args.checked.now c.requires.read.1.1).0 in
    let low : b < length c.args.rests.now = omega (arith, c.loop-bridge-test.true) in
    let under : b < length c.args.checked.now = omega (arith, low, long) in
    (to_open S.tells c.requires.read.0 c.requires.read.1.0 c.args.rests.now f c.args.checked.now b r d c.requires.read.1.1 (get_here c.args.rests.now b r low (sym c.index-rests-bridge.is)) (get_here c.args.checked.now b d under (sym c.index-checked-bridge.is))).few

pub open_bridge-requires-clause-rising : goal.open_bridge-requires-clause-rising
open_bridge-requires-clause-rising g c =
    let S = g.S.Shelf in
    let f = S.file c.args.shelf.now in
    let b = c.loop-bridge.bridge in
    let r = c.index-rests-bridge.result in
    let d = c.index-checked-bridge.result in
    let long = (as_many S.tells c.requires.read.0 c.requires.read.1.0 c.args.rests.now f c.args.checked.now c.requires.read.1.1).0 in
    let low : b < length c.args.rests.now = omega (arith, c.loop-bridge-test.true) in
    let under : b < length c.args.checked.now = omega (arith, low, long) in
    (to_open S.tells c.requires.read.0 c.requires.read.1.0 c.args.rests.now f c.args.checked.now b r d c.requires.read.1.1 (get_here c.args.rests.now b r low (sym c.index-rests-bridge.is)) (get_here c.args.checked.now b d under (sym c.index-checked-bridge.is))).rising

pub open_bridge-requires-clause-room : goal.open_bridge-requires-clause-room
open_bridge-requires-clause-room g c =
    let few = (as_many g.S.Shelf.tells c.requires.read.0 c.requires.read.1.0 c.args.rests.now (g.S.Shelf.file c.args.shelf.now) c.args.checked.now c.requires.read.1.1).1 in
    room_left (start_of_told c.args.checked.now) c.args.rests.now c.args.checked.now c.loop-bridge.bridge (programmes_in c.loop-bridge.agenda) (omega (arith, c.loop-bridge-test.true)) few c.loop-bridge.invariant.own

pub open_bridge-requires-clause-given : goal.open_bridge-requires-clause-given
open_bridge-requires-clause-given g c = reads_given c.args.rests.now (g.S.Shelf.ids c.loop-bridge.shelf) (all_ids (programmes_in c.loop-bridge.agenda)) c.loop-bridge.invariant.named

pub returns-in_err-open_bridge-clause-opens : goal.returns-in_err-open_bridge-clause-opens
returns-in_err-open_bridge-clause-opens g c = λ ms are.
    let S = g.S.Shelf in
    let b = c.loop-bridge.bridge in
    let r = c.index-rests-bridge.result in
    let low : b < length c.args.rests.now = omega (arith, c.loop-bridge-test.true) in
    opens_members ms c.args.rests.now (S.ids c.args.shelf.now) (S.ids c.open_bridge.new.shelf) are
    (opens_one c.args.rests.now b r (S.ids c.args.shelf.now) (S.ids c.loop-bridge.shelf) (S.ids c.open_bridge.new.shelf) (get_here c.args.rests.now b r low (sym c.index-rests-bridge.is)) c.loop-bridge.invariant.opens c.open_bridge.ensures.opens)

pub returns-in_err-open_bridge-clause-changed : goal.returns-in_err-open_bridge-clause-changed
returns-in_err-open_bridge-clause-changed g c =
    let b = c.loop-bridge.bridge in
    let r = c.index-rests-bridge.result in
    let x = c.in_err-open_bridge.field-0.0 in
    let low : b < length c.args.rests.now = omega (arith, c.loop-bridge-test.true) in
    let made = err_from_is_err_and c.from_residual.result c.from_residual.ensures.1 in
    rw (made.1, made.2) (λ ms are name p at e. changed_at ms c.args.rests.now b r name p are (get_here c.args.rests.now b r low (sym c.index-rests-bridge.is)) (c.in_err-open_bridge.ensures.changed name p at (err_same x (MemberChanged name p at) e)))

pub loop-bridge-preserved : goal.loop-bridge-preserved
loop-bridge-preserved g c =
    let S = g.S.Shelf in
    let inv = c.loop-bridge.invariant in
    let rests = c.args.rests.now in
    let checked = c.args.checked.now in
    let f = S.file c.args.shelf.now in
    let now = S.file c.loop-bridge.shelf in
    let later = S.file c.open_bridge.new.shelf in
    let given = S.ids c.args.shelf.now in
    let was = S.ids c.loop-bridge.shelf in
    let ids = S.ids c.open_bridge.new.shelf in
    let start = start_of_told checked in
    let b = c.loop-bridge.bridge in
    let r = c.index-rests-bridge.result in
    let d = c.index-checked-bridge.result in
    let ps = programmes_in c.loop-bridge.agenda in
    let more = programmes_in c.open_bridge.new.agenda in
    let one = c.in_ok-open_bridge.ensures.programme in
    let p = one.0 in
    let many = (as_many S.tells c.requires.read.0 c.requires.read.1.0 rests f checked c.requires.read.1.1).0 in
    let low : b < length rests = omega (arith, c.loop-bridge-test.true) in
    let under : b < length checked = omega (arith, low, many) in
    let r_is : slice_get rests b ≡ Some r = get_here rests b r low (sym c.index-rests-bridge.is) in
    let opens = c.open_bridge.ensures.opens in
    let same = c.open_bridge.ensures.files in
    let again : IsOpenedAgain S.tells start r d.items f later was ids p =
    subst (λ (n : ℕ). IsOpenedAgain S.tells n r d.items f later was ids p) c.start_of_all-start.ensures
    (subst (λ (xs : List CheckedCapture). IsOpenedAgain S.tells c.start_of_all-start.result r xs f later was ids p) c.as_slice-captures.ensures.value
    (subst (λ (file : Files). IsOpenedAgain S.tells c.start_of_all-start.result r c.as_slice-captures.result.now file later was ids p) (files_same f now inv.files) one.2)) in
    record {
      agenda = c.in_ok-open_bridge.ensures.agenda;
      own = own_more start rests checked b r d ps more p S.tells f later was ids low c.index-rests-bridge.is under c.index-checked-bridge.is one.1 again inv.own;
      fresh = fresh_more S.tells rests checked f now later given was ids start b r d ps more p r_is one.1 opens same again inv.opens inv.fresh;
      named = named_more S.tells rests checked f now later given was ids start b r d ps more p r_is one.1 opens same again inv.named;
      told = λ t. told_more S.tells rests checked f now later was ids start b r d ps more p c.agendas_stay.ensures.told c.agendas_stay.ensures.more t low c.index-rests-bridge.is under c.index-checked-bridge.is one.1 opens same again
          (reopened_long start _ _ ps inv.own).1 inv.named (inv.told t);
      opens = opens_more S.tells rests checked f now later given was ids start b r d ps more p r_is one.1 opens same again inv.opens;
      files = λ n. same n ∙ inv.files n;
      counted = c.in_ok-open_bridge.ensures.faults.once ∙ inv.counted;
    }

pub returns-clause-rests : goal.returns-clause-rests
returns-clause-rests g c =
    let S = g.S.Shelf in
    let rests = c.args.rests.now in
    let checked = c.args.checked.now in
    let ps = programmes_in c.loop-bridge.agenda in
    let long = (as_many S.tells c.requires.read.0 c.requires.read.1.0 rests (S.file c.args.shelf.now) checked c.requires.read.1.1).0 in
    let end : length rests ≤ c.loop-bridge.bridge = omega (arith, c.loop-bridge-test.false) in
    of_rests (start_of_told checked) rests checked ps (own_all (start_of_told checked) rests checked c.loop-bridge.bridge ps end long c.loop-bridge.invariant.own)

pub returns-clause-named : goal.returns-clause-named
returns-clause-named g c = λ ms are.
    let ids = g.S.Shelf.ids c.loop-bridge.shelf in
    all_weaker (λ (k : ℕ). ReadsRest c.args.rests.now (ids k)) (λ (k : ℕ). ReadsMemberCapture ms (ids k)) (all_ids (programmes_in c.loop-bridge.agenda)) (λ k own. reads_member ms c.args.rests.now are (ids k) own) c.loop-bridge.invariant.named

pub returns-clause-ports : goal.returns-clause-ports
returns-clause-ports g c = λ ms are name q of.
    let S = g.S.Shelf in
    let rests = c.args.rests.now in
    let checked = c.args.checked.now in
    let f = S.file c.args.shelf.now in
    let ps = programmes_in c.loop-bridge.agenda in
    let start = start_of_told checked in
    let to = c.requires.read.1.1 in
    let long = (as_many S.tells c.requires.read.0 c.requires.read.1.0 rests f checked to).0 in
    let end : length rests ≤ c.loop-bridge.bridge = omega (arith, c.loop-bridge-test.false) in
    has_capture_at S.tells c.requires.read.0 c.requires.read.1.0 rests f checked to start ps ms name q (own_all start rests checked c.loop-bridge.bridge ps end long c.loop-bridge.invariant.own) are of

pub returns-clause-begins : goal.returns-clause-begins
returns-clause-begins g c = λ ms ws to.
    let S = g.S.Shelf in
    let rests = c.args.rests.now in
    let checked = c.args.checked.now in
    let f = S.file c.args.shelf.now in
    let ps = programmes_in c.loop-bridge.agenda in
    let start = start_of_told checked in
    let long = (as_many S.tells ms ws rests f checked to).0 in
    let end : length rests ≤ c.loop-bridge.bridge = omega (arith, c.loop-bridge-test.false) in
    begins S.tells ms ws rests f checked to start ps (own_all start rests checked c.loop-bridge.bridge ps end long c.loop-bridge.invariant.own)

pub returns-clause-leads : goal.returns-clause-leads
returns-clause-leads g c = λ t ms ws to.
    let S = g.S.Shelf in
    let rests = c.args.rests.now in
    let checked = c.args.checked.now in
    let f = S.file c.args.shelf.now in
    let now = S.file c.loop-bridge.shelf in
    let ids = S.ids c.loop-bridge.shelf in
    let ps = programmes_in c.loop-bridge.agenda in
    let start = start_of_told checked in
    let long = (as_many S.tells ms ws rests f checked to).0 in
    let end : length rests ≤ c.loop-bridge.bridge = omega (arith, c.loop-bridge-test.false) in
    let own = own_all start rests checked c.loop-bridge.bridge ps end long c.loop-bridge.invariant.own in
    leads S.tells ms ws rests f checked to c.dues_of_all.ensures c.net_start_is_least.ensures t now ids ps (begins S.tells ms ws rests f checked to start ps own) (starts_at start rests checked ps own)
    (told_all rests checked f now ids c.loop-bridge.bridge ps end long (c.loop-bridge.invariant.told t))

pub returns-clause-opens : goal.returns-clause-opens
returns-clause-opens g c = λ ms are. opens_members ms c.args.rests.now (g.S.Shelf.ids c.args.shelf.now) (g.S.Shelf.ids c.loop-bridge.shelf) are c.loop-bridge.invariant.opens
