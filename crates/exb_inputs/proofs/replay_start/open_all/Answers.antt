use Rattle.std.proofs.Common.{rules, ◌≡◌, ◌≤◌, ◌+◌, ◌++◌, ◌∷◌, [], false, List, map, take, sum_by, refl, ap, sym, subst, ◌∙◌, arith}
use Rattle.std.specs.List.{AllByRecursion}
use Rattle.std.specs.Prelude.{IfSome}
use Rattle.std.proofs.lemmas.List.{take_all}
use Rattle.std.proofs.lemmas.Result.{err_from_is_err_and}
use Rattle.exb_timeline.specs.declared.capture_merge.CaptureSource.{CaptureSource}
use Rattle.exb_timeline.specs.CaptureMerges.{AreReplays, HasPort, ids_in, left_in, standing_of}
use Rattle.exb_capture.specs.CaptureFiles.{left_to_read}
use Rattle.exb_timeline.specs.Streams.{Stream}
use Rattle.exb_shelf.specs.Files.{Files}
use Rattle.exb_shelf.proofs.IdLemmas.{opens_none, opens_then}
use Rattle.exb_model.specs.Input.{second_of}
use Rattle.exb_inputs.specs.declared.captures.CheckedCapture.{CheckedCapture}
use Rattle.exb_inputs.specs.CaptureChecks.{IsToldOf}
use Rattle.exb_inputs.specs.ReplayStart.{first_standing, stream_told}
use Rattle.exb_inputs.specs.ShelfEffects.{ReadsCapture}
use Rattle.exb_inputs.proofs.ReopenedCaptures.{bytes-more, fresh-more, opened-so, port-named, port-new, since-none, standings-more, stream-told-same, streams-more}
use Rattle.exb_inputs.proofs.Outcomes.{files_same}
use Rattle.exb_inputs.proofs.ShelfEffects.{fewer_then, counts_as, counts_from, counts_ok}
use Rattle.exb_inputs.proofs.replay_start.open_all.Goals as goal

pub open_one-requires-clause-named : goal.open_one-requires-clause-named
open_one-requires-clause-named g c = port-named c.args.names.now c.args.checked.now c.opening.one-index c.one-item.result c.opening-test.true c.one-item.is c.requires.checked.ports

pub open_one-requires-clause-port : goal.open_one-requires-clause-port
open_one-requires-clause-port g c = λ has.
    port-new c.args.names.now c.args.checked.now c.opening.one-index c.one-item.result c.opening-test.true c.one-item.is c.requires.checked.ports
    (subst (HasPort c.one-item.result.port) c.opening.invariant.standing has)

pub opening-init : goal.opening-init
opening-init g c =
    let S = g.S.Shelf in
    let none = c.new-captures.ensures.none in
    let named : AllByRecursion (λ k. ReadsCapture c.args.names.now (S.ids c.args.shelf.now k)) (ids_in c.new-captures.result) =
    subst (λ (ss : List CaptureSource). AllByRecursion (λ k. ReadsCapture c.args.names.now (S.ids c.args.shelf.now k)) (map (λ (s : CaptureSource). s.replay.file.id) ss)) (sym none) tt in
    let fresh : AllByRecursion (λ k. (S.ids c.args.shelf.now k).given ≡ false) (ids_in c.new-captures.result) =
    subst (λ (ss : List CaptureSource). AllByRecursion (λ k. (S.ids c.args.shelf.now k).given ≡ false) (map (λ (s : CaptureSource). s.replay.file.id) ss)) (sym none) tt in
    let size : left_in c.new-captures.result ≡ 0 = ap (λ (ss : List CaptureSource). sum_by (λ (s : CaptureSource). left_to_read s.replay.file) ss) none in
    record {
      opened = c.new-captures.ensures.opened (S.ids c.args.shelf.now);
      named = named;
      fresh = fresh;
      standing = ap (map standing_of) none;
      left = omega (arith, size);
      since = λ second all. since-none second c.new-captures.result none;
      streams = λ t. subst (λ (ss : List CaptureSource). AreReplays (S.file c.args.shelf.now) (S.ids c.args.shelf.now) ss []) (sym none) tt;
      opens = opens_none _ _;
      files = λ n. refl;
      faults = search rules;
      counted = refl;
    }

-- one wasn't opened, or not read on
pub returns-in_err-open_one : goal.returns-in_err-open_one
returns-in_err-open_one g c =
    let S = g.S.Shelf in
    let e = err_from_is_err_and c.from_residual.result c.from_residual.ensures.1 in
    let inv = c.opening.invariant in
    let stop = c.in_err-open_one.ensures in
    let names = c.args.names.now in
    let file = S.file c.args.shelf.now in
    let one = c.one-item.result in
    rw (e.1, e.2) (record {
      opened = tt;
      named = tt;
      fresh = tt;
      standings = tt;
      left = tt;
      since = tt;
      streams = λ t. tt;
      never = λ t change.
          let told : IsToldOf names file one = subst (IsToldOf names file) (sym c.one-item.is) (c.requires.checked.told t c.opening.one-index one c.opening-test.true) in
          stop.never t change (stream-told-same names file (S.file c.opening.shelf) one inv.files told);
      opens = opens_then (ReadsCapture names) _ _ _ inv.opens stop.opens;
      files = λ n. stop.files n ∙ inv.files n;
      port = stop.port;
      causes = stop.causes;
      faults = counts_from _ _ _ _ inv.counted (counts_as c.in_err-open_one.field-0.0 _ _ stop.faults);
    })

pub opening-preserved : goal.opening-preserved
opening-preserved g c =
    let S = g.S.Shelf in
    let inv = c.opening.invariant in
    let names = c.args.names.now in
    let cs = c.args.checked.now in
    let at = c.opening.one-index in
    let one = c.one-item.result in
    let low = c.opening-test.true in
    let is = c.one-item.is in
    let ok = c.in_ok-open_one.ensures in
    let file = S.file c.args.shelf.now in
    record {
      opened = ok.opened;
      named = ok.named inv.named;
      fresh = fresh-more (S.ids c.args.shelf.now) (S.ids c.opening.shelf) (ids_in c.opening.captures) (ids_in c.open_one.new.captures) ok.id.0 ok.id.1 (opened-so (ReadsCapture names) (S.ids c.args.shelf.now) (S.ids c.opening.shelf) inv.opens) ok.id.2 inv.fresh;
      standing = ok.standings ∙ ap (λ xs. xs ++ first_standing one ∷ []) inv.standing ∙ standings-more cs at one low is;
      left = (let most = ok.left in let was = inv.left in let more = bytes-more cs at one low is in omega (arith, most, was, more));
      since = λ second all. ok.since second (subst (λ (d : CheckedCapture). IfSome d.told.first (λ first. second ≤ second_of first)) (sym is) (all at one low)) (inv.since second all);
      streams = λ t.
          (let told : IsToldOf names file one = subst (IsToldOf names file) (sym is) (c.requires.checked.told t at one low) in
          let own : IsToldOf names (S.file c.opening.shelf) one = stream-told-same names file (S.file c.opening.shelf) one inv.files told in
          let same : stream_told names (S.file c.opening.shelf) one ≡ stream_told names file one = ap (λ (f : Files). stream_told names f one) (files_same file (S.file c.opening.shelf) inv.files) in
          subst (λ (xs : List Stream). AreReplays (S.file c.open_one.new.shelf) (S.ids c.open_one.new.shelf) c.open_one.new.captures.sources.items xs)
          (ap (λ (x : Stream). map (stream_told names file) (take at cs) ++ x ∷ []) same ∙ streams-more names file cs at one low is)
          (ok.streams t own (map (stream_told names file) (take at cs)) (inv.streams t)));
      opens = opens_then (ReadsCapture names) _ _ _ inv.opens c.open_one.ensures.opens;
      files = λ n. c.open_one.ensures.files n ∙ inv.files n;
      faults = fewer_then _ _ _ inv.faults c.open_one.ensures.faults.none_fell;
      counted = ok.faults.once ∙ inv.counted;
    }

-- all were
pub returns : goal.returns
returns g c =
    let inv = c.opening.invariant in
    let names = c.args.names.now in
    let cs = c.args.checked.now in
    let file = g.S.Shelf.file c.args.shelf.now in
    let all : take c.opening.one-index cs ≡ cs = take_all c.opening.one-index cs (omega (arith, c.opening-test.false)) in
    record {
      opened = inv.opened;
      named = inv.named;
      fresh = inv.fresh;
      standings = inv.standing ∙ ap (map first_standing) all;
      left = subst (λ (xs : List CheckedCapture). left_in c.opening.captures ≤ sum_by (λ (d : CheckedCapture). d.told.bytes + 1) xs) all inv.left;
      since = inv.since;
      streams = λ t. subst (λ (xs : List CheckedCapture). AreReplays (g.S.Shelf.file c.opening.shelf) (g.S.Shelf.ids c.opening.shelf) c.opening.captures.sources.items (map (stream_told names file) xs)) all (inv.streams t);
      never = λ t. tt;
      opens = inv.opens;
      files = inv.files;
      port = tt;
      causes = tt;
      faults = counts_ok c.opening.captures _ _ inv.counted;
    }
