use Rattle.std.proofs.Common.{◌≡◌, ◌≤◌, Err, Ok, [], drop, length, ap, inl, inr, refl, rules, ◌∙◌, arith}
use Rattle.std.proofs.lemmas.Result.{err_from_is_err_and}
use Rattle.exb_shelf.proofs.IdLemmas.{opens_one, opens_same}
use Rattle.exb_shelf.specs.Files.{bytes_of}
use Rattle.exb_shelf.specs.Shelf.{NoFewer}
use Rattle.exb_shelf.proofs.PieceLemmas.{given_apart, reads_of}
use Rattle.exb_audit_files.specs.LineFeeds.{HasCut}
use Rattle.exb_audit_files.specs.declared.texts.LinesFault.TheVariants.{Large, Memory}
use Rattle.exb_audit_files.proofs.FileCounts.{counted_lines, finish_counts, lines_from, unopened_counts}
use Rattle.exb_audit_files.proofs.TextFiles.{cut_on, cut_whole, lines_held, lines_refused, unopened_told, within_on, within_whole}
use Rattle.exb_audit_files.proofs.lines.read_lines.Goals as goal

-- it wasn't opened
pub returns-in-Err : goal.returns-in-Err
returns-in-Err g c =
    let S = g.S.Shelf in
    let e = c.in-Err.ensures in
    rw c.unopened.ensures (record {
      lines = λ t. tt;
      refused = λ t. unopened_told g.L.Line.reads c.args.limit (S.file c.args.shelf.now c.args.name.now) c.in-Err.fault (e.not_there t);
      opened = opens_same _ (S.ids c.args.shelf.now) (S.ids c.open.new.self) e.none_given;
      files = e.files;
      faults = unopened_counts c.in-Err.fault (S.faults c.args.shelf.now) (S.faults c.open.new.self) e.faults e.counts;
    })

-- there is no room for a piece
pub returns-in_default : goal.returns-in_default
returns-in_default g c =
    let S = g.S.Shelf in
    let e = c.in-Ok.ensures in
    record {
      lines = λ t. tt;
      refused = λ t. inr (inr refl);
      opened = opens_one _ (S.ids c.args.shelf.now) (S.ids c.open.new.self) c.in-Ok.id e.others e.kept e.rises (reads_of (S.ids c.open.new.self c.in-Ok.id) c.args.name.now 0 e.id);
      files = e.files;
      faults = counted_lines (Err Memory) (S.faults c.args.shelf.now) (S.faults c.open.new.self) e.faults e.counts;
    }

pub pieces-preserved : goal.pieces-preserved
pieces-preserved g c =
    let S = g.S.Shelf in
    let inv = c.pieces.invariant in
    let f = S.file c.args.shelf.now in
    let now = S.file c.pieces.shelf in
    let i = S.ids c.pieces.shelf c.in-Ok.id in
    record {
      there = inv.there;
      cut = λ t. cut_on g.L.Line.reads c.pieces.lines c.read_on.new.to f now i c.args.name.now c.pieces.got c.in_ok-n.n inv.id inv.files (inv.cut t) (c.in_ok-n.ensures.cut t);
      within = λ t. within_on f now i c.args.name.now c.pieces.got c.in_ok-n.n inv.id inv.files (inv.within t) (c.in_ok-n.ensures.some t);
      most = omega (arith, c.in_ok-n.ensures.bound, inv.piece, c.pieces-test.true);
      piece = search rules;
      id = search rules;
      kept = search rules;
      others = λ j n. c.read_on.ensures.others j n ∙ inv.others j n;
      fresh = search rules;
      files = search rules;
      faults = search rules;
      counted = c.in_ok-n.ensures.counts ∙ inv.counted;
    }

-- it wasn't read on
pub returns-in_err-n : goal.returns-in_err-n
returns-in_err-n g c =
    let S = g.S.Shelf in
    let inv = c.pieces.invariant in
    let on = c.in_err-n.ensures in
    let made = err_from_is_err_and c.from_residual.result c.from_residual.ensures.1 in
    let fewer : NoFewer (S.faults c.args.shelf.now) (S.faults c.read_on.new.shelf) = search (arith, inv.faults, c.read_on.ensures.faults) in
    rw (made.1, made.2) (record {
      lines = λ t. tt;
      refused = λ t. inr on.cause;
      opened = opens_one _ _ _ c.in-Ok.id (λ j n. on.others j n ∙ inv.others j n)
          (λ j given. on.others j (given_apart (S.ids c.args.shelf.now) c.in-Ok.id j inv.fresh given) ∙ inv.kept j given) c.in-Ok.ensures.rises (on.file c.args.name.now (reads_of _ _ _ inv.id));
      files = λ name. on.files name ∙ inv.files name;
      faults = lines_from c.in_err-n.field-0.0 _ _ _ fewer inv.counted on.counts;
    })

-- it was read to its end
pub returns-then-n-eq0 : goal.returns-then-n-eq0
returns-then-n-eq0 g c =
    let S = g.S.Shelf in
    let inv = c.pieces.invariant in
    let on = c.in_ok-n.ensures in
    let reads = g.L.Line.reads in
    let f = S.file c.args.shelf.now in
    let now = S.file c.pieces.shelf in
    let i = S.ids c.pieces.shelf c.in-Ok.id in
    let name = c.args.name.now in
    let got = c.pieces.got in
    let limit = c.args.limit in
    let none : S.tells → drop i.place (bytes_of (now i.name)) ≡ [] = λ t. on.end t (ap Ok c.if-n-eq0.true) in
    let cut : S.tells → HasCut reads (bytes_of (f name)) c.read_on.new.to =
    λ t. cut_whole reads c.pieces.lines c.read_on.new.to f now i name got c.in_ok-n.n inv.id inv.files (inv.cut t) (on.cut t) (none t) in
    let small : S.tells → length (bytes_of (f name)) ≤ limit = λ t. omega (arith, within_whole f now i name got inv.id inv.files (none t), c.pieces-test.true) in
    let fewer : NoFewer (S.faults c.args.shelf.now) (S.faults c.read_on.new.shelf) = search (arith, inv.faults, c.read_on.ensures.faults) in
    record {
      lines = λ t. lines_held reads limit (f name) c.read_on.new.to c.finish.result (inv.there t) (small t) (cut t) c.finish.ensures.lines;
      refused = λ t. lines_refused reads limit (f name) c.read_on.new.to c.finish.result (inv.there t) (small t) (omega (arith, c.ranges.limit.fits)) (cut t) c.finish.ensures.bad;
      opened = opens_one _ _ _ c.in-Ok.id (λ j n. on.others j n ∙ inv.others j n)
          (λ j given. on.others j (given_apart (S.ids c.args.shelf.now) c.in-Ok.id j inv.fresh given) ∙ inv.kept j given) c.in-Ok.ensures.rises (on.file name (reads_of _ _ _ inv.id));
      files = λ n. on.files n ∙ inv.files n;
      faults = finish_counts _ c.finish.result _ _ fewer (on.counts ∙ inv.counted) c.finish.ensures.bad;
    }

-- it is longer than it may be
pub returns : goal.returns
returns g c =
    let S = g.S.Shelf in
    let inv = c.pieces.invariant in
    record {
      lines = λ t. tt;
      refused = λ t. inl (bytes_of (S.file c.args.shelf.now c.args.name.now), inv.there t, omega (arith, inv.within t, c.pieces-test.false));
      opened = opens_one _ _ _ c.in-Ok.id inv.others inv.kept c.in-Ok.ensures.rises (reads_of _ _ _ inv.id);
      files = inv.files;
      faults = counted_lines (Err Large) _ _ inv.faults inv.counted;
    }
