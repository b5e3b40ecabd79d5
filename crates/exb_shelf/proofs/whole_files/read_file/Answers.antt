use Rattle.std.proofs.Common.{◌∙◌, Some, Ok, ap, arith, rules, subst}
use Rattle.std.proofs.lemmas.Result.{err_from_is_err_and}
use Rattle.exb_shelf.specs.Files.{bytes_of}
use Rattle.exb_shelf.specs.Shelf.{Faults, NoFewer, Rose}
use Rattle.exb_shelf.proofs.IdLemmas.{opens_one, opens_same}
use Rattle.exb_shelf.proofs.PieceLemmas.{given_apart, reads_of, front_read, front_within, whole_read}
use Rattle.exb_shelf.proofs.ReadFaultLemmas.{unopened_counts, unopened_failed, unopened_missing, unopened_small, unread_counts, unread_failed, unread_small, unread_there}
use Rattle.exb_shelf.proofs.whole_files.read_file.Goals as goal

-- the file could not be opened
pub returns-in_err-id : goal.returns-in_err-id
returns-in_err-id g c =
    let e = err_from_is_err_and c.from_residual.result c.from_residual.ensures.1 in
    let opened = c.in_err-id.ensures in
    let f = c.in_err-id.field-0.0 in
    rw (e.1, e.2) (record {
      bytes = λ t. tt;
      limit = tt;
      not_there = λ t is. opened.not_there t (unopened_missing f is);
      large = λ t is. absurd (unopened_small f is);
      files = opened.files;
      opened = opens_same _ _ _ opened.none_given;
      counts = unopened_counts f _ _ opened.counts;
      faults = opened.faults;
      missing = λ is. opened.missing (unopened_missing f is);
      failed = λ is. opened.failed (unopened_failed f is);
    })

-- there is no room for a piece
pub returns-in_default : goal.returns-in_default
returns-in_default g c =
    let opened = c.in_ok-id.ensures in
    record {
      bytes = λ t. tt;
      limit = tt;
      not_there = λ t is. cc;
      large = λ t is. cc;
      files = opened.files;
      opened = opens_one _ _ _ c.in_ok-id.id opened.others opened.kept opened.rises (reads_of _ _ _ opened.id);
      counts = opened.counts;
      faults = opened.faults;
      missing = λ is. cc;
      failed = λ is. cc;
    }

-- reading failed
pub returns-in_err-n : goal.returns-in_err-n
returns-in_err-n g c =
    let S = g.S.Shelf in
    let inv = c.pieces.invariant in
    let read = c.in_err-n.ensures in
    let e = err_from_is_err_and c.from_residual-in_err-n.result c.from_residual-in_err-n.ensures.1 in
    let f = c.in_err-n.field-0.0 in
    rw (e.1, e.2) (record {
      bytes = λ t. tt;
      limit = tt;
      not_there = λ t is. absurd (unread_there f is);
      large = λ t is. absurd (unread_small f is);
      files = λ n. read.files n ∙ inv.files n;
      opened = opens_one _ _ _ c.in_ok-id.id (λ j n. read.others j n ∙ inv.others j n)
          (λ j given. read.others j (given_apart (S.ids c.args.shelf.now) c.in_ok-id.id j inv.fresh given) ∙ inv.kept j given)
          c.in_ok-id.ensures.rises
          (read.file c.args.name.now (reads_of _ _ _ inv.id));
      counts = unread_counts f _ _ _ inv.counted read.counts;
      faults = subst (λ (had : Faults). NoFewer had (S.faults c.read_on.new.shelf)) inv.counted read.faults;
      missing = λ is. absurd (unread_there f is);
      failed = λ is. subst (λ (had : Faults). Rose had.reads (S.faults c.read_on.new.shelf).reads) inv.counted (read.failed (unread_failed f is));
    })

-- nothing is left
pub returns-then-n-eq0 : goal.returns-then-n-eq0
returns-then-n-eq0 g c =
    let S = g.S.Shelf in
    let inv = c.pieces.invariant in
    let read = c.in_ok-n.ensures in
    record {
      bytes = λ t. inv.there t ∙ ap Some (whole_read _ _ _ c.args.name.now _ _ c.in_ok-n.n inv.id inv.files (inv.front t) (read.bytes t) (read.end t (ap Ok c.if-n-eq0.true)));
      limit = omega (arith, read.len, c.if-n-eq0.true);
      not_there = λ t is. cc;
      large = λ t is. cc;
      files = λ n. read.files n ∙ inv.files n;
      opened = opens_one _ _ _ c.in_ok-id.id (λ j n. read.others j n ∙ inv.others j n)
          (λ j given. read.others j (given_apart (S.ids c.args.shelf.now) c.in_ok-id.id j inv.fresh given) ∙ inv.kept j given)
          c.in_ok-id.ensures.rises
          (read.file c.args.name.now (reads_of _ _ _ inv.id));
      counts = read.counts ∙ inv.counted;
      faults = subst (λ (had : Faults). NoFewer had (S.faults c.read_on.new.shelf)) inv.counted read.faults;
      missing = λ is. cc;
      failed = λ is. cc;
    }

-- more was read than may be
pub returns : goal.returns
returns g c =
    let inv = c.pieces.invariant in
    let all = bytes_of (g.S.Shelf.file c.args.shelf.now c.args.name.now) in
    record {
      bytes = λ t. tt;
      limit = tt;
      not_there = λ t is. cc;
      large = λ t is. (all, inv.there t, let within = front_within all c.pieces.bytes.items (inv.front t) in omega (arith, within));
      files = inv.files;
      opened = opens_one _ _ _ c.in_ok-id.id inv.others inv.kept c.in_ok-id.ensures.rises (reads_of _ _ _ inv.id);
      counts = inv.counted;
      faults = inv.faults;
      missing = λ is. cc;
      failed = λ is. cc;
    }

pub pieces-preserved : goal.pieces-preserved
pieces-preserved g c =
    let S = g.S.Shelf in
    let inv = c.pieces.invariant in
    let read = c.in_ok-n.ensures in
    record {
      there = inv.there;
      front = λ t. front_read _ _ _ c.args.name.now _ _ c.in_ok-n.n inv.id inv.files (inv.front t) (read.bytes t);
      piece = search rules;
      id = search rules;
      kept = λ j given. read.others j (given_apart (S.ids c.args.shelf.now) c.in_ok-id.id j inv.fresh given) ∙ inv.kept j given;
      others = λ j n. read.others j n ∙ inv.others j n;
      fresh = inv.fresh;
      files = λ n. read.files n ∙ inv.files n;
      counted = read.counts ∙ inv.counted;
      faults = subst (λ (had : Faults). NoFewer had (S.faults c.read_on.new.shelf)) inv.counted read.faults;
    }
