use Rattle.std.proofs.Common.{rules, ◌≡◌, ◌+◌, ◌-◌, ◌++◌, ◌∷◌, [], ◌∙◌, inl, inr, ℕ, List, Option, Ok, Err, take, drop, sym, subst, arith, refl}
use Rattle.std.proofs.lemmas.List.{take_all}
use Rattle.std.proofs.lemmas.Result.{err_from_is_err_and}
use Rattle.exb_shelf.proofs.IdLemmas.{opens_weaker, opens_then}
use Rattle.exb_shelf.specs.Shelf.{NoFewer}
use Rattle.exb_audit.proofs.TextCuts.{item_is, item_more}
use Rattle.exb_audit.proofs.Rule5Relays.{get_item}
use Rattle.exb_audit.specs.declared.frames.PortFrames.{PortFrames}
use Rattle.exb_audit_files.specs.declared.port_files.PortFile.{PortFile}
use Rattle.exb_audit_files.specs.FrameFiles.{EachIsRead, IsFlaw, records_by, total}
use Rattle.exb_audit_files.specs.declared.port_files.FramesFault.TheVariants.{Memory}
use Rattle.exb_audit_files.proofs.FileCounts.{counted_frames, frames_from}
use Rattle.exb_audit_files.proofs.FrameFiles.{all_good, each_more, rest_more}
use Rattle.exb_audit_files.proofs.port_files.read_frames.Goals as goal

-- a file wasn't read
pub returns-in_err-taken : goal.returns-in_err-taken
returns-in_err-taken g c =
    let S = g.S.Shelf in
    let inv = c.files.invariant in
    let stop = c.in_err-taken.ensures in
    let files = c.args.files.now in
    let i = c.files.one-index in
    let one = c.one-item.result in
    let read = records_by c.args.grammar in
    let f = S.file c.args.shelf.now in
    let x = c.in_err-taken.field-0.0 in
    let made = err_from_is_err_and c.from_residual.result c.from_residual.ensures.1 in
    rw (made.1, made.2) (record {
      frames = λ t. tt;
      refused = λ t. elim (stop.flaw t) [
        | inl flaw ↦ inl (record {
          before = take i files;
          one = one;
          after = drop (i + 1) files;
          is = item_is files i one c.one-item.is c.files-test.true;
          good = all_good read f (take i files) c.files.all.items (inv.each t);
          within = omega (arith, inv.rest t);
          here = subst (λ (n : ℕ). IsFlaw read n one (f one.name) x) (omega (arith, inv.rest t)) (subst (λ (o : Option (List ℕ)). IsFlaw read c.files.left one o x) (inv.kept one.name) flaw);
        })
        | inr other ↦ inr other
      ];
      port = stop.port;
      opened =
          opens_then _ _ _ _ inv.opened
          (opens_weaker _ _ _ _ (λ k reads. record { at = i; one = one; is = get_item files i one c.one-item.is c.files-test.true; reads = reads }) stop.opened);
      files = λ n. stop.files n ∙ inv.kept n;
      faults = frames_from x _ _ _ inv.counted stop.faults;
    })

-- there is no memory for its frames
pub returns-then-is_err : goal.returns-then-is_err
returns-then-is_err g c =
    let S = g.S.Shelf in
    let inv = c.files.invariant in
    let taken = c.in_ok-taken.ensures in
    let files = c.args.files.now in
    let i = c.files.one-index in
    let one = c.one-item.result in
    let fewer : NoFewer (S.faults c.args.shelf.now) (S.faults c.take_file.new.shelf) = search (arith, taken.faults.none_fell, inv.faults) in
    record {
      frames = λ t. tt;
      refused = λ t. inr (inr refl);
      port = tt;
      opened =
          opens_then _ _ _ _ inv.opened
          (opens_weaker _ _ _ _ (λ k reads. record { at = i; one = one; is = get_item files i one c.one-item.is c.files-test.true; reads = reads }) taken.opened);
      files = λ n. taken.files n ∙ inv.kept n;
      faults = counted_frames (Err Memory) _ _ fewer (inl (taken.faults.once ∙ inv.counted));
    }

pub files-preserved : goal.files-preserved
files-preserved g c =
    let S = g.S.Shelf in
    let inv = c.files.invariant in
    let files = c.args.files.now in
    let i = c.files.one-index in
    let one = c.one-item.result in
    let taken = c.in_ok-taken.taken in
    let read = records_by c.args.grammar in
    let f = S.file c.args.shelf.now in
    let made : PortFrames = record { port = one.port; frames = taken.frames } in
    let pushed : c.push.new.self.items ≡ c.files.all.items ++ made ∷ [] = search rules in
    let more = item_more files i one c.one-item.is c.files-test.true in
    record {
      each = λ t.
          let h = c.in_ok-taken.ensures.taken t in
          subst (λ (xs : List PortFile). EachIsRead read f xs c.push.new.self.items) (sym more)
          (subst (λ (fs : List PortFrames). EachIsRead read f (take i files ++ one ∷ []) fs) (sym pushed)
          (each_more read f (take i files) c.files.all.items one made (inv.each t) (record { port = refl; bytes = h.bytes; there = sym (inv.kept one.name) ∙ h.there; holds = h.taken.holds })));
      rest = λ t.
          let h = c.in_ok-taken.ensures.taken t in
          subst (λ (xs : List PortFile). total f xs + (c.files.left - taken.bytes) ≡ c.args.limit) (sym more)
          (rest_more f (take i files) one h.bytes taken.bytes c.files.left c.args.limit (inv.rest t) (sym (inv.kept one.name) ∙ h.there) h.taken.size c.in_ok-taken.ensures.bytes);
      opened =
          opens_then _ _ _ _ inv.opened
          (opens_weaker _ _ _ _ (λ k reads. record { at = i; one = one; is = get_item files i one c.one-item.is c.files-test.true; reads = reads }) c.in_ok-taken.ensures.opened);
      kept = λ n. c.in_ok-taken.ensures.files n ∙ inv.kept n;
      faults = search (arith, c.in_ok-taken.ensures.faults.none_fell, inv.faults);
      counted = c.in_ok-taken.ensures.faults.once ∙ inv.counted;
    }

-- all were read
pub returns : goal.returns
returns g c =
    let S = g.S.Shelf in
    let inv = c.files.invariant in
    let files = c.args.files.now in
    let i = c.files.one-index in
    let read = records_by c.args.grammar in
    let f = S.file c.args.shelf.now in
    let all : take i files ≡ files = take_all i files (omega (arith, c.files-test.false)) in
    record {
      frames = λ t. record {
        each = subst (λ (xs : List PortFile). EachIsRead read f xs c.files.all.items) all (inv.each t);
        within = let sum : total f files + c.files.left ≡ c.args.limit = subst (λ (xs : List PortFile). total f xs + c.files.left ≡ c.args.limit) all (inv.rest t) in omega (arith, sum);
      };
      refused = λ t. tt;
      port = tt;
      opened = inv.opened;
      files = inv.kept;
      faults = counted_frames (Ok c.files.all) _ _ inv.faults inv.counted;
    }
