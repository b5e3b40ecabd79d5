use Rattle.std.proofs.Common.{◌∙◌}
use Rattle.std.proofs.lemmas.Result.{err_from_is_err_and}
use Rattle.exb_shelf.proofs.IdLemmas.{opens_then}
use Rattle.exb_audit_files.specs.Audits.{IsSeen}
use Rattle.exb_audit_files.specs.OpenedFiles.{ReadsEvidence}
use Rattle.exb_audit_files.specs.Scopes.{scope_of}
use Rattle.exb_inputs.proofs.ShelfEffects.{counts_as, counts_from}
use Rattle.exb_audit_files.proofs.AuditCounts.{judged_counted}
use Rattle.exb_audit_files.proofs.AuditSteps.{all_seen, broken_found, captures_cause, journal_cause, judged_of, legal_found, legal_says, opens_captures, outputs_cause, trace_cause}
use Rattle.exb_audit_files.proofs.audit_command.audit.Goals as goal

-- the captures weren't read
pub returns-in_err-captures : goal.returns-in_err-captures
returns-in_err-captures g c =
    let e = err_from_is_err_and c.from_residual.result c.from_residual.ensures.1 in
    let S = g.S.Shelf in
    let stop = c.in_err-captures.ensures in
    rw (e.1, e.2) (record {
      says = tt;
      legal = λ t. tt;
      cause = λ t. captures_cause (scope_of c.args.topology.now) (S.file c.args.shelf.now) c.in_err-captures.field-0.0 (stop.stops t);
      causes = stop.causes;
      opened = opens_captures (scope_of c.args.topology.now) _ _ stop.opened;
      files = stop.files;
      faults = counts_as c.in_err-captures.field-0.0 _ _ stop.faults;
    })

-- the output files weren't
pub returns-in_err-outputs : goal.returns-in_err-outputs
returns-in_err-outputs g c =
    let e = err_from_is_err_and c.from_residual-in_err-outputs.result c.from_residual-in_err-outputs.ensures.1 in
    let S = g.S.Shelf in
    let s = scope_of c.args.topology.now in
    let first = c.in_ok-captures in
    let stop = c.in_err-outputs.ensures in
    rw (e.1, e.2) (record {
      says = tt;
      legal = λ t. tt;
      cause = λ t. outputs_cause s (S.file c.args.shelf.now) first.captures.items (first.ensures.read t) (S.file c.read_captures.new.shelf) first.ensures.files c.in_err-outputs.field-0.0 (stop.stops t);
      causes = stop.causes;
      opened = opens_then (ReadsEvidence s) _ _ _ (opens_captures s _ _ first.ensures.opened) stop.opened;
      files = λ n. stop.files n ∙ first.ensures.files n;
      faults = counts_from _ _ _ _ first.ensures.faults.once (counts_as c.in_err-outputs.field-0.0 _ _ stop.faults);
    })

-- the journal wasn't
pub returns-in_err-journal : goal.returns-in_err-journal
returns-in_err-journal g c =
    let e = err_from_is_err_and c.from_residual-in_err-journal.result c.from_residual-in_err-journal.ensures.1 in
    let S = g.S.Shelf in
    let s = scope_of c.args.topology.now in
    let first = c.in_ok-captures in
    let second = c.in_ok-outputs in
    let stop = c.in_err-journal.ensures in
    rw (e.1, e.2) (record {
      says = tt;
      legal = λ t. tt;
      cause = λ t. journal_cause s (S.file c.args.shelf.now) first.captures.items (first.ensures.read t) (S.file c.read_captures.new.shelf) first.ensures.files
          second.outputs.items (second.ensures.read t) (S.file c.read_outputs.new.shelf) (λ n. second.ensures.files n ∙ first.ensures.files n)
          c.in_err-journal.field-0.0 (stop.stops t);
      causes = stop.causes;
      opened = opens_then (ReadsEvidence s) _ _ _ (opens_then (ReadsEvidence s) _ _ _ (opens_captures s _ _ first.ensures.opened) second.ensures.opened) stop.opened;
      files = λ n. stop.files n ∙ second.ensures.files n ∙ first.ensures.files n;
      faults = counts_from _ _ _ _ (second.ensures.faults.once ∙ first.ensures.faults.once) (counts_as c.in_err-journal.field-0.0 _ _ stop.faults);
    })

-- the trace wasn't
pub returns-in_err-trace : goal.returns-in_err-trace
returns-in_err-trace g c =
    let e = err_from_is_err_and c.from_residual-in_err-trace.result c.from_residual-in_err-trace.ensures.1 in
    let S = g.S.Shelf in
    let s = scope_of c.args.topology.now in
    let first = c.in_ok-captures in
    let second = c.in_ok-outputs in
    let third = c.in_ok-journal in
    let stop = c.in_err-trace.ensures in
    rw (e.1, e.2) (record {
      says = tt;
      legal = λ t. tt;
      cause = λ t. trace_cause s (S.file c.args.shelf.now) first.captures.items (first.ensures.read t) (S.file c.read_captures.new.shelf) first.ensures.files
          second.outputs.items (second.ensures.read t) (S.file c.read_outputs.new.shelf) (λ n. second.ensures.files n ∙ first.ensures.files n)
          third.journal.items (third.ensures.read t) (S.file c.read_entries.new.shelf) (λ n. third.ensures.files n ∙ second.ensures.files n ∙ first.ensures.files n)
          c.in_err-trace.field-0.0 (stop.stops t);
      causes = stop.causes;
      opened = opens_then (ReadsEvidence s) _ _ _
          (opens_then (ReadsEvidence s) _ _ _ (opens_then (ReadsEvidence s) _ _ _ (opens_captures s _ _ first.ensures.opened) second.ensures.opened) third.ensures.opened) stop.opened;
      files = λ n. stop.files n ∙ third.ensures.files n ∙ second.ensures.files n ∙ first.ensures.files n;
      faults = counts_from _ _ _ _ (third.ensures.faults.once ∙ second.ensures.faults.once ∙ first.ensures.faults.once) (counts_as c.in_err-trace.field-0.0 _ _ stop.faults);
    })

-- all was read, and judged
pub returns : goal.returns
returns g c =
    let S = g.S.Shelf in
    let s = scope_of c.args.topology.now in
    let f = S.file c.args.shelf.now in
    let first = c.in_ok-captures in
    let second = c.in_ok-outputs in
    let third = c.in_ok-journal in
    let last = c.in_ok-trace in
    let seen : S.tells → IsSeen s f (record { captures = first.captures.items; outputs = second.outputs.items; journal = third.journal.items; lines = last.trace.items }) = λ t. all_seen s f first.captures.items (first.ensures.read t) (S.file c.read_captures.new.shelf) first.ensures.files
    second.outputs.items (second.ensures.read t) (S.file c.read_outputs.new.shelf) (λ n. second.ensures.files n ∙ first.ensures.files n)
    third.journal.items (third.ensures.read t) (S.file c.read_entries.new.shelf) (λ n. third.ensures.files n ∙ second.ensures.files n ∙ first.ensures.files n)
    last.trace.items (last.ensures.read t) in
    record {
      says = legal_says _ _ c.judge_all.result c.judge_all.ensures.legal;
      legal = λ t. legal_found c.args.topology.now f _ (seen t)
          c.as_slice.result.now c.as_slice-2.result.now c.as_slice-3.result.now c.as_slice-4.result.now c.as_slice.ensures.value c.as_slice-2.ensures.value c.as_slice-3.ensures.value c.as_slice-4.ensures.value
          c.judge_all.result c.judge_all.ensures.legal;
      cause = λ t. broken_found c.args.topology.now f _ (seen t)
          c.as_slice.result.now c.as_slice-2.result.now c.as_slice-3.result.now c.as_slice-4.result.now c.as_slice.ensures.value c.as_slice-2.ensures.value c.as_slice-3.ensures.value c.as_slice-4.ensures.value
          c.judge_all.result c.judge_all.ensures.broken;
      causes = judged_of _ c.judge_all.result c.judge_all.ensures.broken;
      opened = opens_then (ReadsEvidence s) _ _ _
          (opens_then (ReadsEvidence s) _ _ _ (opens_then (ReadsEvidence s) _ _ _ (opens_captures s _ _ first.ensures.opened) second.ensures.opened) third.ensures.opened) last.ensures.opened;
      files = λ n. last.ensures.files n ∙ third.ensures.files n ∙ second.ensures.files n ∙ first.ensures.files n;
      faults = judged_counted _ c.judge_all.result _ _ (last.ensures.faults.once ∙ third.ensures.faults.once ∙ second.ensures.faults.once ∙ first.ensures.faults.once) c.judge_all.ensures.broken;
    }
