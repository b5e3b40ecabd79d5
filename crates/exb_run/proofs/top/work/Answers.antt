use Rattle.std.proofs.Common.{◌≡◌, ap, refl, sym, subst, inl, inr, Err, Some, None, ℕ}
use Rattle.std.specs.Prelude.{IfOk, string_bytes}
use Rattle.exb_make.specs.GeneratedInputs.{made}
use Rattle.exb_cli.specs.CommandLines.{Run, Check, Make, Audit, Net}
use Rattle.exb_inputs.specs.declared.fault.Fault.TheVariants.{Usage}
use Rattle.exb_inputs.proofs.Outcomes.{made-counts}
use Rattle.exb_inputs.proofs.ShelfEffects.{counted_once, fewer_same}
use Rattle.exb_run.specs.Answers.{asked, eager_summary}
use Rattle.exb_run.proofs.OpenedFiles.{opens_by_none}
use Rattle.exb_run.proofs.RunLemmas.{came_made}
use Rattle.exb_run.proofs.top.work.Goals as goal

pub returns-in-None : goal.returns-in-None
returns-in-None g c =
    let counted = g.S.Shelf.faults c.args.shelf.now in
    let is : None ≡ asked c.args.words.now = c.in-None.ensures in
    rw (sym is) (record {
      came = record {
        unaccepted = λ e. refl;
        done = λ told. tt;
        says = tt;
        cause = λ told. inl refl;
        stops = λ told fault stops. inl (ap Err (sym stops));
        can_come = refl;
        early = inr (λ n. refl);
        read_only = λ not n. refl;
        stopped = λ told fault stops n. refl;
        others = λ told n. refl;
        fronts = λ told. tt;
        parts = λ told n. refl;
      };
      makes = λ number e. tt;
      alone = λ number e. refl;
      opens = opens_by_none _ None _ _ _ (λ name e. absurd (cc)) (λ name e. absurd (cc));
      order = tt;
      faults = counted_once (Err Usage) counted counted (fewer_same counted counted refl) refl;
    })

pub returns-in-Some-Run : goal.returns-in-Some-Run
returns-in-Some-Run g c =
    let is : Some (Run c.in-Some-Run.topology.now c.in-Some-Run.options) ≡ asked c.args.words.now = rw c.in-Some-Run.field-0-is at c.in-Some-Run.ensures in
    let ran = c.run_topology.ensures in
    rw (sym is) (record {
      came = ran.came;
      makes = λ number e. absurd (cc);
      alone = λ number e. absurd (cc);
      opens = ran.opens;
      order = ran.order;
      faults = ran.faults;
    })

pub returns-in-Some-Check : goal.returns-in-Some-Check
returns-in-Some-Check g c =
    let is : Some (Check c.in-Some-Check.topology.now) ≡ asked c.args.words.now = rw c.in-Some-Check.field-0-is at c.in-Some-Check.ensures in
    let checked = c.check_topology.ensures in
    rw (sym is) (record {
      came = checked.came;
      makes = λ number e. absurd (cc);
      alone = λ number e. absurd (cc);
      opens = checked.opens;
      order = tt;
      faults = checked.faults;
    })

pub returns-in-Some-Make : goal.returns-in-Some-Make
returns-in-Some-Make g c =
    let own = c.in-Some-Make.number in
    let o = c.make_input.result in
    let is : Some (Make own) ≡ asked c.args.words.now = rw c.in-Some-Make.field-0-is at c.in-Some-Make.ensures in
    let line = c.make_input.ensures.line in
    let memory = c.make_input.ensures.memory in
    rw (sym is) (record {
      came = came_made _ own _ o line memory;
      makes = λ number e. subst (λ (n : ℕ). IfOk o (λ text. string_bytes text ≡ eager_summary (made n))) (cc) line;
      alone = λ number e. refl;
      opens = opens_by_none _ (Some (Make own)) _ _ _ (λ name e. absurd (cc)) (λ name e. absurd (cc));
      order = tt;
      faults = made-counts o _ memory;
    })

pub returns-in-Some-Audit : goal.returns-in-Some-Audit
returns-in-Some-Audit g c =
    let is : Some (Audit c.in-Some-Audit.topology.now) ≡ asked c.args.words.now = rw c.in-Some-Audit.field-0-is at c.in-Some-Audit.ensures in
    let audited = c.audit_topology.ensures in
    rw (sym is) (record {
      came = audited.came;
      makes = λ number e. absurd (cc);
      alone = λ number e. absurd (cc);
      opens = audited.opens;
      order = tt;
      faults = audited.faults;
    })

pub returns-in-Some-Net : goal.returns-in-Some-Net
returns-in-Some-Net g c =
    let is : Some (Net c.in-Some-Net.file.now c.in-Some-Net.counters) ≡ asked c.args.words.now = rw c.in-Some-Net.field-0-is at c.in-Some-Net.ensures in
    let ran = c.run_net.ensures in
    rw (sym is) (record {
      came = ran.came;
      makes = λ number e. absurd (cc);
      alone = λ number e. absurd (cc);
      opens = ran.opens;
      order = ran.order;
      faults = ran.faults;
    })
