-- The counters of a run sum up to its summary.
use Rattle.std.proofs.Common.{◌≡◌, Bool, true, false, cond, [], refl, sym, ◌∙◌}
use Rattle.std.proofs.lemmas.Bool.{false≢true}
use Rattle.exb_capture.specs.Captures.{capture_records, records_or_none}
use Rattle.exb_counters.specs.Laws.{CountsOfInputsAreTheSummary, IsOfExternal}
use Rattle.exb_inputs.specs.Inputs.{bytes_at, input_of, is_named}
use Rattle.exb_model.specs.Setup.{shape_of}
use Rattle.exb_model.specs.Tree.{is_external}
use Rattle.exb_shelf.specs.Files.{Files}
use Rattle.exb_topology.specs.declared.topology.Topology.{Topology}
use Rattle.exb_topology.specs.Soundness.{IsSound, ReadIsSound}
use Rattle.exb_run.specs.Laws.{CountersSumUp}
use Rattle.exb_inputs.proofs.CaptureFaults.{named_by}

-- captures name external ports alone
of_external : (t : Topology) (file : Files) → IsSound t → IsOfExternal (input_of t file)
of_external t file sound p not = by_named (is_named t.captures p) (λ e. named_by (is_external (shape_of t.setup)) t.captures p sound.captures e)
  where
    by_named : (b : Bool) → (b ≡ true → is_external (shape_of t.setup) p ≡ true) → cond b (records_or_none (capture_records (bytes_at t.captures file p))) [] ≡ []
    by_named true out = absurd (false≢true (sym not ∙ out refl))
    by_named false out = refl

pub counters_sum_up : ReadIsSound → CountsOfInputsAreTheSummary → CountersSumUp
counters_sum_up sound sums bytes t file m h read legal = sums m (input_of t file) h (of_external t file (sound bytes t read)) legal
