-- The headline: what status 0 of a run says.
use Rattle.std.specs.Prelude.{◌≡◌, ◌++◌, ℕ, true, List, None, Some, Ok}
use Rattle.exb_counters.specs.Counters.{count_text}
use Rattle.exb_inputs.specs.CaptureChecks.{AreAllGood}
use Rattle.exb_inputs.specs.Inputs.{input_of}
use Rattle.exb_model.specs.EagerHistory.{eager as eager_history}
use Rattle.exb_model.specs.FlatBridge.{flat}
use Rattle.exb_model.specs.History.{History}
use Rattle.exb_model.specs.Input.{basis_of}
use Rattle.exb_model.specs.LegalHistory.{Legal}
use Rattle.exb_model.specs.Setup.{shape_of}
use Rattle.exb_model.specs.Texts.{capture_text, journal_text, summary}
use Rattle.exb_model.specs.Traces.{TraceLine, trace_text}
use Rattle.exb_model.specs.Tree.{is_external}
use Rattle.exb_shelf.specs.Files.{Files}
use Rattle.exb_journal.specs.FileNames.{capture_name, counters_name, journal_name, trace_name}
use Rattle.exb_topology.specs.declared.topology.Topology.{Topology}
use Rattle.exb_topology.specs.Topologies.{topology_of, topology_view}
use Rattle.exb_cli.specs.declared.invocations.Options.{Options}
use Rattle.exb_run.specs.Answers.{mode_for}
use Rattle.exb_play.specs.Outputs.{IsTraceOf}
use Rattle.exb_outputs.specs.OutputNames.{AreWhole, OnlyOutputs}
use Rattle.exb_outputs.specs.KindTexts.{output_text}

-- The file of this name holds a topology, and each capture that it names can be played. There is a history that this
-- input allows, which without a seed is its eager history; the file of each external port holds what one VLAN bridge
-- that owns all the ports sends at it over that history; the journal holds the history; the trace and the counters,
-- where they are asked for, hold a legal trace of it and the counts over it, from scratch; so the file of each kind
-- that is made holds its text; no other file has changed; and its summary was printed, and nothing else.
pub record Headline (name : List ℕ) (options : Options) (old new : Files) (before after : List ℕ) : Type 0 where
  pub bytes : List ℕ
  pub there : old name ≡ Some bytes
  pub topology : Topology
  pub read : topology_of bytes ≡ Ok (topology_view topology)
  pub readable : AreAllGood topology.captures old
  pub history : History
  pub legal : Legal (mode_for options.seed) (input_of topology old) history
  pub eager : options.seed ≡ None → history ≡ eager_history (input_of topology old)
  pub captures : (q : ℕ) → is_external (shape_of topology.setup) q ≡ true
      → new (capture_name topology.prefix q) ≡ Some (capture_text (flat (basis_of (input_of topology old)) history q))
  pub journal : new (journal_name topology.prefix) ≡ Some (journal_text history)
  pub trace : options.trace ≡ true
      → (lines : List TraceLine) × (new (trace_name topology.prefix) ≡ Some (trace_text lines))
      × IsTraceOf (input_of topology old) history lines
  pub counters : options.counters ≡ true
      → new (counters_name topology.prefix)
      ≡ Some (count_text (shape_of topology.setup) (basis_of (input_of topology old)) history)
  pub files : (lines : List TraceLine) × AreWhole options (shape_of topology.setup) topology.prefix new
      (output_text (input_of topology old) history lines)
  pub others : OnlyOutputs options (shape_of topology.setup) topology.prefix old new
  pub prints : after ≡ before ++ summary (shape_of topology.setup) (basis_of (input_of topology old)) history
