-- What a run begins with: the captures that were checked at their first records, and the commands.
use Rattle.std.proofs.Common.{◌≡◌, ℕ, ◌+◌, ◌^◌, ◌<◌, ◌≤◌, true, List, [], length, map, filter, All, sum_by, drop, refl, ap, sym, subst, ◌∙◌, arith}
use Rattle.std.specs.Prelude.{None, AllPairs}
use Rattle.std.specs.List.{AllByRecursion}
use Rattle.exb_model.specs.declared.setup.Setup.{Setup}
use Rattle.exb_model.specs.declared.setup.Timed.{Timed}
use Rattle.exb_model.specs.declared.setup.Verdict.{Verdict}
use Rattle.exb_model.specs.Input.{Input, Given, Mode, given_by, segments_after}
use Rattle.exb_model.specs.Ports.{all_ports}
use Rattle.exb_model.specs.Setup.{NamesExternal, shape_of}
use Rattle.exb_model.specs.Tree.{Shape, is_external}
use Rattle.exb_timeline.specs.declared.bridge_timeline.Timeline.{Timeline}
use Rattle.exb_timeline.specs.declared.capture_merge.CaptureMerge.{CaptureMerge}
use Rattle.exb_timeline.specs.CaptureMerges.{AreReplays, HasPort, Standing, ids_in, left_in, number_of, standings}
use Rattle.exb_world_laws.specs.SegmentRuns.{IsTimely}
use Rattle.exb_schedule.specs.SegmentRuns.{letters_in}
use Rattle.exb_shelf.specs.Files.{Files}
use Rattle.exb_topology_tables.specs.declared.elements.Named.{Named}
use Rattle.exb_inputs.specs.declared.captures.CheckedCapture.{CheckedCapture}
use Rattle.exb_outputs.specs.declared.outputs.Outputs.{Outputs}
use Rattle.exb_outputs.specs.InputsApart.{CanBeRead}
use Rattle.exb_inputs.specs.ReplayStart.{first_standing, start_told, stream_told}
use Rattle.exb_inputs.specs.Inputs.{input_from, is_named}
use Rattle.exb_inputs.specs.ShelfEffects.{ReadsCapture}
use Rattle.exb_outputs.specs.Manifests.{Listed}
use Rattle.exb_play.specs.BridgeRuns.{IsScript, Run}
use Rattle.exb_timeline.specs.Timelines.{IsProgramme}
use Rattle.exb_play.specs.Disks.{Disk}
use Rattle.exb_play.specs.RunInvariants.{CanBegin, IsRunOf, LeadsOn}
use Rattle.exb_outputs.specs.CaptureSizes.{HasSent}
use Rattle.exb_outputs.specs.WrittenTexts.{HasTexts, IsReady, first_text, pieces_of}
use Rattle.exb_inputs.proofs.FirstRecords.{passing, ports_in, all-told, StartIsLeast, numbers-one, has-named, low-bytes, rising-given, MergeOfAll, merged}
use Rattle.exb_play.proofs.SegmentLemmas.{segments-begin}
use Rattle.exb_outputs.proofs.InputsApart.{apart-named}

pub timely : (t : Shape) (commands : List Timed) (fate : List Verdict) (i : Input) → IsScript t commands fate → i.commands ≡ map given_by commands → IsTimely i
timely t commands fate i script same = subst (λ (gs : List Given). AllPairs (λ (c d : Given). c.at ≤ d.at) gs) (sym same) (rising-given commands script.rising)

-- So a run of them begins.
pub can-begin : (tells : Type 0) (m : Mode) (r : Run) (setup : Setup) (commands : List Timed) (fate : List Verdict) (manifest : Listed) (names : List Named) (file : Files) (d : Disk) (cs : List CheckedCapture) (o : Outputs)
    (p : Timeline) (captures : CaptureMerge) → MergeOfAll → StartIsLeast → IsRunOf tells r setup commands names file → IsScript (shape_of setup) commands fate → manifest.tree ≡ shape_of setup → CanBeRead tells manifest names file cs →
    p.start ≡ start_told cs → p.commands.now ≡ commands → p.taken ≡ 0 → p.captures ≡ captures → standings captures ≡ map first_standing cs → left_in captures ≤ sum_by (λ c. c.told.bytes + 1) cs →
    AllByRecursion (λ k. ReadsCapture names (d.ids k)) (ids_in captures) → (tells → AreReplays d.files d.ids captures.sources.items (map (stream_told names file) cs)) →
    (tells → HasTexts manifest (pieces_of o) r.before d.files first_text) → HasSent manifest o (λ q. []) → IsReady manifest d.ids o → IsProgramme d.ids p → CanBegin tells m r setup manifest d o p
can-begin tells m r setup commands fate manifest names file d cs o p captures law least run script tree can start same none are standing left named replays texts sent ready programme =
    let t : shape_of r.input.setup ≡ shape_of setup = ap shape_of run.setup_is in
    let ports : ports_in cs ≡ filter (is_named names) all_ports = can.checked.ports in
    let passed : AllByRecursion (λ q. is_named names q ≡ true) (ports_in cs) = subst (AllByRecursion (λ q. is_named names q ≡ true)) (sym ports) (passing (is_named names) all_ports) in
    let stand : standings p.captures ≡ map first_standing cs = ap standings are ∙ standing in
    let mine : AllByRecursion (λ k. ReadsCapture names (d.ids k)) (ids_in p.captures) = subst (λ (x : CaptureMerge). AllByRecursion (λ k. ReadsCapture names (d.ids k)) (ids_in x)) (sym are) named in
    record {
      setup = run.setup_is;
      texts = texts;
      sent = sent;
      timely = timely (shape_of setup) commands fate r.input script run.given;
      next = record {
        given = run.given ∙ ap (map given_by) (sym same);
        names =
            (let P : Shape → List Timed → Type 0 = λ s. All (λ (c : Timed). NamesExternal s c.command) in
            subst (λ (s : Shape). P s p.commands.now) (sym t) (subst (P (shape_of setup)) (sym same) script.commands));
        external = λ q has.
            ap (λ (s : Shape). is_external s q) (t ∙ sym tree) ∙ can.external q (has-named (λ x. is_named names x ≡ true) cs q passed (subst (HasPort q) stand has));
        taken = sym none;
        counted = λ q. sym (ap (λ (ss : List Standing). number_of ss q) stand ∙ numbers-one cs q);
        kept = tt;
        few_bytes = (let low = low-bytes names cs can.checked.small ports in let size = ap left_in are in omega (arith, left, low, size));
        since = refl;
      };
      ready = ready;
      programme = programme;
      apart = apart-named manifest names d.ids (ids_in p.captures) can.apart mine;
      leads = λ told.
          (let i : Input = input_from setup commands names file in
          let led : LeadsOn m i [] None d p = record {
            streams = map (stream_told names file) cs;
            replays = subst (λ (x : CaptureMerge). AreReplays d.files d.ids x.sources.items (map (stream_told names file) cs)) (sym are) (replays told);
            rest = segments-begin m i ∙ ap (segments_after m None) (sym (merged setup commands names file cs p law least (all-told names file cs (can.checked.told told)) ports start same none));
          } in
          subst (λ (x : Input). LeadsOn m x [] None d p) (sym (run.is told)) led);
    }

-- the budget has room for all fates
pub has-budget : (t : Shape) (given : List Timed) (fate : List Verdict) (p : Timeline) (left : ℕ) → IsScript t given fate → p.commands.now ≡ given → p.taken ≡ 0 → left < 2 ^ 56 →
    left + length fate + letters_in (drop p.taken p.commands.now) < 2 ^ 57
has-budget t given fate p left script same none low =
    let all = ap (λ k. letters_in (drop k p.commands.now)) none ∙ ap letters_in same in
    let few = script.few_letters in
    omega (arith, all, few, low)
