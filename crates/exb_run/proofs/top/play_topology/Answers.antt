use Rattle.std.proofs.Common.{◌≡◌, ◌⊎◌, List, Err, ap, refl, sym, subst, ◌∙◌, inl, inr, true, ℕ}
use Rattle.std.proofs.lemmas.Result.{err_from_is_err_and}
use Rattle.std.specs.Prelude.{string_bytes}
use Rattle.exb_play.specs.PartialOutputs.{AreCutSoFar}
use Rattle.exb_run.proofs.PartialOutputs.{parts-by}
use Rattle.exb_inputs.proofs.ChangedPorts.{checking-port}
use Rattle.exb_inputs.proofs.ShelfEffects.{counts_as, counts_from, counts_memory}
use Rattle.exb_model.specs.declared.setup.Timed.{Timed}
use Rattle.exb_model.specs.declared.setup.Verdict.{Verdict}
use Rattle.exb_model.specs.Input.{Input, Mode, tree_of}
use Rattle.exb_model.specs.Setup.{shape_of}
use Rattle.exb_shelf.specs.Files.{Files}
use Rattle.exb_shelf.specs.Shelf.{Opens}
use Rattle.exb_shelf.proofs.IdLemmas.{opens_weaker}
use Rattle.exb_topology_tables.specs.declared.elements.Named.{Named}
use Rattle.exb_cli.specs.declared.invocations.Options.{Options}
use Rattle.exb_inputs.specs.declared.captures.CheckedCapture.{CheckedCapture}
use Rattle.exb_inputs.specs.CaptureChecks.{AreAllGood, AreChecked, FirstFault}
use Rattle.exb_outputs.specs.InputsApart.{CanBeRead}
use Rattle.exb_inputs.specs.Inputs.{input_from, input_of, is_named}
use Rattle.exb_outputs.specs.KindTexts.{AreCutEagerly}
use Rattle.exb_play.specs.Outputs.{HasPlayed}
use Rattle.exb_run.specs.Outputs.{IsPlayed}
use Rattle.exb_outputs.specs.OutputNames.{OnlyOutputs}
use Rattle.exb_outputs.specs.Manifests.{OnlyListed, Listed}
use Rattle.exb_inputs.specs.ShelfEffects.{EndsAt, ReadsCapture, OpensEach}
use Rattle.exb_play.specs.BridgeRuns.{IsScript, mode_of}
use Rattle.exb_outputs.specs.CreationOrder.{MakesInOrder}
use Rattle.exb_play.specs.ShelfEffects.{IsOfRun}
use Rattle.exb_run.specs.Answers.{mode_for}
use Rattle.exb_inputs.proofs.CaptureFaults.{first_none, first_once}
use Rattle.exb_run.proofs.RunInputs.{sound_captures, sound_script}
use Rattle.exb_outputs.proofs.CreationOrder.{makes_none, read_then_makes}
use Rattle.exb_run.proofs.OpenedFiles.{capture_plays, opened_for, play_fails, played_plays}
use Rattle.exb_run.proofs.OpenOrder.{captures_are_files, ends_own, err_is, ends_upto, files_for, manifest_is, play_own, behind_checks, behind_none}
use Rattle.exb_run.specs.OpenedFiles.{IsOpenedFor, manifest_for}
use Rattle.exb_inputs.specs.declared.fault.Fault.TheVariants.{Read, Memory}
use Rattle.exb_inputs.proofs.Outcomes.{files_same, if_ok_map, if_err_map}
use Rattle.exb_outputs.proofs.OutputNames.{only_by}
use Rattle.exb_run.proofs.ManifestFiles.{fronts_by, played_by}
use Rattle.exb_run.proofs.top.play_topology.Goals as goal

pub play-played-requires-clause-script : goal.play-played-requires-clause-script
play-played-requires-clause-script g c =
    let t = c.args.topology.now in
    subst (λ (xs : List Timed). IsScript (shape_of t.setup) xs c.as_slice-3.result.now) (sym c.as_slice-2.ensures)
    (subst (λ (vs : List Verdict). IsScript (shape_of t.setup) t.commands vs) (sym c.as_slice-3.ensures) (sound_script t c.requires.sound))

pub play-played-requires-clause-captures : goal.play-played-requires-clause-captures
play-played-requires-clause-captures g c =
    let S = g.S.Shelf in
    let t = c.args.topology.now in
    let manifest = c.in_ok-manifest.manifest in
    let before = S.file c.args.shelf.now in
    let read = S.file c.check_captures.new.shelf in
    let checked = c.in_ok-checked.checked.items in
    let are : AreChecked S.tells t.captures before checked = subst (λ (names : List Named). AreChecked S.tells names before checked) c.as_slice.ensures c.in_ok-checked.ensures.checked in
    subst (λ (names : List Named). CanBeRead S.tells manifest names read c.as_slice-5.result.now) (sym c.as_slice-4.ensures)
    (subst (λ (cs : List CheckedCapture). CanBeRead S.tells manifest t.captures read cs) (sym c.as_slice-5.ensures.value)
    (subst (λ (f : Files). CanBeRead S.tells manifest t.captures f checked) (sym (files_same before read c.in_ok-checked.ensures.files))
    (sound_captures S.tells t manifest before checked c.in_ok-manifest.ensures.tree (c.in_ok-manifest.ensures.prefix ∙ c.as_str.ensures) c.requires.sound are)))

-- ---- where a capture is at fault
pub returns-in_err-checked : goal.returns-in_err-checked
returns-in_err-checked g c =
    let S = g.S.Shelf in
    let t = c.args.topology.now in
    let names = t.captures in
    let file = S.file c.args.shelf.now in
    let given = S.ids c.args.shelf.now in
    let ids = S.ids c.check_captures.new.shelf in
    let x = c.in_err-checked.field-0.0 in
    let is = c.in_err-checked.ensures in
    let opened : Opens (ReadsCapture names) given ids = subst (λ (ns : List Named). Opens (ReadsCapture ns) given ids) c.as_slice.ensures is.opened in
    let ends : EndsAt S.tells names file given ids x = subst (λ (ns : List Named). EndsAt S.tells ns file given ids x) c.as_slice.ensures is.ends in
    let flaw : S.tells → ((p : ℕ) × FirstFault names file p x) ⊎ (x ≡ Read) ⊎ (x ≡ Memory) =
    λ told. subst (λ (ns : List Named). ((p : ℕ) × FirstFault ns file p x) ⊎ (x ≡ Read) ⊎ (x ≡ Memory)) c.as_slice.ensures (is.flaw told) in
    let e = err_from_is_err_and c.from_residual.result c.from_residual.ensures.1 in
    rw (e.1, e.2) (record {
      good = λ told. tt;
      done = λ told. tt;
      says = tt;
      fronts = λ told eager. record { captures = λ q external. inl (is.files _); journal = inl (is.files _) };
      parts = λ told. inl is.files;
      cause = λ told. elim (flaw told) [
        | inl first ↦ inl first
        | inr (inl read) ↦ inr (inl read)
        | inr (inr memory) ↦ inr (inr (inr memory))
      ];
      stops = λ told p fault first. elim (flaw told) [
        | inl (q, found) ↦ inl (ap Err (first_once names file q p x fault found first))
        | inr (inl read) ↦ inr (inl (ap Err read))
        | inr (inr memory) ↦ inr (inr (ap Err memory))
      ];
      causes = capture_plays x is.causes;
      early = inr is.files;
      stopped = λ told p fault first. is.files;
      others = λ told m away. is.files m;
      opened = inr opened;
      played = λ told. opens_weaker (ReadsCapture names) (IsOpenedFor c.args.options t file) given ids (λ i reads. inl reads) opened;
      files = captures_are_files c.args.options t given ids opened;
      made = makes_none (ReadsCapture names) (manifest_for t c.args.options) x given ids (λ i r. r.reads.reads) opened is.causes;
      behind = behind_none names given ids opened;
      port = checking-port (λ (q : ℕ). is_named names q ≡ true) x is.causes;
      own = λ p own is_own. ends_own S.tells names file given ids x ends p own (err_is x _ is_own);
      upto = ends_upto S.tells names file given ids x ends;
      faults = counts_as x _ _ is.faults;
    })

-- ---- where memory ran out for the names of what is written
pub returns-in_err-manifest : goal.returns-in_err-manifest
returns-in_err-manifest g c =
    let S = g.S.Shelf in
    let t = c.args.topology.now in
    let names = t.captures in
    let file = S.file c.args.shelf.now in
    let given = S.ids c.args.shelf.now in
    let ids = S.ids c.check_captures.new.shelf in
    let is = c.in_ok-checked.ensures in
    let opened : Opens (ReadsCapture names) given ids = subst (λ (ns : List Named). Opens (ReadsCapture ns) given ids) c.as_slice.ensures is.opened in
    let good : S.tells → AreAllGood names file = λ told. subst (λ (ns : List Named). AreAllGood ns file) c.as_slice.ensures (is.good told) in
    let e = err_from_is_err_and c.from_residual-in_err-manifest.result c.from_residual-in_err-manifest.ensures.1 in
    rw (e.1, e.2) (record {
      good = λ told. tt;
      done = λ told. tt;
      says = tt;
      fronts = λ told eager. record { captures = λ q external. inl (is.files _); journal = inl (is.files _) };
      parts = λ told. inl is.files;
      cause = λ told. inr (inr (inr refl));
      stops = λ told p fault first. inr (inr refl);
      causes = tt;
      early = inl tt;
      stopped = λ told p fault first. is.files;
      others = λ told m away. is.files m;
      opened = inl tt;
      played = λ told. opens_weaker (ReadsCapture names) (IsOpenedFor c.args.options t file) given ids (λ i reads. inl reads) opened;
      files = captures_are_files c.args.options t given ids opened;
      made = makes_none (ReadsCapture names) (manifest_for t c.args.options) Memory given ids (λ i r. r.reads.reads) opened tt;
      behind = behind_none names given ids opened;
      port = checking-port (λ (q : ℕ). is_named names q ≡ true) Memory tt;
      own = λ p flaw other. absurd (cc);
      upto = λ told p fault first. absurd (first_none names file p fault (good told) first);
      faults = counts_memory _ _ is.faults.once;
    })

-- ---- where it was played
pub returns-clause-good : goal.returns-clause-good
returns-clause-good g c told =
    let file = g.S.Shelf.file c.args.shelf.now in
    let good : AreAllGood c.args.topology.now.captures file = subst (λ (names : List Named). AreAllGood names file) c.as_slice.ensures (c.in_ok-checked.ensures.good told) in
    if_ok_map c.play-played.result (λ line sums. good) c.play-played.ensures.says

pub returns-clause-says : goal.returns-clause-says
returns-clause-says g c = c.play-played.ensures.says

pub returns-clause-cause : goal.returns-clause-cause
returns-clause-cause g c told = if_err_map c.play-played.result (λ x is. inr is) (play_fails c.play-played.result c.play-played.ensures.causes (c.play-played.ensures.never told))

pub returns-clause-causes : goal.returns-clause-causes
returns-clause-causes g c = played_plays c.play-played.result c.play-played.ensures.causes

pub returns-clause-early : goal.returns-clause-early
returns-clause-early g c = if_err_map c.play-played.result (λ x is. inl is) c.play-played.ensures.causes

pub returns-clause-opened : goal.returns-clause-opened
returns-clause-opened g c = if_err_map c.play-played.result (λ x is. inl is) c.play-played.ensures.causes

pub returns-clause-stopped : goal.returns-clause-stopped
returns-clause-stopped g c told p fault first =
    let file = g.S.Shelf.file c.args.shelf.now in
    let good : AreAllGood c.args.topology.now.captures file = subst (λ (names : List Named). AreAllGood names file) c.as_slice.ensures (c.in_ok-checked.ensures.good told) in
    absurd (first_none c.args.topology.now.captures file p fault good first)

pub returns-clause-own : goal.returns-clause-own
returns-clause-own g c = λ p flaw is. absurd (play_own c.play-played.result c.play-played.ensures.causes p flaw is)

pub returns-clause-upto : goal.returns-clause-upto
returns-clause-upto g c tells p fault first =
    let file = g.S.Shelf.file c.args.shelf.now in
    let good : AreAllGood c.args.topology.now.captures file = subst (λ (names : List Named). AreAllGood names file) c.as_slice.ensures (c.in_ok-checked.ensures.good tells) in
    absurd (first_none c.args.topology.now.captures file p fault good first)

pub returns-clause-stops : goal.returns-clause-stops
returns-clause-stops g c tells p fault first =
    let file = g.S.Shelf.file c.args.shelf.now in
    let good : AreAllGood c.args.topology.now.captures file = subst (λ (names : List Named). AreAllGood names file) c.as_slice.ensures (c.in_ok-checked.ensures.good tells) in
    absurd (first_none c.args.topology.now.captures file p fault good first)

pub returns-clause-done : goal.returns-clause-done
returns-clause-done g c tells =
    let S = g.S.Shelf in
    let t = c.args.topology.now in
    let manifest = c.in_ok-manifest.manifest in
    let before = S.file c.args.shelf.now in
    let read = S.file c.check_captures.new.shelf in
    let after = S.file c.play-played.new.shelf in
    let i : Input = input_of t before in
    let m = mode_of c.schedule_of-schedule.result in
    let unchanged : read ≡ before = files_same before read c.in_ok-checked.ensures.files in
    let same : input_from t.setup c.as_slice-2.result.now c.as_slice-4.result.now read ≡ i =
    ap (λ (xs : List Timed). input_from t.setup xs c.as_slice-4.result.now read) c.as_slice-2.ensures ∙ ap (λ (names : List Named). input_from t.setup t.commands names read) c.as_slice-4.ensures
    ∙ ap (input_of t) unchanged in
    if_ok_map c.play-played.result
    (λ line played.
    subst (λ (b : Options). IsPlayed (mode_for c.args.options.seed) b i t.prefix before after (string_bytes line)) c.in_ok-manifest.ensures.options
    (subst (λ (k : Mode). IsPlayed k manifest.options i t.prefix before after (string_bytes line)) c.schedule_of-schedule.ensures
    (played_by i manifest t.prefix (c.in_ok-manifest.ensures.prefix ∙ c.as_str.ensures) c.in_ok-manifest.ensures.tree m c.requires.valid.tree before after (string_bytes line)
    (subst (λ (f : Files). HasPlayed m i manifest f after (string_bytes line)) unchanged
    (subst (λ (j : Input). HasPlayed m j manifest read after (string_bytes line)) same played)))))
    (c.play-played.ensures.done tells)

pub returns-clause-others : goal.returns-clause-others
returns-clause-others g c tells =
    let S = g.S.Shelf in
    let t = c.args.topology.now in
    let manifest = c.in_ok-manifest.manifest in
    let before = S.file c.args.shelf.now in
    let read = S.file c.check_captures.new.shelf in
    let after = S.file c.play-played.new.shelf in
    let i : Input = input_of t before in
    subst (λ (b : Options). OnlyOutputs b (shape_of t.setup) t.prefix before after) c.in_ok-manifest.ensures.options
    (only_by (tree_of i) manifest t.prefix (c.in_ok-manifest.ensures.prefix ∙ c.as_str.ensures) c.in_ok-manifest.ensures.tree before after
    (subst (λ (f : Files). OnlyListed manifest f after) (files_same before read c.in_ok-checked.ensures.files) (c.play-played.ensures.only.others tells)))

-- ---- what is opened
pub returns-clause-played : goal.returns-clause-played
returns-clause-played g c tells =
    let S = g.S.Shelf in
    let t = c.args.topology.now in
    let manifest = c.in_ok-manifest.manifest in
    let file = S.file c.args.shelf.now in
    opened_for manifest c.args.options t file _ _ _ c.in_ok-manifest.ensures.options (c.in_ok-manifest.ensures.prefix ∙ c.as_str.ensures) c.in_ok-manifest.ensures.tree
    (subst (λ (names : List Named). AreAllGood names file) c.as_slice.ensures (c.in_ok-checked.ensures.good tells))
    (subst (λ (names : List Named). Opens (ReadsCapture names) (S.ids c.args.shelf.now) (S.ids c.check_captures.new.shelf)) c.as_slice.ensures c.in_ok-checked.ensures.opened)
    (subst (λ (names : List Named). Opens (IsOfRun names manifest) (S.ids c.check_captures.new.shelf) (S.ids c.play-played.new.shelf)) c.as_slice-4.ensures c.play-played.ensures.only.opened)

pub returns-clause-files : goal.returns-clause-files
returns-clause-files g c =
    let S = g.S.Shelf in
    let t = c.args.topology.now in
    let manifest = c.in_ok-manifest.manifest in
    files_for manifest c.args.options t _ _ _ c.in_ok-manifest.ensures.options (c.in_ok-manifest.ensures.prefix ∙ c.as_str.ensures) c.in_ok-manifest.ensures.tree
    (subst (λ (names : List Named). Opens (ReadsCapture names) (S.ids c.args.shelf.now) (S.ids c.check_captures.new.shelf)) c.as_slice.ensures c.in_ok-checked.ensures.opened)
    (subst (λ (names : List Named). Opens (IsOfRun names manifest) (S.ids c.check_captures.new.shelf) (S.ids c.play-played.new.shelf)) c.as_slice-4.ensures c.play-played.ensures.only.opened)

pub returns-clause-made : goal.returns-clause-made
returns-clause-made g c =
    let S = g.S.Shelf in
    let t = c.args.topology.now in
    let manifest = c.in_ok-manifest.manifest in
    subst (λ (p : Listed). MakesInOrder p c.play-played.result (S.ids c.args.shelf.now) (S.ids c.play-played.new.shelf)) (manifest_is manifest c.args.options t c.in_ok-manifest.ensures.options (c.in_ok-manifest.ensures.prefix ∙ c.as_str.ensures) c.in_ok-manifest.ensures.tree)
    (read_then_makes (ReadsCapture c.as_slice.result.now) manifest c.play-played.result _ _ _ (λ i r. r.reads.reads) c.in_ok-checked.ensures.opened c.play-played.ensures.only.opened.kept c.play-played.ensures.made)

-- ---- where it ended early
pub returns-clause-fronts : goal.returns-clause-fronts
returns-clause-fronts g c tells eager =
    let S = g.S.Shelf in
    let t = c.args.topology.now in
    let manifest = c.in_ok-manifest.manifest in
    let before = S.file c.args.shelf.now in
    let read = S.file c.check_captures.new.shelf in
    let after = S.file c.play-played.new.shelf in
    let i : Input = input_of t before in
    let unchanged : read ≡ before = files_same before read c.in_ok-checked.ensures.files in
    let same : input_from t.setup c.as_slice-2.result.now c.as_slice-4.result.now read ≡ i =
    ap (λ (xs : List Timed). input_from t.setup xs c.as_slice-4.result.now read) c.as_slice-2.ensures ∙ ap (λ (names : List Named). input_from t.setup t.commands names read) c.as_slice-4.ensures
    ∙ ap (input_of t) unchanged in
    fronts_by i manifest t.prefix (c.in_ok-manifest.ensures.prefix ∙ c.as_str.ensures) c.in_ok-manifest.ensures.tree c.requires.valid.tree before after
    (subst (λ (f : Files). AreCutEagerly i manifest f after) unchanged
    (subst (λ (j : Input). AreCutEagerly j manifest read after) same (c.play-played.ensures.fronts tells (c.schedule_of-schedule.ensures ∙ eager))))

-- ---- of which port a capture has changed, and what was counted
pub returns-clause-port : goal.returns-clause-port
returns-clause-port g c =
    if_err_map c.play-played.result (λ x port p at is. subst (λ (names : List Named). is_named names p ≡ true) c.as_slice-4.ensures (port p at is)) c.play-played.ensures.port

pub returns-clause-faults : goal.returns-clause-faults
returns-clause-faults g c = counts_from c.play-played.result _ _ _ c.in_ok-checked.ensures.faults.once c.play-played.ensures.faults

-- ---- what is made is made behind all captures
pub returns-clause-behind : goal.returns-clause-behind
returns-clause-behind g c =
    let S = g.S.Shelf in
    let names = c.args.topology.now.captures in
    behind_checks (IsOfRun c.as_slice-4.result.now c.in_ok-manifest.manifest) names (S.ids c.args.shelf.now) (S.ids c.check_captures.new.shelf) (S.ids c.play-played.new.shelf)
    (subst (λ (ns : List Named). Opens (ReadsCapture ns) (S.ids c.args.shelf.now) (S.ids c.check_captures.new.shelf)) c.as_slice.ensures c.in_ok-checked.ensures.opened)
    (subst (λ (ns : List Named). OpensEach ns 4160 (S.ids c.args.shelf.now) (S.ids c.check_captures.new.shelf)) c.as_slice.ensures c.in_ok-checked.ensures.each) c.play-played.ensures.only.opened

-- ---- what it leaves, however it ended
pub returns-clause-parts : goal.returns-clause-parts
returns-clause-parts g c tells =
    let S = g.S.Shelf in
    let t = c.args.topology.now in
    let manifest = c.in_ok-manifest.manifest in
    let before = S.file c.args.shelf.now in
    let read = S.file c.check_captures.new.shelf in
    let after = S.file c.play-played.new.shelf in
    let i : Input = input_of t before in
    let m = mode_of c.schedule_of-schedule.result in
    let unchanged : read ≡ before = files_same before read c.in_ok-checked.ensures.files in
    let same : input_from t.setup c.as_slice-2.result.now c.as_slice-4.result.now read ≡ i =
    ap (λ (xs : List Timed). input_from t.setup xs c.as_slice-4.result.now read) c.as_slice-2.ensures ∙ ap (λ (names : List Named). input_from t.setup t.commands names read) c.as_slice-4.ensures
    ∙ ap (input_of t) unchanged in
    inr (parts-by c.args.options t manifest m before after c.in_ok-manifest.ensures.options (c.in_ok-manifest.ensures.prefix ∙ c.as_str.ensures) c.in_ok-manifest.ensures.tree c.schedule_of-schedule.ensures c.requires.valid.tree
    (subst (λ (f : Files). AreCutSoFar m i manifest f after) unchanged (subst (λ (j : Input). AreCutSoFar m j manifest read after) same (c.play-played.ensures.so_far tells))))
