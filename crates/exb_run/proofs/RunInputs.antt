-- What is handed to a run: the captures and commands of a topology, and the commands of an input that is made.
use Rattle.std.proofs.Common.{◌≡◌, ◌≢◌, ◌+◌, ◌<◌, ◌≤◌, ℕ, List, [], ◌∷◌, length, All, refl, ap, sym, subst, ◌∙◌, arith}
use Rattle.std.specs.Prelude.{sum_by, AllPairs}
use Rattle.std.proofs.lemmas.List.Elements.{All-head, All-tail}
use Rattle.std.proofs.lemmas.List.Sums.{sum_by-cons}
use Rattle.exb_make.specs.GeneratedInputs.{made}
use Rattle.exb_model.specs.declared.setup.Setup.{Setup}
use Rattle.exb_model.specs.declared.setup.Timed.{Timed}
use Rattle.exb_model.specs.declared.setup.Verdict.{Verdict}
use Rattle.exb_model.specs.Input.{tree_of}
use Rattle.exb_model.specs.Setup.{NamesExternal, shape_of}
use Rattle.exb_model.specs.Tree.{Shape, is_external}
use Rattle.exb_journal.specs.FileNames.{file_name}
use Rattle.exb_shelf.specs.Files.{Files}
use Rattle.exb_topology.specs.declared.topology.Topology.{Topology}
use Rattle.exb_topology.specs.Soundness.{IsApart, IsSound}
use Rattle.exb_inputs.specs.declared.captures.CheckedCapture.{CheckedCapture}
use Rattle.exb_inputs.specs.CaptureChecks.{AreChecked}
use Rattle.exb_outputs.specs.InputsApart.{CanBeRead}
use Rattle.exb_outputs.specs.Manifests.{output_name, Listed, kind_at, output_count}
use Rattle.exb_play.specs.BridgeRuns.{IsScript}
use Rattle.exb_outputs.proofs.KindPlaces.{kind_is}
use Rattle.exb_outputs.proofs.OutputNames.{of_kind}
use Rattle.exb_inputs.proofs.CaptureFaults.{name_by, named_by}

-- ---- a topology
-- no output has a name that is apart
apart_from : (manifest : Listed) (name : List ℕ) → IsApart manifest.tree manifest.prefix name → (j : ℕ) → j < output_count manifest → name ≢ output_name manifest j
apart_from manifest name apart j low =
    let kind = kind_is manifest j low in
    of_kind manifest (λ o. name ≢ file_name manifest.prefix o) apart (kind_at manifest j) kind.made kind.of_port

pub sound_captures : (tells : Type 0) (t : Topology) (manifest : Listed) (file : Files) (captures : List CheckedCapture) → manifest.tree ≡ shape_of t.setup → manifest.prefix ≡ t.prefix → IsSound t
    → AreChecked tells t.captures file captures → CanBeRead tells manifest t.captures file captures
sound_captures tells t manifest file captures tree prefix sound checked = record {
  checked = checked;
  external = λ q is. ap (λ (s : Shape). is_external s q) tree ∙ named_by (is_external (shape_of t.setup)) t.captures q sound.captures is;
  apart = λ q name named j low.
      let own : IsApart (shape_of t.setup) t.prefix name = name_by (IsApart (shape_of t.setup) t.prefix) t.captures q name sound.apart named in
      apart_from manifest name (subst (λ (s : Shape). IsApart s manifest.prefix name) (sym tree) (subst (λ (p : List ℕ). IsApart (shape_of t.setup) p name) (sym prefix) own)) j low;
}

pub sound_script : (t : Topology) → IsSound t → IsScript (shape_of t.setup) t.commands t.fate
sound_script t sound = record { commands = sound.commands; few_commands = sound.few_commands; rising = sound.rising; few_letters = sound.few_letters }

-- ---- an input that is made
-- no letter is in a fate
letterless : (cs : List Timed) → All (λ c. c.fate ≡ []) cs → sum_by (λ c. length c.fate) cs ≡ 0
letterless [] all = refl
letterless (c ∷ cs) all =
    sum_by-cons (λ (x : Timed). length x.fate) c cs ∙ ap (λ (n : ℕ). length c.fate + n) (letterless cs (All-tail (λ (x : Timed). x.fate ≡ []) c cs all))
    ∙ ap (λ (xs : List Verdict). length xs + 0) (All-head (λ (x : Timed). x.fate ≡ []) c cs all)

pub made_script : (number : ℕ) (setup : Setup) (commands : List Timed) → setup ≡ (made number).setup → All (λ c. c.fate ≡ []) commands
    → All (λ c. NamesExternal (tree_of (made number)) c.command) commands → length commands ≡ 20 → AllPairs (λ a b. a.at ≤ b.at) commands → IsScript (shape_of setup) commands []
made_script number setup commands is none named few rising = record {
  commands = subst (λ (s : Setup). All (λ (c : Timed). NamesExternal (shape_of s) c.command) commands) (sym is) named;
  few_commands = omega (arith, few);
  rising = rising;
  few_letters = (let zero_letters = letterless commands none in omega (arith, zero_letters));
}
