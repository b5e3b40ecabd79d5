-- A net is read in three steps: its file, its topologies, its wires.
use Rattle.std.proofs.Common.{◌≡◌, ◌≢◌, ◌⊎◌, inl, inr, ℕ, true, List, Result, Ok, length, map, ap, sym, subst, ◌∙◌, arith}
use Rattle.std.specs.Prelude.{All, AllPairs}
use Rattle.std.proofs.lemmas.List.{length-map}
use Rattle.std.proofs.lemmas.List.Elements.{All-map}
use Rattle.exb_shelf.specs.Files.{Files, SameFiles}
use Rattle.exb_shelf.specs.Shelf.{Id}
use Rattle.exb_net_spec.specs.declared.wires.Wire.{Wire}
use Rattle.exb_topology.specs.Soundness.{IsSound}
use Rattle.exb_net_file.specs.declared.net_file.NetFile.{NetFile}
use Rattle.exb_net_file.specs.declared.members.NetMember.{NetMember}
use Rattle.exb_net_file.specs.declared.elements.NetBridge.{NetBridge}
use Rattle.exb_net_file.specs.NetFiles.{IsNetFile}
use Rattle.exb_net_file.specs.Soundness.{AreValid, MakesNets}
use Rattle.exb_net_file.specs.Wires.{wires_of}
use Rattle.exb_net_file.specs.EndNames.{is_name}
use Rattle.exb_inputs.specs.declared.fault.Fault.{Fault}
use Rattle.exb_inputs.specs.declared.fault.Fault.TheVariants.{Read, Memory}
use Rattle.exb_inputs.proofs.Outcomes.{files_same}
use Rattle.exb_inputs.specs.NetContents.{AreRead, HoldsMembers, HoldsNetFile}
use Rattle.exb_inputs.specs.OpenedNetFiles.{OpensTopologies}
use Rattle.exb_inputs.proofs.PairedLists.{all_unmap, pairs_map, pairs_unmap}
use Rattle.exb_inputs.specs.NetRefusals.{FirstRefused, IsFileRefused, IsNetRefusal, IsNetRefused}

-- a failure to read, or want of memory
abbrev pub Failed : Fault → Type 0
Failed x = (x ≡ Read) ⊎ (x ≡ Memory)

-- what was read, whatever the shelf tells
pub are_read : (net : NetFile) (ms : List NetMember) (ws : List Wire) → IsNetFile net → map (λ (m : NetMember). m.name) ms ≡ map (λ (b : NetBridge). b.name) net.bridges → AreValid ms → All (λ (m : NetMember). IsSound m.topology) ms
    → wires_of ms net.wires ≡ Ok ws → MakesNets ms ws → AreRead ms ws
are_read net ms ws is same valid sound wired nets =
    let of_member : NetMember → List ℕ = λ m. m.name in
    let of_bridge : NetBridge → List ℕ = λ b. b.name in
    let long : length ms ≡ length net.bridges = sym (length-map ms of_member) ∙ (ap length same ∙ length-map net.bridges of_bridge) in
    let some = is.some in
    let few = is.bridges in
    record {
      some = omega (arith, long, some);
      few = omega (arith, long, few);
      names = all_unmap of_member (λ n. is_name n ≡ true) ms (subst (All (λ n. is_name n ≡ true)) (sym same) (All-map (λ n. is_name n ≡ true) of_bridge net.bridges is.names));
      apart = pairs_unmap of_member (λ n k. n ≢ k) ms (subst (AllPairs (λ n k. n ≢ k)) (sym same) (pairs_map of_bridge (λ n k. n ≢ k) net.bridges is.apart));
      valid = valid;
      sound = sound;
      written = net.wires;
      few_wires = is.wires;
      wired = wired;
      nets = nets;
    }

module _ (name : List ℕ) (file : Files) (net : NetFile) (says : HoldsNetFile name file net) where
  pub members_err : (x : Fault) → FirstRefused net.bridges file x ⊎ Failed x → IsNetRefused name file x ⊎ Failed x
  members_err x (inl first) = inl (inr (inl (record { net = net; says = says; first = first })))
  members_err x (inr failed) = inr failed

  pub wires_err : (ms : List NetMember) (x : Fault) → HoldsMembers net.bridges file ms → IsNetRefusal (wires_of ms net.wires) x ⊎ (x ≡ Memory) → IsNetRefused name file x ⊎ Failed x
  wires_err ms x held (inl refused) = inl (inr (inr (record { net = net; says = says; bridges = ms; members = held; refused = refused })))
  wires_err ms x held (inr memory) = inr (inr memory)

pub file_err : (name : List ℕ) (f : Files) (x : Fault) → IsFileRefused name (f name) x ⊎ Failed x → IsNetRefused name f x ⊎ Failed x
file_err name f x (inl refused) = inl (inl refused)
file_err name f x (inr failed) = inr failed

pub topologies_from : {X : Type 0} (tells : Type 0) (bs : List NetBridge) (f g : Files) (o : Result X Fault) (given ids : ℕ → Id) → SameFiles f g → OpensTopologies tells bs g o given ids → OpensTopologies tells bs f o given ids
topologies_from tells bs f g o given ids same opens = subst (λ (file : Files). OpensTopologies tells bs file o given ids) (files_same f g same) opens
