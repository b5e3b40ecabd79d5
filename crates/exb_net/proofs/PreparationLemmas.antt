-- A net that was read and whose files were made can be played.
use Rattle.std.proofs.Common.{◌≡◌, ℕ, zero, suc, ◌+◌, ◌<◌, ◌≤◌, Bool, false, List, [], ◌∷◌, get_or, length, map, Option, Some, refl, ap, sym, ◌∙◌, subst, arith, codes}
use Rattle.std.specs.Prelude.{nat_lt, slice_get, sum_by}
use Rattle.std.specs.declared.alloc.Global.{Global}
use Rattle.std.specs.declared.vec.Vec.{Vec}
use Rattle.std.proofs.lemmas.Bool.{ltb-false}
use Rattle.std.proofs.lemmas.List.{length-map}
use Rattle.std.proofs.lemmas.List.Sums.{sum_by-cons}
use Rattle.std.proofs.lemmas.Option.{get_or_from_slice_get, slice_get-map, slice_get_within}
use Rattle.exb_inputs.specs.declared.captures.CheckedCapture.{CheckedCapture}
use Rattle.exb_toml_keys.specs.declared.faults.KeyFault.TheVariants as fault
use Rattle.exb_model.specs.Input.{Input, tree_of}
use Rattle.exb_model.specs.Setup.{IsValid}
use Rattle.exb_model.specs.Tree.{IsTree, external_ports}
use Rattle.exb_model.specs.declared.setup.Setup.{Setup}
use Rattle.exb_net_spec.specs.declared.wires.Wire.{Wire}
use Rattle.exb_net_spec.specs.BridgeHistories.{HistoriesHoldAll, HoldsAll}
use Rattle.exb_net_spec.specs.NetHistory.{Histories, NetEager}
use Rattle.exb_net_spec.specs.Nets.{Net, IsNet}
use Rattle.exb_net_laws.specs.NetRuns.{tree_in}
use Rattle.exb_net.specs.NetStates.{IsSetupOf, no_dones}
use Rattle.exb_net_file.specs.declared.net_parts.NetParts.{NetParts}
use Rattle.exb_net_file.specs.declared.members.NetMember.{NetMember}
use Rattle.exb_net_file.specs.SetupParts.{IsTakenApart, setup_in}
use Rattle.exb_net_file.specs.Members.{ports_together}
use Rattle.exb_net_file.specs.Soundness.{BridgesWriteApart, IsInputOf, IsMadeOf, NetsAreTimely}
use Rattle.exb_net_file.proofs.Nets.{past}
use Rattle.exb_inputs.specs.MemberChecks.{AreMembersChecked}
use Rattle.exb_inputs.specs.NetContents.{AreRead}
use Rattle.exb_inputs.specs.NetLaws.{AreInputsOf}
use Rattle.exb_outputs.specs.Manifests.{Listed}
use Rattle.exb_outputs.specs.WrittenTexts.{first_text, pieces_of}
use Rattle.exb_outputs.proofs.WrittenTexts.{kinds_same}
use Rattle.exb_shelf.specs.Files.{Files}
use Rattle.exb_shelf.specs.Shelf.{Id}
use Rattle.exb_topology.proofs.ElementChecks.{refuse_ok}
use Rattle.exb_outputs.proofs.TextUpdates.{text-first}
use Rattle.exb_net.specs.declared.bridge_outputs.BridgeOutputs.{BridgeOutputs}
use Rattle.exb_net.specs.WrittenOutputs.{IsNoted, text_of}
use Rattle.exb_net.specs.Nets.{input_in, net_of, manifest_with}
use Rattle.exb_net.specs.Preparation.{AreSet, IsPrepared, IsSet, run_of}
use Rattle.exb_net.specs.NetInvariants.{AreDesks}
use Rattle.exb_net.proofs.NetResults.{HasTrees}
use Rattle.exb_net.proofs.BridgeFiles.{mapped_some}
use Rattle.exb_net.proofs.FileCreation.{manifests_apart}

-- ---- the net of bridges that were read
module _ (ms : List NetMember) (ws : List Wire) (file : Files) where
  input_is : (b : ℕ) (m : NetMember) → slice_get ms b ≡ Some m → (net_of ms ws file).input b ≡ input_in file (Some m)
  input_is b m is = ap (input_in file) is

  pub trees_are : HasTrees (net_of ms ws file) ms
  trees_are = record { count = refl; tree = λ b m is. ap tree_of (input_is b m is) }

  pub made_of : ((m : NetMember) (f : Files) → IsInputOf m (input_in f (Some m))) → IsMadeOf ms ws (net_of ms ws file)
  made_of law =
      record {
        count = refl;
        inputs = λ b d low. (let there = is_there ms b d low in subst (λ (o : Option NetMember). IsInputOf (get_or ms b d) (input_in file o)) (sym there) (law (get_or ms b d) file));
        wires = refl;
      }
    where
      is_there : (xs : List NetMember) (b : ℕ) (d : NetMember) → b < length xs → slice_get xs b ≡ Some (get_or xs b d)
      is_there [] b d low = absurd (omega (arith, low))
      is_there (x ∷ xs) zero d low = refl
      is_there (x ∷ xs) (suc b) d low = is_there xs b d (omega (arith, low))

  pub net_is : ((m : NetMember) (f : Files) → IsInputOf m (input_in f (Some m))) → AreRead ms ws → IsNet (net_of ms ws file)
  net_is law read = read.nets.valid (net_of ms ws file) (made_of law)

  -- the history of each bridge holds what comes to it
  pub net_holds : AreInputsOf → NetsAreTimely → HistoriesHoldAll → AreRead ms ws → (hs : Histories) → NetEager (net_of ms ws file) hs → (b : ℕ) → b < length ms → HoldsAll (net_of ms ws file) hs b
  net_holds inputs timely holds read hs eager b low = holds (net_of ms ws file) hs b (net_is inputs read) (timely ms ws (net_of ms ws file) read.sound (made_of inputs)) eager low

  pub setup_of : (parts : NetParts) → IsTakenApart ms ws parts → IsSetupOf (net_of ms ws file) parts.setup
  setup_of parts taken =
      record {
        count = sym (ap (λ (xs : List Setup). length xs) taken.setups ∙ length-map ms setup_in);
        setups = λ b x is.
            (let m = mapped_some setup_in (slice_get ms b) x (sym (slice_get-map setup_in ms b) ∙ (ap (λ (xs : List Setup). slice_get xs b) (sym taken.setups) ∙ is)) in
            ap (λ (i : Input). i.setup) (input_is b m.0 m.1) ∙ m.2);
        wires = sym taken.wires;
      }

-- ---- its desks
sum_mapped : {A B : Type 0} (f : B → ℕ) (g : A → B) (xs : List A) → sum_by f (map g xs) ≡ sum_by (λ x. f (g x)) xs
sum_mapped f g [] = refl
sum_mapped f g (x ∷ xs) = sum_by-cons f (g x) (map g xs) ∙ (ap (λ (k : ℕ). f (g x) + k) (sum_mapped f g xs) ∙ sym (sum_by-cons (λ y. f (g y)) x xs))

few_ports : (ms : List NetMember) (ws : List Wire) → AreRead ms ws → ports_together ms ≤ 4160
few_ports ms ws read = ltb-false 4160 (ports_together ms) (refuse_ok (nat_lt 4160 (ports_together ms)) fault.Range (codes "bridge") (past ms read.written ws read.wired).few)

ports_are : (counters : Bool) (ms : List NetMember) → sum_by (λ (p : Listed). length (external_ports p.tree)) (map (manifest_with counters) ms) ≡ ports_together ms
unfolding ports_together
ports_are counters ms = sum_mapped (λ (p : Listed). length (external_ports p.tree)) (manifest_with counters) ms

noted_first : (tells : Type 0) (now : Files) (ids : ℕ → Id) (d : BridgeOutputs) (n : Net) (b : ℕ) → IsSet tells now ids d → IsNoted tells now d (no_dones n b)
noted_first tells now ids d n b set =
    record {
      counted = set.counted;
      texts = λ t. kinds_same d.manifest now now (pieces_of d.outputs) first_text (text_of (no_dones n b) []) (λ o. text-first o) (set.texts t);
      sent = set.sent;
    }

module _ (law : BridgesWriteApart) (tells : Type 0) (counters : Bool) (ms : List NetMember) (ws : List Wire) (parts : NetParts) (checked : List (Vec CheckedCapture Global)) (before now : Files) (ids : ℕ → Id) (desks : List BridgeOutputs) where
  valid_at : AreRead ms ws → (b : ℕ) (m : NetMember) → slice_get ms b ≡ Some m → IsValid m.topology.setup
  valid_at read b m is = subst (λ (x : NetMember). IsValid x.topology.setup) (get_or_from_slice_get ms b m m is) (read.valid b m (slice_get_within ms b m is))

  desks_are : AreRead ms ws → AreSet tells (map (manifest_with counters) ms) before now ids desks → AreDesks tells (run_of counters ms ws now before) now ids desks
  desks_are read set =
      record {
        ready = record { each = λ b d is. (set.each b d is).ready };
        manifests = set.manifests;
        apart = manifests_apart law counters ms read.names read.apart;
        whole = length-map ms (manifest_with counters);
        bridges = read.few;
        each = λ b p is.
            (let m = mapped_some (manifest_with counters) (slice_get ms b) p (sym (slice_get-map (manifest_with counters) ms b) ∙ is) in
            subst (λ (z : Listed). (z.tree ≡ tree_in (net_of ms ws now) b) × (z.options.trace ≡ false) × IsTree z.tree) m.2
            (sym ((trees_are ms ws now).tree b m.0 m.1), refl, (valid_at read b m.0 m.1).tree));
        ports = (let few = few_ports ms ws read in let same = ports_are counters ms in omega (arith, few, same));
        files = set.others;
      }

  pub prepared : IsTakenApart ms ws parts → AreRead ms ws → AreMembersChecked tells ms now checked → AreSet tells (map (manifest_with counters) ms) before now ids desks →
      IsPrepared tells counters ms ws parts checked before now ids desks
  prepared taken read all set =
      record {
        parts_are = taken;
        read = read;
        checked_are = all;
        set = desks_are read set;
        noted = record { each = λ b d is. noted_first tells now ids d (net_of ms ws now) b (set.each b d is) };
      }
