-- The captures of a net while its files are made and written: none has the name of one, so they stay as they were checked.
use Rattle.std.proofs.Common.{◌≡◌, ◌≢◌, ℕ, zero, suc, ◌<◌, ◌++◌, Bool, false, cond, List, [], ◌∷◌, get_or, length, map, take, Option, Some, None, Result, Ok, refl, ap, sym, ◌∙◌, subst, arith, codes}
use Rattle.std.specs.Prelude.{All, is_some, nat_lt, slice_get}
use Rattle.std.specs.List.{list_any}
use Rattle.std.specs.Str.{bytes_eq}
use Rattle.std.proofs.lemmas.Bool.{false≢true, false_from_ne_true}
use Rattle.std.proofs.lemmas.Bool.Decides.{not_from_Decides}
use Rattle.std.proofs.lemmas.List.{get_or-map, length-map}
use Rattle.std.proofs.lemmas.List.Folds.{list_any_at}
use Rattle.std.proofs.lemmas.Slice.Eq.{bytes_eq-Decides}
use Rattle.std.proofs.lemmas.Option.{get_or_from_slice_get, slice_get-map, slice_get_within}
use Rattle.std.specs.declared.alloc.Global.{Global}
use Rattle.std.specs.declared.vec.Vec.{Vec}
use Rattle.exb_capture.specs.Captures.{capture_records, records_or_none}
use Rattle.exb_inputs.specs.declared.captures.CheckedCapture.{CheckedCapture}
use Rattle.exb_inputs.specs.CaptureChecks.{AreChecked, IsGood, IsToldOf}
use Rattle.exb_inputs.specs.Inputs.{bytes_named, input_of, name_of, records_at}
use Rattle.exb_toml_keys.specs.Faults.{Refusal, ◌>>=◌, in_element}
use Rattle.exb_toml_keys.specs.declared.faults.KeyFault.TheVariants as fault
use Rattle.exb_toml_keys.proofs.PassedSteps.{went}
use Rattle.exb_model.specs.Tree.{Shape, external_ports}
use Rattle.exb_net_spec.specs.declared.wires.Wire.{Wire}
use Rattle.exb_net_file.specs.declared.members.NetMember.{NetMember}
use Rattle.exb_net_file.specs.declared.elements.NetWire.{NetWire}
use Rattle.exb_net_file.specs.Members.{files_ok, is_output_of_net, outputs_in, ports_together, prefix_of, tree_in}
use Rattle.exb_net_file.specs.Wires.{wires_from, wires_of}
use Rattle.exb_outputs.specs.Manifests.{IsMade, Listed, kind_at, output_count, output_name, place_in}
use Rattle.exb_outputs.proofs.KindPlaces.{kind_is}
use Rattle.exb_outputs.proofs.PortPlaces.{place_low, port_of_place}
use Rattle.exb_shelf.specs.Files.{Files, bytes_of}
use Rattle.exb_topology_tables.specs.declared.elements.Named.{Named}
use Rattle.exb_journal.specs.declared.file_names.OutputKind.{OutputKind}
use Rattle.exb_journal.specs.declared.file_names.OutputKind.TheVariants as output
use Rattle.exb_journal.specs.FileNames.{IsOfPort, all_outputs, file_name, other_outputs}
use Rattle.exb_topology.specs.Checks.{output_names}
use Rattle.exb_topology.specs.ElementChecks.{each_ok, refuse}
use Rattle.exb_topology.proofs.ElementChecks.{ok_at, refuse_ok}
use Rattle.exb_inputs.proofs.CaptureFaults.{name_by}
use Rattle.exb_inputs.specs.MemberChecks.{AreMembersChecked}
use Rattle.exb_inputs.specs.NetContents.{AreRead}
use Rattle.exb_net.specs.WrittenOutputs.{OnlyAllListed}
use Rattle.exb_net.specs.Nets.{input_in, net_of, manifest_with}
use Rattle.exb_net.proofs.BridgeFiles.{mapped_some}

-- ---- names
none_pass : {X : Type 0} (test : X → Bool) (xs : List X) → list_any test xs ≡ false → (k : ℕ) (d : X) → k < length xs → test (get_or xs k d) ≡ false
none_pass test xs none k d low = false_from_ne_true (test (get_or xs k d)) (λ is. false≢true (sym none ∙ list_any_at test xs k d low is))

differ : (name other : List ℕ) → bytes_eq name other ≡ false → name ≢ other
differ name other = not_from_Decides (bytes_eq name other) (bytes_eq-Decides name other)

apart_from : (t : Shape) (prefix name : List ℕ) → list_any (λ o. bytes_eq name o) (output_names prefix t) ≡ false → All (λ o. name ≢ file_name prefix o) (all_outputs t)
unfolding output_names
apart_from t prefix name none k d low =
    differ name (file_name prefix (get_or (all_outputs t) k d)) (subst (λ o. bytes_eq name o ≡ false) (get_or-map (file_name prefix) (all_outputs t) k d [] low)
    (none_pass (bytes_eq name) (output_names prefix t) none k [] (rw (length-map (all_outputs t) (file_name prefix)) low)))

all_cons : {X : Type 0} (P : X → Type 0) (x : X) (xs : List X) → P x → All P xs → All P (x ∷ xs)
all_cons P x xs here rest zero d low = here
all_cons P x xs here rest (suc k) d low = rest k d (omega (arith, low))

by_kinds : (P : OutputKind → Type 0) (ports : List ℕ) → All P (map output.Capture ports ++ other_outputs) → All (λ q. P (output.Capture q)) ports × (P output.Journal × P output.Trace × P output.Counters)
by_kinds P [] all = (λ k d low. absurd (omega (arith, low)), (all 0 output.Journal (omega arith), all 1 output.Journal (omega arith), all 2 output.Journal (omega arith)))
by_kinds P (p ∷ ports) all =
    let rest = by_kinds P ports (λ k d low. all (suc k) d (omega (arith, low))) in
    (all_cons (λ q. P (output.Capture q)) p ports (all 0 output.Journal (omega arith)) rest.0, rest.1)

of_kind : (manifest : Listed) (P : OutputKind → Type 0) → All P (all_outputs manifest.tree) → (o : OutputKind) → IsMade manifest.options manifest.tree o → IsOfPort o → P o
of_kind manifest P all (output.Capture q) made low =
    subst (λ (k : ℕ). P (output.Capture k)) (port_of_place manifest q low made) ((by_kinds P (external_ports manifest.tree) all).0 (place_in manifest.tree q) 0 (place_low manifest q low made))
of_kind manifest P all output.Journal made low = (by_kinds P (external_ports manifest.tree) all).1.0
of_kind manifest P all output.Trace made low = (by_kinds P (external_ports manifest.tree) all).1.1
of_kind manifest P all output.Counters made low = (by_kinds P (external_ports manifest.tree) all).1.2

-- ---- of a net that was read
checked_files : (ms : List NetMember) (ws : List NetWire) (xs : List Wire) → wires_of ms ws ≡ Ok xs → each_ok (files_ok ms) ms 0 ms ≡ Ok tt
unfolding wires_of
checked_files ms ws xs h =
    let one : Unit {0} → Result (List Wire) Refusal = λ _. each_ok (files_ok ms) ms 0 ms >>= λ _. wires_from ms [] 0 ws in
    let a = went (refuse (nat_lt 4160 (ports_together ms)) fault.Range (codes "bridge")) one xs h in
    (went (each_ok (files_ok ms) ms 0 ms) (λ _. wires_from ms [] 0 ws) xs a.rest).first

-- no file that some bridge writes has the name of a capture
pub captures_apart : (ms : List NetMember) (ws : List NetWire) (xs : List Wire) → wires_of ms ws ≡ Ok xs → (b : ℕ) (m : NetMember) → slice_get ms b ≡ Some m → (q : ℕ) (name : List ℕ) → name_of m.topology.captures q ≡ Some name →
    (counters : Bool) (c : ℕ) (k : NetMember) → slice_get ms c ≡ Some k → (j : ℕ) → j < output_count (manifest_with counters k) → name ≢ output_name (manifest_with counters k) j
captures_apart ms ws xs h b m is q name named counters c k so j low =
    let passed : files_ok ms (take b ms) b m ≡ Ok tt =
    subst (λ (x : NetMember). files_ok ms (take b ms) b x ≡ Ok tt) (get_or_from_slice_get ms b m m is) (ok_at (files_ok ms) ms (checked_files ms ws xs h) b m (slice_get_within ms b m is)) in
    let none : list_any (λ capture. is_output_of_net ms capture.name) m.topology.captures ≡ false = refuse_ok _ fault.Repeat (in_element (codes "bridge") b ++ codes "topology") passed in
    let own : is_output_of_net ms name ≡ false = name_by (λ n. is_output_of_net ms n ≡ false) m.topology.captures q name (λ i d within. none_pass (λ capture. is_output_of_net ms capture.name) m.topology.captures none i d within) named in
    let away : list_any (λ o. bytes_eq name o) (outputs_in k) ≡ false =
    subst (λ (x : NetMember). list_any (λ o. bytes_eq name o) (outputs_in x) ≡ false) (get_or_from_slice_get ms c k k so) (none_pass (λ x. list_any (λ o. bytes_eq name o) (outputs_in x)) ms own c k (slice_get_within ms c k so)) in
    let kind = kind_is (manifest_with counters k) j low in
    of_kind (manifest_with counters k) (λ o. name ≢ file_name (prefix_of k.name) o) (apart_from (tree_in k) (prefix_of k.name) name away) (kind_at (manifest_with counters k) j) kind.made kind.of_port

-- ---- captures that stay
-- the files of these captures are the same
abbrev pub SameCaptureFiles : List NetMember → Files → Files → Type 0
SameCaptureFiles ms old new = (b : ℕ) (m : NetMember) (q : ℕ) (name : List ℕ) → slice_get ms b ≡ Some m → name_of m.topology.captures q ≡ Some name → new name ≡ old name

module _ (names : List Named) (old new : Files) (same : (q : ℕ) (name : List ℕ) → name_of names q ≡ Some name → new name ≡ old name) where
  records_same : (q : ℕ) → records_at names new q ≡ records_at names old q
  records_same q = by_name (name_of names q) (λ name is. same q name is)
    where
      by_name : (o : Option (List ℕ)) → ((name : List ℕ) → o ≡ Some name → new name ≡ old name) →
          cond (is_some o) (records_or_none (capture_records (bytes_named new o))) [] ≡ cond (is_some o) (records_or_none (capture_records (bytes_named old o))) []
      by_name None all = refl
      by_name (Some name) all = ap (λ (x : Option (List ℕ)). records_or_none (capture_records (bytes_of x))) (all name refl)

  told_same : (c : CheckedCapture) → IsToldOf names old c → IsToldOf names new c
  told_same c told = (told.0, told.1, subst (λ (x : Option (List ℕ)). IsGood x c.told) (sym (same c.port told.0 told.1)) told.2)

pub checked_same : (names : List Named) (old new : Files) (tells : Type 0) → (tells → (q : ℕ) (name : List ℕ) → name_of names q ≡ Some name → new name ≡ old name) → (checked : List CheckedCapture) → AreChecked tells names old checked →
    AreChecked tells names new checked
checked_same names old new tells same checked k =
    record { ports = k.ports; small = k.small; in_time = k.in_time; told = λ t i d low. told_same names old new (same t) (get_or checked i d) (k.told t i d low) }

input_same : (m : NetMember) (old new : Files) → ((q : ℕ) (name : List ℕ) → name_of m.topology.captures q ≡ Some name → new name ≡ old name) → input_of m.topology new ≡ input_of m.topology old
input_same m old new same =
    let all = records_same m.topology.captures old new same in
    λ i. record { setup = (input_of m.topology old).setup; commands = (input_of m.topology old).commands; records = λ q. all q i }

inputs_same : (ms : List NetMember) (old new : Files) → SameCaptureFiles ms old new → (b : ℕ) → input_in new (slice_get ms b) ≡ input_in old (slice_get ms b)
inputs_same ms old new same b = by_member (slice_get ms b) refl
  where
    by_member : (o : Option NetMember) → slice_get ms b ≡ o → input_in new o ≡ input_in old o
    by_member None is = refl
    by_member (Some m) is = input_same m old new (λ q name named. same b m q name is named)

-- so the net is the same
pub net_same : (ms : List NetMember) (ws : List Wire) (old new : Files) → SameCaptureFiles ms old new → net_of ms ws new ≡ net_of ms ws old
net_same ms ws old new same = (let all = inputs_same ms old new same in λ i. record { count = length ms; input = λ b. all b i; wires = ws })

-- and what was checked
pub members_same : (tells : Type 0) (ms : List NetMember) (old new : Files) (checked : List (Vec CheckedCapture Global)) → (tells → SameCaptureFiles ms old new) → AreMembersChecked tells ms old checked → AreMembersChecked tells ms new checked
members_same tells [] old new [] same all = tt
members_same tells [] old new (c ∷ cs) same all = absurd all
members_same tells (m ∷ ms) old new [] same all = absurd all
members_same tells (m ∷ ms) old new (c ∷ cs) same all =
    (checked_same m.topology.captures old new tells (λ t q name named. same t 0 m q name refl named) c.items all.0, members_same tells ms old new cs (λ t b x q name is named. same t (suc b) x q name is named) all.1)

-- They are the same where no file but outputs has changed.
pub captures_stay : (counters : Bool) (ms : List NetMember) (ws : List Wire) → AreRead ms ws → (old new : Files) → OnlyAllListed (map (manifest_with counters) ms) old new → SameCaptureFiles ms old new
captures_stay counters ms ws read old new only b m q name is named =
    only name (λ c p so j low.
    let k = mapped_some (manifest_with counters) (slice_get ms c) p (sym (slice_get-map (manifest_with counters) ms c) ∙ so) in
    subst (λ (z : Listed). j < output_count z → name ≢ output_name z j) k.2 (λ j_low. captures_apart ms read.written ws read.wired b m is q name named counters c k.0 k.1 j j_low) low)
