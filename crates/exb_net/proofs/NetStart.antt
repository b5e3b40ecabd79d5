-- Before anything is taken, what is still to come of all bridges is what comes to the net.
use Rattle.std.proofs.Common.{◌≡◌, ℕ, zero, suc, ◌≤◌, List, [], ◌∷◌, ◌++◌, length, map, Some, refl, ap, sym, subst, ◌∙◌, arith}
use Rattle.std.specs.Prelude.{flat_map, slice_get}
use Rattle.std.specs.declared.alloc.Global.{Global}
use Rattle.std.specs.declared.vec.Vec.{Vec}
use Rattle.std.proofs.lemmas.List.{length-map}
use Rattle.exb_model.specs.Input.{Input, Record, least_or}
use Rattle.exb_shelf.specs.Files.{Files}
use Rattle.exb_shelf.specs.Shelf.{Id}
use Rattle.exb_topology_tables.specs.declared.elements.Named.{Named}
use Rattle.exb_net_spec.specs.declared.wires.Wire.{Wire}
use Rattle.exb_net_spec.specs.Nets.{Net}
use Rattle.exb_net_spec.specs.NetHistory.{dues, start_of_all}
use Rattle.exb_timeline.specs.declared.bridge_timeline.Timeline.{Timeline}
use Rattle.exb_timeline.specs.NetMergeOrder.{AreAllOf, AreAllReplays, AreBegunOf, AreOfNet, all_to_play, dues_left, first_seconds}
use Rattle.exb_timeline.specs.Streams.{Stream, stream_at}
use Rattle.exb_inputs.specs.declared.captures.CheckedCapture.{CheckedCapture}
use Rattle.exb_inputs.specs.ReplayStart.{seconds_told, stream_told}
use Rattle.exb_inputs.specs.CaptureChecks.{AreChecked}
use Rattle.exb_inputs.specs.Inputs.{input_of, is_named, records_at}
use Rattle.exb_inputs.proofs.FirstRecords.{all-told, firsts-are, none-elsewhere, told-streams}
use Rattle.exb_net_file.specs.declared.net_parts.BridgeInputs.{BridgeInputs}
use Rattle.exb_net_file.specs.declared.members.NetMember.{NetMember}
use Rattle.exb_net_file.specs.SetupParts.{rest_of}
use Rattle.exb_inputs.specs.MemberChecks.{AreMembersChecked}
use Rattle.exb_net.specs.Nets.{input_in, net_of}
use Rattle.exb_net.specs.ReopenedCaptures.{seconds_of_all, start_of_told, streams_of}
use Rattle.exb_net.specs.Preparation.{IsToBeOpened}
use Rattle.exb_net.specs.NetInvariants.{Begins, LeadsOn}
use Rattle.exb_net.proofs.ReopenedCaptures.{AreInTime}

-- ---- one bridge
all_of : (tells : Type 0) (i : Input) (names : List Named) (file : Files) (cs : List CheckedCapture) → i.records ≡ records_at names file → AreChecked tells names file cs → AreAllOf i (map (stream_told names file) cs)
all_of tells i names file cs same checked = record {
  chosen = is_named names;
  none = λ q isnt. ap (λ (r : ℕ → List Record). r q) same ∙ none-elsewhere names file q isnt;
  are = told-streams i names file cs same ∙ ap (map (stream_at i)) checked.ports;
}

-- ---- all bridges
streams_long : (tells : Type 0) (file : Files) (ms : List NetMember) (cs : List (Vec CheckedCapture Global)) → AreMembersChecked tells ms file cs → length (streams_of (map rest_of ms) cs file) ≡ length ms
streams_long tells file [] [] all = refl
streams_long tells file [] (c ∷ cs) all = absurd all
streams_long tells file (m ∷ ms) [] all = absurd all
streams_long tells file (m ∷ ms) (c ∷ cs) all = ap suc (streams_long tells file ms cs all.1)

streams_at : (tells : Type 0) (file : Files) (ms : List NetMember) (cs : List (Vec CheckedCapture Global)) (b : ℕ) (xs : List Stream) → AreMembersChecked tells ms file cs → slice_get (streams_of (map rest_of ms) cs file) b ≡ Some xs →
    (m : NetMember) × (slice_get ms b ≡ Some m) × AreAllOf (input_of m.topology file) xs
streams_at tells file [] [] b xs all is = absurd (cc)
streams_at tells file [] (c ∷ cs) b xs all is = absurd all
streams_at tells file (m ∷ ms) [] b xs all is = absurd all
streams_at tells file (m ∷ ms) (c ∷ cs) zero xs all is =
    let e : map (stream_told m.topology.captures file) c.items ≡ xs = cc in
    (m, refl, subst (AreAllOf (input_of m.topology file)) e (all_of tells (input_of m.topology file) m.topology.captures file c.items refl all.0))
streams_at tells file (m ∷ ms) (c ∷ cs) (suc b) xs all is = streams_at tells file ms cs b xs all.1 is

seconds_are : (tells : Type 0) (file : Files) (ms : List NetMember) (cs : List (Vec CheckedCapture Global)) → tells → AreMembersChecked tells ms file cs → flat_map first_seconds (streams_of (map rest_of ms) cs file) ≡ seconds_of_all cs
seconds_are tells file [] [] t all = refl
seconds_are tells file [] (c ∷ cs) t all = absurd all
seconds_are tells file (m ∷ ms) [] t all = absurd all
seconds_are tells file (m ∷ ms) (c ∷ cs) t all =
    ap (λ (xs : List ℕ). xs ++ flat_map first_seconds (streams_of (map rest_of ms) cs file)) (firsts-are m.topology.captures file c.items (all-told m.topology.captures file c.items (all.0.told t)))
    ∙ ap (λ (xs : List ℕ). seconds_told c.items ++ xs) (seconds_are tells file ms cs t all.1)

-- each first record is in time
pub in_time : (tells : Type 0) (file : Files) (ms : List NetMember) (cs : List (Vec CheckedCapture Global)) → AreMembersChecked tells ms file cs → AreInTime cs
in_time tells file [] [] all = tt
in_time tells file [] (c ∷ cs) all = absurd all
in_time tells file (m ∷ ms) [] all = absurd all
in_time tells file (m ∷ ms) (c ∷ cs) all = (all.0.in_time, in_time tells file ms cs all.1)

-- of as many bridges captures were checked
pub checked_long : (tells : Type 0) (file : Files) (ms : List NetMember) (cs : List (Vec CheckedCapture Global)) → AreMembersChecked tells ms file cs → length cs ≡ length ms
checked_long tells file [] [] all = refl
checked_long tells file [] (c ∷ cs) all = absurd all
checked_long tells file (m ∷ ms) [] all = absurd all
checked_long tells file (m ∷ ms) (c ∷ cs) all = ap suc (checked_long tells file ms cs all.1)

pub as_many : (tells : Type 0) (ms : List NetMember) (ws : List Wire) (rests : List BridgeInputs) (file : Files) (checked : List (Vec CheckedCapture Global)) → IsToBeOpened tells ms ws rests file checked → (length checked ≡ length rests) × (length rests ≤ 16)
as_many tells ms ws rests file checked to =
    let long = checked_long tells file ms checked to.checked_are in
    let same : length rests ≡ length ms = ap (λ (rs : List BridgeInputs). length rs) to.rests_are ∙ length-map ms rest_of in
    let few = to.read.few in
    (long ∙ sym same, omega (arith, same, few))

abbrev pub DuesOfAll : Type 0
DuesOfAll = (n : Net) (streams : List (List Stream)) (programmes : List Timeline) → AreOfNet n streams → AreBegunOf n programmes → dues_left (all_to_play streams programmes) ≡ dues n

abbrev pub StartIsLeast : Type 0
StartIsLeast = (n : Net) (streams : List (List Stream)) → AreOfNet n streams → start_of_all n ≡ least_or 0 (flat_map first_seconds streams)

module _ (tells : Type 0) (ms : List NetMember) (ws : List Wire) (rests : List BridgeInputs) (file : Files) (checked : List (Vec CheckedCapture Global)) (to : IsToBeOpened tells ms ws rests file checked) where
  of_net : AreOfNet (net_of ms ws file) (streams_of (map rest_of ms) checked file)
  of_net = record {
    count = streams_long tells file ms checked to.checked_are;
    each = λ b xs is. (let at = streams_at tells file ms checked b xs to.checked_are is in subst (λ (i : Input). AreAllOf i xs) (sym (ap (input_in file) at.1)) at.2);
  }

  pub leads : DuesOfAll → StartIsLeast → tells → (now : Files) (ids : ℕ → Id) (ps : List Timeline) → Begins (net_of ms ws file) ps → ((b : ℕ) (p : Timeline) → slice_get ps b ≡ Some p → p.start ≡ start_of_told checked) →
      AreAllReplays now ids ps (streams_of rests checked file) → LeadsOn (net_of ms ws file) [] now ids ps
  leads law least t now ids ps begins starts replays =
      let n : Net = net_of ms ws file in
      let streams : List (List Stream) = streams_of (map rest_of ms) checked file in
      let start : start_of_all n ≡ start_of_told checked = least n streams of_net ∙ ap (least_or 0) (seconds_are tells file ms checked t to.checked_are) in
      record {
        streams = streams;
        replays = subst (λ (rs : List BridgeInputs). AreAllReplays now ids ps (streams_of rs checked file)) to.rests_are replays;
        rest = sym (law n streams ps of_net (record {
          count = begins.count;
          each = λ b p is. record { start = starts b p is ∙ sym start; commands = (begins.each b p is).given; taken = (begins.each b p is).taken };
        }));
      }
