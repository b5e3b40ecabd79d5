-- The programmes of all bridges, before anything is taken: what they begin with, and that all that comes is still to come.
use Rattle.std.proofs.Common.{◌≡◌, ℕ, zero, suc, ◌+◌, ◌≤◌, ◌*◌, ◌==◌, ◌||◌, Bool, true, false, List, [], ◌∷◌, ◌++◌, length, map, filter, get_or, Option, Some, None, refl, ap, sym, subst, ◌∙◌, arith, codes, cond, inl, inr, if◌then◌else◌}
use Rattle.std.specs.Prelude.{All, AllPairs, is_some, nat_lt, slice_get, sum_by}
use Rattle.std.specs.List.{list_any}
use Rattle.std.specs.declared.alloc.Global.{Global}
use Rattle.std.specs.declared.vec.Vec.{Vec}
use Rattle.std.proofs.lemmas.Bool.{and_parts, cases_Bool, eqb-true, false≢true, ltb-false}
use Rattle.std.proofs.lemmas.List.{length-map}
use Rattle.std.proofs.lemmas.List.Sums.{sum_by-cons}
use Rattle.std.proofs.lemmas.Option.{slice_get-get_or}
use Rattle.exb_model.specs.declared.setup.Timed.{Timed}
use Rattle.exb_model.specs.Input.{Input, Record, given_by, tree_of}
use Rattle.exb_model.specs.Ports.{all_ports}
use Rattle.exb_model.specs.Setup.{NamesExternal, shape_of}
use Rattle.exb_model.specs.Tree.{external_ports, is_external}
use Rattle.exb_toml_keys.specs.declared.faults.KeyFault.TheVariants as fault
use Rattle.exb_topology.specs.Soundness.{IsSound}
use Rattle.exb_topology.proofs.ElementChecks.{refuse_ok}
use Rattle.exb_topology_tables.specs.declared.elements.Named.{Named}
use Rattle.exb_shelf.specs.Files.{Files}
use Rattle.exb_shelf.specs.Shelf.{Id, Opens}
use Rattle.exb_shelf.proofs.IdLemmas.{opens_weaker}
use Rattle.exb_net_spec.specs.declared.wires.End.{End}
use Rattle.exb_net_spec.specs.declared.wires.Wire.{Wire}
use Rattle.exb_net_spec.specs.Nets.{IsEnd, Net, ends_of, far_end, is_at, is_wired}
use Rattle.exb_timeline.specs.declared.bridge_timeline.Timeline.{Timeline}
use Rattle.exb_timeline.specs.CaptureMerges.{HasPort, Standing, left_in, number_of, standings}
use Rattle.exb_timeline.specs.Streams.{Stream}
use Rattle.exb_inputs.specs.declared.captures.CheckedCapture.{CheckedCapture}
use Rattle.exb_inputs.specs.ReplayStart.{stream_told}
use Rattle.exb_inputs.specs.CaptureChecks.{AreChecked, most_bytes}
use Rattle.exb_inputs.specs.Inputs.{input_of, is_named, name_of}
use Rattle.exb_inputs.specs.ShelfEffects.{ReadsCapture}
use Rattle.exb_inputs.proofs.FirstRecords.{numbers-one}
use Rattle.exb_inputs.proofs.CaptureFaults.{named_by}
use Rattle.exb_inputs.proofs.ChangedPorts.{named-port}
use Rattle.exb_net_file.specs.declared.net_parts.BridgeInputs.{BridgeInputs}
use Rattle.exb_net_file.specs.declared.members.NetMember.{NetMember}
use Rattle.exb_net_file.specs.SetupParts.{rest_of}
use Rattle.exb_net_file.specs.Members.{ports_together, tree_in}
use Rattle.exb_net_file.specs.Soundness.{IsInputOf, IsMadeOf}
use Rattle.exb_net_file.specs.Wires.{has_capture}
use Rattle.exb_net_file.proofs.Nets.{past}
use Rattle.exb_inputs.specs.MemberChecks.{AreMembersChecked}
use Rattle.exb_inputs.specs.NetContents.{AreRead}
use Rattle.exb_inputs.specs.OpenedNetFiles.{ReadsMemberCapture}
use Rattle.exb_inputs.proofs.PairedLists.{both_at}
use Rattle.exb_inputs.proofs.OpenedNetFiles.{all_get}
use Rattle.exb_net.specs.Nets.{input_in, net_of, no_input}
use Rattle.exb_net.specs.OpenOrder.{HasCaptureAt}
use Rattle.exb_net.specs.ReopenedCaptures.{AreReopened, IsReopened, ReadsRest, streams_of}
use Rattle.exb_net.specs.Preparation.{IsToBeOpened}
use Rattle.exb_net.specs.ShelfEffects.{IsOfCaptures}
use Rattle.exb_net.specs.NetInvariants.{AreOfRests, Begins, BeginsAt}

-- ---- places
mapped_at : {A B : Type 0} (f : A → B) (xs : List A) (b : ℕ) (y : B) → slice_get (map f xs) b ≡ Some y → (x : A) × (slice_get xs b ≡ Some x) × (f x ≡ y)
mapped_at f [] b y is = absurd (cc)
mapped_at f (x ∷ xs) zero y is = (x, refl, cc)
mapped_at f (x ∷ xs) (suc b) y is = mapped_at f xs b y is

-- the bridge of what is said of it
pub member_at : (ms : List NetMember) (rests : List BridgeInputs) (b : ℕ) (r : BridgeInputs) → rests ≡ map rest_of ms → slice_get rests b ≡ Some r → (m : NetMember) × (slice_get ms b ≡ Some m) × (rest_of m ≡ r)
member_at ms rests b r are is = mapped_at rest_of ms b r (subst (λ (xs : List BridgeInputs). slice_get xs b ≡ Some r) are is)

-- ---- bridges whose captures were opened again
pub reopened_push : (start : ℕ) (rs : List BridgeInputs) (cs : List (Vec CheckedCapture Global)) (ps : List Timeline) (r : BridgeInputs) (c : Vec CheckedCapture Global) (p : Timeline) → AreReopened start rs cs ps → IsReopened start r c.items p →
    AreReopened start (rs ++ r ∷ []) (cs ++ c ∷ []) (ps ++ p ∷ [])
reopened_push start [] [] [] r c p all one = (one, tt)
reopened_push start [] [] (q ∷ ps) r c p all one = absurd all
reopened_push start [] (d ∷ cs) [] r c p all one = absurd all
reopened_push start [] (d ∷ cs) (q ∷ ps) r c p all one = absurd all
reopened_push start (s ∷ rs) [] [] r c p all one = absurd all
reopened_push start (s ∷ rs) [] (q ∷ ps) r c p all one = absurd all
reopened_push start (s ∷ rs) (d ∷ cs) [] r c p all one = absurd all
reopened_push start (s ∷ rs) (d ∷ cs) (q ∷ ps) r c p all one = (all.0, reopened_push start rs cs ps r c p all.1 one)

pub reopened_long : (start : ℕ) (rs : List BridgeInputs) (cs : List (Vec CheckedCapture Global)) (ps : List Timeline) → AreReopened start rs cs ps → (length ps ≡ length rs) × (length cs ≡ length rs)
reopened_long start [] [] [] all = (refl, refl)
reopened_long start [] [] (q ∷ ps) all = absurd all
reopened_long start [] (d ∷ cs) [] all = absurd all
reopened_long start [] (d ∷ cs) (q ∷ ps) all = absurd all
reopened_long start (s ∷ rs) [] [] all = absurd all
reopened_long start (s ∷ rs) [] (q ∷ ps) all = absurd all
reopened_long start (s ∷ rs) (d ∷ cs) [] all = absurd all
reopened_long start (s ∷ rs) (d ∷ cs) (q ∷ ps) all = let rest = reopened_long start rs cs ps all.1 in (ap suc rest.0, ap suc rest.1)

-- what is known of a programme
record At (start : ℕ) (rs : List BridgeInputs) (cs : List (Vec CheckedCapture Global)) (b : ℕ) (p : Timeline) : Type 0 where
  rest : BridgeInputs
  told : Vec CheckedCapture Global
  rest_is : slice_get rs b ≡ Some rest
  told_is : slice_get cs b ≡ Some told
  reopened : IsReopened start rest told.items p

reopened_at : (start : ℕ) (rs : List BridgeInputs) (cs : List (Vec CheckedCapture Global)) (ps : List Timeline) (b : ℕ) (p : Timeline) → AreReopened start rs cs ps → slice_get ps b ≡ Some p → At start rs cs b p
reopened_at start [] [] [] b p all is = absurd (cc)
reopened_at start [] [] (q ∷ ps) b p all is = absurd all
reopened_at start [] (d ∷ cs) [] b p all is = absurd all
reopened_at start [] (d ∷ cs) (q ∷ ps) b p all is = absurd all
reopened_at start (s ∷ rs) [] [] b p all is = absurd all
reopened_at start (s ∷ rs) [] (q ∷ ps) b p all is = absurd all
reopened_at start (s ∷ rs) (d ∷ cs) [] b p all is = absurd all
reopened_at start (s ∷ rs) (d ∷ cs) (q ∷ ps) zero p all is = let e : q ≡ p = cc in record { rest = s; told = d; rest_is = refl; told_is = refl; reopened = subst (λ (z : Timeline). IsReopened start s d.items z) e all.0 }
reopened_at start (s ∷ rs) (d ∷ cs) (q ∷ ps) (suc b) p all is =
    let at = reopened_at start rs cs ps b p all.1 is in
    record { rest = at.rest; told = at.told; rest_is = at.rest_is; told_is = at.told_is; reopened = at.reopened }

pub streams_push : (rs : List BridgeInputs) (cs : List (Vec CheckedCapture Global)) (r : BridgeInputs) (c : Vec CheckedCapture Global) (file : Files) → length cs ≡ length rs →
    streams_of (rs ++ r ∷ []) (cs ++ c ∷ []) file ≡ streams_of rs cs file ++ map (stream_told r.captures file) c.items ∷ []
streams_push [] [] r c file same = refl
streams_push [] (d ∷ cs) r c file same = absurd (omega (arith, same))
streams_push (s ∷ rs) [] r c file same = absurd (omega (arith, same))
streams_push (s ∷ rs) (d ∷ cs) r c file same = ap (λ (xs : List (List Stream)). map (stream_told s.captures file) d.items ∷ xs) (streams_push rs cs r c file (let less : length cs ≡ length rs = omega (arith, same) in less))

-- ---- what is checked
checked_at : (tells : Type 0) (ms : List NetMember) (file : Files) (cs : List (Vec CheckedCapture Global)) (b : ℕ) (m : NetMember) (c : Vec CheckedCapture Global) → AreMembersChecked tells ms file cs → slice_get ms b ≡ Some m → slice_get cs b ≡ Some c →
    AreChecked tells m.topology.captures file c.items
checked_at tells ms file cs b m c all is there = both_at (λ (k : NetMember) (d : Vec CheckedCapture Global). AreChecked tells k.topology.captures file d.items) ms cs b m c all is there

-- at a bridge that is to be opened
pub record ToOpen (tells : Type 0) (file : Files) (r : BridgeInputs) (c : Vec CheckedCapture Global) : Type 0 where
  pub checked : AreChecked tells r.captures file c.items
  pub few : length r.commands ≤ 65536
  pub rising : AllPairs (λ (x y : Timed). x.at ≤ y.at) r.commands

pub to_open : (tells : Type 0) (ms : List NetMember) (ws : List Wire) (rests : List BridgeInputs) (file : Files) (checked : List (Vec CheckedCapture Global)) (b : ℕ) (r : BridgeInputs) (c : Vec CheckedCapture Global) → IsToBeOpened tells ms ws rests file checked →
    slice_get rests b ≡ Some r → slice_get checked b ≡ Some c → ToOpen tells file r c
to_open tells ms ws rests file checked b r c to r_is c_is =
    let m = member_at ms rests b r to.rests_are r_is in
    let sound : IsSound m.0.topology = all_get (λ (k : NetMember). IsSound k.topology) ms b m.0 to.read.sound m.1 in
    subst (λ (s : BridgeInputs). ToOpen tells file s c) m.2
    (record { checked = checked_at tells ms file checked b m.0 c to.checked_are m.1 c_is; few = sound.few_commands; rising = sound.rising })

-- ---- wires
-- a wired port is an end of a wire
wired_end : (P : End → Type 0) (ws : List Wire) (b p : ℕ) → All P (ends_of ws) → is_wired ws b p ≡ true → (e : End) × (is_at e b p ≡ true) × P e
unfolding far_end
wired_end P [] b p all wired = absurd (false≢true wired)
wired_end P (x ∷ xs) b p all wired = elim (cases_Bool (is_at x.a b p)) [
  | inl at_a ↦ (x.a, at_a, all 0 x.a (omega arith))
  | inr not_a ↦ elim (cases_Bool (is_at x.b b p)) [
    | inl at_b ↦ (x.b, at_b, all 1 x.b (omega arith))
    | inr not_b ↦ wired_end P xs b p (λ k d low. all (suc (suc k)) d (omega (arith, low))) (rw (not_a, not_b) at wired)
  ]
]

-- a port with a capture is named
named_any : (names : List Named) (p : ℕ) → is_named names p ≡ list_any (λ capture. capture.port == p) names
named_any [] p = refl
named_any (x ∷ names) p = by_port (x.port == p) (named_any names p)
  where
    by_port : (b : Bool) → is_named names p ≡ list_any (λ capture. capture.port == p) names → is_some (if◌then◌else◌ {A = Option (List ℕ)} b (Some x.name) (name_of names p)) ≡ (b || list_any (λ capture. capture.port == p) names)
    by_port true rest = refl
    by_port false rest = rest

-- a net in which each port with a capture has a record
abbrev one_record : Record
one_record = record { time = 0; bytes = [] }

abbrev full_input : Option NetMember → Input
full_input None = no_input
full_input (Some m) = record { setup = m.topology.setup; commands = map given_by m.topology.commands; records = λ q. if has_capture m q then one_record ∷ [] else [] }

abbrev full_net : List NetMember → List Wire → Net
full_net ms ws = record { count = length ms; input = λ b. full_input (slice_get ms b); wires = ws }

full_made : (ms : List NetMember) (ws : List Wire) → IsMadeOf ms ws (full_net ms ws)
full_made ms ws = record {
  count = refl;
  inputs = λ b d low. subst (λ (o : Option NetMember). IsInputOf (get_or ms b d) (full_input o)) (sym (slice_get-get_or ms b d low))
      (record { setup = refl; commands = refl; free = λ q none. ap (λ (t : Bool). if t then one_record ∷ [] else []) none });
  wires = refl;
}

none_of_one : (t : Bool) → (if◌then◌else◌ {A = List Record} t (one_record ∷ []) []) ≡ [] → t ≡ false
none_of_one true e = absurd (let long : length (one_record ∷ []) ≡ length {A = Record} [] = ap length e in omega (arith, long))
none_of_one false e = refl

-- so no wired port has one
free_of_wires : (ms : List NetMember) (ws : List Wire) (b : ℕ) (m : NetMember) (q : ℕ) → AreRead ms ws → slice_get ms b ≡ Some m → is_named m.topology.captures q ≡ true → is_wired ws b q ≡ false
free_of_wires ms ws b m q read is named = elim (cases_Bool (is_wired ws b q)) [
  | inl wired ↦ absurd (by_end (wired_end (IsEnd (full_net ms ws)) ws b q (read.nets.valid (full_net ms ws) (full_made ms ws)).ends wired))
  | inr free ↦ free
]
  where
    by_end : (e : End) × (is_at e b q ≡ true) × IsEnd (full_net ms ws) e → ⊥
    by_end (e, at, end) =
        let parts = and_parts (e.bridge == b) (e.port == q) at in
        let bridge : e.bridge ≡ b = eqb-true e.bridge b parts.0 in
        let port : e.port ≡ q = eqb-true e.port q parts.1 in
        let none : (full_input (slice_get ms b)).records q ≡ [] = subst (λ (p : ℕ). (full_input (slice_get ms b)).records p ≡ []) port (subst (λ (c : ℕ). (full_input (slice_get ms c)).records e.port ≡ []) bridge end.free) in
        let own : (full_input (Some m)).records q ≡ [] = subst (λ (o : Option NetMember). (full_input o).records q ≡ []) is none in
        false≢true (sym (none_of_one (has_capture m q) own) ∙ (sym (named_any m.topology.captures q) ∙ named))

-- ---- how much is to be read
few_bytes : (cs : List CheckedCapture) → All (λ (c : CheckedCapture). c.told.bytes ≤ most_bytes) cs → sum_by (λ (c : CheckedCapture). c.told.bytes + 1) cs ≤ (most_bytes + 1) * length cs
few_bytes [] all = omega arith
few_bytes (c ∷ cs) all =
    let own = all 0 c (omega arith) in
    let rest = few_bytes cs (λ k d low. all (suc k) d (omega (arith, low))) in
    let whole = sum_by-cons (λ (x : CheckedCapture). x.told.bytes + 1) c cs in
    omega (arith, own, rest, whole)

few_passed : (P Q : ℕ → Bool) → ((q : ℕ) → P q ≡ true → Q q ≡ true) → (xs : List ℕ) → length (filter P xs) ≤ length (filter Q xs)
few_passed P Q so [] = omega arith
few_passed P Q so (x ∷ xs) = by_tests (P x) (Q x) (so x) (few_passed P Q so xs)
  where
    by_tests : (p q : Bool) → (p ≡ true → q ≡ true) → length (filter P xs) ≤ length (filter Q xs) → length (cond p (x ∷ filter P xs) (filter P xs)) ≤ length (cond q (x ∷ filter Q xs) (filter Q xs))
    by_tests true true s rest = omega (arith, rest)
    by_tests true false s rest = absurd (false≢true (s refl))
    by_tests false true s rest = omega (arith, rest)
    by_tests false false s rest = rest

-- as many captures as ports that may have one, or fewer
few_checked : (tells : Type 0) (m : NetMember) (file : Files) (cs : List CheckedCapture) → IsSound m.topology → AreChecked tells m.topology.captures file cs → length cs ≤ length (external_ports (tree_in m))
unfolding external_ports
few_checked tells m file cs sound checked =
    let few = few_passed (is_named m.topology.captures) (is_external (tree_in m)) (λ q is. named_by (is_external (tree_in m)) m.topology.captures q sound.captures is) all_ports in
    let size = ap (λ (ps : List ℕ). length ps) checked.ports in
    let same = length-map cs (λ (c : CheckedCapture). c.port) in
    omega (arith, few, size, same)

few_all : (tells : Type 0) (start : ℕ) (file : Files) (ms : List NetMember) (cs : List (Vec CheckedCapture Global)) (ps : List Timeline) → All (λ (m : NetMember). IsSound m.topology) ms → AreMembersChecked tells ms file cs → AreReopened start (map rest_of ms) cs ps →
    sum_by (λ (p : Timeline). left_in p.captures) ps ≤ (most_bytes + 1) * ports_together ms
unfolding ports_together
few_all tells start file [] [] [] sound checked all = omega arith
few_all tells start file [] [] (p ∷ ps) sound checked all = absurd all
few_all tells start file [] (c ∷ cs) ps sound checked all = absurd checked
few_all tells start file (m ∷ ms) [] ps sound checked all = absurd checked
few_all tells start file (m ∷ ms) (c ∷ cs) [] sound checked all = absurd all
few_all tells start file (m ∷ ms) (c ∷ cs) (p ∷ ps) sound checked all =
    let own = all.0.left in
    let one = few_bytes c.items checked.0.small in
    let few = few_checked tells m file c.items (sound 0 m (omega arith)) checked.0 in
    let rest = few_all tells start file ms cs ps (λ k d low. sound (suc k) d (omega (arith, low))) checked.1 all.1 in
    let whole = sum_by-cons (λ (q : Timeline). left_in q.captures) p ps in
    let ports = sum_by-cons (λ (k : NetMember). length (external_ports (tree_in k))) m ms in
    omega (arith, own, one, few, rest, whole, ports)

few_ports : (ms : List NetMember) (ws : List Wire) → AreRead ms ws → ports_together ms ≤ 4160
few_ports ms ws read = ltb-false 4160 (ports_together ms) (refuse_ok (nat_lt 4160 (ports_together ms)) fault.Range (codes "bridge") (past ms read.written ws read.wired).few)

-- ---- what they begin with
input_is : (ms : List NetMember) (ws : List Wire) (file : Files) (b : ℕ) (m : NetMember) → slice_get ms b ≡ Some m → (net_of ms ws file).input b ≡ input_of m.topology file
input_is ms ws file b m is = ap (input_in file) is

module _ (tells : Type 0) (ms : List NetMember) (ws : List Wire) (rests : List BridgeInputs) (file : Files) (checked : List (Vec CheckedCapture Global)) (to : IsToBeOpened tells ms ws rests file checked) where
  begins_at : (start b : ℕ) (p : Timeline) → At start rests checked b p → BeginsAt (net_of ms ws file) b start p
  begins_at start b p at =
      let m = member_at ms rests b at.rest to.rests_are at.rest_is in
      let k : NetMember = m.0 in
      let sound : IsSound k.topology = all_get (λ (x : NetMember). IsSound x.topology) ms b k to.read.sound m.1 in
      let i : (net_of ms ws file).input b ≡ input_of k.topology file = input_is ms ws file b k m.1 in
      let own = at.reopened in
      let commands : p.commands.now ≡ k.topology.commands = own.commands_are ∙ ap (λ (r : BridgeInputs). r.commands) (sym m.2) in
      let is_checked = checked_at tells ms file checked b k at.told to.checked_are m.1 at.told_is in
      let named : (q : ℕ) → HasPort q (standings p.captures) → is_named k.topology.captures q ≡ true = λ q has. named-port k.topology.captures at.told.items is_checked.ports q (subst (HasPort q) own.standing has) in
      record {
        start_is = own.start_is;
        given = ap (λ (x : Input). x.commands) i ∙ ap (map given_by) (sym commands);
        names = subst (λ (x : Input). All (λ (c : Timed). NamesExternal (tree_of x) c.command) p.commands.now) (sym i) (subst (λ (cs : List Timed). All (λ (c : Timed). NamesExternal (shape_of k.topology.setup) c.command) cs) (sym commands) sound.commands);
        few_commands = (let few = sound.few_commands in let same = ap (λ (cs : List Timed). length cs) commands in omega (arith, few, same));
        within = (let none = own.none in omega (arith, none));
        free = λ q has. (
          subst (λ (x : Input). is_external (tree_of x) q ≡ true) (sym i) (named_by (is_external (shape_of k.topology.setup)) k.topology.captures q sound.captures (named q has)),
          free_of_wires ms ws b k q to.read m.1 (named q has),
        );
        taken = own.none;
        next = λ q. ap (λ (ss : List Standing). number_of ss q) own.standing ∙ numbers-one at.told.items q;
      }

  pub begins : (start : ℕ) (ps : List Timeline) → AreReopened start rests checked ps → Begins (net_of ms ws file) ps
  begins start ps all = record {
    count = (reopened_long start rests checked ps all).0 ∙ (ap (λ (rs : List BridgeInputs). length rs) to.rests_are ∙ length-map ms rest_of);
    start = start;
    each = λ b p is. begins_at start b p (reopened_at start rests checked ps b p all is);
    few_bytes =
        (let few = few_all tells start file ms checked ps to.read.sound to.checked_are (subst (λ (rs : List BridgeInputs). AreReopened start rs checked ps) to.rests_are all) in
        let ports = few_ports ms ws to.read in
        omega (arith, few, ports));
  }

  -- a port whose capture is read again has one that is named
  pub has_capture_at : (start : ℕ) (ps : List Timeline) (ks : List NetMember) (name : List ℕ) (q : ℕ) → AreReopened start rests checked ps → rests ≡ map rest_of ks → IsOfCaptures rests ps name q → HasCaptureAt ks name q
  has_capture_at start ps ks name q all are of =
      let has = of.has in
      let at = reopened_at start rests checked ps of.bridge has.0 all has.1 in
      let same : at.rest ≡ of.rest = (let e : Some at.rest ≡ Some of.rest = sym at.rest_is ∙ of.is in cc) in
      let m = member_at ms rests of.bridge at.rest to.rests_are at.rest_is in
      let is_checked = checked_at tells ms file checked of.bridge m.0 at.told to.checked_are m.1 at.told_is in
      let named : is_named m.0.topology.captures q ≡ true = named-port m.0.topology.captures at.told.items is_checked.ports q (subst (HasPort q) at.reopened.standing has.2) in
      let k = member_at ks rests of.bridge of.rest are of.is in
      let rest : rest_of m.0 ≡ rest_of k.0 = m.2 ∙ (same ∙ sym k.2) in
      record {
        bridge = of.bridge;
        member = k.0;
        is = k.1;
        called = ap (λ (r : BridgeInputs). r.name) k.2 ∙ of.called;
        named = subst (λ (r : BridgeInputs). is_named r.captures q ≡ true) rest named;
      }

-- from which second they count
pub starts_at : (start : ℕ) (rests : List BridgeInputs) (checked : List (Vec CheckedCapture Global)) (ps : List Timeline) → AreReopened start rests checked ps → (b : ℕ) (p : Timeline) → slice_get ps b ≡ Some p → p.start ≡ start
starts_at start rests checked ps all b p is = (reopened_at start rests checked ps b p all is).reopened.start_is

-- the commands lie where they are
pub of_rests : (start : ℕ) (rests : List BridgeInputs) (checked : List (Vec CheckedCapture Global)) (ps : List Timeline) → AreReopened start rests checked ps → AreOfRests rests ps
of_rests start rests checked ps all = record {
  whole = sym (reopened_long start rests checked ps all).0;
  each = λ b x p x_is p_is.
      (let at = reopened_at start rests checked ps b p all p_is in
      let same : at.rest ≡ x = (let e : Some at.rest ≡ Some x = sym at.rest_is ∙ x_is in cc) in
      at.reopened.commands_are ∙ ap (λ (r : BridgeInputs). r.commands) same);
}

-- ---- ids
pub reads_member : (ms : List NetMember) (rests : List BridgeInputs) → rests ≡ map rest_of ms → (i : Id) → ReadsRest rests i → ReadsMemberCapture ms i
reads_member ms rests are i r =
    let m = member_at ms rests r.bridge r.rest are r.is in
    record { bridge = r.bridge; member = m.0; is_there = m.1; capture = subst (λ (s : BridgeInputs). ReadsCapture s.captures i) (sym m.2) r.capture }

pub opens_members : (ms : List NetMember) (rests : List BridgeInputs) (given ids : ℕ → Id) → rests ≡ map rest_of ms → Opens (ReadsRest rests) given ids → Opens (ReadsMemberCapture ms) given ids
opens_members ms rests given ids are opens = opens_weaker (ReadsRest rests) (ReadsMemberCapture ms) given ids (reads_member ms rests are) opens

-- a capture that has changed is one of a bridge
pub changed_at : (ms : List NetMember) (rests : List BridgeInputs) (b : ℕ) (r : BridgeInputs) (name : List ℕ) (p : ℕ) → rests ≡ map rest_of ms → slice_get rests b ≡ Some r → (name ≡ r.name) × (is_named r.captures p ≡ true) → HasCaptureAt ms name p
changed_at ms rests b r name p are is own =
    let m = member_at ms rests b r are is in
    record {
      bridge = b;
      member = m.0;
      is = m.1;
      called = ap (λ (s : BridgeInputs). s.name) m.2 ∙ sym own.0;
      named = subst (λ (s : BridgeInputs). is_named s.captures p ≡ true) (sym m.2) own.1;
    }
