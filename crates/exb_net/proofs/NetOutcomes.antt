-- A net that is asked for: what was read and checked, what was opened, and how it ends.
use Rattle.std.proofs.Common.{◌≡◌, ◌≢◌, ◌⊎◌, ℕ, zero, suc, ◌<◌, Bool, true, false, List, [], ◌∷◌, length, map, take, Some, None, Result, Ok, Err, refl, ap, sym, ◌∙◌, subst, arith, inl, inr}
use Rattle.std.specs.Prelude.{IfErr, IsErrOf, String, option_map, slice_get}
use Rattle.std.specs.declared.alloc.Global.{Global}
use Rattle.std.proofs.lemmas.Bool.{false≢true}
use Rattle.std.proofs.lemmas.List.{length-map}
use Rattle.std.proofs.lemmas.Option.{slice_get-map}
use Rattle.exb_toml_keys.specs.declared.faults.TopoFault.TheVariants as topology
use Rattle.exb_inputs.specs.declared.fault.Fault.{Fault}
use Rattle.exb_inputs.specs.declared.fault.Fault.TheVariants.{Usage, Missing, Topology, Capture, Changed, Net, Member, MemberCapture, MemberChanged, Output, TooLarge, BadLine, Illegal, Read, Write, Memory}
use Rattle.exb_inputs.specs.declared.fault.InputFlaw.{InputFlaw}
use Rattle.exb_inputs.specs.Answers.{fault_status}
use Rattle.exb_inputs.specs.Inputs.{is_named}
use Rattle.exb_inputs.specs.ShelfEffects.{ReadsCapture}
use Rattle.exb_inputs.proofs.Outcomes.{files_same}
use Rattle.exb_model.specs.Tree.{Shape}
use Rattle.exb_net_spec.specs.declared.wires.Wire.{Wire}
use Rattle.exb_net_file.specs.declared.net_file.NetFile.{NetFile}
use Rattle.exb_net_file.specs.declared.members.NetMember.{NetMember}
use Rattle.exb_net_file.specs.declared.elements.NetBridge.{NetBridge}
use Rattle.exb_net_file.specs.Members.{prefix_of, tree_in}
use Rattle.exb_inputs.specs.declared.net_inputs.NetInputs.{NetInputs}
use Rattle.exb_inputs.specs.MemberChecks.{AreAllMembersGood}
use Rattle.exb_inputs.specs.NetContents.{AreRead, HoldsNet}
use Rattle.exb_inputs.specs.NetLaws.{HaveOneCause}
use Rattle.exb_inputs.specs.OpenedNetFiles.{EndsAtMember, OpensCaptures, OpensEachOf, OpensNet, ReadsMemberCapture, ReadsTopologyOf}
use Rattle.exb_inputs.specs.NetFaultPhases.{IsOfMemberCapture}
use Rattle.exb_inputs.specs.NetFaultPhases.{IsOfNet as IsOfReading}
use Rattle.exb_inputs.specs.NetRefusals.{FirstMemberFault, IsNetRefused}
use Rattle.exb_inputs.proofs.WireDependence.{alone, tree_same}
use Rattle.exb_inputs.proofs.PairedLists.{ones_all}
use Rattle.exb_inputs.proofs.UniqueNetRefusal.{file_once, net_once}
use Rattle.exb_outputs.specs.OutputNames.{IsOutput}
use Rattle.exb_shelf.specs.Files.{Files, SameFiles}
use Rattle.exb_shelf.specs.Shelf.{Id, IsReading, IsReadingOf, Opens}
use Rattle.exb_shelf.proofs.IdLemmas.{opens_then, opens_weaker}
use Rattle.exb_net.specs.Answers.{IsNetFailure, IsOfNet, IsOfNetPlay, NetStops, OnlyNetAsked}
use Rattle.exb_net.specs.Nets.{IsNetOutput, OnlyNetOutputs, options_with}
use Rattle.exb_net.specs.OpenOrder.{HasCaptureAt, IsNetLate, IsNetWanted, MakesNet, MakesNetOutputOf, NetMadeBehind, NetOpens, NetOpensInOrder, ReadsNet, WritesNetOutput, net_names}
use Rattle.exb_net.specs.ShelfEffects.{IsNetChange}
use Rattle.exb_net.proofs.BridgeFiles.{mapped_some}
use Rattle.exb_net.proofs.FileOrder.{read_then_turn, turn_none}

-- ---- faults
pub reading_net : (x : Fault) → IsOfReading x → IsOfNet x
reading_net Usage is = absurd is
reading_net (Missing name) is = tt
reading_net (Topology fault) is = absurd is
reading_net (Capture p flaw) is = absurd is
reading_net (Changed p at) is = absurd is
reading_net (Net topology.Memory) is = absurd is
reading_net (Net topology.NotToml) is = tt
reading_net (Net topology.Large) is = tt
reading_net (Net (topology.At fault key)) is = tt
reading_net (Member name topology.Memory) is = absurd is
reading_net (Member name topology.NotToml) is = tt
reading_net (Member name topology.Large) is = tt
reading_net (Member name (topology.At fault key)) is = tt
reading_net (MemberCapture name p flaw) is = absurd is
reading_net (MemberChanged name p at) is = absurd is
reading_net (Output p broke) is = absurd is
reading_net (TooLarge what) is = absurd is
reading_net (BadLine what n) is = absurd is
reading_net (Illegal r) is = absurd is
reading_net Read is = tt
reading_net Write is = absurd is
reading_net Memory is = tt

pub capture_net : (x : Fault) → IsOfMemberCapture x → IsOfNet x
capture_net Usage is = absurd is
capture_net (Missing name) is = tt
capture_net (Topology fault) is = absurd is
capture_net (Capture p flaw) is = absurd is
capture_net (Changed p at) is = absurd is
capture_net (Net fault) is = absurd is
capture_net (Member name fault) is = absurd is
capture_net (MemberCapture name p flaw) is = is
capture_net (MemberChanged name p at) is = absurd is
capture_net (Output p broke) is = absurd is
capture_net (TooLarge what) is = absurd is
capture_net (BadLine what n) is = absurd is
capture_net (Illegal r) is = absurd is
capture_net Read is = tt
capture_net Write is = absurd is
capture_net Memory is = tt

pub play_net_fault : (x : Fault) → IsOfNetPlay x → IsOfNet x
play_net_fault Usage is = absurd is
play_net_fault (Missing name) is = absurd is
play_net_fault (Topology fault) is = absurd is
play_net_fault (Capture p flaw) is = absurd is
play_net_fault (Changed p at) is = absurd is
play_net_fault (Net fault) is = absurd is
play_net_fault (Member name fault) is = absurd is
play_net_fault (MemberCapture name p flaw) is = absurd is
play_net_fault (MemberChanged name p at) is = is
play_net_fault (Output p broke) is = absurd is
play_net_fault (TooLarge what) is = absurd is
play_net_fault (BadLine what n) is = absurd is
play_net_fault (Illegal r) is = absurd is
play_net_fault Read is = tt
play_net_fault Write is = tt
play_net_fault Memory is = tt

-- a fault of playing is a failure, where no capture is another one
pub play_failure : (x : Fault) → IsOfNetPlay x → (IsNetChange x → ⊥) → IsNetFailure x
play_failure Usage is never = absurd is
play_failure (Missing name) is never = absurd is
play_failure (Topology fault) is never = absurd is
play_failure (Capture p flaw) is never = absurd is
play_failure (Changed p at) is never = absurd is
play_failure (Net fault) is never = absurd is
play_failure (Member name fault) is never = absurd is
play_failure (MemberCapture name p flaw) is never = absurd is
play_failure (MemberChanged name p at) is never = absurd (never tt)
play_failure (Output p broke) is never = absurd is
play_failure (TooLarge what) is never = absurd is
play_failure (BadLine what n) is never = absurd is
play_failure (Illegal r) is never = absurd is
play_failure Read is never = inl refl
play_failure Write is never = inr (inl refl)
play_failure Memory is never = inr (inr refl)

pub failed_net : (x : Fault) → (x ≡ Read) ⊎ (x ≡ Memory) → IsNetFailure x
failed_net x (inl e) = inl e
failed_net x (inr e) = inr (inr e)

-- ---- causes
pub reading_cause : (name : List ℕ) (file : Files) (x : Fault) → IsNetRefused name file x ⊎ ((x ≡ Read) ⊎ (x ≡ Memory)) → NetStops name file x ⊎ IsNetFailure x
reading_cause name file x (inl refused) = inl (inl refused)
reading_cause name file x (inr failed) = inr (failed_net x failed)

pub flaw_at : (ms : List NetMember) (f g : Files) (x : Fault) → SameFiles f g → FirstMemberFault ms g x ⊎ ((x ≡ Read) ⊎ (x ≡ Memory)) → FirstMemberFault ms f x ⊎ ((x ≡ Read) ⊎ (x ≡ Memory))
flaw_at ms f g x same (inl first) = inl (subst (λ (file : Files). FirstMemberFault ms file x) (files_same f g same) first)
flaw_at ms f g x same (inr failed) = inr failed

pub checking_cause : (name : List ℕ) (file : Files) (ms : List NetMember) (ws : List Wire) → HoldsNet name file ms ws → (x : Fault) → FirstMemberFault ms file x ⊎ ((x ≡ Read) ⊎ (x ≡ Memory)) → NetStops name file x ⊎ IsNetFailure x
checking_cause name file ms ws holds x (inl first) = inl (inr (record { members = ms; wires = ws; holds = holds; first = first }))
checking_cause name file ms ws holds x (inr failed) = inr (failed_net x failed)

-- a fault of a capture that is checked comes before files are made, and is not that of one that is another
pub checking_early : (X : Type 0) (x : Fault) → IsOfMemberCapture x → IsNetLate {X = X} (Err x) → ⊥
checking_early X Usage is late = late
checking_early X (Missing name) is late = late
checking_early X (Topology fault) is late = late
checking_early X (Capture p flaw) is late = late
checking_early X (Changed p at) is late = late
checking_early X (Net fault) is late = late
checking_early X (Member name fault) is late = late
checking_early X (MemberCapture name p flaw) is late = late
checking_early X (MemberChanged name p at) is late = is
checking_early X (Output p broke) is late = late
checking_early X (TooLarge what) is late = late
checking_early X (BadLine what n) is late = late
checking_early X (Illegal r) is late = late
checking_early X Read is late = late
checking_early X Write is late = late
checking_early X Memory is late = late

-- the net was taken
pub checking_taken : (x : Fault) → IsOfMemberCapture x → fault_status x ≢ 3
checking_taken Usage is = absurd is
checking_taken (Missing name) is = λ e. omega arith
checking_taken (Topology fault) is = absurd is
checking_taken (Capture p flaw) is = absurd is
checking_taken (Changed p at) is = absurd is
checking_taken (Net fault) is = absurd is
checking_taken (Member name fault) is = absurd is
checking_taken (MemberCapture name p flaw) is = λ e. omega arith
checking_taken (MemberChanged name p at) is = absurd is
checking_taken (Output p broke) is = absurd is
checking_taken (TooLarge what) is = absurd is
checking_taken (BadLine what n) is = absurd is
checking_taken (Illegal r) is = absurd is
checking_taken Read is = λ e. omega arith
checking_taken Write is = absurd is
checking_taken Memory is = λ e. omega arith

play_taken : (x : Fault) → IsOfNetPlay x → fault_status x ≢ 3
play_taken Usage is = absurd is
play_taken (Missing name) is = absurd is
play_taken (Topology fault) is = absurd is
play_taken (Capture p flaw) is = absurd is
play_taken (Changed p at) is = absurd is
play_taken (Net fault) is = absurd is
play_taken (Member name fault) is = absurd is
play_taken (MemberCapture name p flaw) is = absurd is
play_taken (MemberChanged name p at) is = λ e. omega arith
play_taken (Output p broke) is = absurd is
play_taken (TooLarge what) is = absurd is
play_taken (BadLine what n) is = absurd is
play_taken (Illegal r) is = absurd is
play_taken Read is = λ e. omega arith
play_taken Write is = λ e. omega arith
play_taken Memory is = λ e. omega arith

pub played_taken : (o : Result (String Global) Fault) → IfErr o IsOfNetPlay → IfErr o (λ x. fault_status x ≢ 3)
played_taken (Ok line) is = tt
played_taken (Err x) is = play_taken x is

pub memory_taken : fault_status Memory ≢ 3
memory_taken = λ e. omega arith

pub memory_early : (X : Type 0) → IsNetLate {X = X} (Err Memory) → ⊥
memory_early X late = late

-- ---- what stops it
module _ (law : HaveOneCause) (name : List ℕ) (file : Files) {X : Type 0} where
  -- where it wasn't read
  pub stops_reading : (x : Fault) → IsNetRefused name file x ⊎ ((x ≡ Read) ⊎ (x ≡ Memory)) → (fault : Fault) → NetStops name file fault →
      (IsErrOf {T = X} (Err x) fault) ⊎ (IsErrOf {T = X} (Err x) Read) ⊎ (IsErrOf {T = X} (Err x) Memory)
  stops_reading x (inl refused) fault (inl other) = inl (ap (λ (z : Fault). Err z) (law.once name file x fault refused other))
  stops_reading x (inl refused) fault (inr faulty) = absurd (law.held name file faulty.members faulty.wires x faulty.holds refused)
  stops_reading x (inr (inl e)) fault stops = inr (inl (ap (λ (z : Fault). Err z) e))
  stops_reading x (inr (inr e)) fault stops = inr (inr (ap (λ (z : Fault). Err z) e))

  -- where a capture has a fault
  pub stops_checking : (ms : List NetMember) (ws : List Wire) → HoldsNet name file ms ws → (x : Fault) → FirstMemberFault ms file x ⊎ ((x ≡ Read) ⊎ (x ≡ Memory)) → (fault : Fault) → NetStops name file fault →
      (IsErrOf {T = X} (Err x) fault) ⊎ (IsErrOf {T = X} (Err x) Read) ⊎ (IsErrOf {T = X} (Err x) Memory)
  stops_checking ms ws holds x first fault (inl refused) = absurd (law.held name file ms ws fault holds refused)
  stops_checking ms ws holds x (inl first) fault (inr faulty) = inl (ap (λ (z : Fault). Err z) (law.capture name file x fault (record { members = ms; wires = ws; holds = holds; first = first }) faulty))
  stops_checking ms ws holds x (inr (inl e)) fault (inr faulty) = inr (inl (ap (λ (z : Fault). Err z) e))
  stops_checking ms ws holds x (inr (inr e)) fault (inr faulty) = inr (inr (ap (λ (z : Fault). Err z) e))

-- where all is good nothing stops it
pub nothing_stops : HaveOneCause → (name : List ℕ) (file : Files) (ms : List NetMember) (ws : List Wire) → HoldsNet name file ms ws → AreAllMembersGood ms file → (fault : Fault) → NetStops name file fault → ⊥
nothing_stops law name file ms ws holds good fault (inl refused) = law.held name file ms ws fault holds refused
nothing_stops law name file ms ws holds good fault (inr faulty) = law.good name file ms ws fault holds good faulty

-- ---- outputs
-- bridges that are seen in one way write the same files
output_same : (counters : Bool) (ms ks : List NetMember) → map alone ms ≡ map alone ks → (name : List ℕ) → IsNetOutput counters ms name → IsNetOutput counters ks name
output_same counters ms ks same name o =
    let there : slice_get (map alone ks) o.bridge ≡ Some (alone o.member) = ap (λ (xs : List NetMember). slice_get xs o.bridge) (sym same) ∙ (slice_get-map alone ms o.bridge ∙ ap (option_map alone) o.is) in
    let k = mapped_some alone (slice_get ks o.bridge) (alone o.member) (sym (slice_get-map alone ks o.bridge) ∙ there) in
    let tree : tree_in o.member ≡ tree_in k.0 = tree_same o.member ∙ (ap tree_in (sym k.2) ∙ sym (tree_same k.0)) in
    let called : o.member.name ≡ k.0.name = ap (λ (m : NetMember). m.name) (sym k.2) in
    record {
      bridge = o.bridge;
      member = k.0;
      is = k.1;
      output = subst (λ (n : List ℕ). IsOutput (options_with counters) (tree_in k.0) (prefix_of n) name) called (subst (λ (t : Shape). IsOutput (options_with counters) t (prefix_of o.member.name) name) tree o.output);
    }

pub only_asked : (name : List ℕ) (counters : Bool) (old new : Files) (ms : List NetMember) (ws : List Wire) → HoldsNet name old ms ws → OnlyNetOutputs counters ms old new → OnlyNetAsked name counters old new
only_asked name counters old new ms ws holds only ks xs held n none =
    only n (λ o. none (output_same counters ms ks (net_once name old ms ks ws xs holds held).0 n o))

-- ---- what was opened while it was read
pub opened_of : (tells : Type 0) (name : List ℕ) (file : Files) (o : Result NetInputs Fault) (a b : ℕ → Id) → (net : OpensNet tells name file o a b) → Opens (λ i. IsReadingOf name i ⊎ ReadsTopologyOf net.bridges i) a b
opened_of tells name file o a b net =
    ones_all IsReadingOf (λ i. IsReadingOf name i ⊎ ReadsTopologyOf net.bridges i) (name ∷ map (λ (x : NetBridge). x.topology) (take net.count net.bridges)) a b by_place net.opened
  where
    get_front : (xs : List NetBridge) (n k : ℕ) (x : NetBridge) → slice_get (take n xs) k ≡ Some x → slice_get xs k ≡ Some x
    get_front xs zero k x is = absurd (let z : None ≡ Some x = is in cc)
    get_front [] (suc n) k x is = absurd (let z : None ≡ Some x = is in cc)
    get_front (y ∷ xs) (suc n) zero x is = is
    get_front (y ∷ xs) (suc n) (suc k) x is = get_front xs n k x is

    by_place : (k : ℕ) (x : List ℕ) → slice_get (name ∷ map (λ (z : NetBridge). z.topology) (take net.count net.bridges)) k ≡ Some x → (i : Id) → IsReadingOf x i → IsReadingOf name i ⊎ ReadsTopologyOf net.bridges i
    by_place zero x is i reads = inl (let e : name ≡ x = cc in subst (λ (n : List ℕ). IsReadingOf n i) (sym e) reads)
    by_place (suc k) x is i reads =
        let of_bridge : NetBridge → List ℕ = λ z. z.topology in
        let found = mapped_some of_bridge (slice_get (take net.count net.bridges) k) x (sym (slice_get-map of_bridge (take net.count net.bridges) k) ∙ is) in
        inr (record { index = k; bridge = found.0; is_there = get_front net.bridges net.count k found.0 found.1; reads = subst (λ (n : List ℕ). IsReadingOf n i) (sym found.2) reads })

-- all of it to be read
of_reading : (name : List ℕ) (bs : List NetBridge) (i : Id) → IsReadingOf name i ⊎ ReadsTopologyOf bs i → IsReading i
of_reading name bs i (inl r) = record { given = r.given; reads = r.reads }
of_reading name bs i (inr r) = record { given = r.reads.given; reads = r.reads.reads }

pub net_reading : (tells : Type 0) (name : List ℕ) (file : Files) (o : Result NetInputs Fault) (a b : ℕ → Id) → OpensNet tells name file o a b → Opens IsReading a b
net_reading tells name file o a b net = opens_weaker (λ i. IsReadingOf name i ⊎ ReadsTopologyOf net.bridges i) IsReading a b (of_reading name net.bridges) (opened_of tells name file o a b net)

pub net_wanted : (tells : Type 0) (name : List ℕ) (file : Files) (o : Result NetInputs Fault) (a b : ℕ → Id) → tells → OpensNet tells name file o a b → Opens (IsNetWanted name file) a b
net_wanted tells name file o a b t net = opens_weaker (λ i. IsReadingOf name i ⊎ ReadsTopologyOf net.bridges i) (IsNetWanted name file) a b by_kind (opened_of tells name file o a b net)
  where
    some_there : (xs : List NetBridge) (k : ℕ) (x : NetBridge) → slice_get xs k ≡ Some x → 0 < length xs
    some_there [] k x is = absurd (let z : None ≡ Some x = is in cc)
    some_there (y ∷ xs) k x is = omega arith

    by_kind : (i : Id) → IsReadingOf name i ⊎ ReadsTopologyOf net.bridges i → IsNetWanted name file i
    by_kind i (inl r) = inl r
    by_kind i (inr r) =
        let says = net.says t (some_there net.bridges r.index r.bridge r.is_there) in
        inr (inl (record { net = says.0; says = says.1; topology = subst (λ (bs : List NetBridge). ReadsTopologyOf bs i) (sym says.2) r }))

-- captures
pub captures_are : (ms : List NetMember) (b c : ℕ → Id) → OpensCaptures ms b c → Opens (ReadsMemberCapture ms) b c
captures_are ms b c opens = ones_all (λ (m : NetMember). ReadsCapture m.topology.captures) (ReadsMemberCapture ms) ms b c (λ k m is i r. record { bridge = k; member = m; is_there = is; capture = r }) opens

member_reading : (ms : List NetMember) (i : Id) → ReadsMemberCapture ms i → IsReading i
member_reading ms i r = record { given = r.capture.reads.given; reads = r.capture.reads.reads }

member_wanted : (name : List ℕ) (file : Files) (ms : List NetMember) (ws : List Wire) → HoldsNet name file ms ws → (i : Id) → ReadsMemberCapture ms i → IsNetWanted name file i
member_wanted name file ms ws holds i r = inr (inr (record { members = ms; wires = ws; holds = holds; capture = r }))

-- ---- a net that was read, whose captures are looked at
module _ (tells : Type 0) (name : List ℕ) (counters : Bool) (file : Files) (ms : List NetMember) (ws : List Wire) (a b c : ℕ → Id) (read : AreRead ms ws) (holds : tells → HoldsNet name file ms ws)
    (net : OpensNet tells name file (Ok (record { members = ms; wires = ws })) a b) (captures : OpensCaptures ms b c) where
  pub all_reading : Opens IsReading a c
  all_reading = opens_then IsReading a b c (net_reading tells name file (Ok (record { members = ms; wires = ws })) a b net) (opens_weaker (ReadsMemberCapture ms) IsReading b c (member_reading ms) (captures_are ms b c captures))

  pub all_wanted : tells → Opens (IsNetWanted name file) a c
  all_wanted t =
      opens_then (IsNetWanted name file) a b c (net_wanted tells name file (Ok (record { members = ms; wires = ws })) a b t net)
      (opens_weaker (ReadsMemberCapture ms) (IsNetWanted name file) b c (member_wanted name file ms ws (holds t)) (captures_are ms b c captures))

  abbrev Opened : Id → Type 0
  Opened i = ReadsNet name net.bridges ms i ⊎ WritesNetOutput counters ms i

  all_opened : Opens Opened a c
  all_opened =
      opens_then Opened a b c
      (opens_weaker (λ i. IsReadingOf name i ⊎ ReadsTopologyOf net.bridges i) Opened a b by_kind (opened_of tells name file (Ok (record { members = ms; wires = ws })) a b net))
      (opens_weaker (ReadsMemberCapture ms) Opened b c (λ i r. inl (inr (inr r))) (captures_are ms b c captures))
    where
      by_kind : (i : Id) → IsReadingOf name i ⊎ ReadsTopologyOf net.bridges i → Opened i
      by_kind i (inl r) = inl (inl r)
      by_kind i (inr r) = inl (inr (inl r))

  holds_all : tells → (h : HoldsNet name file ms ws) × (h.net.bridges ≡ net.bridges)
  holds_all t =
      let h = holds t in
      let of_member : NetMember → List ℕ = λ m. m.name in
      let of_bridge : NetBridge → List ℕ = λ x. x.name in
      let long : length ms ≡ length net.bridges = sym (length-map ms of_member) ∙ (ap (λ (xs : List (List ℕ)). length xs) net.all.1 ∙ length-map net.bridges of_bridge) in
      let some = read.some in
      let says = net.says t (omega (arith, long, some)) in
      (h, ap (λ (f : NetFile). f.bridges) (file_once name file h.net says.0 h.says says.1) ∙ says.2)

  -- nothing was made
  nothing_made : (i : ℕ) → (a i).given ≡ false → (c i).given ≡ true → (c i).reads ≡ false → ⊥
  nothing_made i free given writes = false≢true (sym writes ∙ (all_reading.fresh i free given).reads)

  none_made : {X : Type 0} (x : Fault) → (IsNetLate {X = X} (Err x) → ⊥) → MakesNet {X = X} counters ms (Err x) a c
  none_made x late = record {
    count = 0;
    made = read_then_turn IsReading (net_names counters ms) 0 a c c (λ i r. r.reads) all_reading (λ j given. refl) (turn_none (net_names counters ms) c);
    all = λ is. absurd (late is);
    unread = λ failed. inl refl;
  }

  -- it ended before files were made
  pub unmade : (x : Fault) → ((IsNetLate {X = String Global} (Err x)) → ⊥) → ((bridge : List ℕ) (p : ℕ) (flaw : InputFlaw) → x ≡ MemberCapture bridge p flaw → HasCaptureAt ms bridge p) →
      ((bridge : List ℕ) (p at : ℕ) → x ≡ MemberChanged bridge p at → HasCaptureAt ms bridge p) → fault_status x ≢ 3 → NetOpens tells name counters (Err x) file a c
  unmade x late own changed taken = record {
    bridges = net.bridges;
    members = ms;
    wires = ws;
    holds = holds_all;
    opened = all_opened;
    made = none_made x late;
    behind = λ i free given writes. absurd (nothing_made i free given writes);
    first = λ t fault faulty. all_reading;
    taken = taken;
    own = λ bridge p flaw is. own bridge p flaw (err_same is);
    changed = λ bridge p at is. changed bridge p at (err_same is);
  }
    where
      err_same : {y : Fault} → IsErrOf {T = String Global} (Err x) y → x ≡ y
      err_same e = cc

  -- files were made and it was played
  module _ (d : ℕ → Id) (o : Result (String Global) Fault) (each : OpensEachOf ms b c) (good : tells → AreAllMembersGood ms file) (law : HaveOneCause)
      (opens : Opens (λ i. ReadsMemberCapture ms i ⊎ WritesNetOutput counters ms i) c d) (made : MakesNet counters ms o c d) where
    played_opened : Opens Opened a d
    played_opened = opens_then Opened a c d all_opened (opens_weaker (λ i. ReadsMemberCapture ms i ⊎ WritesNetOutput counters ms i) Opened c d by_kind opens)
      where
        by_kind : (i : Id) → ReadsMemberCapture ms i ⊎ WritesNetOutput counters ms i → Opened i
        by_kind i (inl r) = inl (inr (inr r))
        by_kind i (inr w) = inr w

    played_behind : NetMadeBehind ms a d
    played_behind i free given writes k m q cap is low named =
        let new = each k m is q cap low named in
        let here : (d new.0).given ≡ true = ap (λ (z : Id). z.given) (opens.kept new.0 new.2.given) ∙ new.2.given in
        (new.0, before new.0 new.1, as_read new.0 new.2, opens.rises new.0 i new.2.given (unopened (c i).given refl) given)
      where
        before : (j : ℕ) → (b j).given ≡ false → (a j).given ≡ false
        before j not = by_given (a j).given refl
          where
            first : Opens (λ i. IsReadingOf name i ⊎ ReadsTopologyOf net.bridges i) a b
            first = opened_of tells name file (Ok (record { members = ms; wires = ws })) a b net

            by_given : (g : Bool) → (a j).given ≡ g → (a j).given ≡ false
            by_given false e = e
            by_given true e = absurd (false≢true (sym not ∙ (ap (λ (z : Id). z.given) (first.kept j e) ∙ e)))

        as_read : (j : ℕ) → IsReadingOf cap (c j) → IsReadingOf cap (d j)
        as_read j r = subst (λ (z : Id). IsReadingOf cap z) (sym (opens.kept j r.given)) r

        unopened : (g : Bool) → (c i).given ≡ g → (c i).given ≡ false
        unopened false e = e
        unopened true e =
            absurd (false≢true (sym writes ∙ (ap (λ (z : Id). z.reads) (opens.kept i e) ∙ (all_reading.fresh i free e).reads)))

    pub played : ((bridge : List ℕ) (p : ℕ) (flaw : InputFlaw) → IsErrOf o (MemberCapture bridge p flaw) → HasCaptureAt ms bridge p) → ((bridge : List ℕ) (p at : ℕ) → IsErrOf o (MemberChanged bridge p at) → HasCaptureAt ms bridge p) →
        IfErr o IsOfNetPlay → NetOpens tells name counters o file a d
    played own changed causes = record {
      bridges = net.bridges;
      members = ms;
      wires = ws;
      holds = holds_all;
      opened = played_opened;
      made = record {
        count = made.count;
        made = read_then_turn IsReading (net_names counters ms) made.count a c d (λ i r. r.reads) all_reading (λ j given. opens.kept j given) made.made;
        all = made.all;
        unread = made.unread;
      };
      behind = played_behind;
      first = λ t fault faulty. absurd (law.good name file ms ws fault (holds t) (good t) faulty);
      taken = played_taken o causes;
      own = own;
      changed = changed;
    }

    pub played_only : tells → Opens (λ i. IsNetWanted name file i ⊎ MakesNetOutputOf name counters file i) a d
    played_only t =
        opens_then (λ i. IsNetWanted name file i ⊎ MakesNetOutputOf name counters file i) a c d
        (opens_weaker (IsNetWanted name file) (λ i. IsNetWanted name file i ⊎ MakesNetOutputOf name counters file i) a c (λ i w. inl w) (all_wanted t))
        (opens_weaker (λ i. ReadsMemberCapture ms i ⊎ WritesNetOutput counters ms i) (λ i. IsNetWanted name file i ⊎ MakesNetOutputOf name counters file i) c d by_kind opens)
      where
        by_kind : (i : Id) → ReadsMemberCapture ms i ⊎ WritesNetOutput counters ms i → IsNetWanted name file i ⊎ MakesNetOutputOf name counters file i
        by_kind i (inl r) = inl (member_wanted name file ms ws (holds t) i r)
        by_kind i (inr w) = inr (record { members = ms; wires = ws; ready = record { holds = holds t; good = good t }; output = w })

-- ---- which capture
pub capture_of_member : (tells : Type 0) (ms : List NetMember) (file : Files) (b c : ℕ → Id) (x : Fault) → EndsAtMember tells ms file b c x → (bridge : List ℕ) (p : ℕ) (flaw : InputFlaw) → x ≡ MemberCapture bridge p flaw → HasCaptureAt ms bridge p
capture_of_member tells ms file b c x ends bridge p flaw is =
    let r = ends.own bridge p flaw is in
    record { bridge = ends.bridge; member = r.0; is = r.1; called = sym r.2; named = subst (λ (q : ℕ). is_named r.0.topology.captures q ≡ true) (sym r.3) r.4 }

pub checked_unchanged : (ms : List NetMember) (x : Fault) → IsOfMemberCapture x → (bridge : List ℕ) (p at : ℕ) → x ≡ MemberChanged bridge p at → HasCaptureAt ms bridge p
checked_unchanged ms x of bridge p at is = absurd (let z : ⊥ = subst IsOfMemberCapture is of in z)

pub memory_own : (ms : List NetMember) (bridge : List ℕ) (p : ℕ) (flaw : InputFlaw) → Memory ≡ MemberCapture bridge p flaw → HasCaptureAt ms bridge p
memory_own ms bridge p flaw is = absurd (cc)

pub memory_unchanged : (ms : List NetMember) (bridge : List ℕ) (p at : ℕ) → Memory ≡ MemberChanged bridge p at → HasCaptureAt ms bridge p
memory_unchanged ms bridge p at is = absurd (cc)

pub play_own : (ms : List NetMember) (o : Result (String Global) Fault) → IfErr o IsOfNetPlay → (bridge : List ℕ) (p : ℕ) (flaw : InputFlaw) → IsErrOf o (MemberCapture bridge p flaw) → HasCaptureAt ms bridge p
play_own ms o of bridge p flaw is = absurd (let z : ⊥ = subst (λ (r : Result (String Global) Fault). IfErr r IsOfNetPlay) is of in z)

-- ---- the whole
pub in_order : (tells : Type 0) (name : List ℕ) (counters : Bool) (o : Result (String Global) Fault) (file : Files) (a d : ℕ → Id) → NetOpens tells name counters o file a d → NetOpensInOrder tells name counters o file a d
in_order tells name counters (Ok line) file a d opens = opens
in_order tells name counters (Err x) file a d opens = inr opens

pub if_err_both : {P Q R : Fault → Type 0} (o : Result (String Global) Fault) → ((x : Fault) → P x → Q x → R x) → IfErr o P → IfErr o Q → IfErr o R
if_err_both (Ok line) f p q = tt
if_err_both (Err x) f p q = f x p q
