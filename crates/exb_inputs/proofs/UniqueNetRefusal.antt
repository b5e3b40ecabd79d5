-- A net has one fault or none: that of its file, of a topology or of its wires, and then of a capture.
use Rattle.std.proofs.Common.{◌≡◌, ◌∙◌, ◌⊎◌, inl, inr, ℕ, zero, suc, List, [], ◌∷◌, Option, Some, None, Result, Ok, Err, map, refl, ap, sym, subst, arith}
use Rattle.std.specs.Prelude.{slice_get}
use Rattle.std.proofs.lemmas.Bool.{cases_lt}
use Rattle.exb_toml_keys.specs.Faults.{Refusal}
use Rattle.exb_shelf.specs.Files.{Files}
use Rattle.exb_net_spec.specs.declared.wires.Wire.{Wire}
use Rattle.exb_topology.specs.Topologies.{TopologySeen, topology_view}
use Rattle.exb_topology.proofs.Soundness.{tree_alone}
use Rattle.exb_net_file.specs.declared.net_file.NetFile.{NetFile}
use Rattle.exb_net_file.specs.declared.members.NetMember.{NetMember}
use Rattle.exb_net_file.specs.declared.elements.NetBridge.{NetBridge}
use Rattle.exb_net_file.specs.NetFiles.{net_file_of}
use Rattle.exb_net_file.specs.Wires.{wires_of}
use Rattle.exb_inputs.specs.declared.fault.Fault.{Fault}
use Rattle.exb_inputs.proofs.UniqueTopology.{err_once, holds_once, ok_once, ok_or_err, some_once}
use Rattle.exb_inputs.proofs.CaptureFaults.{first_none, first_once}
use Rattle.exb_inputs.proofs.UniqueRefusal.{held_not, refused_once}
use Rattle.exb_inputs.specs.MemberChecks.{AreAllMembersGood, AreGood}
use Rattle.exb_inputs.specs.NetContents.{HoldsMember, HoldsMembers, HoldsNet, HoldsNetFile, IsTopologyThere}
use Rattle.exb_inputs.specs.NetRefusals.{AreWiresRefused, FirstMemberFault, FirstRefused, IsFileRefused, IsMemberRefused, IsNetRefusal, IsNetRefused, IsOwnFault, IsOwnRefusal, NetCaptureFaulty, member_fault, net_refused_by}
use Rattle.exb_inputs.proofs.WireDependence.{alone, wires_alone}
use Rattle.exb_inputs.proofs.PairedLists.{both_some}
use Rattle.exb_inputs.proofs.OpenedNetFiles.{all_get}

-- ---- the file
pub file_once : (name : List ℕ) (file : Files) (f g : NetFile) → HoldsNetFile name file f → HoldsNetFile name file g → f ≡ g
file_once name file f g p q =
    let bytes : p.bytes ≡ q.bytes = some_once (file name) p.bytes q.bytes p.there q.there in
    ok_once (net_file_of q.bytes) f g (ap net_file_of (sym bytes) ∙ p.read) q.read

refusal_once : {Y : Type 0} (read : Result Y Refusal) (x y : Fault) → IsNetRefusal read x → IsNetRefusal read y → x ≡ y
refusal_once read x y (a, refused, is) (b, refused', is') = is ∙ ap net_refused_by (err_once read a b refused refused') ∙ sym is'

file_refused_once : (name : List ℕ) (o : Option (List ℕ)) (x y : Fault) → IsFileRefused name o x → IsFileRefused name o y → x ≡ y
file_refused_once name None x y p q = p ∙ sym q
file_refused_once name (Some bytes) x y p q = refusal_once (net_file_of bytes) x y p q

file_held_not : (name : List ℕ) (file : Files) (net : NetFile) (x : Fault) → HoldsNetFile name file net → IsFileRefused name (file name) x → ⊥
file_held_not name file net x holds is = by_bytes (subst (λ (o : Option (List ℕ)). IsFileRefused name o x) holds.there is)
  where
    by_bytes : IsFileRefused name (Some holds.bytes) x → ⊥
    by_bytes (refusal, refused, is') = ok_or_err (net_file_of holds.bytes) net refusal holds.read refused

-- ---- the topologies
own_once : (file : Files) (b : NetBridge) (x y : Fault) → IsOwnRefusal file b x → IsOwnRefusal file b y → x ≡ y
own_once file b x y (own, refused, is) (own', refused', is') = is ∙ ap (member_fault b.name) (refused_once b.topology (file b.topology) own own' refused refused') ∙ sym is'

own_held_not : (file : Files) (b : NetBridge) (x : Fault) → IsTopologyThere file b → IsOwnRefusal file b x → ⊥
own_held_not file b x (t, holds) (own, refused, is) = held_not b.topology file t own holds refused

first_refused_once : (bs : List NetBridge) (file : Files) (x y : Fault) → FirstRefused bs file x → FirstRefused bs file y → x ≡ y
first_refused_once bs file x y p q = elim (cases_lt p.index q.index) [
  | inl less ↦ absurd (own_held_not file p.bridge x (q.before p.index p.bridge less p.is_there) p.here)
  | inr more ↦ elim (cases_lt q.index p.index) [
    | inl less ↦ absurd (own_held_not file q.bridge y (p.before q.index q.bridge less q.is_there) q.here)
    | inr same ↦
        let e : p.index ≡ q.index = omega arith in
        let b : p.bridge ≡ q.bridge = some_once (slice_get bs q.index) p.bridge q.bridge (ap (slice_get bs) (sym e) ∙ p.is_there) q.is_there in
        own_once file q.bridge x y (subst (λ (c : NetBridge). IsOwnRefusal file c x) b p.here) q.here
  ]
]

members_held_not : (bs : List NetBridge) (file : Files) (ms : List NetMember) (x : Fault) → HoldsMembers bs file ms → FirstRefused bs file x → ⊥
members_held_not bs file ms x holds first =
    let found = both_some (HoldsMember file) bs ms first.index first.bridge holds first.is_there in
    own_held_not file first.bridge x (found.0.topology, found.2.holds) first.here

-- ---- the wires
-- bridges that are held are seen in one way
alone_same : (m k : NetMember) → m.name ≡ k.name → topology_view m.topology ≡ topology_view k.topology → alone m ≡ alone k
alone_same m k name view =
    ap (λ (n : List ℕ). record { name = n; topology = (alone m).topology }) name
    ∙ ap (λ (v : TopologySeen). record { name = k.name; topology = record { setup = tree_alone v.ports v.extenders; commands = []; fate = []; captures = v.captures; prefix = [] } }) view

pub members_once : (bs : List NetBridge) (file : Files) (ms ks : List NetMember) → HoldsMembers bs file ms → HoldsMembers bs file ks → map alone ms ≡ map alone ks
members_once [] file [] [] p q = refl
members_once [] file [] (k ∷ ks) p q = absurd q
members_once [] file (m ∷ ms) ks p q = absurd p
members_once (b ∷ bs) file [] ks p q = absurd p
members_once (b ∷ bs) file (m ∷ ms) [] p q = absurd q
members_once (b ∷ bs) file (m ∷ ms) (k ∷ ks) (p, ps) (q, qs) =
    ap (λ (x : NetMember). x ∷ map alone ms) (alone_same m k (p.name ∙ sym q.name) (holds_once b.topology file m.topology k.topology p.holds q.holds))
    ∙ ap (λ (xs : List NetMember). alone k ∷ xs) (members_once bs file ms ks ps qs)

wires_once : (ms ks : List NetMember) (net : NetFile) → map alone ms ≡ map alone ks → wires_of ms net.wires ≡ wires_of ks net.wires
wires_once ms ks net same = wires_alone ms net.wires ∙ ap (λ (xs : List NetMember). wires_of xs net.wires) same ∙ sym (wires_alone ks net.wires)

-- ---- a net
-- the fault of its own file, or one over a file that is one
pub record Over (name : List ℕ) (file : Files) (x : Fault) : Type 0 where
  pub net : NetFile
  pub says : HoldsNetFile name file net
  pub is : FirstRefused net.bridges file x ⊎ ((ms : List NetMember) × HoldsMembers net.bridges file ms × IsNetRefusal (wires_of ms net.wires) x)

over : (name : List ℕ) (file : Files) (x : Fault) → IsMemberRefused name file x ⊎ AreWiresRefused name file x → Over name file x
over name file x (inl r) = record { net = r.net; says = r.says; is = inl r.first }
over name file x (inr r) = record { net = r.net; says = r.says; is = inr (r.bridges, r.members, r.refused) }

over_once : (net : NetFile) (file : Files) (x y : Fault) → FirstRefused net.bridges file x ⊎ ((ms : List NetMember) × HoldsMembers net.bridges file ms × IsNetRefusal (wires_of ms net.wires) x)
    → FirstRefused net.bridges file y ⊎ ((ms : List NetMember) × HoldsMembers net.bridges file ms × IsNetRefusal (wires_of ms net.wires) y) → x ≡ y
over_once net file x y (inl p) (inl q) = first_refused_once net.bridges file x y p q
over_once net file x y (inl p) (inr (ks, held, q)) = absurd (members_held_not net.bridges file ks x held p)
over_once net file x y (inr (ms, held, p)) (inl q) = absurd (members_held_not net.bridges file ms y held q)
over_once net file x y (inr (ms, held, p)) (inr (ks, held', q)) =
    refusal_once (wires_of ks net.wires) x y (subst (λ (r : Result (List Wire) Refusal). IsNetRefusal r x) (wires_once ms ks net (members_once net.bridges file ms ks held held')) p) q

-- it is refused for one cause
pub net_refused_once : (name : List ℕ) (file : Files) (x y : Fault) → IsNetRefused name file x → IsNetRefused name file y → x ≡ y
net_refused_once name file x y (inl p) (inl q) = file_refused_once name (file name) x y p q
net_refused_once name file x y (inl p) (inr q) = let o = over name file y q in absurd (file_held_not name file o.net x o.says p)
net_refused_once name file x y (inr p) (inl q) = let o = over name file x p in absurd (file_held_not name file o.net y o.says q)
net_refused_once name file x y (inr p) (inr q) =
    let a = over name file x p in
    let b = over name file y q in
    let same : a.net ≡ b.net = file_once name file a.net b.net a.says b.says in
    over_once b.net file x y
    (subst (λ (net : NetFile). FirstRefused net.bridges file x ⊎ ((ms : List NetMember) × HoldsMembers net.bridges file ms × IsNetRefusal (wires_of ms net.wires) x)) same a.is) b.is

-- and not where it is held
pub net_held_not : (name : List ℕ) (file : Files) (ms : List NetMember) (ws : List Wire) (x : Fault) → HoldsNet name file ms ws → IsNetRefused name file x → ⊥
net_held_not name file ms ws x holds (inl p) = file_held_not name file holds.net x holds.says p
net_held_not name file ms ws x holds (inr p) = let o = over name file x p in by_over o.net (file_once name file o.net holds.net o.says holds.says) o.is
  where
    by_over : (net : NetFile) → net ≡ holds.net → FirstRefused net.bridges file x ⊎ ((ks : List NetMember) × HoldsMembers net.bridges file ks × IsNetRefusal (wires_of ks net.wires) x) → ⊥
    by_over net same (inl first) = members_held_not holds.net.bridges file ms x holds.members (subst (λ (n : NetFile). FirstRefused n.bridges file x) same first)
    by_over net same (inr (ks, held, (refusal, refused, is))) =
        let held' : HoldsMembers holds.net.bridges file ks = subst (λ (n : NetFile). HoldsMembers n.bridges file ks) same held in
        ok_or_err (wires_of ks holds.net.wires) ws refusal
        (sym (wires_once ms ks holds.net (members_once holds.net.bridges file ms ks holds.members held')) ∙ holds.wired)
        (subst (λ (n : NetFile). wires_of ks n.wires ≡ Err refusal) same refused)

-- its bridges are seen in one way, and its wires are the same
pub net_once : (name : List ℕ) (file : Files) (ms ks : List NetMember) (ws xs : List Wire) → HoldsNet name file ms ws → HoldsNet name file ks xs → (map alone ms ≡ map alone ks) × (ws ≡ xs)
net_once name file ms ks ws xs p q =
    let same : p.net ≡ q.net = file_once name file p.net q.net p.says q.says in
    let held : HoldsMembers q.net.bridges file ms = subst (λ (n : NetFile). HoldsMembers n.bridges file ms) same p.members in
    let seen : map alone ms ≡ map alone ks = members_once q.net.bridges file ms ks held q.members in
    (seen, ok_once (wires_of ks q.net.wires) ws xs (sym (wires_once ms ks q.net seen) ∙ subst (λ (n : NetFile). wires_of ms n.wires ≡ Ok ws) same p.wired) q.wired)

-- ---- captures
own_fault_once : (m : NetMember) (file : Files) (x y : Fault) → IsOwnFault m file x → IsOwnFault m file y → x ≡ y
own_fault_once m file x y p q = p.is ∙ ap (member_fault m.name) (first_once m.topology.captures file p.port q.port p.own q.own p.first q.first) ∙ sym q.is

good_not : (m : NetMember) (file : Files) (x : Fault) → AreGood m file → IsOwnFault m file x → ⊥
good_not m file x good p = first_none m.topology.captures file p.port p.own good p.first

pub first_member_once : (ms : List NetMember) (file : Files) (x y : Fault) → FirstMemberFault ms file x → FirstMemberFault ms file y → x ≡ y
first_member_once ms file x y p q = elim (cases_lt p.bridge q.bridge) [
  | inl less ↦ absurd (good_not p.member file x (q.before p.bridge p.member less p.is_there) p.here)
  | inr more ↦ elim (cases_lt q.bridge p.bridge) [
    | inl less ↦ absurd (good_not q.member file y (p.before q.bridge q.member less q.is_there) q.here)
    | inr same ↦
        let e : p.bridge ≡ q.bridge = omega arith in
        let m : p.member ≡ q.member = some_once (slice_get ms q.bridge) p.member q.member (ap (slice_get ms) (sym e) ∙ p.is_there) q.is_there in
        own_fault_once q.member file x y (subst (λ (c : NetMember). IsOwnFault c file x) m p.here) q.here
  ]
]

-- where no capture has a fault, none is the first
pub first_member_none : (ms : List NetMember) (file : Files) (x : Fault) → AreAllMembersGood ms file → FirstMemberFault ms file x → ⊥
first_member_none ms file x good p = good_not p.member file x (all_get (λ (m : NetMember). AreGood m file) ms p.bridge p.member good p.is_there) p.here

-- of bridges that are seen in one way it is the same fault
alone_get : (ms ks : List NetMember) (b : ℕ) (m : NetMember) → map alone ms ≡ map alone ks → slice_get ms b ≡ Some m → (k : NetMember) × (slice_get ks b ≡ Some k) × (alone m ≡ alone k)
alone_get [] ks b m same is = absurd (cc)
alone_get (x ∷ ms) [] b m same is = absurd (cc)
alone_get (x ∷ ms) (y ∷ ks) zero m same is = let e : x ≡ m = cc in let f : alone x ≡ alone y = cc in (y, refl, sym (ap alone e) ∙ f)
alone_get (x ∷ ms) (y ∷ ks) (suc b) m same is = let f : map alone ms ≡ map alone ks = cc in alone_get ms ks b m f is

good_same : (m k : NetMember) (file : Files) → alone m ≡ alone k → AreGood m file → AreGood k file
good_same m k file same good = subst (λ (c : NetMember). AreGood c file) same good

fault_same : (m k : NetMember) (file : Files) (x : Fault) → alone m ≡ alone k → IsOwnFault m file x → IsOwnFault k file x
fault_same m k file x same p =
    let q : IsOwnFault (alone k) file x = subst (λ (c : NetMember). IsOwnFault c file x) same (record { port = p.port; own = p.own; first = p.first; is = p.is }) in
    record { port = q.port; own = q.own; first = q.first; is = q.is }

pub first_member_same : (ms ks : List NetMember) (file : Files) (x : Fault) → map alone ms ≡ map alone ks → FirstMemberFault ms file x → FirstMemberFault ks file x
first_member_same ms ks file x same p =
    let found = alone_get ms ks p.bridge p.member same p.is_there in
    record {
      bridge = p.bridge;
      member = found.0;
      is_there = found.1;
      before = λ b k under at. (let back = alone_get ks ms b k (sym same) at in good_same back.0 k file (sym back.2) (p.before b back.0 under back.1));
      here = fault_same p.member found.0 file x found.2 p.here;
    }

-- a capture that stops a net is one of the bridges that were read
pub first_of_net : (name : List ℕ) (file : Files) (ms : List NetMember) (ws : List Wire) (x : Fault) → HoldsNet name file ms ws → NetCaptureFaulty name file x → FirstMemberFault ms file x
first_of_net name file ms ws x holds faulty =
    first_member_same faulty.members ms file x (net_once name file faulty.members ms faulty.wires ws faulty.holds holds).0 faulty.first

pub capture_once : (name : List ℕ) (file : Files) (x y : Fault) → NetCaptureFaulty name file x → NetCaptureFaulty name file y → x ≡ y
capture_once name file x y p q = first_member_once q.members file x y (first_of_net name file q.members q.wires x q.holds p) q.first

pub net_good_not : (name : List ℕ) (file : Files) (ms : List NetMember) (ws : List Wire) (x : Fault) → HoldsNet name file ms ws → AreAllMembersGood ms file → NetCaptureFaulty name file x → ⊥
net_good_not name file ms ws x holds good p = first_member_none ms file x good (first_of_net name file ms ws x holds p)
