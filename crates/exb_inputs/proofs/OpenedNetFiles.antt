-- What was opened, and what is known of it, bridge after bridge.
use Rattle.std.proofs.Common.{◌≡◌, ◌<◌, ◌≤◌, ◌+◌, ◌++◌, ◌∙◌, ◌⊎◌, inl, inr, ℕ, zero, suc, List, [], ◌∷◌, Some, Result, Ok, Err, length, map, take, get_or, refl, ap, sym, subst, arith}
use Rattle.std.specs.Prelude.{All, IfOk, slice_get}
use Rattle.std.proofs.Math.Seq.{take-length}
use Rattle.std.proofs.lemmas.List.{map-append, take_all, take_more}
use Rattle.std.proofs.lemmas.Option.{get_or_from_slice_get, slice_get_within}
use Rattle.exb_shelf.specs.Files.{Files}
use Rattle.exb_shelf.specs.Shelf.{Id, IsReadingOf, Opens}
use Rattle.exb_net_file.specs.declared.net_file.NetFile.{NetFile}
use Rattle.exb_net_file.specs.declared.members.NetMember.{NetMember}
use Rattle.exb_net_file.specs.declared.elements.NetBridge.{NetBridge}
use Rattle.exb_inputs.specs.declared.fault.Fault.{Fault}
use Rattle.exb_inputs.specs.declared.net_inputs.NetInputs.{NetInputs}
use Rattle.exb_inputs.specs.NetContents.{HoldsMember, HoldsMembers, HoldsNetFile, IsTopologyThere}
use Rattle.exb_inputs.specs.PairedLists.{OpensOneByOne}
use Rattle.exb_inputs.specs.OpenedNetFiles.{OpensNet, OpensTopologies, ReadsTopologyOf}
use Rattle.exb_inputs.specs.NetRefusals.{FirstRefused, IsOwnRefusal}
use Rattle.exb_inputs.proofs.PairedLists.{both_some, get_here, ones_all, ones_push, taken_at}

-- ---- places
pub all_get : {X : Type 0} (P : X → Type 0) (xs : List X) (k : ℕ) (x : X) → All P xs → slice_get xs k ≡ Some x → P x
all_get P xs k x h is = subst P (get_or_from_slice_get xs k x x is) (h k x (slice_get_within xs k x is))

-- the first elements and the next one
pub next_taken : {X : Type 0} (xs : List X) (i : ℕ) (x : X) → i < length xs → x ≡ get_or xs i x → take (i + 1) xs ≡ take i xs ++ x ∷ []
next_taken xs i x low is = take_more xs i x low ∙ ap (λ (y : _). take i xs ++ y ∷ []) (sym is)

pub all_taken : {X : Type 0} (xs : List X) (i : ℕ) → length xs ≤ i → take i xs ≡ xs
all_taken xs i end = take_all i xs end

-- ---- topologies
abbrev topologies : List NetBridge → List (List ℕ)
topologies bs = map (λ (b : NetBridge). b.topology) bs

-- the topologies of bridges that were read are there
there_before : (bs : List NetBridge) (file : Files) (ms : List NetMember) (i : ℕ) → HoldsMembers (take i bs) file ms → (k : ℕ) (b : NetBridge) → k < i → slice_get bs k ≡ Some b → IsTopologyThere file b
there_before bs file ms i holds k b low is =
    let found = both_some (HoldsMember file) (take i bs) ms k b holds (taken_at bs i k b low is) in
    (found.0.topology, found.2.holds)

module _ (bs : List NetBridge) (i : ℕ) (b : NetBridge) (low : i < length bs) (is : b ≡ get_or bs i b) where
  -- one more was opened
  pub topologies_next : (given now ids : ℕ → Id) → OpensOneByOne IsReadingOf (topologies (take i bs)) given now → Opens (IsReadingOf b.topology) now ids → OpensOneByOne IsReadingOf (topologies (take (i + 1) bs)) given ids
  topologies_next given now ids opened opens =
      subst (λ (xs : List NetBridge). OpensOneByOne IsReadingOf (topologies xs) given ids) (sym (next_taken bs i b low is))
      (subst (λ (ns : List (List ℕ)). OpensOneByOne IsReadingOf ns given ids) (sym (map-append (λ (c : NetBridge). c.topology) (take i bs) (b ∷ [])))
      (ones_push IsReadingOf (topologies (take i bs)) b.topology given now ids opened opens))

  -- and it is the last that was
  pub topologies_stop : {X : Type 0} (tells : Type 0) (file : Files) (ms : List NetMember) (x : Fault) (given now ids : ℕ → Id) → (tells → HoldsMembers (take i bs) file ms)
      → OpensOneByOne IsReadingOf (topologies (take i bs)) given now → Opens (IsReadingOf b.topology) now ids → OpensTopologies {X = X} tells bs file (Err x) given ids
  topologies_stop tells file ms x given now ids holds opened opens = record {
    count = i + 1;
    within = omega arith;
    opened = topologies_next given now ids opened opens;
    before = λ t k c under at. there_before bs file ms i (holds t) k c (omega (arith, under)) at;
    all = tt;
  }

  pub first_refused : (file : Files) (ms : List NetMember) (x : Fault) → HoldsMembers (take i bs) file ms → IsOwnRefusal file b x → FirstRefused bs file x
  first_refused file ms x holds here = record {
    index = i;
    bridge = b;
    is_there = get_here bs i b low (sym is);
    before = λ k c under at. there_before bs file ms i holds k c under at;
    here = here;
  }

-- all were opened
pub topologies_end : {X : Type 0} (tells : Type 0) (bs : List NetBridge) (i : ℕ) (file : Files) (ms : List NetMember) (x : X) (given ids : ℕ → Id) → length bs ≤ i → (tells → HoldsMembers (take i bs) file ms)
    → OpensOneByOne IsReadingOf (topologies (take i bs)) given ids → OpensTopologies {X = X} tells bs file (Ok x) given ids
topologies_end tells bs i file ms x given ids end holds opened = record {
  count = length bs;
  within = omega arith;
  opened = subst (λ (xs : List NetBridge). OpensOneByOne IsReadingOf (topologies xs) given ids) (all_taken bs i end ∙ sym (take-length bs)) opened;
  before = λ t k c under at. there_before bs file ms i (holds t) k c (omega (arith, under, end)) at;
  all = refl;
}

module _ {X Y : Type 0} (tells : Type 0) (bs : List NetBridge) (file : Files) (given ids : ℕ → Id) where
  -- so they were where something else comes of it
  pub topologies_and : (x : X) (y : Y) → OpensTopologies tells bs file (Ok x) given ids → OpensTopologies tells bs file (Ok y) given ids
  topologies_and x y more = record { count = more.count; within = more.within; opened = more.opened; before = more.before; all = more.all }

  -- or nothing does
  pub topologies_but : (o : Result X Fault) (x : Fault) → OpensTopologies tells bs file o given ids → OpensTopologies {X = Y} tells bs file (Err x) given ids
  topologies_but o x more = record { count = more.count; within = more.within; opened = more.opened; before = more.before; all = tt }

-- ---- a net
-- its file was not read
pub net_unread : (tells : Type 0) (name : List ℕ) (file : Files) (x : Fault) (given ids : ℕ → Id) → Opens (IsReadingOf name) given ids → OpensNet tells name file (Err x) given ids
net_unread tells name file x given ids opens = record {
  bridges = [];
  says = λ t some. absurd (omega (arith, some));
  count = 0;
  within = omega arith;
  opened = (ids, opens, λ j. refl);
  before = λ t k c under at. absurd (omega (arith, under));
  all = tt;
}

-- its file was read, and then its topologies were or were not, or its wires are refused
pub net_opened : (tells : Type 0) (name : List ℕ) (file : Files) (net : NetFile) (o : Result NetInputs Fault) (given now ids : ℕ → Id) → (tells → HoldsNetFile name file net) → Opens (IsReadingOf name) given now
    → OpensTopologies tells net.bridges file o now ids → IfOk o (λ (inputs : NetInputs). map (λ (m : NetMember). m.name) inputs.members ≡ map (λ (b : NetBridge). b.name) net.bridges) → OpensNet tells name file o given ids
net_opened tells name file net o given now ids says opens more names = record {
  bridges = net.bridges;
  says = λ t some. (net, says t, refl);
  count = more.count;
  within = more.within;
  opened = (now, opens, more.opened);
  before = more.before;
  all = both o more.all names;
}
  where
    both : (r : Result NetInputs Fault) → IfOk r (λ (inputs : NetInputs). more.count ≡ length net.bridges) → IfOk r (λ (inputs : NetInputs). map (λ (m : NetMember). m.name) inputs.members ≡ map (λ (b : NetBridge). b.name) net.bridges)
        → IfOk r (λ (inputs : NetInputs). (more.count ≡ length net.bridges) × (map (λ (m : NetMember). m.name) inputs.members ≡ map (λ (b : NetBridge). b.name) net.bridges))
    both (Ok inputs) all same = (all, same)
    both (Err x) all same = tt

-- whatever was opened is the file of the net or a topology of these bridges
name_taken : (bs : List NetBridge) (k n : ℕ) (name : List ℕ) → slice_get (topologies (take n bs)) k ≡ Some name → (b : NetBridge) × (slice_get bs k ≡ Some b) × (b.topology ≡ name)
name_taken [] k zero name is = absurd (cc)
name_taken [] k (suc n) name is = absurd (cc)
name_taken (b ∷ bs) k zero name is = absurd (cc)
name_taken (b ∷ bs) zero (suc n) name is = (b, refl, cc)
name_taken (b ∷ bs) (suc k) (suc n) name is = name_taken bs k n name is

pub net_reads : (tells : Type 0) (name : List ℕ) (file : Files) (o : Result NetInputs Fault) (given ids : ℕ → Id) → (r : OpensNet tells name file o given ids)
    → Opens (λ (i : Id). IsReadingOf name i ⊎ ReadsTopologyOf r.bridges i) given ids
net_reads tells name file o given ids r = ones_all IsReadingOf (λ (i : Id). IsReadingOf name i ⊎ ReadsTopologyOf r.bridges i) (name ∷ topologies (take r.count r.bridges)) given ids by_place r.opened
  where
    by_place : (k : ℕ) (n : List ℕ) → slice_get (name ∷ topologies (take r.count r.bridges)) k ≡ Some n → (i : Id) → IsReadingOf n i → IsReadingOf name i ⊎ ReadsTopologyOf r.bridges i
    by_place zero n is i reads = let same : n ≡ name = cc in inl (subst (λ (m : List ℕ). IsReadingOf m i) same reads)
    by_place (suc k) n is i reads =
        let found = name_taken r.bridges k r.count n is in
        inr (record { index = k; bridge = found.0; is_there = found.1; reads = subst (λ (m : List ℕ). IsReadingOf m i) (sym found.2) reads })
