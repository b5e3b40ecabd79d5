-- What is known after some bridges: of their topologies, and of their captures.
use Rattle.std.proofs.Common.{◌≡◌, ◌<◌, ◌+◌, ◌++◌, ◌∙◌, ℕ, List, [], ◌∷◌, drop, length, map, take, get_or, refl, ap, sym, subst, arith}
use Rattle.std.specs.Prelude.{All}
use Rattle.std.specs.declared.alloc.Global.{Global}
use Rattle.std.specs.declared.vec.Vec.{Vec}
use Rattle.std.proofs.lemmas.List.{map-append, take-append-drop}
use Rattle.exb_model.specs.Setup.{IsValid}
use Rattle.exb_shelf.specs.Files.{Files}
use Rattle.exb_shelf.specs.Shelf.{Id, IsReadingOf, Opens}
use Rattle.exb_shelf.proofs.IdLemmas.{opens_none}
use Rattle.exb_topology.specs.Soundness.{IsSound}
use Rattle.exb_net_file.specs.declared.members.NetMember.{NetMember}
use Rattle.exb_net_file.specs.declared.elements.NetBridge.{NetBridge}
use Rattle.exb_net_file.specs.Soundness.{AreValid}
use Rattle.exb_inputs.specs.declared.captures.CheckedCapture.{CheckedCapture}
use Rattle.exb_inputs.specs.CaptureChecks.{AreChecked}
use Rattle.exb_inputs.specs.ShelfEffects.{OpensEach, ReadsCapture}
use Rattle.exb_inputs.specs.MemberChecks.{AreAllMembersGood, AreGood, AreMembersChecked}
use Rattle.exb_inputs.specs.NetContents.{HoldsMember, HoldsMembers}
use Rattle.exb_inputs.specs.PairedLists.{OpensOneByOne}
use Rattle.exb_inputs.specs.OpenedNetFiles.{OpensCaptures, OpensEachOf, ReadsMemberBelow}
use Rattle.exb_inputs.proofs.PairedLists.{all_push, both_push, nothing_at, ones_more}
use Rattle.exb_inputs.proofs.MemberCaptures.{below_done, captures_next, each_next_of}
use Rattle.exb_inputs.proofs.OpenedNetFiles.{next_taken, topologies_next}

-- none is the first so many of none
none_taken : {X : Type 0} (xs : List X) → take 0 xs ≡ []
none_taken [] = refl
none_taken (x ∷ xs) = refl

all_none : {X : Type 0} (P : X → Type 0) → All P []
all_none P k d low = absurd (omega (arith, low))

-- ---- topologies
pub record Reads (tells : Type 0) (bs : List NetBridge) (i : ℕ) (file : Files) (ms : List NetMember) (given ids : ℕ → Id) : Type 0 where
  pub read : tells → HoldsMembers (take i bs) file ms
  pub names : map (λ (m : NetMember). m.name) ms ≡ map (λ (b : NetBridge). b.name) (take i bs)
  pub valid : AreValid ms
  pub sound : All (λ (m : NetMember). IsSound m.topology) ms
  pub opened : OpensOneByOne IsReadingOf (map (λ (b : NetBridge). b.topology) (take i bs)) given ids

-- what the last of them gave
pub record ReadsOne (tells : Type 0) (b : NetBridge) (file : Files) (m : NetMember) (now ids : ℕ → Id) : Type 0 where
  pub read : tells → HoldsMember file b m
  pub name : m.name ≡ b.name
  pub valid : IsValid m.topology.setup
  pub sound : IsSound m.topology
  pub opened : Opens (IsReadingOf b.topology) now ids

pub reads_none : (tells : Type 0) (bs : List NetBridge) (file : Files) (ms : List NetMember) (given : ℕ → Id) → ms ≡ [] → Reads tells bs 0 file ms given given
reads_none tells bs file ms given empty =
    subst (λ (ks : List NetMember). Reads tells bs 0 file ks given given) (sym empty)
    (record {
      read = λ t. subst (λ (xs : List NetBridge). HoldsMembers xs file []) (sym (none_taken bs)) tt;
      names = ap (map (λ (b : NetBridge). b.name)) (sym (none_taken bs));
      valid = all_none (λ (m : NetMember). IsValid m.topology.setup);
      sound = all_none (λ (m : NetMember). IsSound m.topology);
      opened = subst (λ (xs : List NetBridge). OpensOneByOne IsReadingOf (map (λ (b : NetBridge). b.topology) xs) given given) (sym (none_taken bs)) (λ j. refl);
    })

pub reads_more : (tells : Type 0) (bs : List NetBridge) (i : ℕ) (b : NetBridge) (file : Files) (ms more : List NetMember) (m : NetMember) (given now ids : ℕ → Id) → i < length bs → b ≡ get_or bs i b → more ≡ ms ++ m ∷ []
    → Reads tells bs i file ms given now → ReadsOne tells b file m now ids → Reads tells bs (i + 1) file more given ids
reads_more tells bs i b file ms more m given now ids low is pushed so one =
    subst (λ (ks : List NetMember). Reads tells bs (i + 1) file ks given ids) (sym pushed)
    (record {
      read = λ t. subst (λ (xs : List NetBridge). HoldsMembers xs file (ms ++ m ∷ [])) (sym (next_taken bs i b low is)) (both_push (HoldsMember file) (take i bs) ms b m (so.read t) (one.read t));
      names =
          map-append (λ (k : NetMember). k.name) ms (m ∷ [])
          ∙ (ap (λ (ns : List (List ℕ)). ns ++ m.name ∷ []) so.names
          ∙ (ap (λ (n : List ℕ). map (λ (c : NetBridge). c.name) (take i bs) ++ n ∷ []) one.name
          ∙ sym (ap (map (λ (c : NetBridge). c.name)) (next_taken bs i b low is) ∙ map-append (λ (c : NetBridge). c.name) (take i bs) (b ∷ []))));
      valid = all_push (λ (k : NetMember). IsValid k.topology.setup) ms m so.valid one.valid;
      sound = all_push (λ (k : NetMember). IsSound k.topology) ms m so.sound one.sound;
      opened = topologies_next bs i b low is given now ids so.opened one.opened;
    })

-- ---- captures
pub record Checks (tells : Type 0) (ms : List NetMember) (i : ℕ) (file : Files) (cs : List (Vec CheckedCapture Global)) (given ids : ℕ → Id) : Type 0 where
  pub checked : AreMembersChecked tells (take i ms) file cs
  pub good : tells → AreAllMembersGood (take i ms) file
  pub each : OpensEachOf (take i ms) given ids
  pub opened : OpensCaptures (take i ms) given ids
  pub below : Opens (ReadsMemberBelow ms i 0) given ids

pub record ChecksOne (tells : Type 0) (m : NetMember) (file : Files) (one : Vec CheckedCapture Global) (now ids : ℕ → Id) : Type 0 where
  pub checked : AreChecked tells m.topology.captures file one.items
  pub good : tells → AreGood m file
  pub each : OpensEach m.topology.captures 4160 now ids
  pub opened : Opens (ReadsCapture m.topology.captures) now ids

pub checks_none : (tells : Type 0) (ms : List NetMember) (file : Files) (cs : List (Vec CheckedCapture Global)) (given : ℕ → Id) → cs ≡ [] → Checks tells ms 0 file cs given given
checks_none tells ms file cs given empty =
    subst (λ (ds : List (Vec CheckedCapture Global)). Checks tells ms 0 file ds given given) (sym empty)
    (record {
      checked = subst (λ (xs : List NetMember). AreMembersChecked tells xs file []) (sym (none_taken ms)) tt;
      good = λ t. subst (λ (xs : List NetMember). AreAllMembersGood xs file) (sym (none_taken ms)) (all_none (λ (m : NetMember). AreGood m file));
      each = λ b m at. nothing_at ms b m at;
      opened = subst (λ (xs : List NetMember). OpensCaptures xs given given) (sym (none_taken ms)) (λ j. refl);
      below = opens_none (ReadsMemberBelow ms 0 0) given;
    })

pub checks_more : (tells : Type 0) (ms : List NetMember) (i : ℕ) (m : NetMember) (file : Files) (cs more : List (Vec CheckedCapture Global)) (one : Vec CheckedCapture Global) (given now ids : ℕ → Id) → i < length ms → m ≡ get_or ms i m → more ≡ cs ++ one ∷ []
    → Checks tells ms i file cs given now → ChecksOne tells m file one now ids → Checks tells ms (i + 1) file more given ids
checks_more tells ms i m file cs more one given now ids low is pushed so last =
    subst (λ (ds : List (Vec CheckedCapture Global)). Checks tells ms (i + 1) file ds given ids) (sym pushed)
    (record {
      checked = subst (λ (xs : List NetMember). AreMembersChecked tells xs file (cs ++ one ∷ [])) (sym (next_taken ms i m low is)) (both_push (λ (k : NetMember) (d : Vec CheckedCapture Global). AreChecked tells k.topology.captures file d.items) (take i ms) cs m one so.checked last.checked);
      good = λ t. subst (λ (xs : List NetMember). AreAllMembersGood xs file) (sym (next_taken ms i m low is)) (all_push (λ (k : NetMember). AreGood k file) (take i ms) m (so.good t) (last.good t));
      each = each_next_of ms i m low is given now ids so.each so.opened last.opened last.each;
      opened = captures_next ms i m low is given now ids so.opened last.opened;
      below = below_done ms i m low is given now ids so.below last.opened;
    })

-- captures of one bridge more were opened, and of none behind it
pub captures_stop : (ms : List NetMember) (i : ℕ) (m : NetMember) → i < length ms → m ≡ get_or ms i m → (given now ids : ℕ → Id) → OpensCaptures (take i ms) given now → Opens (ReadsCapture m.topology.captures) now ids → OpensCaptures ms given ids
captures_stop ms i m low is given now ids opened opens =
    subst (λ (xs : List NetMember). OpensCaptures xs given ids) (take-append-drop (i + 1) ms)
    (ones_more (λ (k : NetMember). ReadsCapture k.topology.captures) (take (i + 1) ms) (drop (i + 1) ms) given ids (captures_next ms i m low is given now ids opened opens))
