-- One bridge's captures are opened again: its faults as those of the net, and what is known of its programme.
use Rattle.std.proofs.Common.{◌≡◌, ℕ, zero, suc, ◌<◌, ◌≤◌, ◌^◌, ◌*◌, true, List, [], ◌∷◌, ◌++◌, Some, sym, subst, ◌∙◌, arith, inl, inr, ◌⊎◌}
use Rattle.std.specs.Prelude.{All, IfSome, slice_get}
use Rattle.std.specs.List.{AllByRecursion}
use Rattle.std.specs.declared.alloc.Global.{Global}
use Rattle.std.specs.declared.vec.Vec.{Vec}
use Rattle.exb_shelf.specs.Shelf.{Id, Opens}
use Rattle.exb_inputs.specs.declared.captures.CheckedCapture.{CheckedCapture}
use Rattle.exb_inputs.specs.declared.fault.Fault.{Fault}
use Rattle.exb_inputs.specs.declared.fault.Fault.TheVariants.{Usage, Missing, Topology as BadTopology, Capture, Changed, Net, Member, MemberCapture, MemberChanged, Output, TooLarge, BadLine, Illegal, Read, Write, Memory}
use Rattle.exb_inputs.specs.ReplayStart.{AreSince, seconds_told}
use Rattle.exb_inputs.specs.FaultPhases.{IsChange, IsOfPlay}
use Rattle.exb_inputs.proofs.FirstRecords.{least-low, seconds-low, since-told, start-low}
use Rattle.exb_inputs.specs.NetRefusals.{member_fault}
use Rattle.exb_net.specs.Answers.{IsOfNetPlay}
use Rattle.exb_net.specs.ReopenedCaptures.{seconds_of_all, start_of_told}
use Rattle.exb_net.specs.ShelfEffects.{IsNetChange}

-- ---- lists
pub all_append : {X : Type 0} (P : X → Type 0) (xs ys : List X) → AllByRecursion P xs → AllByRecursion P ys → AllByRecursion P (xs ++ ys)
all_append P [] ys one two = two
all_append P (x ∷ xs) ys one two = (one.0, all_append P xs ys one.1 two)

all_front : {X : Type 0} (P : X → Type 0) (xs ys : List X) → AllByRecursion P (xs ++ ys) → AllByRecursion P xs
all_front P [] ys all = tt
all_front P (x ∷ xs) ys all = (all.0, all_front P xs ys all.1)

all_back : {X : Type 0} (P : X → Type 0) (xs ys : List X) → AllByRecursion P (xs ++ ys) → AllByRecursion P ys
all_back P [] ys all = all
all_back P (x ∷ xs) ys all = all_back P xs ys all.1

pub all_weaker : {X : Type 0} (P Q : X → Type 0) (xs : List X) → ((x : X) → P x → Q x) → AllByRecursion P xs → AllByRecursion Q xs
all_weaker P Q [] so all = tt
all_weaker P Q (x ∷ xs) so all = (so x all.0, all_weaker P Q xs so all.1)

-- what an id stood for it stands for
pub ids_stay : (P : Id → Type 0) (given ids : ℕ → Id) (mine : List ℕ) → Opens P given ids → AllByRecursion (λ k. (given k).given ≡ true) mine → AllByRecursion (λ k. ids k ≡ given k) mine
ids_stay P given ids mine opens all = all_weaker (λ k. (given k).given ≡ true) (λ k. ids k ≡ given k) mine (λ k is. opens.kept k is) all

-- ---- faults
abbrev pub Is : Fault → Fault → Type 0
Is fault is = (fault ≡ is) ⊎ (fault ≡ Memory)

cause : (name : List ℕ) (x : Fault) → IsOfPlay x → IsOfNetPlay (member_fault name x)
cause name Usage of = absurd of
cause name (Missing file) of = absurd of
cause name (BadTopology fault) of = absurd of
cause name (Capture p flaw) of = absurd of
cause name (Changed p byte) of = of
cause name (Net fault) of = absurd of
cause name (Member m fault) of = absurd of
cause name (MemberCapture m p flaw) of = absurd of
cause name (MemberChanged m p byte) of = absurd of
cause name (Output p broke) of = absurd of
cause name (TooLarge what) of = absurd of
cause name (BadLine what n) of = absurd of
cause name (Illegal r) of = absurd of
cause name Read of = tt
cause name Write of = tt
cause name Memory of = tt

pub play_cause : (name : List ℕ) (x y : Fault) → IsOfPlay x → Is y (member_fault name x) → IsOfNetPlay y
play_cause name x y of (inl is) = subst IsOfNetPlay (sym is) (cause name x of)
play_cause name x y of (inr memory) = subst IsOfNetPlay (sym memory) tt

change : (name : List ℕ) (x : Fault) → IsOfPlay x → IsNetChange (member_fault name x) → IsChange x
change name Usage of is = absurd of
change name (Missing file) of is = absurd of
change name (BadTopology fault) of is = absurd of
change name (Capture p flaw) of is = absurd of
change name (Changed p byte) of is = tt
change name (Net fault) of is = absurd of
change name (Member m fault) of is = absurd of
change name (MemberCapture m p flaw) of is = absurd of
change name (MemberChanged m p byte) of is = absurd of
change name (Output p broke) of is = absurd of
change name (TooLarge what) of is = absurd of
change name (BadLine what n) of is = absurd of
change name (Illegal r) of is = absurd of
change name Read of is = absurd is
change name Write of is = absurd is
change name Memory of is = absurd is

pub play_change : (name : List ℕ) (x y : Fault) → IsOfPlay x → Is y (member_fault name x) → IsNetChange y → IsChange x
play_change name x y of (inl is) changed = change name x of (subst IsNetChange is changed)
play_change name x y of (inr memory) changed = absurd (subst IsNetChange memory changed)

named : (own : List ℕ) (x : Fault) (name : List ℕ) (q byte : ℕ) → IsOfPlay x → member_fault own x ≡ MemberChanged name q byte → (name ≡ own) × (x ≡ Changed q byte)
named own Usage name q byte of e = absurd of
named own (Missing file) name q byte of e = absurd of
named own (BadTopology fault) name q byte of e = absurd of
named own (Capture p flaw) name q byte of e = absurd of
named own (Changed p b) name q byte of e = (cc, cc)
named own (Net fault) name q byte of e = absurd of
named own (Member m fault) name q byte of e = absurd of
named own (MemberCapture m p flaw) name q byte of e = absurd of
named own (MemberChanged m p b) name q byte of e = absurd of
named own (Output p broke) name q byte of e = absurd of
named own (TooLarge what) name q byte of e = absurd of
named own (BadLine what n) name q byte of e = absurd of
named own (Illegal r) name q byte of e = absurd of
named own Read name q byte of e = absurd (cc)
named own Write name q byte of e = absurd (cc)
named own Memory name q byte of e = absurd (cc)

pub play_named : (own : List ℕ) (x y : Fault) (name : List ℕ) (q byte : ℕ) → IsOfPlay x → Is y (member_fault own x) → y ≡ MemberChanged name q byte → (name ≡ own) × (x ≡ Changed q byte)
play_named own x y name q byte of (inl is) e = named own x name q byte of (sym is ∙ e)
play_named own x y name q byte of (inr memory) e = let no : Memory ≡ MemberChanged name q byte = sym memory ∙ e in absurd (cc)

-- ---- the start
of_bridge : (m : ℕ) (cs : List (Vec CheckedCapture Global)) (b : ℕ) (c : Vec CheckedCapture Global) → AllByRecursion (λ x. m ≤ x) (seconds_of_all cs) → slice_get cs b ≡ Some c → AllByRecursion (λ x. m ≤ x) (seconds_told c.items)
of_bridge m [] b c all is = absurd (cc)
of_bridge m (d ∷ cs) zero c all is = let e : d ≡ c = cc in subst (λ (k : Vec CheckedCapture Global). AllByRecursion (λ x. m ≤ x) (seconds_told k.items)) e (all_front (λ x. m ≤ x) (seconds_told d.items) (seconds_of_all cs) all)
of_bridge m (d ∷ cs) (suc b) c all is = of_bridge m cs b c (all_back (λ x. m ≤ x) (seconds_told d.items) (seconds_of_all cs) all) is

-- it isn't behind the first record of any bridge
pub since_start : (cs : List (Vec CheckedCapture Global)) (b : ℕ) (c : Vec CheckedCapture Global) → slice_get cs b ≡ Some c → AreSince (start_of_told cs) c.items
since_start cs b c is = since-told (start_of_told cs) c.items (of_bridge (start_of_told cs) cs b c (least-low 0 (seconds_of_all cs)) is)

-- each bridge's captures are in time
abbrev pub AreInTime : List (Vec CheckedCapture Global) → Type 0
AreInTime cs = AllByRecursion (λ (c : Vec CheckedCapture Global). All (λ (d : CheckedCapture). IfSome d.told.first (λ first. first < 2 ^ 32 * 1_000_000_000)) c.items) cs

all_low : (cs : List (Vec CheckedCapture Global)) → AreInTime cs → AllByRecursion (λ x. x < 2 ^ 32) (seconds_of_all cs)
all_low [] all = tt
all_low (c ∷ cs) all = all_append (λ x. x < 2 ^ 32) (seconds_told c.items) (seconds_of_all cs) (seconds-low c.items all.0) (all_low cs all.1)

-- and it is below 2^32 seconds
pub start_fits : (cs : List (Vec CheckedCapture Global)) → AreInTime cs → start_of_told cs < 2 ^ 32
start_fits cs all = start-low (seconds_of_all cs) 0 (omega arith) (all_low cs all)
