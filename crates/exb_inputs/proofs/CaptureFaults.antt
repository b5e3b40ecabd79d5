-- Faults of captures: a capture has one or none, and one is the first in port order.
use Rattle.std.proofs.Common.{◌≡◌, ◌<◌, ◌+◌, ◌++◌, ◌==◌, ◌⊎◌, inl, inr, ℕ, zero, suc, true, false, List, [], ◌∷◌, Option, Some, None, Result, Ok, Err, length, ap, sym, ◌∙◌, refl, arith, subst, add-one, drop, get_or, Bool, All}
use Rattle.std.specs.Prelude.{slice_index_or, All, is_some, if◌then◌else◌}
use Rattle.std.proofs.Math.Seq.{drop-cons, drop-length}
use Rattle.std.proofs.lemmas.Bool.{cases_lt, eqb-true}
use Rattle.std.proofs.lemmas.List.Elements.{All-append}
use Rattle.exb_capture.specs.declared.scans.Scanned.{Scanned}
use Rattle.exb_capture.specs.declared.scans.ScanFault.{ScanFault}
use Rattle.exb_capture.specs.declared.scans.ScanFault.TheVariants as scan
use Rattle.exb_capture.specs.Scans.{IsOfFile}
use Rattle.exb_capture.proofs.OneAnswer.{one_of_all}
use Rattle.exb_shelf.specs.Files.{Files}
use Rattle.exb_topology_tables.specs.declared.elements.Named.{Named}
use Rattle.exb_inputs.specs.declared.fault.InputFlaw.{InputFlaw}
use Rattle.exb_inputs.specs.declared.fault.InputFlaw.TheVariants.{Large, Broken}
use Rattle.exb_inputs.specs.declared.fault.Fault.{Fault}
use Rattle.exb_inputs.specs.declared.fault.Fault.TheVariants.{Missing, Capture}
use Rattle.exb_inputs.specs.CaptureChecks.{AreAllGood, FirstFault, HasFault, HasFaultNamed, IsGood, IsGoodNamed, fault_in, most_bytes}
use Rattle.exb_inputs.specs.Inputs.{name_of, is_named}
use Rattle.exb_inputs.proofs.UniqueTopology.{some_once, none_or_some}

-- ---- one capture
-- what is told of a file is no fault of it
good_not : (p : ℕ) (name : List ℕ) (file : Option (List ℕ)) (told : Scanned) (x : Fault) → IsGood file told → HasFault p name file x → ⊥
good_not p name file told x good bad =
    let same : Ok told ≡ bad.answer = one_of_all most_bytes file (Ok told) bad.answer good bad.says tt bad.of_file in
    none_or_some (fault_in p name bad.answer) x (sym (ap (fault_in p name) same)) bad.is

-- and a file has one fault
one_fault : (p : ℕ) (name : List ℕ) (file : Option (List ℕ)) (x y : Fault) → HasFault p name file x → HasFault p name file y → x ≡ y
one_fault p name file x y a b =
    let same : a.answer ≡ b.answer = one_of_all most_bytes file a.answer b.answer a.says b.says a.of_file b.of_file in
    some_once (fault_in p name b.answer) x y (sym (ap (fault_in p name) same) ∙ a.is) b.is

pub named_not : (p : ℕ) (name : Option (List ℕ)) (file : Files) (x : Fault) → IsGoodNamed name file → HasFaultNamed p name file x → ⊥
named_not p None file x good bad = bad
named_not p (Some name) file x (told, good) bad = good_not p name (file name) told x good bad

named_once : (p : ℕ) (name : Option (List ℕ)) (file : Files) (x y : Fault) → HasFaultNamed p name file x → HasFaultNamed p name file y → x ≡ y
named_once p None file x y a b = absurd a
named_once p (Some name) file x y a b = one_fault p name (file name) x y a b

-- which fault it can be
fault_by : (p : ℕ) (name : List ℕ) (answer : Result Scanned ScanFault) (x : Fault) → IsOfFile answer → fault_in p name answer ≡ Some x
    → (x ≡ Missing name) ⊎ ((flaw : InputFlaw) × (x ≡ Capture p flaw))
fault_by p name (Ok told) x of_file e = absurd (cc)
fault_by p name (Err scan.Missing) x of_file e = inl cc
fault_by p name (Err scan.Read) x of_file e = absurd of_file
fault_by p name (Err scan.Memory) x of_file e = absurd of_file
fault_by p name (Err (scan.Fault fault)) x of_file e = inr (Broken fault, cc)
fault_by p name (Err (scan.Large limit)) x of_file e = inr (Large limit, cc)

pub fault_of_named : (p : ℕ) (name : Option (List ℕ)) (file : Files) (x : Fault) → HasFaultNamed p name file x
    → ((n : List ℕ) × (x ≡ Missing n)) ⊎ ((flaw : InputFlaw) × (x ≡ Capture p flaw))
fault_of_named p None file x bad = absurd bad
fault_of_named p (Some name) file x bad = elim (fault_by p name bad.answer x bad.of_file bad.is) [
  | inl missing ↦ inl (name, missing)
  | inr flaw ↦ inr flaw
]

-- ---- the first
-- there is one first fault
pub first_once : (names : List Named) (f : Files) (a b : ℕ) (x y : Fault) → FirstFault names f a x → FirstFault names f b y → x ≡ y
first_once names f a b x y p q = elim (cases_lt a b) [
  | inl less ↦ absurd (named_not a (name_of names a) f x (q.before a less) p.here)
  | inr more ↦ elim (cases_lt b a) [
    | inl less ↦ absurd (named_not b (name_of names b) f y (p.before b less) q.here)
    | inr same ↦
        let e : a ≡ b = omega arith in
        named_once b (name_of names b) f x y (subst (λ (i : ℕ). HasFaultNamed i (name_of names i) f x) e p.here) q.here
  ]
]

-- where no capture has a fault, none is the first
pub first_none : (names : List Named) (f : Files) (p : ℕ) (x : Fault) → AreAllGood names f → FirstFault names f p x → ⊥
first_none names f p x good first = named_not p (name_of names p) f x (good p first.port) first.here

-- ---- names
module _ (names : List Named) (p : ℕ) where
  pub name_start : name_of names p ≡ name_of (drop 0 names) p
  name_start = refl

  pub name_here : (i : ℕ) (x : Named) → i < length names → x ≡ get_or names i x → (x.port == p) ≡ true → name_of (drop i names) p ≡ Some x.name
  name_here i x low is same =
      ap (λ (xs : List Named). name_of xs p) (drop-cons names i x low) ∙ ap (λ (y : Named). name_of (y ∷ drop (suc i) names) p) (sym is) ∙ rw same refl

  pub name_next : (i : ℕ) (x : Named) → i < length names → x ≡ get_or names i x → (x.port == p) ≡ false → name_of (drop i names) p ≡ name_of (drop (i + 1) names) p
  name_next i x low is other =
      ap (λ (xs : List Named). name_of xs p) (drop-cons names i x low) ∙ ap (λ (y : Named). name_of (y ∷ drop (suc i) names) p) (sym is) ∙ rw (other, add-one) refl

  pub name_end : name_of (drop (length names) names) p ≡ None
  name_end = ap (λ (xs : List Named). name_of xs p) (drop-length names)

-- ---- one capture more
one : {X : Type 0} (P : X → Type 0) (x : X) → P x → (k : ℕ) (d : X) → k < 1 → P (slice_index_or (x ∷ []) k d)
one P x p zero d h = p
one P x p (suc k) d h = absurd (omega arith)

pub all_more : {X : Type 0} (P : X → Type 0) (xs ys : List X) (x : X) → ys ≡ xs ++ x ∷ [] → All P xs → P x → All P ys
all_more P xs ys x e p q = subst (λ zs. All P zs) (sym e) (All-append P xs (x ∷ []) p (one P x q))

-- the name of a capture is one of which this is told of all
pub name_by : (P : List ℕ → Type 0) (names : List Named) (q : ℕ) (name : List ℕ) → All (λ x. P x.name) names → name_of names q ≡ Some name → P name
name_by P [] q name all is = absurd (cc)
name_by P (x ∷ xs) q name all is = by_port (name_by P xs q name (λ k d low. all (suc k) d (omega arith))) (x.port == q) is
  where
    by_port : (name_of xs q ≡ Some name → P name) → (b : Bool) → (if b then Some x.name else name_of xs q) ≡ Some name → P name
    by_port rest true is' = subst P (own is') (all 0 x (omega arith))
      where
        own : Some x.name ≡ Some name → x.name ≡ name
        own e = cc
    by_port rest false is' = rest is'

-- a capture that is named has a port of which this is told of all
pub named_by : (test : ℕ → Bool) (names : List Named) (q : ℕ) → All (λ x. test x.port ≡ true) names → is_named names q ≡ true → test q ≡ true
named_by test [] q all is = absurd (cc)
named_by test (x ∷ xs) q all is = by_port (named_by test xs q (λ k d low. all (suc k) d (omega arith))) (x.port == q) refl is
  where
    by_port : (is_named xs q ≡ true → test q ≡ true) → (b : Bool) → (x.port == q) ≡ b → is_some (if x.port == q then Some x.name else name_of xs q) ≡ true → test q ≡ true
    by_port rest true e is' = ap test (sym (eqb-true x.port q e)) ∙ all 0 x (omega arith)
    by_port rest false e is' = rest (sym (ap (λ (b : Bool). is_some (if b then Some x.name else name_of xs q)) e) ∙ is')
