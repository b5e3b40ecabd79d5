-- What is answered of one capture that is checked.
use Rattle.std.proofs.Common.{◌≡◌, ◌⊎◌, ◌∙◌, ℕ, List, Option, Some, Err, inl, inr, ap, subst, sym}
use Rattle.exb_capture.specs.declared.scans.ScanFault.{ScanFault}
use Rattle.exb_capture.specs.declared.scans.ScanFault.TheVariants as scan
use Rattle.exb_capture.specs.Scans.{IsOfFile, IsScan}
use Rattle.exb_shelf.specs.FaultCounts.{missing_more}
use Rattle.exb_shelf.specs.Shelf.{Faults, NoFewer}
use Rattle.exb_inputs.specs.declared.fault.Fault.{Fault}
use Rattle.exb_inputs.specs.declared.fault.Fault.TheVariants.{Capture, Memory, Missing, Read}
use Rattle.exb_inputs.specs.declared.fault.InputFlaw.{InputFlaw}
use Rattle.exb_inputs.specs.CaptureChecks.{HasFault, fault_in, most_bytes}
use Rattle.exb_inputs.specs.FaultCounts.{CountsFault}
use Rattle.exb_inputs.specs.FaultPhases.{IsOfCapture}
use Rattle.exb_inputs.specs.ShelfEffects.{CountsFaults}
use Rattle.exb_inputs.proofs.ShelfEffects.{counted_once}

pub fault_told : (p : ℕ) (name : List ℕ) (file : Option (List ℕ)) (why : ScanFault) (x : Fault) → fault_in p name (Err why) ≡ Some x → IsOfFile (Err why) → IsScan most_bytes file (Err why)
    → HasFault p name file x ⊎ (x ≡ Read) ⊎ (x ≡ Memory)
fault_told p name file why x is of_file says = inl (record { answer = Err why; says = says; of_file = of_file; is = is })

-- there is no such file, and memory may run out while that is told
module _ (name : List ℕ) (x : Fault) where
  pub missing_told : (p : ℕ) (file : Option (List ℕ)) → (x ≡ Missing name) ⊎ (x ≡ Memory) → IsScan most_bytes file (Err scan.Missing) → HasFault p name file x ⊎ (x ≡ Read) ⊎ (x ≡ Memory)
  missing_told p file (inl is) says = fault_told p name file scan.Missing x (ap (λ (y : Fault). Some y) (sym is)) tt says
  missing_told p file (inr memory) says = inr (inr memory)

  pub missing_of : (x ≡ Missing name) ⊎ (x ≡ Memory) → IsOfCapture x
  missing_of (inl is) = subst IsOfCapture (sym is) tt
  missing_of (inr memory) = subst IsOfCapture (sym memory) tt

  pub missing_flawless : (x ≡ Missing name) ⊎ (x ≡ Memory) → (q : ℕ) (flaw : InputFlaw) → x ≡ Capture q flaw → ⊥
  missing_flawless (inl is) q flaw e = let no : Missing name ≡ Capture q flaw = sym is ∙ e in cc
  missing_flawless (inr memory) q flaw e = let no : Memory ≡ Capture q flaw = sym memory ∙ e in cc

  pub missing_counted : {Y : Type 0} (a b : Faults) → (x ≡ Missing name) ⊎ (x ≡ Memory) → NoFewer a b → b ≡ missing_more a → CountsFaults {X = Y} (Err x) a b
  missing_counted a b (inl is) fewer more = counted_once (Err x) a b fewer (subst (λ (y : Fault). CountsFault y a b) (sym is) more)
  missing_counted a b (inr memory) fewer more = counted_once (Err x) a b fewer (subst (λ (y : Fault). CountsFault y a b) (sym memory) (inr more))

-- ---- whose flaw it is
pub flaw_port : (p : ℕ) (own : InputFlaw) (q : ℕ) (flaw : InputFlaw) → Capture p own ≡ Capture q flaw → q ≡ p
flaw_port p own q flaw e = cc

pub read_flawless : (q : ℕ) (flaw : InputFlaw) → Read ≡ Capture q flaw → ⊥
read_flawless q flaw e = cc

pub memory_flawless : (q : ℕ) (flaw : InputFlaw) → Memory ≡ Capture q flaw → ⊥
memory_flawless q flaw e = cc
