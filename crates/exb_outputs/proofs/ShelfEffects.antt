-- What has changed by calls that write, one after the other, what was counted, and what their failures are as faults.
use Rattle.std.proofs.Common.{ℕ, refl, ◌∙◌, ◌≡◌, inl, inr, sym, subst, Result, Err}
use Rattle.exb_shelf.specs.Files.{Files}
use Rattle.exb_shelf.specs.Shelf.{Faults, Id}
use Rattle.exb_shelf.specs.declared.shelf.ShelfFault.{ShelfFault}
use Rattle.exb_shelf.specs.declared.shelf.ShelfFault.TheVariants as shelf
use Rattle.exb_shelf.proofs.IdLemmas.{opens_same, opens_then}
use Rattle.exb_outputs.specs.Manifests.{Listed}
use Rattle.exb_outputs.specs.ShelfEffects.{CountsWrites, OnlyWrites, OnlyMakes, WritesListed, IsOfWriting}
use Rattle.exb_inputs.specs.declared.fault.Fault.{Fault}
use Rattle.exb_inputs.specs.declared.fault.Fault.TheVariants.{Changed, Memory, Write}
use Rattle.exb_inputs.specs.Answers.{fault_of}
use Rattle.exb_inputs.specs.FaultPhases.{IsChange, IsOfPlay}
use Rattle.exb_inputs.specs.ShelfEffects.{CountsFaults}
use Rattle.exb_inputs.proofs.ShelfEffects.{counted_once}

-- ---- what has changed
pub writes_none : (tells : Type 0) (manifest : Listed) (f : Files) (a : ℕ → Id) → OnlyWrites tells manifest f f a a
writes_none tells manifest f a = record { others = λ t m away. refl; kept = λ j. refl }

pub writes_then : (tells : Type 0) (manifest : Listed) (f g h : Files) (a b c : ℕ → Id) → OnlyWrites tells manifest f g a b → OnlyWrites tells manifest g h b c → OnlyWrites tells manifest f h a c
writes_then tells manifest f g h a b c first later = record {
  others = λ t m away. later.others t m away ∙ first.others t m away;
  kept = λ j. later.kept j ∙ first.kept j;
}

pub makes_none : (tells : Type 0) (manifest : Listed) (f : Files) (a : ℕ → Id) → OnlyMakes tells manifest f f a a
makes_none tells manifest f a = record { others = λ t m away. refl; opened = opens_same (WritesListed manifest) a a (λ j. refl) }

pub makes_then : (tells : Type 0) (manifest : Listed) (f g h : Files) (a b c : ℕ → Id) → OnlyMakes tells manifest f g a b → OnlyWrites tells manifest g h b c → OnlyMakes tells manifest f h a c
makes_then tells manifest f g h a b c first later = record {
  others = λ t m away. later.others t m away ∙ first.others t m away;
  opened = opens_then (WritesListed manifest) a b c first.opened (opens_same (WritesListed manifest) b c later.kept);
}

-- no capture has changed while outputs are made
pub writing-port : (P : ℕ → Type 0) (x : Fault) → IsOfWriting x → (p at : ℕ) → x ≡ Changed p at → P p
writing-port P x (inl write) p at e = (let no : Write ≡ Changed p at = sym write ∙ e in absurd (cc))
writing-port P x (inr memory) p at e = (let no : Memory ≡ Changed p at = sym memory ∙ e in absurd (cc))

-- ---- what was counted
-- after a call that counted nothing
pub writes_from : {X : Type 0} (result : Result X ShelfFault) (a b c : Faults) → b ≡ a → CountsWrites result b c → CountsWrites result a c
writes_from result a b c same counts = subst (λ (f : Faults). CountsWrites result f c) same counts

-- ---- a failure to write as a fault
pub is_writing : (failure : ShelfFault) → IsOfWriting (fault_of failure)
is_writing shelf.Failed = inl refl
is_writing shelf.Memory = inr refl

-- it is counted as a fault is
pub fault_counts : {X Y : Type 0} (failure : ShelfFault) (a b : Faults) → CountsWrites {X = X} (Err failure) a b → CountsFaults {X = Y} (Err (fault_of failure)) a b
fault_counts shelf.Failed a b counts = counted_once (Err Write) a b counts.none_fell counts.once
fault_counts shelf.Memory a b counts = counted_once (Err Memory) a b counts.none_fell (inl counts.once)

-- it can come while captures are played
pub fault_plays : (failure : ShelfFault) → IsOfPlay (fault_of failure)
fault_plays shelf.Failed = tt
fault_plays shelf.Memory = tt

-- and it is no change of a capture
pub fault_no_change : (failure : ShelfFault) → IsChange (fault_of failure) → ⊥
fault_no_change shelf.Failed change = change
fault_no_change shelf.Memory change = change
