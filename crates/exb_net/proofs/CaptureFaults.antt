-- A capture that can't be read on, as a fault of its bridge.
use Rattle.std.proofs.Common.{◌≡◌, ◌⊎◌, ◌<◌, ◌≤◌, ℕ, zero, suc, List, [], ◌∷◌, Some, None, Err, length, refl, ap, sym, subst, ◌∙◌, arith, inl, inr}
use Rattle.std.specs.Prelude.{slice_get}
use Rattle.std.proofs.lemmas.Option.{slice_get_within}
use Rattle.exb_timeline.specs.FaultCounts.{CountsFault as CountsAgain}
use Rattle.exb_timeline.specs.declared.net_timeline.BridgeFault.{BridgeFault}
use Rattle.exb_timeline.specs.declared.capture_merge.CaptureFault.{CaptureFault}
use Rattle.exb_timeline.specs.declared.capture_merge.CaptureFault.TheVariants as again
use Rattle.exb_inputs.specs.declared.fault.Fault.{Fault}
use Rattle.exb_inputs.specs.declared.fault.Fault.TheVariants.{MemberChanged, Memory, Read}
use Rattle.exb_shelf.specs.Shelf.{Faults, NoFewer}
use Rattle.exb_inputs.specs.Answers.{fault_again}
use Rattle.exb_inputs.specs.FaultCounts.{CountsFault}
use Rattle.exb_inputs.specs.ShelfEffects.{CountsFaults}
use Rattle.exb_inputs.proofs.ChangedPorts.{again-counts}
use Rattle.exb_inputs.proofs.ShelfEffects.{counted_once}
use Rattle.exb_inputs.specs.NetRefusals.{member_fault}
use Rattle.exb_net.specs.Answers.{IsOfNetPlay}
use Rattle.exb_net.specs.ShelfEffects.{IsNetChange}

-- the fault of a bridge of this name, or want of memory for the name
abbrev pub IsNamed : List ℕ → CaptureFault → Fault → Type 0
IsNamed name c r = (r ≡ member_fault name (fault_again c)) ⊎ (r ≡ Memory)

pub failed-never : {Q : Type 0} (name : List ℕ) (c : CaptureFault) (r : Fault) → IsNamed name c r → ((p at : ℕ) → c ≡ again.Changed p at → Q) → IsNetChange r → Q
failed-never name again.Memory r (inl e) own change = absurd (let z : ⊥ = subst IsNetChange e change in z)
failed-never name again.Read r (inl e) own change = absurd (let z : ⊥ = subst IsNetChange e change in z)
failed-never name (again.Changed p at) r (inl e) own change = own p at refl
failed-never name c r (inr e) own change = absurd (let z : ⊥ = subst IsNetChange e change in z)

pub failed-changed : (P : List ℕ → ℕ → Type 0) (name : List ℕ) (c : CaptureFault) (r : Fault) → IsNamed name c r → ((p at : ℕ) → c ≡ again.Changed p at → P name p) → (n : List ℕ) (p at : ℕ) → r ≡ MemberChanged n p at → P n p
failed-changed P name again.Memory r (inl e) own n p at is = absurd (let z : Memory ≡ MemberChanged n p at = sym e ∙ is in cc)
failed-changed P name again.Read r (inl e) own n p at is = absurd (let z : Read ≡ MemberChanged n p at = sym e ∙ is in cc)
failed-changed P name (again.Changed q b) r (inl e) own n p at is =
    let same : MemberChanged name q b ≡ MemberChanged n p at = sym e ∙ is in
    let called : name ≡ n = cc in
    let port : q ≡ p = cc in
    subst (λ (m : List ℕ). P m p) called (subst (P name) port (own q b refl))
failed-changed P name c r (inr e) own n p at is = absurd (let z : Memory ≡ MemberChanged n p at = sym e ∙ is in cc)

pub failed-counts : {X : Type 0} (c : CaptureFault) (x r : Fault) (a b : Faults) → x ≡ fault_again c → NoFewer a b → CountsAgain c a b → ((old new : Faults) → CountsFault x old new → CountsFault r old new) → CountsFaults {X = X} (Err r) a b
failed-counts c x r a b is fewer counts on = counted_once (Err r) a b fewer (on a b (subst (λ (f : Fault). CountsFault f a b) (sym is) (again-counts {X = ℕ} c a b fewer counts).once))

-- where its bridge has no name here
pub unnamed-never : {Q : Type 0} (c : CaptureFault) (r : Fault) → r ≡ fault_again c → IsNetChange r → Q
unnamed-never again.Memory r e change = absurd (let z : ⊥ = subst IsNetChange e change in z)
unnamed-never again.Read r e change = absurd (let z : ⊥ = subst IsNetChange e change in z)
unnamed-never (again.Changed p at) r e change = absurd (let z : ⊥ = subst IsNetChange e change in z)

pub unnamed-play : (c : CaptureFault) (r : Fault) → r ≡ fault_again c → ((p at : ℕ) → c ≡ again.Changed p at → ⊥) → IsOfNetPlay r
unnamed-play again.Memory r e none = subst IsOfNetPlay (sym e) tt
unnamed-play again.Read r e none = subst IsOfNetPlay (sym e) tt
unnamed-play (again.Changed p at) r e none = absurd (none p at refl)

pub unnamed-changed : {Q : Type 0} (c : CaptureFault) (r : Fault) → r ≡ fault_again c → (n : List ℕ) (p at : ℕ) → r ≡ MemberChanged n p at → Q
unnamed-changed c r e n p at is = unnamed-never c r e (subst IsNetChange (sym is) tt)

-- as the fault of an agenda
pub of-bridge : (x : BridgeFault) (p at : ℕ) → x.fault ≡ again.Changed p at → x ≡ record { bridge = x.bridge; fault = again.Changed p at }
of-bridge x p at is = ap (λ (f : CaptureFault). (let y : BridgeFault = record { bridge = x.bridge; fault = f } in y)) is

-- a capture that changed is one of a bridge that is there
pub there : {A B : Type 0} (xs : List A) (ys : List B) (b : ℕ) (x : A) → length xs ≤ length ys → slice_get xs b ≡ Some x → slice_get ys b ≡ None → ⊥
there xs ys b x long is none = (let low = slice_get_within xs b x is in let y = get ys b (omega (arith, low, long)) in let z : Some y.0 ≡ None = sym y.1 ∙ none in cc)
  where
    get : {C : Type 0} (zs : List C) (k : ℕ) → k < length zs → (z : C) × (slice_get zs k ≡ Some z)
    get [] k low = absurd (omega (arith, low))
    get (z ∷ zs) zero low = (z, refl)
    get (z ∷ zs) (suc k) low = get zs k (omega (arith, low))
