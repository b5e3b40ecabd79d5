-- What calls that play a net leave of the shelf, one after another; and which faults can come while files are written.
use Rattle.std.proofs.Common.{◌≡◌, inl, inr, ℕ, List, [], ◌∷◌, Result, Ok, Err, refl, sym, subst, ◌∙◌}
use Rattle.std.specs.Prelude.{IfErr, IsErrOf}
use Rattle.std.specs.List.{AllByRecursion}
use Rattle.exb_shelf.specs.Files.{Files}
use Rattle.exb_shelf.specs.Shelf.{Id}
use Rattle.exb_inputs.specs.declared.fault.Fault.{Fault}
use Rattle.exb_inputs.specs.declared.fault.Fault.TheVariants.{MemberChanged, Memory, Write}
use Rattle.exb_inputs.specs.ShelfEffects.{OnlyReads}
use Rattle.exb_outputs.specs.Manifests.{Listed}
use Rattle.exb_outputs.specs.ShelfEffects.{IsOfWriting}
use Rattle.exb_outputs.proofs.UntouchedInputs.{reads-none, reads-then}
use Rattle.exb_net.specs.Answers.{IsOfNetPlay}
use Rattle.exb_net.specs.WrittenOutputs.{OnlyWritesAll}
use Rattle.exb_net.specs.ShelfEffects.{IsNetChange, OnlyGoesOnAll}

-- ---- what has changed
pub net-goes-none : (tells : Type 0) (ps : List Listed) (mine : List ℕ) (f : Files) (a : ℕ → Id) → OnlyGoesOnAll tells ps mine f f a a
net-goes-none tells ps mine f a = record { others = λ t m other. refl; reads = reads-none mine a a (λ j. refl) }

pub net-goes-reading : (tells : Type 0) (ps : List Listed) (mine : List ℕ) (f g h : Files) (a b c : ℕ → Id) → OnlyGoesOnAll tells ps mine f g a b → OnlyReads mine g h b c → OnlyGoesOnAll tells ps mine f h a c
net-goes-reading tells ps mine f g h a b c one two = record { others = λ t m other. two.files m ∙ one.others t m other; reads = reads-then mine a b c one.reads two.reads }

pub net-goes-writing : (tells : Type 0) (ps : List Listed) (mine : List ℕ) (f g h : Files) (a b c : ℕ → Id) → OnlyGoesOnAll tells ps mine f g a b → OnlyWritesAll tells ps g h b c → OnlyGoesOnAll tells ps mine f h a c
net-goes-writing tells ps mine f g h a b c one two =
    record { others = λ t m other. two.others t m other ∙ one.others t m other; reads = reads-then mine a b c one.reads (reads-none mine b c two.kept) }

pub net-goes-then : (tells : Type 0) (ps : List Listed) (mine : List ℕ) (f g h : Files) (a b c : ℕ → Id) → OnlyWritesAll tells ps f g a b → OnlyGoesOnAll tells ps mine g h b c → OnlyGoesOnAll tells ps mine f h a c
net-goes-then tells ps mine f g h a b c one two =
    record { others = λ t m other. two.others t m other ∙ one.others t m other; reads = reads-then mine a b c (reads-none mine a b one.kept) two.reads }

-- ---- faults while files are written
pub writing-play : (x : Fault) → IsOfWriting x → IsOfNetPlay x
writing-play x (inl e) = subst IsOfNetPlay (sym e) tt
writing-play x (inr e) = subst IsOfNetPlay (sym e) tt

pub writing-never : (x : Fault) → IsOfWriting x → IsNetChange x → ⊥
writing-never x (inl e) change = (let z : ⊥ = subst IsNetChange e change in z)
writing-never x (inr e) change = (let z : ⊥ = subst IsNetChange e change in z)

pub writing-changed : (P : List ℕ → ℕ → Type 0) (x : Fault) → IsOfWriting x → (name : List ℕ) (p at : ℕ) → x ≡ MemberChanged name p at → P name p
writing-changed P x (inl e) name p at is = (let no : Write ≡ MemberChanged name p at = sym e ∙ is in absurd (cc))
writing-changed P x (inr e) name p at is = (let no : Memory ≡ MemberChanged name p at = sym e ∙ is in absurd (cc))

pub err-own : {X : Type 0} (x y : Fault) → IsErrOf {T = X} (Err x) y → x ≡ y
err-own x y e = cc

-- ids that are those that they were
pub kept-all : (given ids : ℕ → Id) → ((j : ℕ) → ids j ≡ given j) → (ks : List ℕ) → AllByRecursion (λ k. ids k ≡ given k) ks
kept-all given ids kept [] = tt
kept-all given ids kept (k ∷ ks) = (kept k, kept-all given ids kept ks)

pub writing-changed-all : {X : Type 0} (P : List ℕ → ℕ → Type 0) (r : Result X Fault) → IfErr r IsOfWriting → (name : List ℕ) (p at : ℕ) → IsErrOf r (MemberChanged name p at) → P name p
writing-changed-all P (Ok x) causes name p at is = absurd (cc)
writing-changed-all P (Err x) causes name p at is = writing-changed P x causes name p at (err-own x (MemberChanged name p at) is)
