-- Results of calls, and what holds of them.
use Rattle.std.proofs.Common.{◌≡◌, false, refl, sym, subst, inl, Some, Result, Ok, Err}
use Rattle.std.specs.Prelude.{Option, Some, None, Result, Ok, Err, is_err, IfOk, IfSome, IfNone, OnOk, String, IfErr}
use mathlib.Core.Path.{fun_ext}
use Rattle.std.specs.declared.alloc.Global.{Global}
use Rattle.exb_shelf.specs.Files.{Files, SameFiles}
use Rattle.exb_shelf.specs.Shelf.{Faults}
use Rattle.exb_inputs.specs.declared.fault.Fault.{Fault}
use Rattle.exb_inputs.specs.declared.fault.Fault.TheVariants.{Memory}
use Rattle.exb_inputs.specs.FaultCounts.{CountsFault}
use Rattle.exb_inputs.specs.ShelfEffects.{CountsFaults}
use Rattle.exb_inputs.proofs.ShelfEffects.{counted_once, counts_ok, fewer_same}

pub when_ok : {T E P : Type 0} (r : Result T E) → is_err r ≡ false → OnOk r P → P
when_ok (Ok v) e p = p
when_ok (Err d) e p = cc

-- what holds where it went well
pub on_ok_by : {T E Q : Type 0} (r : Result T E) → (((P : Type 0) → OnOk r P → P) → Q) → OnOk r Q
on_ok_by (Ok v) f = f (λ P p. p)
on_ok_by (Err e) f = tt

pub if_ok_both : {T E Q : Type 0} {P R : T → Type 0} (r : Result T E) → ((v : T) → P v → Q → R v) → IfOk r P → OnOk r Q → IfOk r R
if_ok_both (Ok v) f p q = f v p q
if_ok_both (Err e) f p q = tt

-- what holds of what is there
pub some_at : {X : Type 0} (P : X → Type 0) (o : Option X) (x : X) → o ≡ Some x → IfSome o P → P x
some_at P o x is p = subst (λ b. IfSome b P) is p

pub none_at : {X Q : Type 0} (o : Option X) → o ≡ None → IfNone o Q → Q
none_at None is q = q
none_at (Some x) is q = absurd (cc)

pub files_same : (f g : Files) → SameFiles f g → g ≡ f
files_same f g same = fun_ext λ n. same n

-- ---- a line, or a fault
abbrev pub Outcome : Type 0
Outcome = Result (String Global) Fault

pub if_ok_map : {P Q : String Global → Type 0} (o : Outcome) → ((line : String Global) → P line → Q line) → IfOk o P → IfOk o Q
if_ok_map (Ok line) f p = f line p
if_ok_map (Err x) f p = tt

pub if_err_map : {P Q : Fault → Type 0} (o : Outcome) → ((x : Fault) → P x → Q x) → IfErr o P → IfErr o Q
if_err_map (Ok line) f p = tt
if_err_map (Err x) f p = f x p

-- where nothing is asked of the shelf
pub made-counts : (o : Outcome) (a : Faults) → IfErr o (λ (x : Fault). x ≡ Memory) → CountsFaults o a a
made-counts (Ok line) a memory = counts_ok line a a refl
made-counts (Err x) a memory = counted_once (Err x) a a (fewer_same a a refl) (subst (λ (y : Fault). CountsFault y a a) (sym memory) (inl refl))

pub made-later : (o : Outcome) (a b : Faults) → b ≡ a → IfErr o (λ (x : Fault). x ≡ Memory) → CountsFaults o a b
made-later o a b same memory = subst (λ (f : Faults). CountsFaults o a f) (sym same) (made-counts o a memory)
