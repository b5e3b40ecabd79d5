-- What was played and then brought to where it is to stay.
use Rattle.std.proofs.Common.{◌≡◌, ◌≢◌, ◌⊎◌, ◌∙◌, inl, inr, ℕ, Bool, List, Option, Some, None, Ok, Err, String, ap, sym, refl, arith, subst}
use mathlib.Core.Path.{fun_ext}
use Rattle.std.specs.declared.alloc.Global.{Global}
use Rattle.std.specs.Prelude.{OnErr, OnOk}
use Rattle.exb_cli.specs.declared.invocations.Options.{Options}
use Rattle.exb_cli.specs.CommandLines.{Ask, Run, Check, Make, Audit, Net}
use Rattle.exb_inputs.specs.Answers.{fault_status, status_of}
use Rattle.exb_inputs.specs.ShelfEffects.{CountsFaults}
use Rattle.exb_inputs.specs.declared.fault.Fault.{Fault}
use Rattle.exb_inputs.specs.declared.fault.Fault.TheVariants.{Write, Memory}
use Rattle.exb_inputs.proofs.Outcomes.{Outcome, files_same}
use Rattle.exb_inputs.proofs.ShelfEffects.{counts_from}
use Rattle.exb_net.specs.OpenOrder.{NetOpens, NetOpensInOrder}
use Rattle.exb_shelf.specs.Files.{Files, SameFiles}
use Rattle.exb_shelf.specs.Shelf.{Faults, Id}
use Rattle.exb_run.specs.Answers.{IsFailure, IsRun}
use Rattle.exb_run.specs.OpenedFiles.{OpensBy, OpensInOrder, RunOpens}
use Rattle.exb_run.specs.Outcomes.{CameOut, CanCome, IsFinished, IsOfMaking}

-- how that can fail
abbrev pub IsUnfinished : Fault → Type 0
IsUnfinished x = (x ≡ Write) ⊎ (x ≡ Memory)

ok_not : (line : String Global) (x : Fault) → ◌≡◌ {A = Outcome} (Ok line) (Err x) → ⊥
ok_not line x e = cc

write_fails : (a : Option Ask) → IsRun a → IsFailure a Write
write_fails None is = absurd is
write_fails (Some (Run name options)) is = inr (inl refl)
write_fails (Some (Check name)) is = absurd is
write_fails (Some (Make number)) is = absurd is
write_fails (Some (Audit name)) is = absurd is
write_fails (Some (Net name counters)) is = inr (inl refl)

memory_fails : (a : Option Ask) → IsRun a → IsFailure a Memory
memory_fails None is = absurd is
memory_fails (Some (Run name options)) is = inr (inr refl)
memory_fails (Some (Check name)) is = absurd is
memory_fails (Some (Make number)) is = absurd is
memory_fails (Some (Audit name)) is = absurd is
memory_fails (Some (Net name counters)) is = inr (inr refl)

write_comes : (a : Option Ask) → IsRun a → CanCome a Write
write_comes None is = absurd is
write_comes (Some (Run name options)) is = inr tt
write_comes (Some (Check name)) is = absurd is
write_comes (Some (Make number)) is = absurd is
write_comes (Some (Audit name)) is = absurd is
write_comes (Some (Net name counters)) is = tt

memory_comes : (a : Option Ask) → IsRun a → CanCome a Memory
memory_comes None is = absurd is
memory_comes (Some (Run name options)) is = inr tt
memory_comes (Some (Check name)) is = absurd is
memory_comes (Some (Make number)) is = absurd is
memory_comes (Some (Audit name)) is = absurd is
memory_comes (Some (Net name counters)) is = tt

-- ---- what comes of it
module _ (tells : Type 0) (a : Option Ask) (runs : IsRun a) (f g : Files) where
  failed : (line : String Global) (x : Fault) → IsFailure a x → CanCome a x → IsOfMaking x → CameOut tells a (Ok line) f g → CameOut tells a (Err x) f g
  failed line x fails comes making came = record {
    unaccepted = λ none. absurd (ok_not line _ (came.unaccepted none));
    done = λ t. tt;
    says = tt;
    cause = λ t. inr fails;
    stops = λ t fault stops. absurd (elim (came.stops t fault stops) [
      | inl e ↦ ok_not line _ e
      | inr other ↦ elim other [
        | inl e ↦ ok_not line _ e
        | inr e ↦ ok_not line _ e
      ]
    ]);
    can_come = comes;
    early = inl making;
    read_only = came.read_only;
    stopped = came.stopped;
    others = came.others;
    fronts = came.fronts;
    parts = came.parts;
  }

  by_outcome : (o r : Outcome) → IsFinished o r → CameOut tells a o f g → CameOut tells a r f g
  by_outcome (Err x) r is came = subst (λ (q : Outcome). CameOut tells a q f g) (sym is) came
  by_outcome (Ok line) r (inl is) came = subst (λ (q : Outcome). CameOut tells a q f g) (sym is) came
  by_outcome (Ok line) r (inr (inl is)) came = subst (λ (q : Outcome). CameOut tells a q f g) (sym is) (failed line Write (write_fails a runs) (write_comes a runs) (inl tt) came)
  by_outcome (Ok line) r (inr (inr is)) came = subst (λ (q : Outcome). CameOut tells a q f g) (sym is) (failed line Memory (memory_fails a runs) (memory_comes a runs) (inl tt) came)

pub came_finished : (tells : Type 0) (a : Option Ask) → IsRun a → (o r : Outcome) (f g h : Files) → SameFiles g h → IsFinished o r → CameOut tells a o f g → CameOut tells a r f h
came_finished tells a runs o r f g h same is came = subst (λ (k : Files). CameOut tells a r f k) (sym (files_same g h same)) (by_outcome tells a runs f g o r is came)

-- ---- what is opened
ids_same : (b c : ℕ → Id) → ((j : ℕ) → c j ≡ b j) → c ≡ b
ids_same b c same = fun_ext λ j. same j

module _ (tells : Type 0) (a : Option Ask) (f : Files) (x y : ℕ → Id) where
  opens_late : (status : ℕ) → (status ≡ 1) ⊎ (status ≡ 7) → OpensBy tells 0 a f x y → OpensBy tells status a f x y
  opens_late status which opens = record {
    nothing = opens.nothing;
    made = opens.made;
    topology = λ e. absurd (elim which [
      | inl one ↦ (let h : 3 ≡ 1 = sym e ∙ one in omega arith)
      | inr seven ↦ (let h : 3 ≡ 7 = sym e ∙ seven in omega arith)
    ]);
    checked = opens.checked;
    reads = λ n0 n1 n6 n7 n10. absurd (elim which [ inl one ↦ n1 one | inr seven ↦ n7 seven ]);
    wanted = λ t n0 n1 n6 n7 n10. absurd (elim which [ inl one ↦ n1 one | inr seven ↦ n7 seven ]);
    audited = opens.audited;
    only = opens.only;
  }

  opens_by_outcome : (o r : Outcome) → IsFinished o r → OpensBy tells (status_of o) a f x y → OpensBy tells (status_of r) a f x y
  opens_by_outcome (Err fault) r is opens = subst (λ (q : Outcome). OpensBy tells (status_of q) a f x y) (sym is) opens
  opens_by_outcome (Ok line) r (inl is) opens = subst (λ (q : Outcome). OpensBy tells (status_of q) a f x y) (sym is) opens
  opens_by_outcome (Ok line) r (inr (inl is)) opens = subst (λ (q : Outcome). OpensBy tells (status_of q) a f x y) (sym is) (opens_late 7 (inr refl) opens)
  opens_by_outcome (Ok line) r (inr (inr is)) opens = subst (λ (q : Outcome). OpensBy tells (status_of q) a f x y) (sym is) (opens_late 1 (inl refl) opens)

pub opens_finished : (tells : Type 0) (a : Option Ask) (o r : Outcome) (f : Files) (x y z : ℕ → Id) → ((j : ℕ) → z j ≡ y j) → IsFinished o r → OpensBy tells (status_of o) a f x y → OpensBy tells (status_of r) a f x z
opens_finished tells a o r f x y z same is opens = subst (λ (k : ℕ → Id). OpensBy tells (status_of r) a f x k) (sym (ids_same y z same)) (opens_by_outcome tells a f x y o r is opens)

-- ---- in order
run_failed : (tells : Type 0) (name : List ℕ) (options : Options) (line : String Global) (fault : Fault) (f : Files) (x y : ℕ → Id) → IsUnfinished fault → RunOpens tells name options (Ok line) f x y → RunOpens tells name options (Err fault) f x y
run_failed tells name options line fault f x y which r = record {
  topology = r.topology;
  holds = r.holds;
  opened = r.opened;
  made = record { count = r.made.count; made = r.made.made; all = λ late. r.made.all tt; unread = λ failed. inr (r.made.all tt) };
  behind = r.behind;
  changed = λ p at is. absurd (elim which [ inl e ↦ (let z : ⊥ = cc in z) | inr e ↦ (let z : ⊥ = cc in z) ]);
  own = λ p flaw is. absurd (elim which [ inl e ↦ (let z : ⊥ = cc in z) | inr e ↦ (let z : ⊥ = cc in z) ]);
  first = r.first;
}

net_failed : (tells : Type 0) (name : List ℕ) (counters : Bool) (line : String Global) (fault : Fault) (f : Files) (x y : ℕ → Id) → IsUnfinished fault → NetOpens tells name counters (Ok line) f x y → NetOpens tells name counters (Err fault) f x y
net_failed tells name counters line fault f x y which r = record {
  bridges = r.bridges;
  members = r.members;
  wires = r.wires;
  holds = r.holds;
  opened = r.opened;
  made = record { count = r.made.count; made = r.made.made; all = λ late. r.made.all tt; unread = λ failed. inr (r.made.all tt) };
  behind = r.behind;
  first = r.first;
  taken = λ e. elim which [
    | inl is ↦ (let h : 7 ≡ 3 = sym (ap fault_status is) ∙ e in omega arith)
    | inr is ↦ (let h : 1 ≡ 3 = sym (ap fault_status is) ∙ e in omega arith)
  ];
  own = λ bridge p flaw is. absurd (elim which [ inl e ↦ (let z : ⊥ = cc in z) | inr e ↦ (let z : ⊥ = cc in z) ]);
  changed = λ bridge p at is. absurd (elim which [ inl e ↦ (let z : ⊥ = cc in z) | inr e ↦ (let z : ⊥ = cc in z) ]);
}

module _ (tells : Type 0) (name : List ℕ) (options : Options) (f : Files) (x y : ℕ → Id) where
  run_not_early : (line : String Global) (fault : Fault) → IsUnfinished fault → OpensInOrder tells (Some (Run name options)) (Ok line) f x y → OpensInOrder tells (Some (Run name options)) (Err fault) f x y
  run_not_early line fault which (inl (early, opens)) = absurd early
  run_not_early line fault which (inr r) = inr (run_failed tells name options line fault f x y which r)

  run_by_outcome : (o r : Outcome) → IsFinished o r → OpensInOrder tells (Some (Run name options)) o f x y → OpensInOrder tells (Some (Run name options)) r f x y
  run_by_outcome (Err fault) r is order = subst (λ (q : Outcome). OpensInOrder tells (Some (Run name options)) q f x y) (sym is) order
  run_by_outcome (Ok line) r (inl is) order = subst (λ (q : Outcome). OpensInOrder tells (Some (Run name options)) q f x y) (sym is) order
  run_by_outcome (Ok line) r (inr (inl is)) order = subst (λ (q : Outcome). OpensInOrder tells (Some (Run name options)) q f x y) (sym is) (run_not_early line Write (inl refl) order)
  run_by_outcome (Ok line) r (inr (inr is)) order = subst (λ (q : Outcome). OpensInOrder tells (Some (Run name options)) q f x y) (sym is) (run_not_early line Memory (inr refl) order)

pub run_finished : (tells : Type 0) (name : List ℕ) (options : Options) (o r : Outcome) (f : Files) (x y z : ℕ → Id) → ((j : ℕ) → z j ≡ y j) → IsFinished o r → OpensInOrder tells (Some (Run name options)) o f x y → OpensInOrder tells (Some (Run name options)) r f x z
run_finished tells name options o r f x y z same is order = subst (λ (k : ℕ → Id). OpensInOrder tells (Some (Run name options)) r f x k) (sym (ids_same y z same)) (run_by_outcome tells name options f x y o r is order)

module _ (tells : Type 0) (name : List ℕ) (counters : Bool) (f : Files) (x y : ℕ → Id) where
  net_by_outcome : (o r : Outcome) → IsFinished o r → NetOpensInOrder tells name counters o f x y → NetOpensInOrder tells name counters r f x y
  net_by_outcome (Err fault) r is order = subst (λ (q : Outcome). NetOpensInOrder tells name counters q f x y) (sym is) order
  net_by_outcome (Ok line) r (inl is) order = subst (λ (q : Outcome). NetOpensInOrder tells name counters q f x y) (sym is) order
  net_by_outcome (Ok line) r (inr (inl is)) order = subst (λ (q : Outcome). NetOpensInOrder tells name counters q f x y) (sym is) (inr (net_failed tells name counters line Write f x y (inl refl) order))
  net_by_outcome (Ok line) r (inr (inr is)) order = subst (λ (q : Outcome). NetOpensInOrder tells name counters q f x y) (sym is) (inr (net_failed tells name counters line Memory f x y (inr refl) order))

pub net_finished : (tells : Type 0) (name : List ℕ) (counters : Bool) (o r : Outcome) (f : Files) (x y z : ℕ → Id) → ((j : ℕ) → z j ≡ y j) → IsFinished o r → NetOpensInOrder tells name counters o f x y → NetOpensInOrder tells name counters r f x z
net_finished tells name counters o r f x y z same is order = subst (λ (k : ℕ → Id). NetOpensInOrder tells name counters r f x k) (sym (ids_same y z same)) (net_by_outcome tells name counters f x y o r is order)

-- ---- what is counted
pub counts_finished : (o r : Outcome) (a b c : Faults) → IsFinished o r → CountsFaults o a b → OnOk o (CountsFaults r b c) → OnErr o (c ≡ b) → CountsFaults r a c
counts_finished (Ok line) r a b c is counted finish none = counts_from r a b c counted.once finish
counts_finished (Err x) r a b c is counted finish none = subst (λ (q : Outcome). CountsFaults q a c) (sym is) (subst (λ (k : Faults). CountsFaults {X = String Global} (Err x) a k) (sym none) counted)
