-- What a call that makes files and plays leaves, by what each part of it leaves.
use Rattle.std.proofs.Common.{inr, ℕ, Bool, List, Result, Ok, Err}
use Rattle.std.specs.Prelude.{IfOk, OnErr}
use Rattle.exb_inputs.specs.declared.fault.Fault.{Fault}
use Rattle.exb_net_file.specs.declared.members.NetMember.{NetMember}
use Rattle.exb_outputs.specs.ShelfEffects.{IsOfWriting}
use Rattle.exb_outputs.proofs.CreationOrder.{writing_not_read}
use Rattle.exb_shelf.specs.Shelf.{Id, Opens}
use Rattle.exb_inputs.specs.OpenedNetFiles.{ReadsMemberCapture}
use Rattle.exb_net.specs.OpenOrder.{MakesNet, net_names}
use Rattle.exb_net.proofs.FileCreation.{not_late}
use Rattle.exb_net.proofs.FileOrder.{turn_then_read}

-- however it ended
pub either_way : {A R Q : Type 0} {P : A → Type 0} (o : Result A Fault) → ((x : A) → P x → R) → (Q → R) → IfOk o P → OnErr o Q → R
either_way (Ok x) f g p q = f x p
either_way (Err x) f g p q = g q

-- all files were made, and then captures were read
pub made_then_read : {X Y : Type 0} (counters : Bool) (ms : List NetMember) (first : X) (result : Result Y Fault) (a b c : ℕ → Id) → MakesNet counters ms (Ok first) a b → Opens (ReadsMemberCapture ms) b c → MakesNet counters ms result a c
made_then_read counters ms first result a b c made opens = record {
  count = made.count;
  made = turn_then_read (ReadsMemberCapture ms) (net_names counters ms) made.count a b c (λ i r. r.capture.reads.reads) made.made opens;
  all = λ late. made.all tt;
  unread = λ failed. inr (made.all tt);
}

-- not all were
pub made_as : {X Y : Type 0} (counters : Bool) (ms : List NetMember) (x : Fault) (a b : ℕ → Id) → IsOfWriting x → MakesNet {X = X} counters ms (Err x) a b → MakesNet {X = Y} counters ms (Err x) a b
made_as {X} {Y} counters ms x a b writing made = record { count = made.count; made = made.made; all = λ late. absurd (not_late Y x writing late); unread = λ failed. absurd (writing_not_read Y x writing failed) }
