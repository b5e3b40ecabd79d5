-- What holds of each line, in the words of the machine and in those of a legal trace; and both directions of a link.
use Rattle.std.proofs.Common.{◌≡◌, ℕ, List, [], ◌∷◌, refl}
use Rattle.exb_model.specs.Tree.{Shape}
use Rattle.exb_extender.specs.declared.sends.Side.{Side}
use Rattle.exb_extender.specs.declared.sends.Side.TheVariants as side
use Rattle.exb_world_spec.specs.Runs.Sessions as machine
use Rattle.exb_world_spec.specs.TraceLines as telling
use Rattle.exb_world_spec.specs.Worlds.{Way, Up, Down}
use Rattle.exb_trace_spec.specs.Traversals.{Each}
use Rattle.exb_trace_spec.specs.Rule2Extenders.{side_number}
use Rattle.exb_trace_spec.specs.Rule3Links.{Place, BothWays}
use Rattle.exb_trace_laws.specs.LinkEnds.{start_of, end_of}

pub each_legal : {A : Type 0} (P : A → Type 0) (xs : List A) → machine.Each P xs → Each P xs
each_legal P [] k = tt
each_legal P (x ∷ xs) k = (k.0, each_legal P xs k.1)

pub each_machine : {A : Type 0} (P : A → Type 0) (xs : List A) → Each P xs → machine.Each P xs
each_machine P [] k = tt
each_machine P (x ∷ xs) k = (k.0, each_machine P xs k.1)

pub same_number : (s : Side) → side_number s ≡ telling.side_number s
same_number side.Up = refl
same_number (side.Port k) = refl

pub both_ways : (P : Place → Place → Type 0) (t : Shape) (n : ℕ) → ((way : Way) → P (start_of t n way) (end_of t n way)) → BothWays P t n
both_ways P t n k = record { up = k Up; down = k Down }

pub by_way : (P : Place → Place → Type 0) (t : Shape) (n : ℕ) → BothWays P t n → (way : Way) → P (start_of t n way) (end_of t n way)
by_way P t n k Up = k.up
by_way P t n k Down = k.down
