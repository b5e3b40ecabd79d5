-- What tells nothing, passes no frame and leaves what was learned.
use Rattle.std.proofs.Common.{◌≡◌, ℕ, ◌++◌, Bool, List, [], ◌∷◌, Option, refl, ◌∙◌}
use Rattle.exb_model.specs.Tree.{Shape}
use Rattle.exb_model.specs.declared.event.Event.{Event}
use Rattle.exb_model.specs.declared.arrival.Arrival.{Arrival}
use Rattle.exb_extender.specs.Machine.{Reaction, Input, react}
use Rattle.exb_link.specs.declared.link_frame.Stamp.{Stamp}
use Rattle.exb_relay.specs.declared.send.SendTo.{SendTo}
use Rattle.exb_control_spec.specs.declared.extender_message.Asked.{Asked}
use Rattle.exb_world_spec.specs.Worlds.{World, Line, Way, Up, Down}
use Rattle.exb_world_spec.specs.Effects.{Effect, joined, each, sending}
use Rattle.exb_world_spec.specs.ExtenderSteps.{does, reacts}
use Rattle.exb_world_spec.specs.ControlFrames.{to_extender, asks, beats_near}
use Rattle.exb_world_spec.specs.DataFrames.{sends_all}
use Rattle.exb_world_spec.specs.Steps.{if_there}
use Rattle.exb_link.specs.declared.link_frame.LinkFrame.{LinkFrame}
use Rattle.exb_world_spec.proofs.StepParts.{Parts, pushed, each_part, does_part, to_part, asks_part, near_part, there_part, all_part}

pub record IsSilent (w : World) (e : Effect) : Type 0 where
  pub events : e.events ≡ []
  pub table : e.world.table ≡ w.table
  pub passed : e.passed ≡ []

both_none : (xs ys : List Event) → xs ≡ [] → ys ≡ [] → xs ++ ys ≡ []
both_none xs ys e f = rw (e, f) refl

none_passed : (xs ys : List Bool) → xs ≡ [] → ys ≡ [] → xs ++ ys ≡ []
none_passed xs ys e f = rw (e, f) refl

pub silent_then : (w : World) (e f : Effect) → IsSilent w e → IsSilent e.world f → IsSilent w (joined e f)
silent_then w e f a b = record { events = both_none e.events f.events a.events b.events; table = b.table ∙ a.table; passed = none_passed e.passed f.passed a.passed b.passed }

sent_silent : (line : Line) (n : ℕ) (way : Way) (x : LinkFrame) (v : World) → IsSilent v (sending line (pushed n way x v))
sent_silent line n Up x v = record { events = refl; table = refl; passed = refl }
sent_silent line n Down x v = record { events = refl; table = refl; passed = refl }

parts : Parts IsSilent
parts =
    record {
      nothing = λ v. record { events = refl; table = refl; passed = refl };
      joins = silent_then;
      near = λ n e v. record { events = refl; table = refl; passed = refl };
      far = λ n s v. record { events = refl; table = refl; passed = refl };
      send = sent_silent;
      leave = λ line x v. record { events = refl; table = refl; passed = refl };
    }

pub silent_each : {A : Type 0} (f : A → World → Effect) → ((x : A) (v : World) → IsSilent v (f x v)) → (xs : List A) (w : World) → IsSilent w (each f xs w)
silent_each f all [] w = record { events = refl; table = refl; passed = refl }
silent_each f all (x ∷ xs) w = silent_then w (f x w) (each f xs (f x w).world) (all x w) (silent_each f all xs (f x w).world)

pub to_extender_silent : (t : Shape) (n : ℕ) (f : List ℕ) (w : World) → IsSilent w (to_extender t n f w)
to_extender_silent t = to_part IsSilent parts t

pub asks_silent : (t : Shape) (x : Asked) (w : World) → IsSilent w (asks t x w)
asks_silent t = asks_part IsSilent parts t

pub near_silent : (t : Shape) (n : ℕ) (w : World) → IsSilent w (beats_near t n w)
near_silent t = near_part IsSilent parts t

pub does_silent : (t : Shape) (n : ℕ) (stamp : Option Stamp) (r : Reaction) (w : World) → IsSilent w (does t n stamp r w)
does_silent t = does_part IsSilent parts t

pub reacts_silent : (t : Shape) (n : ℕ) (stamp : Option Stamp) (i : Input) (w : World) → IsSilent w (reacts t n stamp i w)
reacts_silent t n stamp i w = does_silent t n stamp (react i (w.far n)) w

pub there_silent : (t : Shape) (f : ℕ → World → Effect) → ((n : ℕ) (v : World) → IsSilent v (f n v)) → (n : ℕ) (w : World) → IsSilent w (if_there t f n w)
there_silent t = there_part IsSilent parts t

pub all_silent : (t : Shape) (a : Arrival) (xs : List SendTo) (o : Option ℕ) (w : World) → IsSilent w (sends_all t a xs o w)
all_silent t = all_part IsSilent parts t
