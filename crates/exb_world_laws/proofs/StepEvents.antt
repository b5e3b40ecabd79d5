-- The events of a step, by its kind.
use Rattle.std.proofs.Common.{◌≡◌, ◌<◌, List, [], ◌∷◌, length, filter, slice_get, Some, refl, arith}
use Rattle.std.proofs.lemmas.Bool.{lt-ltb, le-ltb}
use Rattle.exb_model.specs.Tree.{on}
use Rattle.exb_link.specs.declared.link_frame.LinkFrame.{LinkFrame}
use Rattle.exb_link.specs.LinkFrames.{is_data}
use Rattle.exb_world_spec.specs.Steps.{first_data, stepped}
use Rattle.exb_world_spec.specs.Worlds.{Up, Down, Arrive, Carry, Control, Lose, Beat, Tick, Order, Mark}
use Rattle.exb_world_spec.proofs.IgnoredArrivals.{extenders_ignore}
use Rattle.exb_world_spec.proofs.StepEvents.{steps_tell_by_kind}
use Rattle.exb_flight.specs.Tree.{IsLink}
use Rattle.exb_flight.proofs.SimulatedAscents.{link_there}
use Rattle.exb_flight.proofs.KeptPromises.{stood_promises}
use Rattle.exb_world_laws.specs.WorldInput.{basis_with}
use Rattle.exb_world_laws.specs.StepEvents.{StepsTellSo}
use Rattle.exb_world_laws.proofs.UpwardFrames.{taken_in}

-- a direction with data words has a first one
first_of : (ws : List LinkFrame) → 0 < length (filter is_data ws) → (x : LinkFrame) × (first_data ws ≡ Some x)
first_of ws some = by_list (filter is_data ws) some
  where
    by_list : (xs : List LinkFrame) → 0 < length xs → (x : LinkFrame) × (slice_get xs 0 ≡ Some x)
    by_list [] l = absurd (omega (arith, l))
    by_list (x ∷ xs) l = (x, refl)

pub steps_tell_so : StepsTellSo
unfolding stepped
steps_tell_so t l i start w g h left k (Arrive a) may =
    record {
      local = λ low. (steps_tell_by_kind t l w (Arrive a)).local (lt-ltb a.port 64 low);
      extended = λ deep. (extenders_ignore t l start.setting w a k.stood.sound deep may.may.can.external).events;
    }
steps_tell_so t l i start w g h left k (Carry n Up) may =
    record {
      bridge = λ low.
          let first = first_of (w.up n) may.may.can.1 in
          let link : IsLink t n = link_there t n may.may.can.0 in
          let taken = taken_in t l w n first.0 low first.1 k.stamped ((stood_promises t l (basis_with i g) start.setting w h left k.stood).clean.up n link) in
          record { word = first.0; first = first.1; stamp = taken.stamp; stamped = taken.stamped; is = taken.events };
      other = λ deep. (steps_tell_by_kind t l w (Carry n Up)).other (le-ltb (on t n) 64 deep);
    }
steps_tell_so t l i start w g h left k (Carry n Down) may = (steps_tell_by_kind t l w (Carry n Down)).other refl
steps_tell_so t l i start w g h left k (Control n way j keep) may =
    let tells = steps_tell_by_kind t l w (Control n way j keep) in record { bridge = tells.bridge; other = tells.other }
steps_tell_so t l i start w g h left k (Lose n way j) may = refl
steps_tell_so t l i start w g h left k Beat may = steps_tell_by_kind t l w Beat
steps_tell_so t l i start w g h left k (Tick seconds) may = refl
steps_tell_so t l i start w g h left k (Order c) may = steps_tell_by_kind t l w (Order c)
steps_tell_so t l i start w g h left k Mark may = refl
