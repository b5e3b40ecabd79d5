-- The line of a Relay begins as one.
use Rattle.std.proofs.Common.{◌≡◌, ℕ, true, List, refl}
use Rattle.exb_model.specs.declared.event.Event.TheVariants as event
use Rattle.exb_model.specs.Texts.{line_of}
use Rattle.exb_trace_spec.specs.Rule5Relays.{is_relay}

pub relay_is_relay : (p n m : ℕ) (f : List ℕ) → is_relay (line_of (event.Relay p n m f)) ≡ true
unfolding is_relay line_of
relay_is_relay p n m f = refl
