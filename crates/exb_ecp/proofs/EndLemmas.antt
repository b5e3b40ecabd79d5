-- How the ends of the transport begin: none sends anything.
use Rattle.std.proofs.Common.{◌≡◌, ℕ, List, length, ap}
use Rattle.exb_ecp.specs.StopAndWait.{State as Ecp, new_state}
use Rattle.exb_ecp.specs.Ends.{near_of, AreNoted}
use Rattle.exb_model.proofs.DeviceSets.{none_in_0}
use Rattle.exb_model.proofs.NumberedTables.{alike}

pub none_sends : (ends : List Ecp) → length ends ≡ 65 → near_of ends ≡ alike new_state → AreNoted ends 0
none_sends ends sized all = record { sized = sized; noted = λ n. (λ e. ap (λ (f : ℕ → Ecp). (f n).sending) all, λ e. none_in_0 n) }
