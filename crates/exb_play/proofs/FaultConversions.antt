-- Why playing ended early, as a fault of the whole.
use Rattle.std.proofs.Common.{◌≡◌, inl, ℕ, Err, subst}
use Rattle.exb_inputs.proofs.ShelfEffects.{counted_once}
use Rattle.exb_inputs.specs.FaultCounts.{CountsFault}
use Rattle.exb_inputs.specs.FaultPhases.{IsChange}
use Rattle.exb_inputs.specs.ShelfEffects.{CountsFaults}
use Rattle.exb_inputs.specs.declared.fault.Fault.TheVariants.{Changed}
use Rattle.exb_timeline.specs.CaptureMerges.{HasPort, standings}
use Rattle.exb_timeline.specs.declared.bridge_timeline.Timeline.{Timeline}
use Rattle.exb_timeline.specs.declared.capture_merge.CaptureFault.TheVariants as again
use Rattle.exb_shelf.specs.declared.shelf.ShelfFault.TheVariants as shelf_fault
use Rattle.exb_outputs.specs.Manifests.{Listed}
use Rattle.exb_play.specs.Disks.{Disk}
use Rattle.exb_play.specs.Faults.{fault_of_play}
use Rattle.exb_play.specs.RunInvariants.{PlaysOn}
use Rattle.exb_play.specs.declared.fault.PlayFault.{PlayFault}
use Rattle.exb_play.specs.declared.fault.PlayFault.TheVariants.{Reading, Writing}

module _ {X : Type 0} (tells : Type 0) (manifest : Listed) (a : Disk) (p : Timeline) (b : Disk) where
  -- where the files are told no capture has changed
  pub play-never : (fault : PlayFault) → PlaysOn {X = X} tells manifest a p b (Err fault) → tells → IsChange (fault_of_play fault) → ⊥
  play-never (Reading again.Memory) plays t change = change
  play-never (Reading again.Read) plays t change = change
  play-never (Reading (again.Changed q at)) plays t change = plays.ends.0.1 t
  play-never (Writing shelf_fault.Failed) plays t change = change
  play-never (Writing shelf_fault.Memory) plays t change = change

  -- one that has is one of the programme's
  pub play-port : (P : ℕ → Type 0) → ((q : ℕ) → HasPort q (standings p.captures) → P q) → (fault : PlayFault) → PlaysOn {X = X} tells manifest a p b (Err fault) → (q at : ℕ) → fault_of_play fault ≡ Changed q at → P q
  play-port P own (Reading again.Memory) plays q at e = absurd (cc)
  play-port P own (Reading again.Read) plays q at e = absurd (cc)
  play-port P own (Reading (again.Changed k byte)) plays q at e = (let same : k ≡ q = cc in subst P same (own k plays.ends.0.0))
  play-port P own (Writing shelf_fault.Failed) plays q at e = absurd (cc)
  play-port P own (Writing shelf_fault.Memory) plays q at e = absurd (cc)

  once : (fault : PlayFault) → PlaysOn {X = X} tells manifest a p b (Err fault) → CountsFault (fault_of_play fault) a.faults b.faults
  once (Reading again.Memory) plays = inl plays.ends.1
  once (Reading again.Read) plays = plays.ends.1
  once (Reading (again.Changed q at)) plays = plays.ends.1
  once (Writing shelf_fault.Failed) plays = plays.ends
  once (Writing shelf_fault.Memory) plays = inl plays.ends

  -- what was counted
  pub play-counts : {Y : Type 0} (fault : PlayFault) → PlaysOn {X = X} tells manifest a p b (Err fault) → CountsFaults {X = Y} (Err (fault_of_play fault)) a.faults b.faults
  play-counts fault plays = counted_once (Err (fault_of_play fault)) a.faults b.faults plays.plays.faults (once fault plays)
