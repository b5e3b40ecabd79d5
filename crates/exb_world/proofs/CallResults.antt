-- How a call of a world ends: what was made of its parts is a step of the whole, and nothing has failed by it.
use Rattle.std.proofs.Common.{◌≡◌, Bool, sym, subst, Result, Ok}
use Rattle.std.specs.Prelude.{OnOk}
use Rattle.exb_world_spec.specs.Worlds.{Step}
use Rattle.exb_outbox.specs.declared.log.Log.{Log}
use Rattle.exb_bridge.specs.TreeIndexes.{Site}
use Rattle.exb_world.specs.declared.parts.WorldParts.{WorldParts}
use Rattle.exb_world.specs.LiveSteps.{Makes}
use Rattle.exb_world.specs.WorldContracts.{Network, IsStepped, network_of, tree_of, world_of}
use Rattle.exb_world_spec.specs.Runs.ReachedWorlds.{MayTake}

pub closes : {T E : Type 0} {v : T} (made : Result T E) (step : Step) (s : Site) (c d : WorldParts) (old new : Log) (n : Network) (failed after : Bool) → network_of s c old failed ≡ n →
    OnOk made (Makes step s c d old new) → (made ≡ Ok v) × (after ≡ failed) → IsStepped step n (network_of s d new after)
closes made step s c d old new n failed after view makes (ok, same) =
    subst (λ (m : Network). IsStepped step m (network_of s d new after)) view
    (subst (λ (f : Bool). IsStepped step (network_of s c old failed) (network_of s d new f)) (sym same)
    ((subst (λ (r : Result _ _). OnOk r (Makes step s c d old new)) ok makes).made failed))

-- and it might be made
pub might : {T E : Type 0} {v : T} (made : Result T E) (step : Step) (s : Site) (c d : WorldParts) (old new : Log) (n : Network) (failed after : Bool) → network_of s c old failed ≡ n →
    OnOk made (Makes step s c d old new) → (made ≡ Ok v) × (after ≡ failed) → MayTake (tree_of n) (world_of n) step
might made step s c d old new n failed after view makes (ok, same) =
    subst (λ (m : Network). MayTake (tree_of m) (world_of m) step) view
    (subst (λ (r : Result _ _). OnOk r (Makes step s c d old new)) ok makes).may
