pub mod Disks
pub mod Faults
pub mod BridgeRuns
pub mod PlayerViews
pub mod RunInvariants
pub mod ShelfEffects
pub mod Outputs
pub mod PartialOutputs
