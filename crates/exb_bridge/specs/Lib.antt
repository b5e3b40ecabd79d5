pub mod Indices
pub mod TreeIndexes
pub mod BridgeWorlds
pub mod RemainingEffects
pub mod Sends
