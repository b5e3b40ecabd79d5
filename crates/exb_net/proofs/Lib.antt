mod WiredPorts
mod FrameQueue
mod FrameEntry
pub mod ListPlaces
mod BridgeSets
mod QuietBridges
mod BridgeSteps
mod Deliveries
mod NetCalls
mod AssemblyLemmas
pub mod OutputUpdates
pub mod ManifestsApart
pub mod BridgeFiles
pub mod FileOrder
pub mod OutputsApart
pub mod OutputBounds
pub mod OtherTimelines
pub mod PassedSeconds
pub mod TimelineSteps
pub mod NetSteps
pub mod FateBounds
pub mod NetEnd
pub mod NextEvents
pub mod ShelfEffects
pub mod OpenedNets
pub mod CaptureFaults
pub mod EventSteps
pub mod TallySums
pub mod NetTurns
pub mod FileCreation
pub mod NetResults
pub mod UntouchedCaptures
pub mod PreparationLemmas
pub mod PreparedFiles
pub mod ReadyNets
pub mod CombinedEffects
pub mod NetOutcomes
pub mod ArmedFates
pub mod ReopenedCaptures
pub mod BridgeTimelines
pub mod StartSecond
pub mod NetStart
pub mod ReopenedBridges
