mod LinePredicates
mod LinkLines
mod ReachablePorts
mod EffectLines
mod ExtenderSides
mod ExtenderLines
mod ControlEvents
mod RequestLines
mod RelayLines
mod BridgeLines
pub mod ExternalPorts
mod Rule3Lines
mod InputLines
mod ReactionLines
mod StepLines
mod Rule1And3And4Steps
mod Rule2Lines
mod Rule2Steps
mod Rule5Lines
mod Rule5Relays
mod Rule5Steps
mod UpwardControlFrames
mod UpwardStamps
pub mod TraceLaws
pub mod RunTraces
pub mod Setups
pub mod TraceRelation
pub mod InputTraces
pub mod TracePrefixes
pub mod JournalHistories
pub mod HistoryMoments
