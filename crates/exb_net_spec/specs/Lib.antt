pub mod Nets
pub mod NetHistory
pub mod InputOrder
pub mod QueueTermination
pub mod BridgeHistories
pub mod NetLaws
