-- What is true of every net.
pub mod EmptyQueues
pub mod InputOrder
mod NothingSentBack
pub mod Forest
mod QueueTermination
mod QueueBound
mod SingleBridge
mod PortRecords
mod SortedInput
mod InputByBridge
mod WireArrivals
mod HistoryGrowth
mod BridgeHistories
