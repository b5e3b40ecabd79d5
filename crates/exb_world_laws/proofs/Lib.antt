-- That every step and every list of steps leaves a world standing.
mod QuietLinks
pub mod UpwardFrames
pub mod NamedArrivals
pub mod LongerHistories
mod DecidedJobs
pub mod JobOrder
pub mod InvariantSteps
pub mod OneBridge
pub mod Permutations
pub mod SettledHistories
pub mod StepEvents
pub mod FrameBytes
pub mod Ticks
pub mod InputOrder
pub mod SegmentArrivals
pub mod Opening
pub mod CommandNumbers
pub mod SegmentHistories
mod EagerHistories
pub mod HistoryPrefixes
pub mod Setups
pub mod OneBridgeKept
pub mod OneBridgeSteps
pub mod PassedFrames
pub mod OneEvent
pub mod Runs
