-- Worlds in motion: when a world stands, what each step keeps, and runs that play an input.
pub mod WorldInput
pub mod OneBridge
pub mod WorldInvariant
pub mod SettledHistories
pub mod OneBridgeSteps
pub mod StepEvents
pub mod FrameBytes
pub mod SegmentRuns
pub mod Runs
