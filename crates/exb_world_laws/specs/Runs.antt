-- What holds of the runs of a valid setup: that they settle, what they write, and what leaves for one event.
pub mod Settling
pub mod SegmentRuns
pub mod Crossings
pub mod OneBridge
