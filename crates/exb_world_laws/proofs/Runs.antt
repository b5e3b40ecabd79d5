-- That runs of a valid setup settle, what they write and how much, and what leaves for one event.
pub mod Settling
-- runs that play an input
mod ExternalPorts
mod SegmentInput
mod Copies
mod CommandNumbers
pub mod SegmentRuns
pub mod PartialRuns
-- how much was told and has left
pub mod EventCounts
pub mod Crossings
pub mod OneBridge
