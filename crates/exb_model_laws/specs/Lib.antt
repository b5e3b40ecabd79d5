pub mod Laws
pub mod FrameReach
pub mod EntryLifetime
pub mod TagPreservation
pub mod PlayedHistories
pub mod SummaryCounts
pub mod UniqueHistory
pub mod SetupValidity
