pub mod ItemCounts
pub mod CaptureKeys
pub mod CommandLimits
