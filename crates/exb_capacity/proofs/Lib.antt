pub mod FullestPort
pub mod StartCommands
pub mod SetCounts
pub mod NeedLaws
