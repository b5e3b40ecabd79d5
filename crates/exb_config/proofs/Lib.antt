pub mod PortMasks
pub mod StaticEntryLists
pub mod Rows
pub mod Changes
