pub mod Files
pub mod Shelf
pub mod FaultCounts
pub mod OpenFiles
pub mod ScratchFiles
pub mod SystemFiles
pub mod ReadFaults
