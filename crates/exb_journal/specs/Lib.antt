pub mod FileNames
pub mod Tallies
pub mod TraceLineHeads
