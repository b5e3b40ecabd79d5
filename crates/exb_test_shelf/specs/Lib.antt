pub mod DisturbedFiles
pub mod MemoryFiles
