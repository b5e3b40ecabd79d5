pub mod LoopTest
pub mod Nets
pub mod Size
pub mod FilePrefixes
pub mod NetFiles
pub mod LoopSteps
pub mod EndNames
pub mod Reversal
