pub mod EndNames
pub mod Elements
pub mod NetFiles
pub mod Members
pub mod Wires
pub mod Soundness
pub mod SetupParts
