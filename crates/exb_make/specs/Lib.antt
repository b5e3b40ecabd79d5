pub mod Draws
pub mod GeneratedTree
pub mod DrawOrder
pub mod GeneratedInputs
pub mod GeneratedParts
