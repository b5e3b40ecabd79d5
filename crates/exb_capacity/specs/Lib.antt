pub mod NeededNumbers
pub mod Lines
pub mod Laws
