pub mod Faults
pub mod TextValues
pub mod Keys
pub mod Documents
