pub mod Schemas
pub mod Elements
pub mod Commands
pub mod Tables
