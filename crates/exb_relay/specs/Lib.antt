pub mod Choices
pub mod Sends
pub mod SendsBySource
pub mod Spaces
pub mod TreeEgress
pub mod Laws
