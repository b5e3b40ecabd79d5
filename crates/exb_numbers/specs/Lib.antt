pub mod Channels
pub mod Groups
pub mod GroupOrder
pub mod Spaces
pub mod BorrowedSpaces
