-- What numbers stand for and what a change asks: rows, sets, what is held, and plans.
pub mod Rows
pub mod LaidRows
pub mod CarriedFrames
pub mod Sets
pub mod HeldNumbers
pub mod Differences
pub mod ChangeRequests
pub mod Plans
pub mod FreshSets
pub mod Laws
pub mod TouchedParts
pub mod TouchedPartLaws
