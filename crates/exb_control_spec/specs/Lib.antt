pub mod Plans
pub mod Decisions
pub mod Machine
pub mod PlannedExchanges
pub mod InitialState
pub mod JobsOfTree
pub mod RequestLaws
pub mod Runs
