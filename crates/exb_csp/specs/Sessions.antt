-- A session between the bridge and an extender: the end that asks, the end that answers, and both over all runs.
pub mod AskingEnd
pub mod AnsweringEnd
pub mod Runs
