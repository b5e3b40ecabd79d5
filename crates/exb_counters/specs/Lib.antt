pub mod Counters
pub mod CounterUpdates
pub mod Laws
