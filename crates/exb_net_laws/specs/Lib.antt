pub mod NetRuns
pub mod CountersGoOn
pub mod Deliveries
pub mod EventCounts
pub mod NetRunLaws
