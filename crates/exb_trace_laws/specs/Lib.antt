pub mod LinkEnds
pub mod TraceRelation
pub mod TraceConditions
pub mod TraceLaws
pub mod RunTraces
pub mod JournalHistories
pub mod TracePrefixes
