pub mod RowDecoding
pub mod ListLengths
pub mod RoundTrip
pub mod ExecutionLaws
pub mod UniqueEncoding
pub mod ExecutionLoops
pub mod AllTablesLemmas
pub mod Sessions
