-- The machine of changes beside the tables of all extenders, and what is true over every run of both.
pub mod LaidTables
pub mod Requests
pub mod MonotoneRequests
pub mod Systems
pub mod MachineInvariant
pub mod ExchangeCounts
pub mod StrayMessages
pub mod InitialSystem
pub mod Journal
pub mod WaitingAskers
pub mod PlannedChanges
pub mod InitialMachine
pub mod TablesMidChange
pub mod RequestTargets
pub mod OpeningOrder
