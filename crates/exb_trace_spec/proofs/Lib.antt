pub mod EqualBytes
pub mod Prefixes
mod RelayLines
pub mod WrongTraces
mod Examples
pub mod TextFields
pub mod JournalLines
pub mod TraceTexts
pub mod UniqueTexts
mod NumberedMachines
mod Rule1And4Checker
mod Rule2Checker
mod Rule3Times
mod Rule3Checker
mod Rule5Checker
mod JournalTexts
mod AllRules
mod WritableLines
