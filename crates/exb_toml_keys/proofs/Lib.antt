pub mod TextSplits
pub mod FateLetters
pub mod PortLists
pub mod ItemLoops
pub mod Documents
pub mod KeyOrder
pub mod PassedSteps
