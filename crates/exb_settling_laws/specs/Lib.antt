-- How settling ends.
pub mod StopAndWait
pub mod SessionPair
pub mod SessionMessages
pub mod AnswerStages
pub mod Streams
pub mod SettlingFacts
pub mod SettlingBound
pub mod RemainingFacts
pub mod SettlingLaws
pub mod FramePlaces
pub mod SessionInvariant
pub mod Rounds
