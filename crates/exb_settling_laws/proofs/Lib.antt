-- one session: the two ends and the words between them, and the rounds until an answer or until all is at rest
mod MessageLists
mod SequenceNumbers
mod NearSteps
mod FarSteps
mod SessionPairRounds
mod PassingRounds
mod IdleRounds
mod Progress
-- rounds: what verdicts cost, that rounds are steps that may be made, and the bound from what a round does
mod VerdictCosts
mod SettlingBound
mod LinkGrowth
pub mod RoundSteps
mod FactsBySession
mod AnswerStages
mod LastRound
-- what a round does to the control, to streams and to links
pub mod ControlTurns
pub mod ControlTurnsByActs
mod Streams
pub mod EmptiedLinks
mod PassingDirections
mod RoundPhases
mod SessionRounds
-- one word that is taken from below, and one that is taken from above
mod ControlFrameDecoding
mod BridgeStreams
mod NearControlFrames
mod Upward
mod UpwardSessions
mod FrameAtBridge
mod UpLaw
mod FarControlFrames
mod OwnFramesLaw
mod FrameAtExtender
mod Downward
mod DownwardSessions
mod OtherDownward
mod DownLaw
-- a beat: an extender's, that of all extenders, that of one of the bridge's ends and of all of them, and that of the control
mod FarBeat
mod FarLoop
mod NearLoop
mod NearBeats
mod ControlBeat
-- both ends of a session beat; and the law
pub mod BeatLaw
-- the world of a valid setup, as it begins
pub mod FirstFacts
-- what the sessions and the ways give of the facts
pub mod SessionFacts
-- what each step of one end keeps
pub mod StopAndWaitSteps
-- a beat keeps what is left of the ends
pub mod BeatRemainingFacts
-- and so does whoever takes a word, of the extenders' ends
pub mod FarRemainingFacts
-- what the machine of changes asks keeps what is left of the bridge's ends
pub mod OneRequest
-- and so does whoever takes a word
pub mod NearRemainingFacts
-- both ends, over each step of a round
pub mod SessionRemainingFacts
-- control frames stand on the way of their extenders
mod ExtendersAbove
mod ForwardedFramePlaces
mod BridgeFramePlaces
-- what comes may be heard, and what goes out can be sent
mod AllowedRequests
mod SendableRequests
mod OwnFrames
mod FramePlaceSteps
mod InvariantFacts
mod InvariantBeat
pub mod InvariantSteps
-- the laws
pub mod SettlingLaws
pub mod OrderlyWorlds
pub mod ReachableExtenders
pub mod OrderFacts
pub mod InputSteps
pub mod SerialNumbers
-- rounds are steps, whole
pub mod AgeingAndBeats
mod WholeDirections
pub mod WholeRounds
